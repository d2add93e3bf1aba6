-- A block has 42 rows, so the three words of a row stand side by side.
-- Each is the word of the table that the definition reads there. Assumes nothing.
use Rattle.std.proofs.Common.{ℕ, ◌+◌, ◌*◌, ◌/◌, ◌%◌, ◌≡◌, ◌∙◌, arith, rules, of_calls, get_or}
use Rattle.std.specs.Int.{w32, from_be_bytes}
use Rattle.book.specs.Bytes.{run}
use Rattle.book.specs.ByteLaws.{run_three}
use Rattle.book.specs.Layout.{edition_one}
use Rattle.book.specs.LibraryLaws.{big_at}
use Rattle.book.specs.Read.{word_at}
use Rattle.book.proofs.ReadLaws.{word_row}
use Rattle.book.proofs.fields.Known.row_words.Goals as goal

pub returns : goal.returns
returns c =
    let b = c.args.self.now.bytes.now in
    let i = c.args.i in
    let f : ℕ → ℕ = λ j. get_or b j 0 in
    let at : ℕ = 512 * (1 + i / 42) + 2 + 12 * (i % 42) in
    let x : c.word.result ≡ from_be_bytes w32 (run at 4 f) = search (rules, of_calls) in
    let y : c.word-2.result ≡ from_be_bytes w32 (run (at + 4) 4 f) = search (rules, of_calls) in
    let z : c.word-3.result ≡ from_be_bytes w32 (run (at + 8) 4 f) = search (rules, of_calls) in
    run_three (word_at edition_one b) (3 * i) _ _ _
    (x ∙ big_at w32 at f ∙ word_row b i 0 at (omega arith) (omega arith))
    (y ∙ big_at w32 (at + 4) f ∙ word_row b i 1 (at + 4) (omega arith) (omega arith))
    (z ∙ big_at w32 (at + 8) f ∙ word_row b i 2 (at + 8) (omega arith) (omega arith))
