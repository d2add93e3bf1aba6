-- The spare bytes of a row block are those behind its words.
-- So they are one run, and it is tested as such. Assumes nothing.
use Rattle.std.proofs.Common.{ℕ, ◌+◌, ◌-◌, ◌*◌, ◌≡◌, sym, ap, ◌∙◌, arith, add-one}
use Rattle.book.specs.Layout.{edition_one}
use Rattle.book.specs.Spare.{zero_block}
use Rattle.book.proofs.SpareLaws.{blank_part, rows_blank}
use Rattle.book.proofs.fields.Known.rows_blank.Goals as goal

pub returns : goal.returns
returns c =
    let s = c.args.self.now in
    let b = s.bytes.now in
    let k = c.args.k in
    let words = c.min-words.result in
    let at : ℕ = 512 * (k + 1) in
    let from : ℕ = at + 2 + 4 * words in
    let size : at + 510 - from ≡ 508 - 4 * words = omega arith in
    rw size at c.all_are.ensures ∙ blank_part b from (508 - 4 * words) (omega (arith, s.headed.size))
    ∙ sym (rows_blank s.n k words (omega arith) (omega arith) (λ j p q. omega arith) b) ∙ ap (zero_block edition_one s.n b) (sym (add-one k))
