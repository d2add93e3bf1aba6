-- Each part is read where the definition reads it.
-- The group's words are read low byte first. Assumes nothing.
use Rattle.std.proofs.Common.{ℕ, ◌+◌, ◌≡◌, ap, ◌∙◌, get_or}
use Rattle.std.specs.Int.{w32, w64, from_le_bytes}
use Rattle.book.specs.Bytes.{little}
use Rattle.book.specs.LibraryLaws.{little_at}
use Rattle.book.proofs.fields.Known.verdict.Goals as goal

pub returns : goal.returns
returns c =
    let f : ℕ → ℕ = λ i. get_or c.args.self.now.bytes.now i 0 in
    let low : c.from_le_bytes.result ≡ little 8 (λ j. f (102 + j)) = c.from_le_bytes.ensures ∙ ap (from_le_bytes w64) c.taken-3.ensures ∙ little_at w64 102 f in
    let high : c.from-2.result ≡ little 4 (λ j. f (110 + j)) = c.from-2.ensures ∙ c.from_le_bytes-high.ensures ∙ ap (from_le_bytes w32) c.taken.ensures ∙ little_at w32 110 f in
    rw (c.from.ensures, c.taken-2.ensures, low, high)
