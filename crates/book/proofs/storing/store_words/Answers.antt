use Rattle.std.specs.Prelude.{ℕ, ◌+◌, ◌-◌, ◌*◌, ◌/◌, ◌%◌, ◌<◌, ◌≡◌, refl, length, get_or}
use Rattle.std.proofs.Common.{arith, ap, ◌∙◌}
use Rattle.std.specs.Int.{w32}
use Rattle.book.specs.Bytes.{byte}
use Rattle.book.specs.LibraryLaws.{stored_big}
use Rattle.book.specs.PartsLaws.{stored_more}
use Rattle.book.specs.Parts.{stored}
use Rattle.book.proofs.storing.store_words.Goals as goal
use Rattle.book.proofs.storing.store_words.Invariants.{word_byte}

pub loop-j-init : goal.loop-j-init
unfolding stored
loop-j-init c = refl

pub loop-j-preserved : goal.loop-j-preserved
loop-j-preserved c =
    let words = c.args.words.now in
    let j = c.loop-j.j in
    let word : ℕ → ℕ = λ t. byte (3 - t) (get_or words j 0) in
    let same : (t : ℕ) → t < 4 → word t ≡ word_byte words (4 * j + t) =
    λ t h.
    let r : (4 * j + t) % 4 ≡ t = omega arith in
    let d : (4 * j + t) / 4 ≡ j = omega arith in
    rw (r, d) refl
    in
    let next : 4 * j + 4 ≡ 4 * (j + 1) = omega arith in
    c.store.ensures ∙ stored_big w32 (2 + 4 * j) (get_or words j 0) c.loop-j.block _ c.to_be_bytes.ensures
    ∙ ap (stored (2 + 4 * j) 4 word) c.loop-j.invariant ∙ stored_more 2 (4 * j) 4 (word_byte words) word c.args.block.now same
    ∙ ap (λ (n : ℕ). stored 2 n (word_byte words) c.args.block.now) next

pub returns : goal.returns
returns c =
    let end : 4 * c.loop-j.j ≡ 4 * length c.args.words.now = omega arith in
    c.loop-j.invariant ∙ ap (λ (n : ℕ). stored 2 n (word_byte c.args.words.now) c.args.block.now) end
