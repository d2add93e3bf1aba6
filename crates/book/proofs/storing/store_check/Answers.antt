-- The check is computed from the bytes lent, before it is stored.
-- It is 65535 less the block's sum, as the definition has it. Assumes nothing.
use Rattle.std.specs.Prelude.{ℕ, ◌-◌}
use Rattle.std.proofs.Common.{ap, ◌∙◌}
use Rattle.std.specs.Int.{w16}
use Rattle.book.specs.Bytes.{byte, check_of}
use Rattle.book.specs.LibraryLaws.{stored_big}
use Rattle.book.specs.Parts.{stored}
use Rattle.book.proofs.storing.store_check.Goals as goal

pub returns : goal.returns
unfolding check_of
returns c =
    let block = c.args.block.now in
    c.store.ensures ∙ stored_big w16 510 _ block _ c.to_be_bytes.ensures
    ∙ ap (λ (s : ℕ). stored 510 2 (λ t. byte (1 - t) (65535 - s)) block) c.block_sum-check.ensures
