-- The fields of block 0 are stored one after the other behind the block's number, then zeros, then the check.
-- So the block is the definition's, byte for byte. Assumes nothing.
use Rattle.std.specs.Prelude.{◌≡◌, refl, ℕ, length, get_or}
use Rattle.std.proofs.Common.{ap, rules, ◌∙◌}
use Rattle.std.specs.Int.{w16}
use Rattle.book.specs.BlockLaws.{block_whole, head_made}
use Rattle.book.specs.Heads.{said}
use Rattle.book.specs.Layout.{edition_one}
use Rattle.book.specs.LibraryLaws.{stored_big}
use Rattle.book.specs.Parts.{stored}
use Rattle.book.proofs.storing.store_head.Goals as goal

pub returns : goal.returns
returns c = λ words.
    let x = said c.args.book.now words in
    let entries : length c.args.book.now.verdict.order ≡ 96 = search rules in
    let order = c.store-3.ensures ∙ ap (λ (n : ℕ). stored 6 n (λ t. get_or c.args.book.now.verdict.order t 0) c.store-2.new.out) entries in
    let body = head_made x entries refl _ _ _ _ _ c.store-2.ensures order c.store_group.ensures c.store_zeros.ensures in
    block_whole edition_one x 0 c.args.block.now _ _ _ c.told-block (c.store.ensures ∙ stored_big w16 0 0 _ _ c.to_be_bytes.ensures) body c.store_check.ensures
