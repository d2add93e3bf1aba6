-- The words of the block are stored one after the other behind the block's number, then zeros, then the check.
-- So the block is the definition's, byte for byte. Assumes nothing.
use Rattle.std.specs.Prelude.{ℕ, ◌+◌, ◌-◌, ◌*◌, ◌/◌, ◌%◌, ◌≡◌, List, length, get_or, drop}
use Rattle.std.proofs.Common.{ap, ◌∙◌, arith, add-one, length-take, length-drop}
use Rattle.std.specs.Int.{w16}
use Rattle.book.specs.BlockLaws.{block_whole, rows_made}
use Rattle.book.specs.Bytes.{byte}
use Rattle.book.specs.ByteLaws.{part_at}
use Rattle.book.specs.Layout.{edition_one}
use Rattle.book.specs.LibraryLaws.{stored_big}
use Rattle.book.specs.Parts.{stored}
use Rattle.book.specs.PartsLaws.{stored_ext}
use Rattle.book.proofs.storing.store_row_block.Goals as goal

pub returns : goal.returns
returns c = λ x e.
    let k = c.args.k in
    let count = length c.args.words.now in
    let before = c.store.new.out in
    let long = ap (length {A = ℕ}) e ∙ length-take 126 (drop (126 * k) x.table) in
    let rest = length-drop (126 * k) x.table in
    let words : c.store_words.new.block ≡ stored 2 (4 * count) (λ q. byte (3 - q % 4) (get_or x.table (126 * k + q / 4) 0)) before =
    c.store_words.ensures
    ∙ stored_ext 2 (4 * count) _ _ before
    (λ q l. ap (byte (3 - q % 4)) (ap (λ (w : List ℕ). get_or w (q / 4) 0) e ∙ part_at x.table (126 * k) 126 (q / 4) (omega arith)))
    in
    let body = rows_made x k 2 count (omega arith) (λ j p q. omega (arith, long, rest)) before _ _ words c.store_zeros.ensures in
    block_whole edition_one x (k + 1) c.args.block.now before _ _ c.told-block (c.store.ensures ∙ stored_big w16 0 (k + 1) _ _ c.to_be_bytes.ensures)
    (rw (← add-one k) at body) c.store_check.ensures
