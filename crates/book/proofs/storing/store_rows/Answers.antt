-- The words of row block k are those from word 126 k on, 126 at most.
-- The block is stored over what was in its place. Assumes nothing.
use Rattle.std.specs.Prelude.{ℕ, ◌+◌, ◌-◌, ◌*◌, min, ◌≡◌, List, length, take, drop}
use Rattle.std.proofs.Common.{arith, sym, ap, ◌∙◌, length-drop}
use Rattle.std.proofs.lemmas.List.{take_min}
use Rattle.book.specs.Layout.{edition_one, sealed}
use Rattle.book.specs.PartsLaws.{stored_between}
use Rattle.book.proofs.storing.store_rows.Goals as goal

pub returns : goal.returns
returns c = λ x e.
    let k = c.args.k in
    let rest = drop (126 * k) c.args.words.now in
    let size : c.min-end.result - 126 * k ≡ min 126 (length rest) = omega (arith, length-drop (126 * k) c.args.words.now) in
    let part = ap (λ (n : ℕ). take n rest) size ∙ take_min 126 rest ∙ ap (λ (w : List ℕ). take 126 (drop (126 * k) w)) (sym e) in
    stored_between (512 * (k + 1)) 512 (sealed edition_one x (k + 1)) c.args.out.now _ _ _ c.requires.2
    c.split_at_mut-rest.ensures.front c.split_at_mut-rest.ensures.back (c.store_row_block.ensures x part)
