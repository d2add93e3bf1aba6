use Rattle.std.specs.Prelude.{ℕ, ◌+◌, ◌-◌, ◌≤◌, ◌<◌, ◌≡◌, refl, not, ◌&&◌, List, ltb, length, get_or, take}
use Rattle.std.proofs.Common.{sym, ◌∙◌, arith, length-take-le, get_or-take}
use Rattle.sets.specs.Sets.{has, with_row, set_of}
use Rattle.sets.specs.declared.Set.{Set}
use Rattle.book.specs.ByteLaws.{all_fails, all_more, all_part}
use Rattle.book.specs.Form.{among, entry_fits, order_fits}
use Rattle.book.specs.FormLaws.{seen_none, seen_more, entry_seen, free_rest, order_rest}
use Rattle.book.proofs.verdicts.order_fits.Goals as goal
use Rattle.book.proofs.verdicts.order_fits.Goals.{After-row_fits}

-- the entry at hand is one of the first p, it fits by the definition as it fits by the rows seen, and it joins them
record Turn (order : List ℕ) (p i row : ℕ) (seen : Set) : Type 0 where
  early : i < p
  fits : ltb row p && not (has seen row) ≡ entry_fits p order i
  more : with_row seen row ≡ set_of (among order (i + 1))

turn : (order : List ℕ) (p i row : ℕ) (seen : Set) → p ≤ 96 → length order ≡ 96 → i < length (take p order)
    → row ≡ get_or (take p order) i 0 → seen ≡ set_of (among order i) → Turn order p i row seen
turn order p i row seen h s l r e =
    let early : i < p = omega (arith, length-take-le p order (omega arith)) in
    let entry : row ≡ get_or order i 0 = r ∙ get_or-take p order i 0 early in
    record { early = early; fits = rw (entry, e) (entry_seen order p i (omega arith) early); more = rw (entry, e) (seen_more order i) }

at_turn : (c : After-row_fits) → Turn c.args.order.now c.args.p c.loop-row.row-index c.from-row.result c.loop-row.seen
at_turn c = turn _ _ _ _ _ c.requires c.told-order c.loop-row-test.true c.from-row.ensures c.loop-row.invariant.seen

pub loop-row-init : goal.loop-row-init
loop-row-init c = record { fit = refl; seen = seen_none c.args.order.now }

pub returns-then-not-row_fits : goal.returns-then-not-row_fits
unfolding order_fits
returns-then-not-row_fits c =
    let t = at_turn (goal.at.returns-then-not-row_fits c).After-row_fits in
    sym (all_fails 96 (entry_fits _ _) c.loop-row.row-index (omega (arith, t.early)) (sym (c.if-not-row_fits.ensures ∙ t.fits)))

pub loop-row-preserved : goal.loop-row-preserved
loop-row-preserved c =
    let t = at_turn (goal.at.loop-row-preserved c).After-row_fits in
    let l = c.loop-row in
    record { fit = all_more l.row-index (entry_fits _ _) l.invariant.fit (sym (c.if-not-row_fits.ensures ∙ t.fits)); seen = c.with-seen.ensures ∙ t.more }

pub returns : goal.returns
returns c =
    let order = c.args.order.now in
    let p = c.args.p in
    let end : c.loop-row.row-index ≡ p = omega (arith, length-take-le p order (omega arith)) in
    c.all_are.ensures ∙ all_part 255 p (96 - p) order (omega arith) ∙ free_rest p order c.requires ∙ order_rest p order (rw end at c.loop-row.invariant.fit)
