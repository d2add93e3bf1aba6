use Rattle.std.specs.Prelude.{ℕ, List, [], ◌∷◌, ◌++◌, ◌+◌, ◌≤◌, ◌≡◌, ◌-◌, true, eqb, length, take, drop, get_or}
use Rattle.std.proofs.Common.{refl, sym, ap, ◌∙◌, inr, arith, eq-eqb, ne_eqb}
use Rattle.std.proofs.Math.Seq.{take-length, drop-length}
use Rattle.std.proofs.lemmas.List.{length_push, same_from_push, take_more, length-take}
use Rattle.sets.specs.BoolLaws.{and_fails}
use Rattle.sets.specs.Sets.{has, set_of, without_row}
use Rattle.search.specs.Search.{rows_below, free}
use Rattle.search.specs.State.{distinct}
use Rattle.audit.specs.Audit.{is_order}
use Rattle.audit.proofs.OrderLaws.{left_all, distinct_fails, distinct_level, left_level}
use Rattle.audit.proofs.orders.is_order.Goals as goal

-- a turn takes the last of the entries left, which is that of this level
module _ (n : ℕ) (o rest higher : List ℕ) (k : ℕ) (took : rest ≡ higher ++ k ∷ []) (entries : rest ≡ take (length rest) o) where
  more : length rest ≡ length higher + 1
  more = ap length took ∙ length_push higher k

  less : length rest - 1 ≡ length higher
  less = omega (arith, more)

  within : length rest ≤ length o
  within = omega (arith, ap length entries, length-take (length rest) o)

  parts : (higher ≡ take (length higher) o) × (k ≡ get_or o (length higher) 0)
  parts = same_from_push _ _ _ _ (sym took ∙ entries ∙ rw more (take_more o (length higher) 0 (omega (arith, more, within))))

  row : get_or o (length rest - 1) 0 ≡ k
  row = rw less (sym parts.1)

  down : n ≤ 96 → distinct n (drop (length rest) o) ≡ true
      → distinct n (drop (length higher) o) ≡ has (set_of (free (rows_below n) (drop (length rest) o))) k
  down most e = rw (row, less) at (distinct_level n o (length rest) (omega (arith, more)) within most e)

  gone : without_row (set_of (free (rows_below n) (drop (length rest) o))) k ≡ set_of (free (rows_below n) (drop (length higher) o))
  gone = rw (row, less) at (left_level n o (length rest) (omega (arith, more)) within)

pub returns-then-order-n : goal.returns-then-order-n
unfolding is_order
returns-then-order-n c = rw (ne_eqb _ _ c.if-order-n.true) refl

pub loop-entry-init : goal.loop-entry-init
loop-entry-init c =
    let a = c.args in
    let full : length a.order.now ≡ a.n = c.if-order-n.false in
    let all : c.into_iter-entry-iterator.result.iter.rest.now ≡ a.order.now = cc in
    rw all
    (record {
      entries = sym (take-length a.order.now);
      lower = rw (drop-length a.order.now) refl;
      others = rw full (c.below-left.ensures ∙ left_all a.n a.order.now full);
    })

-- whether the row of this level is left tells whether the levels from it down are distinct
pub returns-then-not-has : goal.returns-then-not-has
unfolding is_order
returns-then-not-has c =
    let n = c.args.n in
    let o = c.args.order.now in
    let l = c.loop-entry.invariant in
    let told = rw l.others at c.has.ensures in
    let from = down n o _ _ _ c.in-Some.ensures.steps l.entries c.requires l.lower in
    sym (and_fails (eqb (length o) n) (distinct n o) (inr (distinct_fails n o _ (from ∙ sym told ∙ c.if-not-has.true))))

pub loop-entry-preserved : goal.loop-entry-preserved
loop-entry-preserved c =
    let n = c.args.n in
    let o = c.args.order.now in
    let l = c.loop-entry.invariant in
    let took = c.in-Some.ensures.steps in
    record {
      entries = (parts n o _ _ _ took l.entries).0;
      lower = down n o _ _ _ took l.entries c.requires l.lower ∙ sym (rw l.others at c.has.ensures) ∙ c.if-not-has.false;
      others = rw l.others at c.without-left.ensures ∙ gone n o _ _ _ took l.entries;
    }

pub returns : goal.returns
unfolding is_order
returns c = sym (rw (eq-eqb _ _ c.if-order-n.false) (rw c.in-None.ensures.steps.0 at c.loop-entry.invariant.lower))
