-- Laws of the levels of an order: the row at a level, the level of a row, and the rows of the higher levels.
-- Assumes nothing.
use Rattle.std.specs.Prelude.{ℕ, zero, suc, ◌+◌, ◌≤◌, ◌<◌, ◌≡◌, refl, Bool, true, false, ◌||◌, List, [], ◌∷◌, eqb, length, take, get_or}
use Rattle.std.proofs.Common.{zero-le, sym, ap, ◌∙◌, ⊎_elim, arith, le_of_eq, ltb-true, lt-ltb, eqb-true, eq-eqb}
use Rattle.std.proofs.Math.Seq.{take-length}
use Rattle.sets.specs.NumberLaws.{le_or_lt}
use Rattle.sets.specs.Sums.{on, sum, count}
use Rattle.sets.specs.BoolLaws.{either, not_both}
use Rattle.sets.specs.SumLaws.{on_true, sum_mono, sum_add, sum_zero, first_is}
use Rattle.sets.specs.Sets.{◌⊆◌}
use Rattle.search.specs.Search.{rows_below, elem}
use Rattle.search.specs.Demand.{Order, among}
use Rattle.search.specs.OrderLaws.{elem_times, times_pos}
use Rattle.schedule.specs.Schedule.{above, level}
use Rattle.schedule.proofs.MoreSums.{count_single}

-- a row of a list has a place, and an entry before place b is among the first b
elem_place : (i : ℕ) (o : List ℕ) → elem i o ≡ true → (j : ℕ) × (j < length o) × (get_or o j 0 ≡ i)
elem_place i [] h = not_both h refl
elem_place i (x ∷ o) h =
    ⊎_elim (λ (e : eqb i x ≡ true). (0, omega arith, sym (eqb-true i x e)))
    (λ (e : eqb i x ≡ false). let (j, l, q) = elem_place i o (rw e at h) in (suc j, omega arith, q))
    (either (eqb i x))

elem_take : (o : List ℕ) (j b : ℕ) → j < b → j < length o → elem (get_or o j 0) (take b o) ≡ true
elem_take [] j b l k = absurd (omega arith)
elem_take (x ∷ o) j zero l k = absurd (omega arith)
elem_take (x ∷ o) zero (suc b) l k = rw (eq-eqb x x refl) refl
elem_take (x ∷ o) (suc j) (suc b) l k = rw (elem_take o j b (omega arith) (omega arith)) (or_true (eqb (get_or o j 0) x))
  where
    or_true : (a : Bool) → a || true ≡ true
    or_true true = refl
    or_true false = refl

-- a list has no more rows than entries
pub among_count : (n : ℕ) (p : List ℕ) → count n (among p) ≤ length p
among_count n [] = le_of_eq (sum_zero n)
among_count n (x ∷ p) =
    let apart : count n (among (x ∷ p)) ≤ sum n (λ i. on (eqb i x) 1 + on (elem i p) 1) =
    sum_mono n _ _ (λ i _. each (eqb i x) (elem i p))
    in
    let one : count n (λ i. eqb i x) ≤ 1 = count_single n (λ i. eqb i x) (λ i j _ _ e f. eqb-true i x e ∙ sym (eqb-true j x f)) in
    omega (arith, sum_add n (λ i. on (eqb i x) 1) (λ i. on (elem i p) 1), among_count n p)
  where
    each : (a b : Bool) → on (a || b) 1 ≤ on a 1 + on b 1
    each true b = omega arith
    each false b = omega arith

-- the row at the level of row i is i, and a row of the order has a level
pub level_row : (o : List ℕ) (i : ℕ) → level o i < length o → get_or o (level o i) 0 ≡ i
level_row o i l = eqb-true _ _ ((first_is (λ j. eqb (get_or o j 0) i) (length o) 0).found (omega arith))

level_below : (o : List ℕ) (i : ℕ) → elem i o ≡ true → level o i < length o
level_below o i h =
    ⊎_elim
    (λ (l : length o ≤ level o i).
    let (j, p, q) = elem_place i o h in
    not_both (eq-eqb _ _ q) ((first_is (λ j. eqb (get_or o j 0) i) (length o) 0).before j zero-le (omega arith)))
    (λ (l : level o i < length o). l)
    (le_or_lt (length o) (level o i))

-- the rows above row i by level are those before it
pub level_above : (o : List ℕ) (i : ℕ) → level o i < length o → above (level o) i ⊆ among (take (level o i) o)
level_above o i l h a =
    let r : level o h < level o i = ltb-true (level o h) (level o i) a in
    rw (level_row o h (omega arith)) at (elem_take o (level o h) (level o i) r (omega arith))

-- in an order of n rows each level has a row, each row has a level, and no two rows have the same
module _ (n : ℕ) (o : List ℕ) (O : Order (rows_below n) o) where
  pub order_row : (j : ℕ) → j < length o → get_or o j 0 < n
  order_row j l =
      let i = get_or o j 0 in
      let there : elem i o ≡ true = rw take-length at (elem_take o j (length o) l l) in
      ltb-true i n (on_true (rows_below n i) (omega (arith, elem_times i o there, O i)))

  pub order_level : (i : ℕ) → i < n → level o i < length o
  order_level i l =
      let one : on (rows_below n i) 1 ≡ 1 = rw (lt-ltb i n l) refl in
      level_below o i (times_pos i o (omega (arith, O i)))

  pub level_apart : (i j : ℕ) → i < n → j < n → level o i ≡ level o j → i ≡ j
  level_apart i j k l e =
      sym (level_row o i (order_level i k)) ∙ ap (λ (x : ℕ). get_or o x 0) e ∙ level_row o j (order_level j l)
