-- An order that passes, rounded up, at every level is safe at every subdivision of the tick; so is one in which used is less than D.
-- First the test in finer ticks, by the bound of Finer, then the theorems. Assumes nothing.
use Rattle.std.specs.Prelude.{ℕ, ◌+◌, ◌*◌, ◌-◌, ◌/◌, ◌≤◌, ◌<◌, ◌≡◌, ◌⊎◌, Bool, true, false, List, length, take, get_or}
use Rattle.std.proofs.Common.{arith, mul-le-mul_left, div-lt_iff_lt-mul, length-take, leb-true, le-leb, ltb-true, lt-ltb}
use Rattle.std.proofs.Math.Dec.{ltb}
use Rattle.std.proofs.Math.Logic.{⊎_elim}
use Rattle.std.proofs.Math.Nat.{mul_assoc, lt-div-mul-add}
use Rattle.std.proofs.Math.Path.{refl}
use Rattle.rows.specs.Board.{board}
use Rattle.sets.specs.Sums.{count}
use Rattle.sets.specs.BoolLaws.{either}
use Rattle.rows.specs.declared.table.Row.{Row}
use Rattle.test.specs.Test.{interference, used, passes}
use Rattle.test.proofs.TestLaws.{passes_iff, passes_few}
use Rattle.search.specs.Search.{rows_below}
use Rattle.search.specs.Demand.{Order, among, Passing}
use Rattle.schedule.specs.Schedule.{Safe, Proper, Enough}
use Rattle.schedule.proofs.LevelLaws.{among_count, order_row}
use Rattle.schedule.proofs.Safety.{order_safe}
use Rattle.schedule.proofs.Finer.{finer, passes_up, cap_finer, interference_finer, up_bound, proper_finer}

-- ---- the test

module _ (n : ℕ) (t : ℕ → Row) (m c : ℕ) (H : ℕ → Bool) (k : ℕ) (pos : 1 ≤ m) where
  pub finer_passes : (f : ℕ) → 1 ≤ f → (t k).c ≤ (t k).d → passes_up n t m c H k ≡ true → passes (board n (λ i. finer f (t i)) m c) H k ≡ true
  unfolding passes_up
  finer_passes f p v h =
      ⊎_elim (λ (e : ltb (count n H) m ≡ true). passes_few (board n (λ i. finer f (t i)) m c) H k (mul-le-mul_left f v) (ltb-true (count n H) m e))
      (λ (e : ltb (count n H) m ≡ false).
      let g = (t k).d - (t k).c in
      let up = up_bound n t m c H k pos v (leb-true ((t k).c + (interference (board n t m c) H (t k) + (m - 1)) / m) (t k).d (rw e at h)) in
      let l : f * interference (board n t m c) H (t k) ≤ f * g * m = rw mul_assoc (mul-le-mul_left f up) in
      (passes_iff (board n (λ i. finer f (t i)) m c) H k pos (mul-le-mul_left f v)).1
      (rw (cap_finer f (t k)) (omega (arith, interference_finer f p (t k) n t m c H))))
      (either (ltb (count n H) m))

  few_up : count n H < m → passes_up n t m c H k ≡ true
  unfolding passes_up
  few_up l = rw (lt-ltb (count n H) m l) refl

  -- rounded up is at most one more than rounded down
  spare_up : used (board n t m c) H k < (t k).d → passes_up n t m c H k ≡ true
  unfolding passes_up used
  spare_up l =
      let I = interference (board n t m c) H (t k) in
      let up : (I + (m - 1)) / m < I / m + 2 = (div-lt_iff_lt-mul pos).1 (omega (arith, lt-div-mul-add {a = I} {b = m} pos)) in
      ⊎_elim (λ (e : ltb (count n H) m ≡ true). rw e refl)
      (λ (e : ltb (count n H) m ≡ false). rw e (le-leb ((t k).c + (I + (m - 1)) / m) (t k).d (omega arith)))
      (either (ltb (count n H) m))

-- ---- safe at every subdivision

module _ (n m : ℕ) (t : ℕ → Row) (pos : 1 ≤ m) (v : (i : ℕ) → i < n → Proper (t i)) (c : ℕ) (enough : Enough n m c)
    (o : List ℕ) (O : Order (rows_below n) o) where
  -- an order that passes, rounded up, at every level is safe in ticks of which f make one, whatever f
  pub finer_safe : Passing (passes_up n t m c) o → (f : ℕ) → 1 ≤ f → Safe n m (λ i. finer f (t i)) o
  finer_safe P f p =
      order_safe n m (λ i. finer f (t i)) pos (λ i l. proper_finer f p (t i) (v i l)) c enough o O
      (λ j l. finer_passes n t m c (among (take j o)) (get_or o j 0) pos f p (v (get_or o j 0) (order_row n o O j l)).within (P j l))

  -- so is one in which used is less than D at every level, the m highest apart
  pub spare_safe : ((j : ℕ) → j < length o → (j < m) ⊎ (used (board n t m c) (among (take j o)) (get_or o j 0) < (t (get_or o j 0)).d))
      → (f : ℕ) → 1 ≤ f → Safe n m (λ i. finer f (t i)) o
  spare_safe h =
      finer_safe
      (λ j l.
      ⊎_elim
      (λ (q : j < m). few_up n t m c (among (take j o)) (get_or o j 0) pos (omega (arith, among_count n (take j o), length-take j o)))
      (λ q. spare_up n t m c (among (take j o)) (get_or o j 0) pos q)
      (h j l))
