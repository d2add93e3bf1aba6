-- A job of a task that passes meets its deadline, where the jobs before it met theirs and the tasks above meet theirs.
-- The window has the length D of task k and starts as in `CarryIn`, so it ends by the deadline of k's job. First what the tasks above k execute in the ticks that m of them fill, which is at most the interference; then how many such ticks a job that is not finished needs; then one job of the task (Deadlines has them all).
-- Assumes nothing.
use Rattle.std.specs.Prelude.{ℕ, zero, suc, ◌+◌, ◌*◌, ◌-◌, ◌≤◌, ◌<◌, max, ◌≡◌, Bool, ◌&&◌}
use Rattle.std.proofs.Common.{zero-le, arith, le_refl, add-le-add, le_of_eq, add-suc, leb-true, le-leb}
use Rattle.std.proofs.Math.Bool.{true, false}
use Rattle.std.proofs.Math.Logic.{⊎_elim}
use Rattle.std.proofs.Math.Nat.{le_trans}
use Rattle.std.proofs.Math.Path.{refl}
use Rattle.rows.specs.Board.{board}
use Rattle.sets.specs.NumberLaws.{le_or_lt}
use Rattle.sets.specs.Sums.{on, sum, count}
use Rattle.sets.specs.BoolLaws.{either, not_both}
use Rattle.sets.specs.SumLaws.{on_le, on_mono, sum_mono, sum_add, sum_zero, sum_scale, count_le}
use Rattle.rows.specs.declared.table.Row.{Row}
use Rattle.workload.specs.Workload.{cap, plain, carry, extra}
use Rattle.workload.proofs.WorkloadLaws.{work_mono}
use Rattle.test.specs.Test.{plain_from, extra_from, interference, passes}
use Rattle.test.proofs.TestLaws.{passes_iff}
use Rattle.schedule.specs.Schedule.{Proper, Enough}
use Rattle.schedule.proofs.Lives.{Life, served, due, Meets}
use Rattle.schedule.proofs.MoreSums.{sum_split, sum_swap, top_choice, count_reach}
use Rattle.schedule.proofs.WorkBounds.{served_mono, plain_bound, carry_bound}
use Rattle.schedule.proofs.CarryIn.{Driven, acts, busy, start, Start, start_is, CarryIn, carry_in_few}

module _ (n m : ℕ) (t : ℕ → Row) (over : ℕ → ℕ → Bool) (s : ℕ → Life) (pos : 0 < m) (v : (i : ℕ) → i < n → Proper (t i)) (g : Driven n m t over s)
    (k : ℕ) (kn : k < n) (higher : (i : ℕ) → i < n → over k i ≡ true → Meets (t i) (s i)) where
  -- ---- the busy ticks of a window from x

  abbrev busy_from : ℕ → ℕ → Bool
  busy_from x u = busy n m over s k (x + u)

  -- task i, above k, executes in tick x + u, and the tick is busy
  abbrev shared : ℕ → ℕ → ℕ → ℕ
  shared x u i = on (busy_from x u) (on (acts over s k (x + u) i) 1)

  -- there are no such ticks where i is not above k; they are at most the busy ticks, and at most what i executes
  shared_above : (x d i : ℕ) → over k i ≡ false → sum d (λ u. shared x u i) ≤ 0
  shared_above x d i a =
      le_trans (sum_mono d (λ u. shared x u i) (λ u. 0) (λ u l. rw a (on_le (busy_from x u) 0))) (le_of_eq (sum_zero d))

  shared_busy : (x d i : ℕ) → sum d (λ u. shared x u i) ≤ count d (busy_from x)
  shared_busy x d i =
      sum_mono d _ _ (λ u l. on_mono (busy_from x u) (busy_from x u) (λ e. e) (on_le (acts over s k (x + u) i) 1))

  shared_served : (x d i : ℕ) → served (s i) x + sum d (λ u. shared x u i) ≤ served (s i) (x + d)
  shared_served x d i =
      rw sum_split (add-le-add (le_refl _) (sum_mono d _ _ (λ u l. each (busy_from x u) (over k i) ((s i).runs (x + u)))))
    where
      each : (b a r : Bool) → on b (on (a && r) 1) ≤ on r 1
      each true true r = le_refl _
      each true false r = zero-le
      each false a r = zero-le

  -- the first d ticks of the window, of which exactly cap are busy
  module _ (x d : ℕ) (short : d ≤ (t k).d) (full : count d (busy_from x) ≡ cap (t k)) (K : CarryIn n m over s k x) where
    -- what task i executes in them is at most its plain interference, with its difference where it carries in
    shared_bound : (i : ℕ) → i < n → sum d (λ u. shared x u i) ≤ plain_from t (over k) (t k) i + on (K.carriers i) (extra_from t (over k) (t k) i)
    unfolding plain carry extra
    shared_bound i l =
        ⊎_elim
        (λ (a : over k i ≡ true).
        let z = x + d - x in
        let w = shared_served x d i in
        let b = shared_busy x d i in
        place (over k i) (K.carriers i) (sum d (λ u. shared x u i)) (plain (t k) (t i)) (extra (t k) (t i)) a
        (λ (e : K.carriers i ≡ true).
        omega (
          arith,
          carry_bound (t i) (s i) (v i l) (g.tasks i l) (higher i l a) x (x + d) (omega arith),
          work_mono (t i) {x = z + ((t i).d - (t i).c)} {y = (t k).d + ((t i).d - (t i).c)} (omega arith),
        ))
        (λ (e : K.carriers i ≡ false).
        omega (
          arith,
          plain_bound (t i) (s i) (v i l) (g.tasks i l) x (x + d) (omega arith) (K.others i l a e),
          work_mono (t i) {x = z} {y = (t k).d} (omega arith),
        )))
        (λ (a : over k i ≡ false). le_trans (shared_above x d i a) zero-le)
        (either (over k i))
      where
        place : (a b : Bool) (z p e : ℕ) → a ≡ true → (b ≡ true → z ≤ p + e) → (b ≡ false → z ≤ p) → z ≤ on a p + on b (on a e)
        place true true z p e o f h = f refl
        place true false z p e o f h = omega (arith, h refl)
        place false b z p e o f h = not_both o refl

    -- in each of the cap busy ticks m tasks execute
    busy_bound : (c : ℕ) → Enough n m c → cap (t k) * m ≤ interference (board n t m c) (over k) (t k)
    unfolding interference
    busy_bound c enough =
        let P = plain_from t (over k) (t k) in
        let E = extra_from t (over k) (t k) in
        let ticks : sum d (λ u. on (busy_from x u) m) ≤ sum d (λ u. sum n (λ i. shared x u i)) =
        sum_mono d _ _ (λ u l. tick (busy_from x u) (acts over s k (x + u)) (leb-true m _))
        in
        let bounds : sum n (λ i. sum d (λ u. shared x u i)) ≤ sum n (λ i. P i + on (K.carriers i) (E i)) = sum_mono n _ _ shared_bound in
        rw (← full, ← sum_scale)
        (omega (arith, sum_swap d n (shared x), sum_add n P (λ i. on (K.carriers i) (E i)), top_choice c n K.carriers E few))
      where
        tick : (b : Bool) (p : ℕ → Bool) → (b ≡ true → m ≤ count n p) → on b m ≤ sum n (λ i. on b (on (p i) 1))
        tick true p h = h refl
        tick false p h = zero-le

        few : count n K.carriers ≤ c
        few = ⊎_elim (λ l. omega (arith, K.few)) (λ l. le_trans (count_le n K.carriers) l) enough

  -- ---- a job

  -- Job j of k, released when the jobs before it are finished, and not finished at the end of the window.
  module _ (j x : ℕ) (S : Start (busy n m over s k) ((s k).release j) x) (own : due (s k) j ≤ served (s k) ((s k).release j))
      (late : served (s k) (x + (t k).d) < due (s k) (suc j)) where
    -- in a tick that is not busy, the job has been released and executes
    not_busy : (d : ℕ) → d ≤ (t k).d → due (s k) j + d ≤ count d (busy_from x) + max (served (s k) (x + d)) (due (s k) j)
    not_busy zero l = omega arith
    not_busy (suc d) l =
        let u = x + d in
        let ih = not_busy d (omega arith) in
        rw (add-suc x d)
        (⊎_elim (λ (e : busy n m over s k u ≡ true). rw e (omega arith))
        (λ (e : busy n m over s k u ≡ false).
        let came : (s k).release j ≤ u =
        ⊎_elim (λ (o : (s k).release j ≤ u). o) (λ (o : u < (s k).release j). not_both (S.full u (omega arith) o) e)
        (le_or_lt ((s k).release j) u)
        in
        ⊎_elim
        (λ (o : (s k).runs u ≡ true). rw (e, o) (omega (arith, served_mono (s k) ((s k).release j) u came)))
        (λ (o : (s k).runs u ≡ false).
        not_both
        (le-leb m _ (g.greedy k u kn (j, came, omega (arith, served_mono (s k) u (x + (t k).d) (omega arith))) o))
        e)
        (either ((s k).runs u)))
        (either (busy n m over s k u)))

    -- such ticks are fewer than C, so more than D - C are busy
    late_busy : (t k).d - (t k).c + 1 ≤ count (t k).d (busy_from x)
    late_busy = omega (arith, not_busy (t k).d (le_refl (t k).d), (g.tasks k kn).costs j, v k kn)

  -- ---- one job of the task

  -- the row passes exactly when the interference is less than cap · m, so the job has finished at its deadline
  pub finishes : (c : ℕ) → Enough n m c → passes (board n t m c) (over k) k ≡ true
      → (j : ℕ) → due (s k) j ≤ served (s k) ((s k).release j) → due (s k) (suc j) ≤ served (s k) ((s k).release j + (t k).d)
  unfolding cap
  finishes c enough P j own =
      let x = start (busy n m over s k) ((s k).release j) in
      let S : Start (busy n m over s k) ((s k).release j) x = start_is (busy n m over s k) ((s k).release j) in
      let L = (t k).d in
      ⊎_elim
      (λ (l : due (s k) (suc j) ≤ served (s k) (x + L)).
      le_trans l (served_mono (s k) (x + L) ((s k).release j + L) (omega (arith, S.early))))
      (λ (late : served (s k) (x + L) < due (s k) (suc j)).
      let (d, short, full) = count_reach (busy_from x) (cap (t k)) L (omega (arith, late_busy j x S own late)) in
      absurd
      (omega (
        arith,
        busy_bound x d short full (carry_in_few n m t over s pos v g k ((s k).release j) x S) c enough,
        (passes_iff (board n t m c) (over k) k pos (v k kn).within).0 P,
      )))
      (le_or_lt (due (s k) (suc j)) (served (s k) (x + L)))
