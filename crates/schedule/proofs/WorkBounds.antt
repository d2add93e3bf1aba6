-- The workload bounds: what a task executes in y - x ticks is at most w(y - x) where at x no job is left over from before (002, no carry-in), and at most w(y - x + D - C) where its jobs meet their deadlines (004, equation 1; 002, carry-in).
-- First how a life is served, then the bound without carry-in, then the bound with it.
-- Assumes nothing.
use Rattle.std.specs.Prelude.{ℕ, zero, suc, ◌+◌, ◌*◌, ◌-◌, ◌/◌, ◌≤◌, ◌<◌, min, ◌≡◌, true, false}
use Rattle.std.proofs.Common.{zero-le, le_refl, le_trans, arith}
use Rattle.std.proofs.Math.Logic.{⊎_elim}
use Rattle.std.proofs.Math.Nat.{div-mul-le_self, lt-div-mul-add}
use Rattle.std.proofs.Math.Path.{refl}
use Rattle.sets.specs.NumberLaws.{le_or_lt}
use Rattle.sets.specs.BoolLaws.{either}
use Rattle.sets.specs.SumLaws.{on_le, sum_upto}
use Rattle.rows.specs.declared.table.Row.{Row}
use Rattle.workload.specs.Workload.{work}
use Rattle.schedule.specs.Schedule.{Proper}
use Rattle.schedule.proofs.Lives.{Life, served, due, LifeOf, Meets}
use Rattle.schedule.proofs.MoreSums.{sum_rise, spaced_far, spaced_mono, spaced_least, first_after}

pub served_mono : (h : Life) (x y : ℕ) → x ≤ y → served h x ≤ served h y
served_mono h x y l = sum_upto x y _ l

pub served_slow : (h : Life) (x y : ℕ) → x ≤ y → served h y ≤ served h x + (y - x)
served_slow h x y l = omega (arith, sum_rise _ 1 (λ i. on_le (h.runs i) 1) x y (y - x) (omega arith))

-- no job that is released before x is left over at x: from job `next` on they are released at x or later, and those before it are finished
pub record Fresh (h : Life) (x : ℕ) : Type 0 where
  pub next : ℕ
  pub later : x ≤ h.release next
  pub finished : due h next ≤ served h x

module _ (r : Row) (h : Life) (v : Proper r) (q : LifeOf r h) where
  pub release_least : (j : ℕ) → j ≤ h.release j
  release_least = spaced_least h.release r.t q.spaced (omega (arith, v))

  -- a job does not execute before its release: up to y, job l and those after it have executed no longer than since the release of l
  pub only_released : (l y : ℕ) → served h y ≤ due h l + (y - h.release l)
  only_released l zero = zero-le
  only_released l (suc y) =
      ⊎_elim
      (λ (e : h.runs y ≡ true).
      let (j, p, u) = q.ready y e in
      rw e
      (⊎_elim (λ (o : h.release l ≤ y). omega (arith, only_released l y))
      (λ (o : y < h.release l).
      ⊎_elim (λ (g : l ≤ j). absurd (omega (arith, spaced_mono h.release r.t q.spaced l j g)))
      (λ (g : j < l). omega (arith, sum_upto (suc j) l h.cost g))
      (le_or_lt l j))
      (le_or_lt (h.release l) y)))
      (λ (e : h.runs y ≡ false). rw e (omega (arith, only_released l y)))
      (either (h.runs y))

  -- Job p is the first that counts, and at most z passes from its release to y. With N = z / T, the jobs p + N and p + N + 1 are released so late
  -- that no more than N jobs are executed whole, with min(C, z - N-as-T) of another.
  from_job : (x y p z : ℕ) → y ≤ h.release p + z → due h p ≤ served h x → served h y ≤ served h x + work r z
  unfolding work
  from_job x y p z l f =
      let N = z / r.t in
      omega (
        arith,
        only_released (p + N) y,
        only_released (suc (p + N)) y,
        spaced_far h.release r.t q.spaced p (p + N) N refl,
        spaced_far h.release r.t q.spaced p (suc (p + N)) (suc N) (omega arith),
        sum_rise h.cost r.c q.costs p (p + N) N refl,
        q.costs (p + N),
        lt-div-mul-add {a = z} {b = r.t} (omega (arith, v)),
      )

  -- without carry-in
  pub plain_bound : (x y : ℕ) → x ≤ y → Fresh h x → served h y ≤ served h x + work r (y - x)
  plain_bound x y o f = from_job x y f.next (y - x) (omega (arith, f.later)) f.finished

  -- Job p is left over at x, with its deadline e < C after x. It executes no longer than until then, and the next job is released T after it.
  from_deadline : (x y p L N R e : ℕ) → x + L ≡ y → N * r.t + R ≡ L + (r.d - r.c) → R < r.t → x + e ≡ h.release p + r.d → e < r.c
      → due h (suc p) ≤ served h x + e → served h y ≤ served h x + (N * r.c + min r.c R)
  from_deadline x y p L zero R e o a b d c f =
      omega (arith, served_slow h x y (omega arith), only_released (suc p) y, q.spaced p, v.within)
  from_deadline x y p L (suc N) R e o a b d c f =
      omega (
        arith,
        v.within,
        only_released (suc (p + N)) y,
        only_released (suc (suc (p + N))) y,
        spaced_far h.release r.t q.spaced p (suc (p + N)) (suc N) (omega arith),
        spaced_far h.release r.t q.spaced p (suc (suc (p + N))) (suc (suc N)) (omega arith),
        sum_rise h.cost r.c q.costs (suc p) (suc (p + N)) N (omega arith),
        q.costs (suc (p + N)),
      )

  -- the jobs before p are finished at x, where their deadlines are at most x
  before_done : Meets r h → (x p : ℕ) → ((j : ℕ) → j < p → h.release j + r.d ≤ x) → due h p ≤ served h x
  before_done M x zero b = zero-le
  before_done M x (suc p) b = le_trans (M p) (served_mono h (h.release p + r.d) x (b p (le_refl (suc p))))

  -- with carry-in, where every job meets its deadline: job p is the first whose deadline is after x
  pub carry_bound : Meets r h → (x y : ℕ) → x ≤ y → served h y ≤ served h x + work r (y - x + (r.d - r.c))
  unfolding work
  carry_bound M x y o =
      let z = y - x + (r.d - r.c) in
      let (p, late, before) = first_after (λ j. h.release j + r.d) (λ j. omega (arith, release_least j)) x in
      ⊎_elim
      (λ (l : x + r.c ≤ h.release p + r.d). from_job x y p z (omega (arith, v.within)) (before_done M x p before))
      (λ (soon : h.release p + r.d < x + r.c).
      let N = z / r.t in
      let low : N * r.t ≤ z = div-mul-le_self z r.t in
      let high : z < N * r.t + r.t = lt-div-mul-add (omega (arith, v)) in
      from_deadline x y p (y - x) N (z - N * r.t) (h.release p + r.d - x) (omega arith) (omega arith) (omega arith) (omega arith)
      (omega arith) (le_trans (M p) (served_slow h x (h.release p + r.d) (omega arith))))
      (le_or_lt (x + r.c) (h.release p + r.d))
