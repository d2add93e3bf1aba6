-- Fewer than m tasks carry in: a window is opened where m tasks above k began to execute without a break until a job of k was released (002, after Guan et al.).
-- First what the proofs use of a schedule, then the start of the window, then a task with nothing left over, then who carries in.
-- Assumes nothing.
use Rattle.std.specs.Prelude.{ℕ, zero, suc, ◌≤◌, ◌<◌, ◌≡◌, refl, ◌⊎◌, Bool, true, false, ◌&&◌, cond, leb}
use Rattle.std.proofs.Common.{zero-le, ⊎_elim, inl, inr, arith, le_refl, le_trans, eq-or-lt_of_le, le_of_suc-le-suc, leb-false}
use Rattle.sets.specs.NumberLaws.{le_or_lt}
use Rattle.sets.specs.Sums.{count}
use Rattle.sets.specs.BoolLaws.{either, and_in, and_left, and_right}
use Rattle.sets.specs.SumLaws.{sum_zero, count_mono}
use Rattle.sets.specs.Sets.{◌⊆◌}
use Rattle.rows.specs.declared.table.Row.{Row}
use Rattle.schedule.specs.Schedule.{Proper}
use Rattle.schedule.proofs.Lives.{Life, served, due, Backlog, LifeOf}
use Rattle.schedule.proofs.MoreSums.{first_after}
use Rattle.schedule.proofs.WorkBounds.{served_mono, Fresh, release_least}

-- What the proofs use of a schedule: `over k` are the tasks above k, and where k is behind and does not execute, m of them do.
-- That at most m tasks execute in a tick is not used.
pub record Driven (n m : ℕ) (t : ℕ → Row) (over : ℕ → ℕ → Bool) (s : ℕ → Life) : Type 0 where
  pub tasks : (i : ℕ) → i < n → LifeOf (t i) (s i)
  pub greedy : (k u : ℕ) → k < n → Backlog (s k) u → (s k).runs u ≡ false → m ≤ count n (λ i. over k i && (s i).runs u)
  pub nested : (k i : ℕ) → over k i ≡ true → over i ⊆ over k

-- the tasks above k that execute in tick u
abbrev pub acts : (ℕ → ℕ → Bool) → (ℕ → Life) → ℕ → ℕ → ℕ → Bool
acts over s k u i = over k i && (s i).runs u

-- they are m or more
abbrev pub busy : ℕ → ℕ → (ℕ → ℕ → Bool) → (ℕ → Life) → ℕ → ℕ → Bool
busy n m over s k u = leb m (count n (acts over s k u))

-- ---- the start of the window

-- where the run of ticks that p takes, up to r, begins
pub start : (ℕ → Bool) → ℕ → ℕ
start p zero = 0
start p (suc u) = cond (p u) (start p u) (suc u)

pub record Start (p : ℕ → Bool) (r x : ℕ) : Type 0 where
  pub early : x ≤ r
  pub full : (u : ℕ) → x ≤ u → u < r → p u ≡ true
  pub edge : (x ≡ 0) ⊎ ((u : ℕ) × (x ≡ suc u) × (p u ≡ false))

pub start_is : (p : ℕ → Bool) (r : ℕ) → Start p r (start p r)
unfolding start
start_is p zero = record { early = zero-le; full = λ u a b. absurd (omega arith); edge = inl refl }
start_is p (suc r) =
    ⊎_elim
    (λ (e : p r ≡ true).
    let S = start_is p r in
    rw e
    (record {
      early = omega (arith, S.early);
      full = λ u a b. ⊎_elim (λ (q : u ≡ r). rw q e) (λ (l : u < r). S.full u a l) (eq-or-lt_of_le (le_of_suc-le-suc b));
      edge = S.edge;
    }))
    (λ (e : p r ≡ false).
    rw e (record { early = le_refl (suc r); full = λ u a b. absurd (omega arith); edge = inr (r, refl, e) }))
    (either (p r))

-- ---- nothing left over

-- nothing is released before tick 0
fresh_zero : (h : Life) → Fresh h 0
fresh_zero h = record { next = 0; later = zero-le; finished = zero-le }

-- a task that is not behind in tick u has nothing left over at u + 1
fresh_idle : (h : Life) → ((j : ℕ) → j ≤ h.release j) → (u : ℕ) → (Backlog h u → ⊥) → Fresh h (suc u)
fresh_idle h least u idle =
    let (p, later, before) = first_after h.release least u in
    record { next = p; later = later; finished = le_trans (done p before) (served_mono h u (suc u) (omega arith)) }
  where
    done : (p : ℕ) → ((j : ℕ) → j < p → h.release j ≤ u) → due h p ≤ served h u
    done zero b = zero-le
    done (suc p) b =
        ⊎_elim (λ (l : due h (suc p) ≤ served h u). l)
        (λ (l : served h u < due h (suc p)). absurd (idle (p, b p (le_refl (suc p)), l)))
        (le_or_lt (due h (suc p)) (served h u))

-- ---- who carries in

-- fewer than m tasks above k carry in at x
pub record CarryIn (n m : ℕ) (over : ℕ → ℕ → Bool) (s : ℕ → Life) (k x : ℕ) : Type 0 where
  pub carriers : ℕ → Bool
  pub few : count n carriers < m
  pub others : (i : ℕ) → i < n → over k i ≡ true → carriers i ≡ false → Fresh (s i) x

-- At tick 0 none carries in. Later the tick before the window is not busy, and those that execute in it are fewer than m: any other task above k is
-- not behind, or m tasks above it, and so above k, would execute.
pub carry_in_few : (n m : ℕ) (t : ℕ → Row) (over : ℕ → ℕ → Bool) (s : ℕ → Life) → 0 < m → ((i : ℕ) → i < n → Proper (t i))
    → Driven n m t over s → (k r x : ℕ) → Start (busy n m over s k) r x → CarryIn n m over s k x
carry_in_few n m t over s pos v g k r x S =
    ⊎_elim
    (λ (e : x ≡ 0).
    record { carriers = λ i. false; few = omega (arith, sum_zero n); others = λ i l a b. rw e (fresh_zero (s i)) })
    (λ (u, e, f).
    let few : count n (acts over s k u) < m = leb-false m (count n (acts over s k u)) f in
    record {
      carriers = acts over s k u;
      few = few;
      others =
          λ i l a b.
          rw e
          (fresh_idle (s i) (release_least (t i) (s i) (v i l) (g.tasks i l)) u
          (λ w.
          let off : (s i).runs u ≡ false = rw a at b in
          let more : acts over s i u ⊆ acts over s k u =
          λ j o.
          and_in (over k j) ((s j).runs u) (g.nested k i a j (and_left (over i j) ((s j).runs u) o)) (and_right (over i j) ((s j).runs u) o)
          in
          omega (arith, g.greedy i u l w off, count_mono n (acts over s i u) (acts over s k u) more)));
    })
    S.edge
