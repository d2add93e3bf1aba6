-- The model of `Schedule` once more, without the names of jobs: of a task it is only told in which ticks it executes. The proofs are over this model.
-- First one task, then all tasks. `Jobs` leads from each model to the other.
-- Assumes nothing.
use Rattle.std.specs.Prelude.{ℕ, suc, ◌+◌, ◌≤◌, ◌<◌, ◌≡◌, Bool, true, false, ◌&&◌}
use Rattle.sets.specs.Sums.{sum, count}
use Rattle.rows.specs.declared.table.Row.{Row}
use Rattle.schedule.specs.Schedule.{above}

-- the life of a task: job j is released at tick `release j` and takes `cost j` ticks; `runs u`: the task executes in tick u
pub record Life : Type 0 where
  pub release : ℕ → ℕ
  pub cost : ℕ → ℕ
  pub runs : ℕ → Bool

-- the ticks before u in which the task executed
abbrev pub served : Life → ℕ → ℕ
served h u = count u h.runs

-- what the jobs before job j take in all; jobs execute in order, so job j has finished at u when due (j + 1) ≤ served u
abbrev pub due : Life → ℕ → ℕ
due h j = sum j h.cost

-- a job that is released by u has not finished at u
abbrev pub Backlog : Life → ℕ → Type 0
Backlog h u = (j : ℕ) × (h.release j ≤ u) × (served h u < due h (suc j))

-- a life of the task of row r
pub record LifeOf (r : Row) (h : Life) : Type 0 where
  pub spaced : (j : ℕ) → h.release j + r.t ≤ h.release (suc j)
  pub costs : (j : ℕ) → h.cost j ≤ r.c
  pub ready : (u : ℕ) → h.runs u ≡ true → Backlog h u

-- every job has finished D after its release
abbrev pub Meets : Row → Life → Type 0
Meets r h = (j : ℕ) → due h (suc j) ≤ served h (h.release j + r.d)

pub record LegalLives (n m : ℕ) (t : ℕ → Row) (rank : ℕ → ℕ) (s : ℕ → Life) : Type 0 where
  pub tasks : (i : ℕ) → i < n → LifeOf (t i) (s i)
  pub cores : (u : ℕ) → count n (λ i. (s i).runs u) ≤ m
  pub greedy : (k u : ℕ) → k < n → Backlog (s k) u → (s k).runs u ≡ false → m ≤ count n (λ i. above rank k i && (s i).runs u)
