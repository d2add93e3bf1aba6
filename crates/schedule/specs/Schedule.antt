-- What a legal schedule of a table is, and what it is for an order to be safe: sporadic tasks on m cores, by global pre-emptive fixed priorities (document 01, "Ground covered").
-- First one task and its jobs, then all tasks together, then what an order promises, then what the theorems ask of the rows and of the number of carry-ins.
-- Tick u is the time from u to u + 1; nothing is released and nothing executes before tick 0.
-- Assumes nothing.
use Rattle.std.specs.Prelude.{ℕ, suc, ◌+◌, ◌≤◌, ◌<◌, ◌≡◌, ◌⊎◌, Bool, true, false, ◌&&◌, List, ltb, eqb, length, get_or}
use Rattle.std.proofs.Math.Option.{Option, none, some}
use Rattle.sets.specs.Sums.{count, first}
use Rattle.rows.specs.declared.table.Row.{Row}

-- ---- one task

-- The course of a task: job j is released at tick `release j` and takes `cost j` ticks; `does u` is the job that executes in tick u, if one does.
-- So at most one job of a task executes in a tick.
pub record Course : Type 0 where
  pub release : ℕ → ℕ
  pub cost : ℕ → ℕ
  pub does : ℕ → Option ℕ

-- some job executes
abbrev pub active : Option ℕ → Bool
active none = false
active (some l) = true

-- job j executes
abbrev pub is_job : ℕ → Option ℕ → Bool
is_job j none = false
is_job j (some l) = eqb j l

-- the ticks before u in which job j executed
abbrev pub service : Course → ℕ → ℕ → ℕ
service s j u = count u (λ x. is_job j (s.does x))

-- job j is released by u and not finished at u
abbrev pub Pending : Course → ℕ → ℕ → Type 0
Pending s j u = (s.release j ≤ u) × (service s j u < s.cost j)

-- a course of the task of row r
pub record Sporadic (r : Row) (s : Course) : Type 0 where
  -- releases are T or more apart
  pub spaced : (j : ℕ) → s.release j + r.t ≤ s.release (suc j)
  -- no job takes more than C
  pub costs : (j : ℕ) → s.cost j ≤ r.c
  -- only a pending job executes
  pub ready : (u j : ℕ) → s.does u ≡ some j → Pending s j u
  -- and only when the jobs before it are finished
  pub ordered : (u j l : ℕ) → s.does u ≡ some j → l < j → s.cost l ≤ service s l u

-- every job has finished D after its release
abbrev pub InTime : Row → Course → Type 0
InTime r s = (j : ℕ) → s.cost j ≤ service s j (s.release j + r.d)

-- ---- all tasks

-- task i is above task k: a smaller rank is a higher priority
abbrev pub above : (ℕ → ℕ) → ℕ → ℕ → Bool
above rank k i = ltb (rank i) (rank k)

-- a schedule of the tasks t 0 to t (n - 1) on m cores
pub record LegalJobs (n m : ℕ) (t : ℕ → Row) (rank : ℕ → ℕ) (s : ℕ → Course) : Type 0 where
  pub tasks : (i : ℕ) → i < n → Sporadic (t i) (s i)
  -- at most m tasks execute in a tick
  pub cores : (u : ℕ) → count n (λ i. active ((s i).does u)) ≤ m
  -- where a job of task k is pending and k does not execute, m tasks above k do
  pub greedy : (k u j : ℕ) → k < n → Pending (s k) j u → (s k).does u ≡ none
      → m ≤ count n (λ i. above rank k i && active ((s i).does u))

-- ---- an order

-- the level of row i in an order, from 0: where it first stands
abbrev pub level : List ℕ → ℕ → ℕ
level o i = first (λ j. eqb (get_or o j 0) i) (length o) 0

-- a pattern of releases and costs of n tasks: job j of task i is released at `release i j` and takes `cost i j`
pub record Pattern (n : ℕ) (t : ℕ → Row) (release cost : ℕ → ℕ → ℕ) : Type 0 where
  pub spaced : (i j : ℕ) → i < n → release i j + (t i).t ≤ release i (suc j)
  pub costs : (i j : ℕ) → i < n → cost i j ≤ (t i).c

-- a legal schedule with these releases and costs
abbrev pub Scheduled : (n m : ℕ) (t : ℕ → Row) (rank : ℕ → ℕ) (release cost : ℕ → ℕ → ℕ) → Type 0
Scheduled n m t rank release cost =
    (s : ℕ → Course) × LegalJobs n m t rank s × ((i : ℕ) → (s i).release ≡ release i) × ((i : ℕ) → (s i).cost ≡ cost i)

-- an order is safe on m cores
pub record Safe (n m : ℕ) (t : ℕ → Row) (o : List ℕ) : Type 0 where
  -- every pattern of releases and costs has a legal schedule by the order's levels
  pub possible : (release cost : ℕ → ℕ → ℕ) → Pattern n t release cost → Scheduled n m t (level o) release cost
  -- and in every legal schedule every job of every task is in time
  pub in_time : (s : ℕ → Course) → LegalJobs n m t (level o) s → (k : ℕ) → k < n → InTime (t k) (s k)

-- ---- what the theorems ask

-- 1 ≤ C ≤ D ≤ T, and no upper limit
pub record Proper (r : Row) : Type 0 where
  pub some : 1 ≤ r.c
  pub within : r.c ≤ r.d
  pub constrained : r.d ≤ r.t

-- c carry-ins are enough: m - 1 of them, as in document 01, or those of all n rows
abbrev pub Enough : ℕ → ℕ → ℕ → Type 0
Enough n m c = (m ≤ suc c) ⊎ (n ≤ c)
