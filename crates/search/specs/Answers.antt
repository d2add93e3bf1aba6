-- What the search answers, in one call and in quota steps, for all inputs (document 01, "Audsley's search" and "Numbers answered").
-- Assumes nothing.
use Rattle.std.specs.Prelude.{ℕ, ◌+◌, ◌-◌, ◌≤◌, ◌≡◌, ◌⊎◌, Bool, ◌&&◌, cond, Option, List, [], ◌∷◌, ◌++◌, leb, eqb, length, take, drop, replicate}
use Rattle.rows.specs.Judge.{check, judge}
use Rattle.rows.specs.Numbers.{done, blocked, unsound, short_output, unfinished}
use Rattle.sets.specs.Sums.{first, some_below}
use Rattle.sets.specs.Sets.{has, set_of, without, none, without_row}
use Rattle.rows.specs.Table.{row_count, table_checks}
use Rattle.rows.specs.Board.{Board, board_of}
use Rattle.sets.specs.declared.Set.{Set}
use Rattle.rows.specs.declared.terms.Terms.{Terms}
use Rattle.test.specs.Test.{passes}
use Rattle.search.specs.Search.{rows_below, free, Progress, Run, fresh, finished, run, bound, search}
use Rattle.search.specs.Demand.{Order, Passing, Truth}
use Rattle.search.specs.State.{placed_rows, progress_of, state_of, placed_at, order_of, sound}
use Rattle.search.specs.declared.state.State.{State}
use Rattle.search.specs.declared.ended.Ended.{Ended}
use Rattle.search.specs.declared.call.Found.{Found}

-- the search of a board, and some of its tests from where a search has come
abbrev pub search_of : Board → Run
search_of b = search b.n (rows_below b.n) (passes b)

abbrev pub run_of : Board → ℕ → Progress → Run
run_of b = run b.n (rows_below b.n) (passes b)

-- the rows that the search of a board places, the highest level first
abbrev pub placed_of : Board → List ℕ
placed_of b = (search_of b).progress.placed

-- 0 where all n rows are placed, 4 where the search ended with rows unplaced, 15 where it is unfinished
unfoldable pub number_of : ℕ → Progress → ℕ
number_of n p = cond (finished n (rows_below n) p) (cond (eqb (length p.placed) n) done blocked) unfinished

-- with 4, the rows unplaced
unfoldable pub group_of : ℕ → Progress → Set
group_of n p = cond (eqb (number_of n p) blocked) (set_of (free (rows_below n) p.placed)) none

-- ---- the search of any rows

-- where it ends: the rows placed in an order of n levels, the rows left, and the tests made
abbrev pub ended_by : ℕ → (ℕ → Bool) → Run → Ended
ended_by n dom r =
    record {
      order = order_of n r.progress.placed;
      placed = length r.progress.placed;
      left = set_of (free dom r.progress.placed);
      tests = r.tests;
    }

-- before any test
abbrev pub unended : Set → Ended
unended dom = record { order = replicate 96 255; placed = 0; left = dom; tests = 0 }

unfoldable pub ended_of : Board → (ℕ → Bool) → Ended
ended_of b dom = ended_by b.n dom (search b.n dom (passes b))

-- ---- one call

abbrev pub refusal : ℕ → ℕ → Found
refusal number place = record { number = number; row = place; group = none; tests = 0 }

abbrev pub found_by : ℕ → Run → Found
found_by n r = record { number = number_of n r.progress; row = 0; group = group_of n r.progress; tests = r.tests }

-- the answer where the output has room for so many bytes
unfoldable pub found_of : List ℕ → Terms → ℕ → Found
found_of words terms room =
    judge (table_checks words terms.m ++ (check (leb (row_count words) room) short_output ∷ [])) refusal
    (found_by (row_count words) (search_of (board_of words terms)))

-- the output afterwards: with 0 the order and the later bytes as they were, else as it was
unfoldable pub written_of : List ℕ → Terms → List ℕ → List ℕ
written_of words terms out =
    cond (eqb (found_of words terms (length out)).number done) (placed_of (board_of words terms) ++ drop (row_count words) out) out

-- what demands 2 and 3 say of an answer and the output afterwards
pub record Demanded (b : Board) (r : Found) (out : List ℕ) : Type 0 where
  -- demand 3, of the rows that the search places
  pub truth : Truth b.n (rows_below b.n) (passes b) (placed_of b)
  -- the order stored is what the search placed: each row once, passing at every level
  pub stores : r.number ≡ done → take b.n out ≡ placed_of b
  pub orders : r.number ≡ done → Order (rows_below b.n) (placed_of b)
  pub passes : r.number ≡ done → Passing (passes b) (placed_of b)
  -- the refusal names the stranded rows
  pub names : r.number ≡ blocked → (i : ℕ) → has r.group i ≡ free (rows_below b.n) (placed_of b) i
  -- at most n(n+1)/2 tests
  pub bounded : r.tests ≤ bound b.n

-- ---- quota steps

-- what a step answers: the number, with 3 the lowest row at fault, with 4 the blocked group, the tests made in this call, and the new state
pub record Stepped : Type 0 where
  pub number : ℕ
  pub row : ℕ
  pub group : Set
  pub tests : ℕ
  pub state : State

abbrev pub handed_back : State → ℕ → ℕ → Stepped
handed_back s number place = record { number = number; row = place; group = none; tests = 0; state = s }

abbrev pub stepped_by : ℕ → Run → Stepped
stepped_by n r =
    record {
      number = number_of n r.progress;
      row = 0;
      group = group_of n r.progress;
      tests = r.tests;
      state = state_of n r.progress;
    }

-- the step of a sound state
unfoldable pub work_of : Board → State → ℕ → Stepped
work_of b s quota = stepped_by b.n (run_of b quota (progress_of b.n s))

unfoldable pub stepped_of : List ℕ → Terms → State → ℕ → Stepped
stepped_of words terms s quota =
    judge (table_checks words terms.m ++ (check (sound (row_count words) s) unsound ∷ [])) (handed_back s)
    (work_of (board_of words terms) s quota)

-- what demands 2 and 3 and the rules of quota steps say of an answer
pub record StepDemanded (b : Board) (s : State) (quota : ℕ) (r : Stepped) : Type 0 where
  -- an unfinished step made exactly its quota
  pub spent : r.number ≡ unfinished → r.tests ≡ quota
  -- a finished step from a state that a tests from fresh, in whatever steps, have reached: demand 3, of the rows placed
  pub truth : (a : ℕ) → s ≡ state_of b.n (run_of b a fresh).progress → (r.number ≡ done) ⊎ (r.number ≡ blocked)
      → Truth b.n (rows_below b.n) (passes b) (placed_rows b.n r.state)
  -- a refusal names the rows unplaced
  pub names : r.number ≡ blocked → (i : ℕ) → has r.group i ≡ free (rows_below b.n) (placed_rows b.n r.state) i
  -- all steps from fresh together make at most n(n+1)/2 tests
  pub bounded : (a : ℕ) → s ≡ state_of b.n (run_of b a fresh).progress
      → (run_of b a fresh).tests + r.tests ≤ bound b.n

-- ---- parts of the code

-- row i is left and passes with the others that are left above it
abbrev pub passing : ((ℕ → Bool) → ℕ → Bool) → (ℕ → Bool) → ℕ → Bool
passing test H i = H i && test (without H i) i

-- the first row left that passes; n where none does
abbrev pub first_passing : Board → Set → ℕ
first_passing b left = first (passing (passes b) (has left)) b.n 0

-- the row of the next test: the first from the cursor on that is left, none where none is
abbrev pub next_left : ℕ → Set → ℕ → Option ℕ
next_left n left cursor = some_below (first (has left) (n - cursor) cursor) n

-- a state, and the rows that it leaves unplaced
pub record Stand : Type 0 where
  pub state : State
  pub left : Set

-- after a test of row k with the others that are left above it
abbrev pub probed_of : Board → State → Set → ℕ → Stand
probed_of b s left k =
    cond (passes b (has (without_row left k)) k) (record { state = placed_at b.n s k; left = without_row left k })
    (record { state = record { order = s.order; placed = s.placed; cursor = k + 1 }; left = left })
