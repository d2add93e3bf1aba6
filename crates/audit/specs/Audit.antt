-- What the checkers of orders and of blocked groups answer, for all inputs (document 01, "Numbers answered": 5, 6 and 14).
-- Assumes nothing.
use Rattle.std.specs.Prelude.{ℕ, zero, suc, Bool, ◌&&◌, cond, List, [], ◌∷◌, ◌++◌, eqb, ltb, length, take, get_or}
use Rattle.sets.specs.Sums.{first}
use Rattle.rows.specs.Judge.{check, judge}
use Rattle.rows.specs.Numbers.{done, malformed, order_fails, member_passes}
use Rattle.sets.specs.Sets.{has, size, within}
use Rattle.rows.specs.Table.{row_count, table_checks}
use Rattle.rows.specs.Board.{Board, board_of}
use Rattle.sets.specs.declared.Set.{Set}
use Rattle.rows.specs.declared.terms.Terms.{Terms}
use Rattle.test.specs.Test.{used, passes}
use Rattle.search.specs.Demand.{among}
use Rattle.search.specs.State.{distinct}
use Rattle.search.specs.Answers.{passing}

-- ---- orders

-- a permutation of 0 to n − 1: n entries, each a row below n and none of those after it
unfoldable pub is_order : ℕ → List ℕ → Bool
is_order n o = eqb (length o) n && distinct n o

-- Level 1 is the highest. At level suc j stands entry j, and the entries before it are the rows of the higher levels.

-- of the levels 1 to j, the lowest (largest number) that fails; 0 where none does
abbrev pub lowest_of : ((ℕ → Bool) → ℕ → Bool) → List ℕ → ℕ → ℕ
lowest_of test o zero = 0
lowest_of test o (suc j) = let higher = lowest_of test o j in cond (test (among (take j o)) (get_or o j 0)) higher (suc j)

abbrev pub lowest_failing : ((ℕ → Bool) → ℕ → Bool) → List ℕ → ℕ
lowest_failing test o = lowest_of test o (length o)

-- what the check of an order answers: the number, with 3 the lowest row at fault, with 6 the lowest level that fails and its used
pub record OrderChecked : Type 0 where
  pub number : ℕ
  pub row : ℕ
  pub level : ℕ
  pub used : ℕ

-- the answer where no level fails, and where level suc j is the lowest that does
abbrev pub level_answer : Board → List ℕ → ℕ → OrderChecked
level_answer b o zero = record { number = done; row = 0; level = 0; used = 0 }
level_answer b o (suc j) = record { number = order_fails; row = 0; level = suc j; used = used b (among (take j o)) (get_or o j 0) }

unfoldable pub levels_of : Board → List ℕ → OrderChecked
levels_of b o = level_answer b o (lowest_failing (passes b) o)

abbrev pub order_refusal : ℕ → ℕ → OrderChecked
order_refusal number place = record { number = number; row = place; level = 0; used = 0 }

-- what the check of an order answers
unfoldable pub order_checked_of : List ℕ → Terms → List ℕ → OrderChecked
order_checked_of words terms o =
    judge (table_checks words terms.m ++ (check (is_order (row_count words) o) malformed ∷ [])) order_refusal
    (levels_of (board_of words terms) o)

-- ---- groups

-- not empty, and no bit at or above n
unfoldable pub is_group : ℕ → Set → Bool
is_group n group = ltb 0 (size group) && within group n

-- the lowest member that passes with the other members above it; n where none does
abbrev pub lowest_passing : ((ℕ → Bool) → ℕ → Bool) → ℕ → Set → ℕ
lowest_passing test n group = first (passing test (has group)) n 0

-- what the check of a group answers: the number, with 3 the lowest row at fault, with 14 the lowest member that passes
pub record GroupChecked : Type 0 where
  pub number : ℕ
  pub row : ℕ

abbrev pub group_refusal : ℕ → ℕ → GroupChecked
group_refusal number place = record { number = number; row = place }

-- the answer where row r is the lowest member that passes, and where none does
abbrev pub member_answer : ℕ → ℕ → GroupChecked
member_answer n r = cond (ltb r n) (record { number = member_passes; row = r }) (record { number = done; row = 0 })

-- what the check of a blocked group answers
unfoldable pub group_checked_of : List ℕ → Terms → Set → GroupChecked
group_checked_of words terms group =
    judge (table_checks words terms.m ++ (check (is_group (row_count words) group) malformed ∷ [])) group_refusal
    (member_answer (row_count words) (lowest_passing (passes (board_of words terms)) (row_count words) group))
