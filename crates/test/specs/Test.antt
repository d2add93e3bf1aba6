-- The test of one row with a set of rows above it (document 01, "The test of one task").
-- Assumes nothing.
use Rattle.std.specs.Prelude.{ℕ, zero, suc, ◌+◌, ◌/◌, max, Bool, false, not, ◌&&◌, List, [], ◌∷◌, ◌++◌, leb, ltb}
use Rattle.sets.specs.Sums.{on, sum}
use Rattle.rows.specs.Judge.{check, judge}
use Rattle.rows.specs.Numbers.{done, malformed}
use Rattle.sets.specs.Sets.{has, within}
use Rattle.rows.specs.Table.{row_count, table_checks}
use Rattle.rows.specs.Board.{Board, board_of}
use Rattle.rows.specs.declared.table.Row.{Row}
use Rattle.sets.specs.declared.Set.{Set}
use Rattle.rows.specs.declared.terms.Terms.{Terms}
use Rattle.workload.specs.Workload.{plain, extra}

-- the sum of the c largest of d 0 .. d (n - 1), of all of them if n is smaller: the largest sum that at most c of them have
abbrev pub top : ℕ → ℕ → (ℕ → ℕ) → ℕ
top c zero d = 0
top zero (suc n) d = 0
top (suc c) (suc n) d = max (top (suc c) n d) (top c n d + d n)

-- The board has the rows, the cores and how many rows count with their carry-in, m − 1 in 01; H is the set above.

-- the plain interference of row i on row k, and the difference that its carry-in adds; nothing where i is not in H
abbrev pub plain_from : (ℕ → Row) → (ℕ → Bool) → Row → ℕ → ℕ
plain_from t H k i = on (H i) (plain k (t i))

abbrev pub extra_from : (ℕ → Row) → (ℕ → Bool) → Row → ℕ → ℕ
extra_from t H k i = on (H i) (extra k (t i))

-- I: the sum of the plain interferences over H plus the c largest differences in H
unfoldable pub interference : Board → (ℕ → Bool) → Row → ℕ
interference b H k = sum b.n (plain_from b.t H k) + top b.c b.n (extra_from b.t H k)

-- C of row k + I divided by m, rounded down
unfoldable pub used : Board → (ℕ → Bool) → ℕ → ℕ
used b H k = (b.t k).c + interference b H (b.t k) / b.m

unfoldable pub passes : Board → (ℕ → Bool) → ℕ → Bool
passes b H k = leb (used b H k) (b.t k).d

-- what a search may keep of one test for the next: the plain interference of row i on row k, and the sum of these over H
unfoldable pub plain_on : (ℕ → Row) → ℕ → ℕ → ℕ
plain_on t k i = plain (t k) (t i)

unfoldable pub plain_sum : ℕ → (ℕ → Row) → (ℕ → Bool) → ℕ → ℕ
plain_sum n t H k = sum n (plain_from t H (t k))

-- row k passes where that sum is p
unfoldable pub passes_with : Board → (ℕ → Bool) → ℕ → ℕ → Bool
passes_with b H k p = leb ((b.t k).c + (p + top b.c b.n (extra_from b.t H (b.t k))) / b.m) (b.t k).d

-- row k is one of n rows, the set above it holds none but those, and not k itself
unfoldable pub well_formed : ℕ → ℕ → Set → Bool
well_formed n k above = ltb k n && within above n && not (has above k)

-- what the single test answers: its number, with 3 the lowest row at fault, and whether the row passes and its used
pub record Judged : Type 0 where
  pub number : ℕ
  pub row : ℕ
  pub passes : Bool
  pub used : ℕ

-- what a refused test answers, and one that is made
abbrev pub refusal : ℕ → ℕ → Judged
refusal number place = record { number = number; row = place; passes = false; used = 0 }

abbrev pub outcome : Board → ℕ → Set → Judged
outcome b k above = record { number = done; row = 0; passes = passes b (has above) k; used = used b (has above) k }

-- what the single test answers
unfoldable pub judged_of : List ℕ → Terms → ℕ → Set → Judged
judged_of words terms k above =
    judge (table_checks words terms.m ++ (check (well_formed (row_count words) k above) malformed ∷ [])) refusal
    (outcome (board_of words terms) k above)
