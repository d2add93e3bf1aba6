-- A table: its rows, their ranges, and the checks 1, 2 and 3 (document 01, "Table" and "Numbers answered").
-- Assumes nothing.
use Rattle.std.specs.Prelude.{ℕ, ◌+◌, ◌*◌, ◌/◌, ◌%◌, min, Bool, not, ◌&&◌, cond, Option, Some, None, List, [], ◌∷◌, leb, eqb, length, get_or}
use Rattle.sets.specs.Sums.{first}
use Rattle.rows.specs.Judge.{Check, check, check_at, judge}
use Rattle.rows.specs.Numbers.{done, table_length, cores, row_range}
use Rattle.rows.specs.declared.table.Row.{Row}

-- what the checks of a table answer: the number, and with 3 the lowest row at fault
pub record Checked : Type 0 where
  pub number : ℕ
  pub row : ℕ

-- 1 ≤ C ≤ D ≤ T ≤ 10,000,000
unfoldable pub in_range : Row → Bool
in_range r = leb 1 r.c && leb r.c r.d && leb r.d r.t && leb r.t 10_000_000

-- the three words of row i
abbrev pub words_at : List ℕ → ℕ → Row
words_at words i =
    record { c = get_or words (3 * i) 0; d = get_or words (3 * i + 1) 0; t = get_or words (3 * i + 2) 0 }

-- row i as it is read: the row, or none where it is at fault
unfoldable pub read_at : List ℕ → ℕ → Option Row
read_at words i = cond (in_range (words_at words i)) (Some (words_at words i)) None

-- the row that was read; a fault stands for a row that never works
abbrev pub row_of : Option Row → Row
row_of (Some r) = r
row_of None = record { c = 0; d = 0; t = 0 }

-- the table that the words are: row i of it
abbrev pub table : List ℕ → ℕ → Row
table words i = row_of (read_at words i)

unfoldable pub row_count : List ℕ → ℕ
row_count words = min (length words / 3) 96

-- row i breaks its range
abbrev pub faulty : List ℕ → ℕ → Bool
faulty words i = not (in_range (words_at words i))

-- the lowest of the first n rows that breaks its range; n where none does
unfoldable pub first_fault : List ℕ → ℕ → ℕ
first_fault words n = first (faulty words) n 0

-- the first checks of every function over a table
abbrev pub length_check : List ℕ → Check
length_check words = check (eqb (length words % 3) 0 && leb (length words / 3) 96) table_length

abbrev pub cores_check : ℕ → Check
cores_check m = check (leb 1 m && leb m 32) cores

abbrev pub rows_check : List ℕ → Check
rows_check words =
    check_at (leb (length words / 3) (first_fault words (length words / 3))) row_range (first_fault words (length words / 3))

abbrev pub table_checks : List ℕ → ℕ → List Check
table_checks words m = length_check words ∷ cores_check m ∷ rows_check words ∷ []

unfoldable pub table_fault : List ℕ → ℕ → Checked
table_fault words m =
    judge (table_checks words m) (λ number place. record { number = number; row = place }) (record { number = done; row = 0 })
