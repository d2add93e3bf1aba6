-- What a row and a table are known to be once their checks have passed.
-- Assumes nothing.
use Rattle.std.specs.Prelude.{ℕ, ◌*◌, ◌≤◌, ◌<◌, ◌≡◌, List, length}
use Rattle.rows.specs.Table.{words_at, table, row_count}
use Rattle.rows.specs.declared.table.Row.{Row}

pub record Ranged (r : Row) : Type 0 where
  pub some : 1 ≤ r.c
  pub within : r.c ≤ r.d
  pub constrained : r.d ≤ r.t
  pub short : r.t ≤ 10_000_000

-- a table and core count that passed
pub record Valid (words : List ℕ) (m : ℕ) : Type 0 where
  pub some_cores : 1 ≤ m
  pub most_cores : m ≤ 32
  pub whole : length words ≡ 3 * row_count words
  pub most_rows : row_count words ≤ 96
  pub ranged : (i : ℕ) → i < row_count words → Ranged (table words i)
  pub words_are : (i : ℕ) → i < row_count words → table words i ≡ words_at words i
