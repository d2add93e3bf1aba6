-- What the test of a row depends on, and how words and terms are it.
-- Assumes nothing.
use Rattle.std.specs.Prelude.{ℕ, ◌-◌, List}
use Rattle.rows.specs.Table.{table, row_count}
use Rattle.rows.specs.declared.table.Row.{Row}
use Rattle.rows.specs.declared.terms.Terms.{Terms}
use Rattle.rows.specs.declared.board.Board.{Board as Lent}

-- n rows, t 0 to t (n - 1); m cores; c is how many of the rows above count with their carry-in
pub record Board : Type 0 where
  pub n : ℕ
  pub t : ℕ → Row
  pub m : ℕ
  pub c : ℕ

-- m cores and m − 1 carry-ins, as in document 01
abbrev pub limited : ℕ → Terms
limited m = record { m = m; carried = m - 1 }

abbrev pub board_of : List ℕ → Terms → Board
board_of words terms = record { n = row_count words; t = table words; m = terms.m; c = terms.carried }

-- the board that lent words and terms are
abbrev pub seen : Lent → Board
seen b = board_of b.words.now b.terms

-- the board with another number of carry-ins, and with other rows
abbrev pub carrying : Board → ℕ → Board
carrying b c = record { n = b.n; t = b.t; m = b.m; c = c }

abbrev pub holding : Board → (ℕ → Row) → Board
holding b t = record { n = b.n; t = t; m = b.m; c = b.c }

-- a board by its parts
abbrev pub board : ℕ → (ℕ → Row) → ℕ → ℕ → Board
board n t m c = record { n = n; t = t; m = m; c = c }
