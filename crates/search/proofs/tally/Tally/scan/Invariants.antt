-- The invariant: no row passed over passes, and the tests made are the rows left among them.
-- A pass ends the scan there, a row that fails takes it on. Assumes nothing.
use Rattle.std.proofs.Common.{◌≡◌, None}
use Rattle.sets.specs.RowsLaws.{Walk}
use Rattle.sets.specs.Sets.{has}
use Rattle.rows.specs.Board.{seen}
use Rattle.rows.specs.Table.{row_count}
use Rattle.search.proofs.ScanLaws.{Scans}
use Rattle.search.proofs.tally.Tally.scan.Given as goal

abbrev pub invariant-loop-i : goal.invariant-loop-i
invariant-loop-i l =
    record {
      board : l.self.board ≡ l.initial.self.board;
      left : l.self.left ≡ l.initial.self.left;
      none_yet : l.row ≡ None;
      walk : Walk (has l.initial.self.left) (row_count l.initial.self.board.words.now) (Scans (seen l.initial.self.board) l.initial.self.left l.tests) l.i-iterator;
    }
