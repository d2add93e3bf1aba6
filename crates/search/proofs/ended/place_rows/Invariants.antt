-- The invariant: a search from fresh, with any quota to spare, comes in the tests made to the rows placed, which the order and the mask show.
-- A level takes it one row on or ends it, and with every row placed it has ended. Assumes nothing.
use Rattle.std.proofs.Common.{◌*◌, ◌≤◌, ◌≡◌}
use Rattle.sets.specs.Sets.{has}
use Rattle.rows.specs.Board.{seen}
use Rattle.search.specs.EndedLaws.{Levels}
use Rattle.search.proofs.ended.place_rows.Given as goal

abbrev pub invariant-loop : goal.invariant-loop
invariant-loop l =
    record {
      board : l.tally.board ≡ l.board;
      placed : l.end.placed ≡ l.counter;
      few : l.end.tests ≤ 96 * l.counter;
      left : l.tally.left ≡ l.end.left;
      levels : Levels (seen l.board) (has l.initial.end.left) (record { order = l.end.order; placed = l.end.placed; cursor = 0 }) l.end.left l.end.tests;
    }
