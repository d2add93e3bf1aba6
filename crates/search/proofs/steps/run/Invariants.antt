-- The invariant: the run stands at a progress of distinct rows, and what is left of the quota makes the rest of it.
-- Each turn is one probe of the search, and the run ends where no row is left to test or the quota is spent. Assumes nothing.
use Rattle.std.proofs.Common.{◌≡◌}
use Rattle.rows.specs.Board.{seen}
use Rattle.search.specs.StepLaws.{Stands}
use Rattle.search.proofs.steps.run.Given as goal

abbrev pub invariant-loop : goal.invariant-loop
invariant-loop l =
    record {
      board : l.tally.board ≡ l.board;
      tests : l.tests ≡ l.counter;
      stands : Stands (seen l.board) l.quota l.initial.state (record { state = l.state; left = l.tally.left }) l.tests;
    }
