-- The invariant: the set above has the rows of the order but those of the levels below the one at hand, and the lowest of the levels
-- from it up that fails is the lowest of all. A level that fails ends the scan there, one that passes takes it one level up. Assumes nothing.
use Rattle.std.specs.Prelude.{◌≡◌, drop}
use Rattle.sets.specs.Sets.{set_of}
use Rattle.rows.specs.Table.{row_count}
use Rattle.rows.specs.Board.{seen}
use Rattle.test.specs.Test.{passes}
use Rattle.search.specs.Search.{rows_below, free}
use Rattle.audit.specs.Audit.{lowest_of, lowest_failing}
use Rattle.audit.proofs.orders.check_levels.Given as goal

abbrev pub invariant-loop-higher : goal.invariant-loop-higher
invariant-loop-higher l =
    record {
      others : l.above ≡ set_of (free (rows_below (row_count l.board.words.now)) (drop l.higher l.order));
      lowest : lowest_of (passes (seen l.board)) l.order l.higher ≡ lowest_failing (passes (seen l.board)) l.order;
    }
