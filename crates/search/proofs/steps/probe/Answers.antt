-- The test decides: a row that passes is placed and taken out of the rows left, a row that fails sets the cursor behind it.
-- Assumes nothing.
use Rattle.std.proofs.Common.{arith}
use Rattle.rows.proofs.TableLaws.{row_count_most}
use Rattle.search.proofs.steps.probe.Goals as goal

pub place-requires : goal.place-requires
place-requires c =
    rw (c.row_count.ensures, c.passes.ensures.same.0)
    (row_count_most c.args.tally.now.board.words.now, c.requires.1, c.requires.0.0)

pub overflow_add-state : goal.overflow_add-state
overflow_add-state c = omega (arith, row_count_most c.args.tally.now.board.words.now)
