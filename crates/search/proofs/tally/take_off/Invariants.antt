-- The invariant: the entries of the rows passed are their sums, and those of the others still hold what row k takes.
-- Each turn takes that off one entry, where it is known. Assumes nothing.
use Rattle.sets.specs.RowsLaws.{Walk}
use Rattle.sets.specs.Sets.{has}
use Rattle.rows.specs.Table.{row_count}
use Rattle.search.specs.TallyLaws.{Taking}
use Rattle.search.proofs.tally.take_off.Given as goal

abbrev pub invariant-loop-i : goal.invariant-loop-i
invariant-loop-i l = Walk (has l.rest) (row_count l.words) (Taking l.words l.rest l.k l.sums) l.i-iterator
