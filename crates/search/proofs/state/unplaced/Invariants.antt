-- The invariant: the rows of the levels passed are distinct rows below n, and the set has the rows below n but those.
-- A row that is not in the set is one of them or none below n, so that the whole is not distinct. Assumes nothing.
use Rattle.search.specs.StateLaws.{Takes}
use Rattle.search.proofs.state.unplaced.Given as goal

abbrev pub invariant-loop-row : goal.invariant-loop-row
invariant-loop-row l = Takes l.n l.placed l.row-iterator.iter.rest.now l.rows
