-- No entry is known, so that nothing is claimed of any.
-- Assumes nothing.
use Rattle.search.specs.TallyLaws.{tally_fresh}
use Rattle.search.proofs.tally.Tally.new.Goals as goal

pub invariant_of-result : goal.invariant_of-result
invariant_of-result c = record { tallied = tally_fresh _ _ _ c.requires }
