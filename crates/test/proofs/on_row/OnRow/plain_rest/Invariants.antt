-- The invariant: what the rows to come leave of the rest is what all leave of the limit. Each turn takes the plain interference of
-- the row at hand off; where nothing is left, the rows to come leave nothing either. Assumes nothing.
use Rattle.std.specs.Prelude.{◌-◌, ◌≡◌, sum_by}
use Rattle.test.specs.Parts.{plain_sum_on, takes}
use Rattle.test.proofs.on_row.OnRow.plain_rest.Given as goal

abbrev pub invariant-loop-i : goal.invariant-loop-i
invariant-loop-i l = l.rest - sum_by (takes l.self) l.i-iterator ≡ l.fn.limit - plain_sum_on l.self l.fn.above
