-- The answer of a proposal in the numbers of document 01. The order is in the output.
-- Assumes nothing.
use Rattle.std.specs.Prelude.{Result, Ok, Err}
use Rattle.rows.specs.Numbers.{done}
use Rattle.rows.specs.Refusals.{refusal_number, refusal_row}
use Rattle.rows.specs.declared.refusal.Refusal.{Refusal}
use Rattle.policy.specs.Policy.{Proposed, answer}

abbrev pub told_proposal : Result (Unit {0}) Refusal → Proposed
told_proposal (Ok _) = answer done 0
told_proposal (Err refusal) = answer (refusal_number refusal) (refusal_row refusal)
