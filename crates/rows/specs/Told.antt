-- The answer of the checks of a table in the numbers of document 01.
-- Assumes nothing.
use Rattle.std.specs.Prelude.{Result, Ok, Err}
use Rattle.rows.specs.Numbers.{done}
use Rattle.rows.specs.Table.{Checked}
use Rattle.rows.specs.Refusals.{refusal_number, refusal_row}
use Rattle.rows.specs.declared.refusal.Refusal.{Refusal}

abbrev pub told_check : Result (Unit {0}) Refusal → Checked
told_check (Ok _) = record { number = done; row = 0 }
told_check (Err refusal) = record { number = refusal_number refusal; row = refusal_row refusal }
