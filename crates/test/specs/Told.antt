-- The answer of the single test in the numbers of document 01.
-- Assumes nothing.
use Rattle.std.specs.Prelude.{Result, Ok, Err}
use Rattle.rows.specs.Numbers.{done}
use Rattle.rows.specs.Refusals.{refusal_number, refusal_row}
use Rattle.rows.specs.declared.refusal.Refusal.{Refusal}
use Rattle.test.specs.Test.{Judged, refusal}
use Rattle.test.specs.declared.Tested.{Tested}

abbrev pub told_test : Result Tested Refusal → Judged
told_test (Ok tested) = record { number = done; row = 0; passes = tested.passes; used = tested.used }
told_test (Err why) = refusal (refusal_number why) (refusal_row why)
