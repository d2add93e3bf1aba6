-- What the private functions of reading answer: the first check that failed, or none.
-- Assumes nothing.
use Rattle.std.specs.Prelude.{ℕ, List, Result, Ok, Err}
use Rattle.rows.specs.Judge.{Check, judge}
use Rattle.rows.specs.Refusals.{refusal_number}
use Rattle.rows.specs.declared.refusal.Refusal.{Refusal}
use Rattle.rows.specs.declared.refusal.Refusal.TheVariants.{RowRange, BlockNumber, BlockCheck}

-- the number of a check that failed, and its block or row; or none
pub data Fault : Type 0 where
  At : ℕ → ℕ → Fault
  Clear : Fault

abbrev pub fault_of : List Check → Fault
fault_of checks = judge checks At Clear

-- the row or the block at fault; 0 of a refusal that names none
abbrev pub refusal_place : Refusal → ℕ
refusal_place (RowRange row) = row
refusal_place (BlockNumber block) = block
refusal_place (BlockCheck block) = block
refusal_place _ = 0

-- the fault of an answer
abbrev pub told_fault : {A : Type 0} → Result A Refusal → Fault
told_fault (Ok _) = Clear
told_fault (Err refusal) = At (refusal_number refusal) (refusal_place refusal)
