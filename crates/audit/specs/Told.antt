-- The answers of the two checkers in the numbers of document 01.
-- Assumes nothing.
use Rattle.std.specs.Prelude.{ℕ, Option, Some, None, Result, Ok, Err}
use Rattle.rows.specs.Numbers.{done, order_fails, member_passes}
use Rattle.rows.specs.Refusals.{refusal_number, refusal_row}
use Rattle.rows.specs.declared.refusal.Refusal.{Refusal}
use Rattle.audit.specs.Audit.{OrderChecked, GroupChecked, order_refusal, group_refusal}
use Rattle.audit.specs.declared.orders.Failing.{Failing}

-- of an order: every level passes, or the lowest that fails
abbrev pub told_order : Result (Option Failing) Refusal → OrderChecked
told_order (Ok None) = record { number = done; row = 0; level = 0; used = 0 }
told_order (Ok (Some f)) = record { number = order_fails; row = 0; level = f.level; used = f.used }
told_order (Err why) = order_refusal (refusal_number why) (refusal_row why)

-- of a group: every member fails, or the lowest that passes
abbrev pub told_group : Result (Option ℕ) Refusal → GroupChecked
told_group (Ok None) = record { number = done; row = 0 }
told_group (Ok (Some row)) = record { number = member_passes; row = row }
told_group (Err why) = group_refusal (refusal_number why) (refusal_row why)
