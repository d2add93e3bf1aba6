-- The answers of the search, in one call and in quota steps, in the numbers of document 01.
-- Assumes nothing.
use Rattle.std.specs.Prelude.{ℕ, ◌≡◌, Some, List, Result, Ok, Err}
use Rattle.sets.specs.Sets.{none}
use Rattle.sets.specs.declared.Set.{Set}
use Rattle.rows.specs.Numbers.{done, blocked, unfinished}
use Rattle.rows.specs.Refusals.{refusal_number, refusal_row}
use Rattle.rows.specs.declared.refusal.Refusal.{Refusal}
use Rattle.rows.specs.declared.terms.Terms.{Terms}
use Rattle.rows.specs.Table.{row_count, table_fault}
use Rattle.search.specs.State.{left_of}
use Rattle.search.specs.Answers.{Stepped, refusal, handed_back, stepped_of}
use Rattle.search.specs.declared.state.State.{State}
use Rattle.search.specs.declared.call.Found.{Found}
use Rattle.search.specs.declared.call.Searched.{Searched}
use Rattle.search.specs.declared.call.Searched.TheVariants.{Order, Blocked}
use Rattle.search.specs.declared.steps.Outcome.{Outcome}
use Rattle.search.specs.declared.steps.Outcome.TheVariants.{Order as Ordered, Blocked as Stranded, Unfinished}
use Rattle.search.specs.declared.steps.Stepped.{Stepped as Step}

abbrev pub told_search : Result Searched Refusal → Found
told_search (Ok (Order tests)) = record { number = done; row = 0; group = none; tests = tests }
told_search (Ok (Blocked group tests)) = record { number = blocked; row = 0; group = group; tests = tests }
told_search (Err why) = refusal (refusal_number why) (refusal_row why)

-- the number of a step's answer, the row at fault, and the blocked group
abbrev pub told_number : Result Outcome Refusal → ℕ
told_number (Ok Ordered) = done
told_number (Ok (Stranded group)) = blocked
told_number (Ok Unfinished) = unfinished
told_number (Err why) = refusal_number why

abbrev pub told_row : Result Outcome Refusal → ℕ
told_row (Ok Ordered) = 0
told_row (Ok (Stranded group)) = 0
told_row (Ok Unfinished) = 0
told_row (Err why) = refusal_row why

abbrev pub told_group : Result Outcome Refusal → Set
told_group (Ok Ordered) = none
told_group (Ok (Stranded group)) = group
told_group (Ok Unfinished) = none
told_group (Err why) = none

abbrev pub told_step : Step → Stepped
told_step s =
    record {
      number = told_number s.answer;
      row = told_row s.answer;
      group = told_group s.answer;
      tests = s.tests;
      state = s.state;
    }

-- ---- parts of the code

-- what the checks of a step find: the rows left of a sound state, or why the step is refused
abbrev pub StepChecked : List ℕ → Terms → State → Result Set Refusal → Type 0
StepChecked words terms s (Ok left) = ((table_fault words terms.m).number ≡ done) × (left_of (row_count words) s ≡ Some left)
StepChecked words terms s (Err why) = (quota : ℕ) → stepped_of words terms s quota ≡ handed_back s (refusal_number why) (refusal_row why)
