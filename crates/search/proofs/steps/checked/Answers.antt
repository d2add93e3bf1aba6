-- The checks are those of the definition, in its order: those of the table, then that the state is sound.
-- Assumes nothing.
use Rattle.std.proofs.Common.{ℕ, ◌≡◌, refl, sym, ap, List}
use Rattle.std.specs.Prelude.{Option, Some, None}
use Rattle.std.specs.Option.{ok_or}
use Rattle.std.proofs.lemmas.Result.{err_from_is_err_and}
use Rattle.sets.specs.declared.Set.{Set}
use Rattle.rows.specs.Numbers.{done}
use Rattle.rows.specs.Table.{Checked, row_count, table_fault}
use Rattle.rows.specs.Board.{limited}
use Rattle.rows.specs.declared.refusal.Refusal.TheVariants.{Unsound}
use Rattle.rows.specs.declared.terms.Terms.{Terms}
use Rattle.rows.proofs.TableLaws.{row_count_most}
use Rattle.search.specs.State.{left_of}
use Rattle.search.specs.StateLaws.{left_none}
use Rattle.search.specs.StepLaws.{step_unsound}
use Rattle.search.specs.declared.state.State.{State}
use Rattle.search.specs.Told.{StepChecked}
use Rattle.search.proofs.ToldLaws.{step_told_refused}
use Rattle.search.proofs.steps.checked.Goals as goal

-- with a table that passed, the state decides
by_state : (words : List ℕ) (t : Terms) (s : State) → (table_fault words t.m).number ≡ done → (o : Option Set) → left_of (row_count words) s ≡ o
    → StepChecked words t s (ok_or o Unsound)
by_state words t s passed (Some left) e = (passed, e)
by_state words t s passed None e = λ quota. step_unsound words t s quota passed (left_none (row_count words) s e)

pub returns-in_err-check_table : goal.returns-in_err-check_table
returns-in_err-check_table c =
    let p = err_from_is_err_and c.from_residual.result c.from_residual.ensures.1 in
    rw (p.1, p.2) (step_told_refused c.args.words.now (limited c.args.m) _ c.in_err-check_table.ensures c.args.state.now)

pub left-requires : goal.left-requires
left-requires c = rw c.row_count.ensures (row_count_most c.args.words.now)

pub returns : goal.returns
returns c =
    let passed = sym (ap (λ (f : Checked). f.number) c.in_ok-check_table.ensures) in
    rw (c.ok_or.ensures.value, c.left.ensures, c.row_count.ensures) (by_state _ (limited c.args.m) c.args.state.now passed _ refl)
