-- Each answer is the law of the check that decides it: those of the table, then the group's form, then whether a member passes.
-- The row found is below n exactly where one does. Assumes nothing.
use Rattle.std.proofs.Common.{sym, ap, ◌∙◌}
use Rattle.std.proofs.lemmas.Result.{err_from_is_err_and}
use Rattle.rows.specs.Table.{Checked}
use Rattle.rows.specs.Board.{limited}
use Rattle.audit.proofs.GroupLaws.{group_malformed, group_members}
use Rattle.audit.proofs.ToldLaws.{group_told_refused, member_told}
use Rattle.audit.proofs.groups.check_group.Goals as goal

pub returns-in_err-check_table : goal.returns-in_err-check_table
returns-in_err-check_table c =
    let p = err_from_is_err_and c.from_residual.result c.from_residual.ensures.1 in
    rw (p.1, p.2) (group_told_refused c.args.words.now (limited c.args.m) _ c.in_err-check_table.ensures c.args.group)

pub returns-then-not-is_group : goal.returns-then-not-is_group
returns-then-not-is_group c =
    let passed = sym (ap (λ (f : Checked). f.number) c.in_ok-check_table.ensures) in
    let formed = rw (c.row_count-n.ensures, c.limited-board.ensures.words) at c.is_group.ensures in
    sym (group_malformed _ _ _ passed (sym formed ∙ c.if-not-is_group.true))

pub returns : goal.returns
returns c =
    let passed = sym (ap (λ (f : Checked). f.number) c.in_ok-check_table.ensures) in
    let formed = rw (c.row_count-n.ensures, c.limited-board.ensures.words) at c.is_group.ensures in
    let lowest = rw (c.row_count-n.ensures, c.limited-board.ensures.words, c.limited-board.ensures.terms) at c.lowest_passing.ensures in
    rw lowest (member_told _ _ ∙ sym (group_members _ _ _ passed (sym formed ∙ c.if-not-is_group.false)))
