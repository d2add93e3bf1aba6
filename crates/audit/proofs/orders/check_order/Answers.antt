-- Each answer is the law of the check that decides it: those of the table, then the order's form, then its levels.
-- The levels are scanned only of an order, which is what that scan requires. Assumes nothing.
use Rattle.std.proofs.Common.{sym, ap, ◌∙◌}
use Rattle.std.proofs.lemmas.Result.{err_from_is_err_and}
use Rattle.rows.specs.Table.{Checked}
use Rattle.rows.specs.Board.{limited}
use Rattle.rows.proofs.TableLaws.{row_count_most}
use Rattle.audit.proofs.OrderLaws.{order_malformed, order_levels}
use Rattle.audit.proofs.ToldLaws.{order_told_refused}
use Rattle.audit.proofs.orders.check_order.Goals as goal

pub returns-in_err-check_table : goal.returns-in_err-check_table
returns-in_err-check_table c =
    let p = err_from_is_err_and c.from_residual.result c.from_residual.ensures.1 in
    rw (p.1, p.2) (order_told_refused c.args.words.now (limited c.args.m) _ c.in_err-check_table.ensures c.args.order.now)

pub is_order-requires : goal.is_order-requires
is_order-requires c = rw c.row_count.ensures (row_count_most _)

pub returns-then-not-is_order : goal.returns-then-not-is_order
returns-then-not-is_order c =
    let passed = sym (ap (λ (f : Checked). f.number) c.in_ok-check_table.ensures) in
    let formed = rw (c.row_count.ensures, c.limited-board.ensures.words) at c.is_order.ensures in
    sym (order_malformed _ _ _ passed (sym formed ∙ c.if-not-is_order.true))

pub returns : goal.returns
returns c =
    let passed = sym (ap (λ (f : Checked). f.number) c.in_ok-check_table.ensures) in
    let formed = rw (c.row_count.ensures, c.limited-board.ensures.words) at c.is_order.ensures in
    let levels = rw (c.limited-board.ensures.words, c.limited-board.ensures.terms) at c.check_levels.ensures in
    levels ∙ sym (order_levels _ _ _ passed (sym formed ∙ c.if-not-is_order.false))
