use Rattle.std.specs.Prelude.{◌≡◌, ◌+◌, ◌-◌, take, drop, get_or}
use Rattle.std.proofs.Common.{refl, sym, ◌∙◌, arith, rules}
use Rattle.sets.specs.Sets.{set_of}
use Rattle.rows.specs.Table.{row_count}
use Rattle.rows.specs.Board.{seen}
use Rattle.rows.proofs.TableLaws.{row_count_most}
use Rattle.test.specs.Test.{passes}
use Rattle.search.specs.Search.{rows_below, free}
use Rattle.search.specs.Demand.{among}
use Rattle.audit.proofs.OrderLaws.{order_entries, left_all, left_level, test_above, used_above, lowest_up, lowest_here, levels_done, levels_fails}
use Rattle.audit.proofs.orders.check_levels.Goals as goal
use Rattle.audit.proofs.orders.check_levels.Goals.{After-passes}

pub loop-higher-init : goal.loop-higher-init
loop-higher-init c =
    let a = c.args in
    let full = order_entries (row_count a.board.words.now) a.order.now c.requires in
    record { others = c.below-above.ensures ∙ rw full (left_all (row_count a.board.words.now) a.order.now full); lowest = refl }

-- the set above holds the rows of the higher levels
above_is : (c : After-passes) → c.without-above.result
    ≡ set_of (free (rows_below (row_count c.args.board.words.now)) (drop (c.loop-higher.higher - 1) c.args.order.now))
above_is c =
    rw c.loop-higher.invariant.others at c.without-above.ensures
    ∙ left_level _ c.args.order.now c.loop-higher.higher (search rules) (search rules)

-- so that the test made is that of the level
test_is : (c : After-passes) → c.passes.result
    ≡ passes (seen c.args.board) (among (take (c.loop-higher.higher - 1) c.args.order.now)) (get_or c.args.order.now (c.loop-higher.higher - 1) 0)
test_is c =
    rw (above_is c, test_above (seen c.args.board) (row_count_most _) c.args.order.now c.requires (c.loop-higher.higher - 1) _)
    at c.passes.ensures

pub returns-then-not-passes : goal.returns-then-not-passes
returns-then-not-passes c =
    let o = c.args.order.now in
    let b = seen c.args.board in
    let l = c.loop-higher in
    let turn = (goal.at.returns-then-not-passes c).After-passes in
    let fails = lowest_here (passes b) o l.higher (search rules) (sym (test_is turn) ∙ c.if-not-passes.true) in
    let own = rw (above_is turn, used_above b (row_count_most _) o c.requires (l.higher - 1) (get_or o (l.higher - 1) 0)) at c.used.ensures in
    let level : l.higher - 1 + 1 ≡ l.higher = omega arith in
    rw (own, level) (sym (levels_fails b o l.higher (search rules) (sym l.invariant.lowest ∙ fails)))

pub loop-higher-preserved : goal.loop-higher-preserved
loop-higher-preserved c =
    let l = c.loop-higher in
    let turn = (goal.at.loop-higher-preserved c).After-passes in
    let up = lowest_up (passes (seen c.args.board)) c.args.order.now l.higher (search rules) (sym (test_is turn) ∙ c.if-not-passes.false) in
    record { others = above_is turn; lowest = sym up ∙ l.invariant.lowest }

pub returns : goal.returns
returns c =
    let end : c.loop-higher.higher ≡ 0 = omega arith in
    sym (levels_done (seen c.args.board) c.args.order.now (sym (rw end at c.loop-higher.invariant.lowest)))
