use Rattle.std.proofs.Common.{ap, arith, sym, ◌∙◌}
use Rattle.sets.specs.Rows.{rows_between}
use Rattle.sets.specs.RowsLaws.{walk_start, walk_on, walk_row, walk_end}
use Rattle.sets.specs.Sets.{has}
use Rattle.sets.specs.SumLaws.{some_below_some, some_below_none}
use Rattle.rows.proofs.TableLaws.{row_count_most}
use Rattle.search.specs.TallyLaws.{taking_start, taking_skip, taking_fits, taking_unknown, taking_less, taking_end}
use Rattle.search.proofs.ScanLaws.{walk_told}
use Rattle.search.proofs.tally.take_off.Goals as goal

pub loop-i-init : goal.loop-i-init
loop-i-init c =
    walk_start (c.into_iter-i-iterator.ensures.into_iter_gives ∙ c.rows-i-items.ensures ∙ ap (rows_between (has c.without-rest.result) 0) c.row_count.ensures)
    (rw c.without-rest.ensures (taking_start c.args.words.now c.args.k c.requires.1 c.requires.0))

pub offset_bounds-sums-i : goal.offset_bounds-sums-i
offset_bounds-sums-i c = omega (arith, walk_row c.loop-i.invariant c.in-Some.ensures.steps, row_count_most c.args.words.now)

pub bounds-sums-i : goal.bounds-sums-i
bounds-sums-i c = omega (arith, walk_row c.loop-i.invariant c.in-Some.ensures.steps, row_count_most c.args.words.now)

pub overflow_sub-sums : goal.overflow_sub-sums
overflow_sub-sums c =
    let sum = some_below_some _ _ (sym c.sum_in.ensures ∙ c.in-Some-sum_in.is) in
    rw (c.plain.ensures, sum.0)
    (walk_told
    (walk_on (taking_skip _ _ _ _) c.loop-i.invariant c.in-Some.ensures.steps (λ l t w. taking_fits _ l t w sum.1)))

pub offset_bounds-sums-i-in-Some-sum_in : goal.offset_bounds-sums-i-in-Some-sum_in
offset_bounds-sums-i-in-Some-sum_in c = omega (arith, walk_row c.loop-i.invariant c.in-Some.ensures.steps, row_count_most c.args.words.now)

pub bounds-sums-i-in-Some-sum_in : goal.bounds-sums-i-in-Some-sum_in
bounds-sums-i-in-Some-sum_in c = omega (arith, walk_row c.loop-i.invariant c.in-Some.ensures.steps, row_count_most c.args.words.now)

pub loop-i-preserved-in-Some-sum_in : goal.loop-i-preserved-in-Some-sum_in
loop-i-preserved-in-Some-sum_in c =
    let sum = some_below_some _ _ (sym c.sum_in.ensures ∙ c.in-Some-sum_in.is) in
    rw sum.0
    (walk_on (taking_skip _ _ _ _) c.loop-i.invariant c.in-Some.ensures.steps
    (λ l t w. taking_less _ l t w c.plain.result c.plain.ensures sum.1))

pub loop-i-preserved : goal.loop-i-preserved
loop-i-preserved c =
    let none = some_below_none _ _ (sym c.sum_in.ensures ∙ c.in_default.is) in
    walk_on (taking_skip _ _ _ _) c.loop-i.invariant c.in-Some.ensures.steps (λ l t w. taking_unknown _ l t w none)

pub returns-clause-tallied : goal.returns-clause-tallied
returns-clause-tallied c =
    rw c.without-rest.ensures at (taking_end _ (walk_end (taking_skip _ _ _ _) c.loop-i.invariant c.in-None.ensures.steps.0))
