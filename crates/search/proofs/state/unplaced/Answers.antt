use Rattle.std.proofs.Common.{◌≡◌, refl, sym, ◌∙◌}
use Rattle.search.specs.StateLaws.{takes_start, takes_next, takes_fails}
use Rattle.search.proofs.state.unplaced.Goals as goal

pub loop-row-init : goal.loop-row-init
loop-row-init c =
    let whole : c.into_iter-row-iterator.result.iter.rest.now ≡ c.args.placed.now = cc in
    rw (whole, c.below-rows.ensures) (takes_start _ _)

pub returns-then-not-has : goal.returns-then-not-has
returns-then-not-has c =
    let here = rw c.in-Some.ensures.steps at c.loop-row.invariant in
    rw (takes_fails _ c.in-Some.field-0.now c.requires here (sym c.has.ensures ∙ c.if-not-has.true)) refl

pub loop-row-preserved : goal.loop-row-preserved
loop-row-preserved c =
    let here = rw c.in-Some.ensures.steps at c.loop-row.invariant in
    rw c.without-rows.ensures (takes_next _ c.in-Some.field-0.now c.requires here (sym c.has.ensures ∙ c.if-not-has.false))
