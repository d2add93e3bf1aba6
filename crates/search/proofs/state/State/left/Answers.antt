-- The checks are those of the definition: `placed` and `cursor` against n, the blank entries on either side, and the rows placed, taken out one by one.
-- Assumes nothing.
use Rattle.std.proofs.Common.{◌≡◌, ◌-◌, sym, ◌∙◌, refl, arith}
use Rattle.sets.specs.BoolLaws.{not_both}
use Rattle.search.specs.State.{rows_placed, left_of}
use Rattle.search.specs.StateLaws.{unsound_is, sound_rows, blank_all}
use Rattle.search.proofs.state.State.left.Goals as goal
use Rattle.search.proofs.state.State.left.Goals.{then-n-self-via-then-n-self, then-n-self-via-else-n-self+then-n-self-2}
use Rattle.search.proofs.state.State.left.Goals.{then-not-is_blank-via-then-not-is_blank, then-not-is_blank-via-else-not-is_blank+then-not-is_blank-2}

pub returns-then-n-self : goal.returns-then-n-self
unfolding left_of
returns-then-n-self c =
    rw
    (unsound_is c.args.n c.args.self.now
    (λ S.
    elim c.then-n-self.branch [
      | then-n-self-via-then-n-self w ↦ omega (arith, S.placed_most)
      | then-n-self-via-else-n-self+then-n-self-2 w ↦ omega (arith, S.cursor_most)
    ]))
    refl

pub returns-then-not-is_blank : goal.returns-then-not-is_blank
unfolding left_of
returns-then-not-is_blank c =
    let order = c.args.self.now.order in
    let above = sym (blank_all order (c.args.n - c.args.self.now.placed) 0 (omega arith)) ∙ sym c.is_blank.ensures in
    rw
    (unsound_is c.args.n c.args.self.now
    (λ S.
    elim c.then-not-is_blank.branch [
      | then-not-is_blank-via-then-not-is_blank w ↦ not_both S.above (above ∙ w.if-not-is_blank.true)
      | then-not-is_blank-via-else-not-is_blank+then-not-is_blank-2 w ↦
          let below = sym (blank_all order _ c.args.n (omega arith)) ∙ sym w.is_blank-else-not-is_blank.ensures in
          not_both S.below (below ∙ w.if-not-is_blank-2.true)
    ]))
    refl

pub returns : goal.returns
unfolding rows_placed left_of
returns c =
    let order = c.args.self.now.order in
    let above = sym (blank_all order (c.args.n - c.args.self.now.placed) 0 (omega arith)) ∙ sym c.is_blank.ensures ∙ c.if-not-is_blank.false in
    let below = sym (blank_all order _ c.args.n (omega arith)) ∙ sym c.is_blank-else-not-is_blank.ensures ∙ c.if-not-is_blank-2.false in
    let placed : c.args.n - (c.args.n - c.args.self.now.placed) ≡ c.args.self.now.placed = omega arith in
    rw (sound_rows c.args.n c.args.self.now c.if-n-self.false c.if-n-self-2.false above below) (rw placed at c.unplaced.ensures)
