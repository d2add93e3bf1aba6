-- The first test is the definition's as it stands, and what it stores stands for no sum. Later the entry of the row is its sum, if
-- need be made now, and with it the test is the definition's too. Assumes nothing.
use Rattle.std.proofs.Common.{◌≡◌, refl, sym, ◌∙◌}
use Rattle.sets.specs.SumLaws.{some_below_some}
use Rattle.test.proofs.TestLaws.{passes_with_lem}
use Rattle.search.specs.Tally.{left_sum}
use Rattle.search.proofs.tally.Tally.passes.Goals as goal
use Rattle.search.proofs.tally.Tally.passes.Goals.{After-passes_with, in-Some, in-None}

-- the sum with which the test is made
made : (c : After-passes_with) → c.match-sum_in.sum ≡ left_sum c.args.self.now.board.words.now c.args.self.now.left c.args.k
made c = elim c.match-sum_in.branch [
  | in-Some w ↦
      let sum = some_below_some _ _ (sym c.sum_in.ensures ∙ w.in-Some.is) in
      w.sum-is ∙ sum.0 ∙ c.args.self.now.tallied.known c.args.k c.requires.0 c.requires.1 sum.1
  | in-None w ↦ w.sum-is ∙ w.plain_sum-sum.ensures ∙ rw c.without-above.ensures refl
]

pub returns-clause-value : goal.returns-clause-value
returns-clause-value c = c.passes_with.ensures ∙ rw (made c, c.without-above.ensures) (passes_with_lem _ _ _)
