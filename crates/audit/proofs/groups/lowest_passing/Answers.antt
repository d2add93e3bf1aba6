-- The rows are tried from 0 up, and the first member that passes is answered; none is where no row is one.
-- A row is one where `member_passes` says so. Assumes nothing.
use Rattle.std.proofs.Common.{rules, ◌≡◌, true, false}
use Rattle.std.proofs.lemmas.Iterator.{first_from_Range}
use Rattle.sets.specs.SumLaws.{found_below}
use Rattle.sets.specs.Sets.{has}
use Rattle.rows.specs.Board.{seen}
use Rattle.test.specs.Test.{passes}
use Rattle.search.specs.Answers.{passing}
use Rattle.audit.proofs.groups.lowest_passing.Goals as goal

pub returns : goal.returns
returns c =
    let passing_at = passing (passes (seen c.args.board)) (has c.args.group) in
    found_below passing_at _ _
    (first_from_Range _ _ _ _ (λ i. passing_at i ≡ true) (λ i. passing_at i ≡ false) c.find.ensures.ran
    (λ i q k. search rules) (λ i q k. (search rules, search rules)))
