-- A row that is no member is none that passes. A member passes where the test says so, the mask without it being the other members.
-- Assumes nothing.
use Rattle.std.proofs.Common.{sym, ◌∙◌}
use Rattle.rows.specs.Board.{seen}
use Rattle.rows.proofs.TableLaws.{row_count_most}
use Rattle.search.specs.TestOfLaws.{test_without}
use Rattle.audit.proofs.groups.member_passes.Goals as goal

pub returns-then-has : goal.returns-then-has
returns-then-has c =
    let a = c.args in
    rw (sym c.has.ensures ∙ c.if-has.true)
    (rw (c.without.ensures, test_without (seen a.board) (row_count_most a.board.words.now) a.group a.row) at c.passes.ensures)
