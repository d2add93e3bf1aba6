-- The invariant: the lines of the rows that the walk has passed are put.
-- A turn puts the next row's, and a row that is no member has none. Assumes nothing.
use Rattle.std.proofs.Common.{◌≡◌}
use Rattle.sets.specs.RowsLaws.{Walk}
use Rattle.sets.specs.Sets.{has}
use Rattle.rows.specs.Table.{row_count}
use Rattle.report.specs.Text.{lines}
use Rattle.report.specs.Page.{put}
use Rattle.report.specs.Listing.{member_line}
use Rattle.report.proofs.lines.put_members.Given as goal

abbrev pub invariant-loop-i : goal.invariant-loop-i
invariant-loop-i l =
    Walk (has l.group) (row_count l.table.words.now)
    (λ p. l.page ≡ put l.initial.page (lines p (member_line l.table.words.now l.table.m (has l.group)))) l.i-iterator
