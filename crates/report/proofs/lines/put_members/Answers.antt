use Rattle.std.proofs.Common.{ℕ, suc, ◌≡◌, false, List, refl, ap, add-one, ◌∙◌}
use Rattle.sets.specs.Rows.{rows_between}
use Rattle.sets.specs.RowsLaws.{walk_start, walk_on, walk_end}
use Rattle.sets.specs.Sets.{has}
use Rattle.sets.specs.declared.Set.{Set}
use Rattle.report.specs.Text.{lines}
use Rattle.report.specs.Page.{put}
use Rattle.report.specs.Listing.{member_line}
use Rattle.report.specs.declared.page.Page.{Page}
use Rattle.report.proofs.ListingLaws.{member_line_lem, no_member}
use Rattle.report.proofs.PageLaws.{put_line}
use Rattle.report.proofs.lines.put_members.Goals as goal

-- a row that is no member has no line
skip : (words : List ℕ) (m : ℕ) (group : Set) (first page : Page) (j : ℕ) → has group j ≡ false
    → page ≡ put first (lines j (member_line words m (has group))) → page ≡ put first (lines (suc j) (member_line words m (has group)))
skip words m group first page j off q =
    let none : page ≡ put page (member_line words m (has group) j) = rw (no_member words m group j off) refl in
    rw add-one at (put_line first (member_line words m (has group)) j q none)

pub loop-i-init : goal.loop-i-init
loop-i-init c =
    walk_start (c.into_iter-i-iterator.ensures.into_iter_gives ∙ c.rows-i-items.ensures ∙ ap (rows_between (has c.args.group) 0) c.row_count.ensures) refl

pub loop-i-preserved : goal.loop-i-preserved
loop-i-preserved c =
    let t = c.args.table in
    let words = t.words.now in
    let group = c.args.group in
    walk_on (skip words t.m group _ _) c.loop-i.invariant c.in-Some.ensures.steps
    (λ l member q.
    let row = rw (c.without.ensures, member_line_lem words t.m group _ member) at c.put_row.ensures in
    rw add-one at (put_line _ (member_line words t.m (has group)) _ q row))

pub returns : goal.returns
returns c = walk_end (skip c.args.table.words.now c.args.table.m c.args.group _ _) c.loop-i.invariant c.in-None.ensures.steps.0
