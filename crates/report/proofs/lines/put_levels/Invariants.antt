-- The invariant: the lines of the levels passed are put, and `above` holds their rows.
-- A turn puts the next line and adds its row. Assumes nothing.
use Rattle.std.proofs.Common.{◌≡◌, take}
use Rattle.sets.specs.Sets.{set_of}
use Rattle.search.specs.Demand.{among}
use Rattle.report.specs.Text.{lines}
use Rattle.report.specs.Page.{put}
use Rattle.report.specs.Listing.{level_line}
use Rattle.report.proofs.lines.put_levels.Given as goal

abbrev pub invariant-loop-j : goal.invariant-loop-j
invariant-loop-j l =
    (l.above ≡ set_of (among (take l.j l.order)))
    × (l.page ≡ put l.initial.page (lines l.j (level_line l.table.words.now l.table.m l.order)))
