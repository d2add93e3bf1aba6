use Rattle.std.specs.Prelude.{refl}
use Rattle.std.proofs.Common.{arith}
use Rattle.report.specs.Listing.{level_line}
use Rattle.report.proofs.ListingLaws.{level_line_lem, none_above, next_above}
use Rattle.report.proofs.PageLaws.{put_line}
use Rattle.report.proofs.lines.put_levels.Goals as goal

pub loop-j-init : goal.loop-j-init
loop-j-init c = (none_above c.args.order.now, refl)

pub loop-j-preserved : goal.loop-j-preserved
loop-j-preserved c =
    let t = c.args.table in
    let order = c.args.order.now in
    let above = c.loop-j.invariant.0 in (
      rw (c.with-above.ensures, above, c.from-k.ensures) (next_above order c.loop-j.j (omega arith)),
      put_line _ (level_line t.words.now t.m order) c.loop-j.j c.loop-j.invariant.1
          (rw (above, c.from-k.ensures, level_line_lem t.words.now t.m order c.loop-j.j) at c.put_level.ensures),
    )
