-- The listing is put on a page that lends the whole output, from its start on.
-- No listing comes near the largest position, so it stands over the output, and the position is its length. Assumes nothing.
use Rattle.std.proofs.Common.{ap, ◌∙◌, arith, rules, zero-add}
use Rattle.report.specs.declared.page.Page.{Page}
use Rattle.report.specs.Listing.{listing_of}
use Rattle.report.proofs.PageLaws.{put_over}
use Rattle.report.proofs.SizeLaws.{listing_most}
use Rattle.report.proofs.list.Goals as goal

pub returns : goal.returns
returns c =
    let book = c.args.book.now in
    let page = c.put_listing.ensures ∙ put_over _ (listing_of book) (omega (arith, listing_most book)) in
    let same = ap (λ (p : Page). p.out.ghost_name) page in
    let bytes = ap (λ (p : Page). p.out.now) page in
    record { size = rw zero-add at (ap (λ (p : Page). p.end) page); text = search rules }
