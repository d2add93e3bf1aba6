-- The text of any book fits 8,192 bytes, so all of it stands in the buffer and is written.
-- Assumes nothing.
use Rattle.std.proofs.Common.{arith, sym}
use Rattle.std.proofs.lemmas.List.{length-take-le}
use Rattle.report.proofs.SizeLaws.{listing_most}
use Rattle.listing.proofs.main.Goals as goal

pub slice_bounds-text-end : goal.slice_bounds-text-end
slice_bounds-text-end c = grind (arith, listing_most)

pub slice_bounds-write_all-end : goal.slice_bounds-write_all-end
slice_bounds-write_all-end c = sym (length-take-le _ _ (grind (arith, listing_most)))
