-- A book that reading refuses has the text of its number, and of one that was read the table at the start of the words is listed.
-- Assumes nothing.
use Rattle.std.specs.Prelude.{refl, Ok}
use Rattle.std.proofs.Common.{sym, arith, length-take-le}
use Rattle.rows.proofs.RefusalLaws.{refused_not_done}
use Rattle.book.specs.Told.{told_read}
use Rattle.book.proofs.BookLaws.{Handed, handed, lent}
use Rattle.report.proofs.ListingLaws.{listing_refused, listing_read}
use Rattle.report.proofs.put_listing.Goals as goal
use Rattle.report.proofs.put_listing.Goals.{In-Ok}

handed_over : (c : In-Ok) → Handed c.args.book.now 288 c.read.new.words (told_read (Ok c.in-Ok.read))
handed_over c = handed _ lent _ _ c.in-Ok.ensures.answer c.in-Ok.ensures.table refl

pub overflow_mul-words : goal.overflow_mul-words
overflow_mul-words c = omega (arith, (handed_over (goal.at.overflow_mul-words c).In-Ok).fits)

pub slice_bounds-words-end : goal.slice_bounds-words-end
slice_bounds-words-end c = omega (arith, (handed_over (goal.at.slice_bounds-words-end c).In-Ok).fits)

pub slice_bounds-words-end-in-Ok : goal.slice_bounds-words-end-in-Ok
slice_bounds-words-end-in-Ok c = sym (length-take-le _ _ (omega (arith, (handed_over (goal.at.slice_bounds-words-end-in-Ok c).In-Ok).fits)))

pub put_table-requires : goal.put_table-requires
put_table-requires c = let h = handed_over (goal.at.put_table-requires c).In-Ok in rw (h.table, h.cores) h.fair

pub returns-in-Ok : goal.returns-in-Ok
returns-in-Ok c = rw (listing_read _ _ _ (handed_over (goal.at.returns-in-Ok c).In-Ok)) c.put_table.ensures

pub returns-in-Err : goal.returns-in-Err
returns-in-Err c = rw (listing_refused _ _ c.in-Err.ensures.answer (refused_not_done _)) c.put_refused.ensures
