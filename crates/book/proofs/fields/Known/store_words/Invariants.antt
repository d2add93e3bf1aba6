-- The loop's invariant: the words of the rows so far are the table's, and the others are as they were.
-- A turn stores the three words of the next row. Assumes nothing.
use Rattle.std.proofs.Common.{◌*◌, ◌≡◌}
use Rattle.book.specs.Layout.{edition_one}
use Rattle.book.specs.OverLaws.{over}
use Rattle.book.specs.Read.{content}
use Rattle.book.proofs.fields.Known.store_words.Given as goal

abbrev pub invariant-loop-i : goal.invariant-loop-i
invariant-loop-i l = l.words ≡ over (content edition_one l.self.bytes.now).table l.initial.words (3 * l.i)
