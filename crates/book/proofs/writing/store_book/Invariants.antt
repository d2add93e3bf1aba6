-- The loop's invariant: what block 0 and k row blocks leave is the book's first 512 (1 + k) bytes, over what was there.
-- A turn stores the next row block, and the last one ends the book. Assumes nothing.
use Rattle.std.specs.Prelude.{◌+◌, ◌*◌, ◌≡◌}
use Rattle.book.specs.Heads.{said}
use Rattle.book.specs.Layout.{edition_one, at}
use Rattle.book.specs.Parts.{stored}
use Rattle.book.proofs.writing.store_book.Given as goal

abbrev pub invariant-loop-k : goal.invariant-loop-k
invariant-loop-k l = l.out ≡ stored 0 (512 * (1 + l.k)) (at edition_one (said l.book l.words)) l.fn.out
