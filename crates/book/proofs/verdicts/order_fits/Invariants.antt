-- The loop's invariant: every entry before the one at hand fits, and the rows seen are those among them.
-- An entry that does not fit ends the loop, and the definition fails there; behind the p rows the others decide. Assumes nothing.
use Rattle.std.specs.Prelude.{◌≡◌, true}
use Rattle.sets.specs.Sets.{set_of}
use Rattle.book.specs.Bytes.{all}
use Rattle.book.specs.Form.{among, entry_fits}
use Rattle.book.proofs.verdicts.order_fits.Given as goal

abbrev pub invariant-loop-row : goal.invariant-loop-row
invariant-loop-row l =
    record { fit : all l.row-index (entry_fits l.p l.order) ≡ true; seen : l.seen ≡ set_of (among l.order l.row-index) }
