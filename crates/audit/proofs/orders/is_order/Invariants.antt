-- The invariant: the entries left are those of the higher levels, the rows of the lower levels are distinct rows below n, and the set has
-- the rows below n but those. A row that is not in the set is one of them or none below n, so that the whole is not distinct. Assumes nothing.
use Rattle.std.specs.Prelude.{◌≡◌, true, length, take, drop}
use Rattle.sets.specs.Sets.{set_of}
use Rattle.search.specs.Search.{rows_below, free}
use Rattle.search.specs.State.{distinct}
use Rattle.audit.proofs.orders.is_order.Given as goal

abbrev pub invariant-loop-entry : goal.invariant-loop-entry
invariant-loop-entry l =
    let higher = l.entry-iterator.iter.rest.now in
    record {
      entries : higher ≡ take (length higher) l.order;
      lower : distinct l.n (drop (length higher) l.order) ≡ true;
      others : l.left ≡ set_of (free (rows_below l.n) (drop (length higher) l.order));
    }
