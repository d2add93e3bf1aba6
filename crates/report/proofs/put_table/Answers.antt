-- Where the search finds an order its bytes are the rows placed, and the levels' lines follow the header; else the members' lines do.
-- Assumes nothing.
use Rattle.std.specs.Prelude.{refl}
use Rattle.std.proofs.Common.{arith}
use Rattle.std.proofs.lemmas.List.Sums.{fold-append}
use Rattle.report.proofs.ListingLaws.{listed_order, listed_group, not_refused}
use Rattle.report.proofs.put_table.Goals as goal

pub unreachable-requires : goal.unreachable-requires
unreachable-requires c = not_refused _ _ c.requires _ c.in-Err.ensures.value

pub returns-in-Ok-Order : goal.returns-in-Ok-Order
returns-in-Ok-Order c =
    let found = rw c.in-Ok-Order.field-0-is at c.in-Ok-Order.ensures in
    rw (listed_order _ _ _ found.value refl, fold-append, ← c.put_header.ensures)
    (rw (c.row_count.ensures, found.demanded.stores refl) at c.put_levels.ensures)

pub returns-in-Ok-Blocked : goal.returns-in-Ok-Blocked
returns-in-Ok-Blocked c =
    let found = rw c.in-Ok-Blocked.field-0-is at c.in-Ok-Blocked.ensures in
    rw (listed_group _ _ _ found.value (λ z. omega arith), fold-append, ← c.put_header-in-Ok-Blocked.ensures)
    c.put_members.ensures
