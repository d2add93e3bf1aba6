-- Every K case holds: the definitions, opened, compute to what the table says.
-- Assumes nothing.
use Rattle.std.specs.Prelude.{◌≡◌, refl, true}
use Rattle.sets.specs.Sets.{without}
use Rattle.workload.specs.Workload.{work, cap, plain, carry, extra}
use Rattle.test.specs.Test.{interference, used, passes}
use Rattle.search.specs.Search.{free, next, finished, probe, search}
use Rattle.rows.specs.Table.{row_count}
use Rattle.book.specs.Bytes.{run, sum16, check_of}
use Rattle.policy.specs.Policy.{less_root, smaller, before, rank, ranked, proposed}
use Rattle.book.specs.Layout.{inner, opened, sealed, book_of}
use Rattle.cases.specs.Cases.{row, table_of, same, members, levels, holds, every, three, four, cases}

-- every case holds
pub K : every cases ≡ true
unfolding row table_of same members levels holds every three four cases less_root smaller before rank ranked proposed row_count run sum16 check_of inner opened sealed book_of work cap plain carry extra interference used passes without free next finished probe search
K = refl
