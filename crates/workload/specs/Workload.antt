-- Work and interference of one row (document 01, "The test of one task").
-- Assumes nothing.
use Rattle.std.specs.Prelude.{ℕ, ◌+◌, ◌-◌, ◌*◌, ◌/◌, min}
use Rattle.rows.specs.declared.table.Row.{Row}

-- the work of the last period, cut short: min(C, x − N-as-T), N = x divided by T, rounded down
abbrev pub part : Row → ℕ → ℕ
part i x = min i.c (x - x / i.t * i.t)

-- w(x) = N-as-C + min(C, x − N-as-T)
unfoldable pub work : Row → ℕ → ℕ
work i x = x / i.t * i.c + part i x

-- D − C + 1 of row k
unfoldable pub cap : Row → ℕ
cap k = k.d - k.c + 1

-- plain interference of row i on row k: the lesser of w(L) and cap, L being D of k
unfoldable pub plain : Row → Row → ℕ
plain k i = min (work i k.d) (cap k)

-- carry-in interference: the lesser of w(L + D − C), with row i's own D and C, and cap
unfoldable pub carry : Row → Row → ℕ
carry k i = min (work i (k.d + (i.d - i.c))) (cap k)

-- their difference
unfoldable pub extra : Row → Row → ℕ
extra k i = carry k i - plain k i
