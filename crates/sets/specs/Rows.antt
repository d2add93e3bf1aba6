-- The rows of a set below a number, rising.
-- Assumes nothing.
use Rattle.std.specs.Prelude.{ℕ, ◌-◌, Bool, List, filter}
use Rattle.std.specs.List.{range_with_len}

-- the numbers from i on and below n that H takes
unfoldable pub rows_between : (ℕ → Bool) → ℕ → ℕ → List ℕ
rows_between H i n = filter H (range_with_len i (n - i))
