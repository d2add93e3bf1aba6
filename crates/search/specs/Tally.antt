-- What the search keeps between its tests: for each row left the sum of the plain interferences of the other rows left on it, once known.
-- Assumes nothing.
use Rattle.std.specs.Prelude.{ℕ, ◌<◌, ◌≡◌, true, Option, List, length, get_or}
use Rattle.sets.specs.Sums.{some_below}
use Rattle.sets.specs.Sets.{has, without_row}
use Rattle.rows.specs.Table.{table, row_count}
use Rattle.sets.specs.declared.Set.{Set}
use Rattle.test.specs.Test.{plain_sum}

-- row k is one of n rows, and left
abbrev pub IsLeft : ℕ → Set → ℕ → Type 0
IsLeft n left k = (k < n) × (has left k ≡ true)

-- from here on a number stands for a sum that is not known
abbrev pub unknown : ℕ
unknown = 4_294_967_294

-- the sum that an entry is, or none where it stands for one that is not known
abbrev pub sum_in : ℕ → Option ℕ
sum_in x = some_below x unknown

-- the sum of the plain interferences of the other rows left on row k
abbrev pub left_sum : List ℕ → Set → ℕ → ℕ
left_sum words left k = plain_sum (row_count words) (table words) (has (without_row left k)) k

-- the entry of row k, where it is known, is its sum
abbrev pub Known : List ℕ → Set → List ℕ → ℕ → Type 0
Known words left sums k = has left k ≡ true → get_or sums k 0 < unknown → get_or sums k 0 ≡ left_sum words left k

pub record Tallied (words : List ℕ) (left : Set) (sums : List ℕ) : Type 0 where
  pub size : length sums ≡ 96
  pub known : (k : ℕ) → k < row_count words → Known words left sums k
