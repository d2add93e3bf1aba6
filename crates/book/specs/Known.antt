-- What a book is known to be once its first checks have passed: what functions behind them ask of it.
-- Assumes nothing.
use Rattle.std.specs.Prelude.{ℕ, ◌*◌, ◌/◌, ◌≤◌, ◌<◌, ◌≡◌, true, List, length, get_or}
use Rattle.book.specs.Layout.{edition_one, blocks}
use Rattle.book.specs.Read.{numbered, checked}

pub record Sealed (b : List ℕ) : Type 0 where
  pub some : 512 ≤ length b
  pub most : length b ≤ 2048
  pub whole : length b ≡ 512 * (length b / 512)
  pub blocks : (k : ℕ) → k < length b / 512 → (numbered b k ≡ true) × (checked b k ≡ true)

-- the head of a book of n rows
pub record Headed (b : List ℕ) (n : ℕ) : Type 0 where
  pub edition : get_or b 2 0 ≡ 1
  pub some_cores : 1 ≤ get_or b 3 0
  pub most_cores : get_or b 3 0 ≤ 32
  pub count : n ≡ get_or b 4 0
  pub few : n ≤ 96
  pub size : length b ≡ 512 * blocks edition_one n
