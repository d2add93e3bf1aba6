-- Audsley's search, one test at a time, over any test of a row with a set of rows above it (document 01, "Audsley's search").
-- Assumes nothing.
use Rattle.std.specs.Prelude.{ℕ, zero, suc, ◌*◌, ◌-◌, ◌/◌, Bool, true, false, not, ◌&&◌, ◌||◌, cond, List, [], ◌∷◌, leb, ltb, eqb}
use Rattle.sets.specs.Sums.{first}
use Rattle.sets.specs.Sets.{without}

-- all rows of a table of n rows
abbrev pub rows_below : ℕ → ℕ → Bool
rows_below n i = ltb i n

-- row i stands in the list
abbrev pub elem : ℕ → List ℕ → Bool
elem i [] = false
elem i (x ∷ xs) = eqb i x || elem i xs

-- the rows of dom that are not in the list of those placed
unfoldable pub free : (ℕ → Bool) → List ℕ → ℕ → Bool
free dom p i = dom i && not (elem i p)

-- how far a search has come: the rows placed, the highest level first, and the cursor
pub record Progress : Type 0 where
  pub placed : List ℕ
  pub cursor : ℕ

pub record Run : Type 0 where
  pub progress : Progress
  pub tests : ℕ

abbrev pub fresh : Progress
fresh = record { placed = []; cursor = 0 }

-- after a test of row k: a pass places it and sets the cursor to 0, a failure sets the cursor to the row after it
abbrev pub tested : List ℕ → ℕ → Bool → Progress
tested p k true = record { placed = k ∷ p; cursor = 0 }
tested p k false = record { placed = p; cursor = suc k }

-- one test more
abbrev pub counted : Run → Run
counted r = record { progress = r.progress; tests = suc r.tests }

-- The rows searched are those of dom, all below n.
module _ (n : ℕ) (dom : ℕ → Bool) where
  -- the row of the next test, the first free one at or after the cursor; n or more where there is none
  unfoldable pub next : Progress → ℕ
  next s = first (free dom s.placed) (n - s.cursor) s.cursor

  unfoldable pub finished : Progress → Bool
  finished s = leb n (next s)

-- The test is handed the set above and the row.
module _ (n : ℕ) (dom : ℕ → Bool) (test : (ℕ → Bool) → ℕ → Bool) where
  -- one test, of the next row with all other free rows above it
  unfoldable pub probe : Progress → Progress
  probe s = let k = next n dom s in tested s.placed k (test (without (free dom s.placed) k) k)

  -- tests until finished, at most q
  abbrev pub run : ℕ → Progress → Run
  run zero s = record { progress = s; tests = 0 }
  run (suc q) s = let r = counted (run q (probe s)) in cond (finished n dom s) (record { progress = s; tests = 0 }) r

-- n(n+1)/2
abbrev pub bound : ℕ → ℕ
bound n = n * suc n / 2

-- the whole search
unfoldable pub search : (n : ℕ) (dom : ℕ → Bool) (test : (ℕ → Bool) → ℕ → Bool) → Run
search n dom test = run n dom test (bound n) fresh
