-- The search state that callers hold, and what it stands for (document 01, "Quota steps").
-- Assumes nothing.
use Rattle.std.specs.Prelude.{ℕ, zero, suc, ◌+◌, ◌-◌, Bool, true, ◌&&◌, cond, Option, Some, None, List, [], ◌∷◌, ◌++◌, leb, eqb, length, get_or, take, drop, set, replicate}
use Rattle.sets.specs.Sets.{set_of}
use Rattle.sets.specs.declared.Set.{Set}
use Rattle.search.specs.Search.{rows_below, free, Progress}
use Rattle.search.specs.declared.state.State.{State}

-- the rows at entries n - placed to n - 1 of an order, the highest level first
unfoldable pub rows_placed : ℕ → List ℕ → ℕ → List ℕ
rows_placed n order placed = take placed (drop (n - placed) order)

abbrev pub placed_rows : ℕ → State → List ℕ
placed_rows n s = rows_placed n s.order s.placed

-- how far the search has come that a state stands for, and the state that stands for it
abbrev pub progress_of : ℕ → State → Progress
progress_of n s = record { placed = placed_rows n s; cursor = s.cursor }

-- the order of 96 entries that holds the rows placed, 255 elsewhere
unfoldable pub order_of : ℕ → List ℕ → List ℕ
order_of n placed = replicate (n - length placed) 255 ++ (placed ++ replicate (96 - n) 255)

abbrev pub state_of : ℕ → Progress → State
state_of n p = record { order = order_of n p.placed; placed = length p.placed; cursor = p.cursor }

-- all entries 255, placed and cursor 0
abbrev pub fresh_state : State
fresh_state = record { order = replicate 96 255; placed = 0; cursor = 0 }

-- row k at the lowest free level
abbrev pub placed_at : ℕ → State → ℕ → State
placed_at n s k = record { order = set s.order (n - 1 - s.placed) k; placed = s.placed + 1; cursor = 0 }

-- each is a row below n and none of those after it
abbrev pub distinct : ℕ → List ℕ → Bool
distinct n [] = true
distinct n (k ∷ p) = free (rows_below n) p k && distinct n p

-- the d entries from i on are 255
abbrev pub blank_from : List ℕ → ℕ → ℕ → Bool
blank_from order zero i = true
blank_from order (suc d) i = eqb (get_or order i 0) 255 && blank_from order d (suc i)

-- placed and cursor are at most n, all entries but those of the rows placed are 255, and these are distinct rows below n
unfoldable pub sound : ℕ → State → Bool
sound n s =
    leb s.placed n && leb s.cursor n && blank_from s.order (n - s.placed) 0 && blank_from s.order (96 - n) n
    && distinct n (placed_rows n s)

-- ---- parts of the code

-- the rows that a sound state leaves unplaced, none where it is not sound
unfoldable pub left_of : ℕ → State → Option Set
left_of n s = cond (sound n s) (Some (set_of (free (rows_below n) (placed_rows n s)))) None
