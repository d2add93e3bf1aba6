-- The form of a verdict (document 01, "Timing book"): 0 none, 1 order, 2 blocked. Form only: nothing here asks whether the verdict is true.
-- Assumes nothing.
use Rattle.std.specs.Prelude.{ℕ, zero, suc, Bool, false, cond, not, ◌&&◌, ◌||◌, List, ltb, leb, eqb, get_or}
use Rattle.sets.specs.Sets.{word, within}
use Rattle.sets.specs.declared.Set.{Set}
use Rattle.book.specs.Bytes.{all}
use Rattle.book.specs.declared.verdicts.Verdict.{Verdict}

-- row k is among the first i entries
abbrev pub among : List ℕ → ℕ → ℕ → Bool
among order zero k = false
among order (suc i) k = among order i k || eqb k (get_or order i 0)

-- entry i of an order of p rows: a row below p that is not among those before it, and 255 behind them
abbrev pub entry_fits : ℕ → List ℕ → ℕ → Bool
entry_fits p order i =
    cond (ltb i p) (ltb (get_or order i 0) p && not (among order i (get_or order i 0))) (eqb (get_or order i 0) 255)

-- a permutation of the p rows in the first p entries, all else 255
unfoldable pub order_fits : ℕ → List ℕ → Bool
order_fits p order = all 96 (entry_fits p order)

abbrev pub empty : Set → Bool
empty group = eqb (word group) 0

-- nonempty and below row n for verdict 2, else empty
unfoldable pub group_fits : ℕ → Set → ℕ → Bool
group_fits kind group n = cond (eqb kind 2) (not (empty group) && within group n) (empty group)

-- the form of a verdict of n rows; only verdict 1 has rows in its order
unfoldable pub formed : ℕ → Verdict → Bool
formed n v = leb v.kind 2 && order_fits (cond (eqb v.kind 1) n 0) v.order && group_fits v.kind v.group n
