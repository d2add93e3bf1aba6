-- Sums and counts over the numbers below n, the first number that a test takes, and how often a number stands in a list.
-- Assumes nothing.
use Rattle.std.specs.Prelude.{ℕ, zero, suc, ◌+◌, Bool, true, false, cond, Option, Some, None, List, [], ◌∷◌, eqb, ltb}

-- x where the test holds, else 0
abbrev pub on : Bool → ℕ → ℕ
on true x = x
on false x = 0

-- f 0 + .. + f (n - 1)
abbrev pub sum : ℕ → (ℕ → ℕ) → ℕ
sum zero f = 0
sum (suc n) f = sum n f + f n

-- how many of the numbers below n the test p takes
abbrev pub count : ℕ → (ℕ → Bool) → ℕ
count n p = sum n (λ i. on (p i) 1)

-- the first of the d numbers from i on that p takes; i + d where it takes none
abbrev pub first : (ℕ → Bool) → ℕ → ℕ → ℕ
first p zero i = i
first p (suc d) i = let rest = first p d (suc i) in cond (p i) i rest

-- the number i where it is below n, none where it is not
abbrev pub some_below : ℕ → ℕ → Option ℕ
some_below i n = cond (ltb i n) (Some i) None

-- how often i stands in the list
abbrev pub times : ℕ → List ℕ → ℕ
times i [] = 0
times i (x ∷ xs) = on (eqb i x) 1 + times i xs
