-- Text as a list of byte values: decimal numbers, fields, texts one after the other, and text written over an output.
-- Assumes nothing.
use Rattle.std.specs.Prelude.{ℕ, zero, suc, ◌+◌, ◌/◌, ◌%◌, cond, List, [], ◌∷◌, ◌++◌, ltb, set}

abbrev pub digit : ℕ → List ℕ
digit d = (48 + d) ∷ []

-- the shortest decimal digits of n, by a fuel of at least n
unfoldable pub decimal_by : ℕ → ℕ → List ℕ
decimal_by zero n = digit n
decimal_by (suc fuel) n = let front = decimal_by fuel (n / 10) in cond (ltb n 10) (digit n) (front ++ digit (n % 10))

unfoldable pub decimal : ℕ → List ℕ
decimal n = decimal_by n n

-- a name and a number behind it
abbrev pub field : List ℕ → ℕ → List ℕ
field name n = name ++ decimal n

-- f 0 .. f (n - 1), one after the other
abbrev pub lines : ℕ → (ℕ → List ℕ) → List ℕ
lines zero f = []
lines (suc n) f = lines n f ++ f n

-- the output with the text written from `at` on; what would stand past its end is left out
unfoldable pub over : List ℕ → ℕ → List ℕ → List ℕ
over out at [] = out
over out at (x ∷ text) = over (set out at x) (suc at) text
