-- Numbers as bytes, the sum of RFC 1071, and lists and tests by position.
-- Assumes nothing.
use Rattle.std.specs.Prelude.{ℕ, zero, suc, ◌+◌, ◌-◌, ◌*◌, ◌/◌, ◌%◌, ◌^◌, Bool, true, cond, ◌&&◌, List, [], ◌∷◌, ltb}

-- the byte of v that has k bytes below it
abbrev pub byte : ℕ → ℕ → ℕ
byte k v = v / 256 ^ k % 256

-- the number of the bytes f 0 .. f (k - 1), high byte first, and low byte first
abbrev pub big : ℕ → (ℕ → ℕ) → ℕ
big zero f = 0
big (suc k) f = big k f * 256 + f k

abbrev pub little : ℕ → (ℕ → ℕ) → ℕ
little zero f = 0
little (suc k) f = little k (λ j. f (suc j)) * 256 + f 0

-- a carry out of 16 bits is added at the low end
abbrev pub around : ℕ → ℕ
around s = cond (ltb s 65536) s (s - 65536 + 1)

-- the ones' complement 16-bit sum of the first c words of f
unfoldable pub sum16 : ℕ → (ℕ → ℕ) → ℕ
sum16 zero f = 0
sum16 (suc c) f = around (sum16 c f + (f (2 * c) * 256 + f (2 * c + 1)))

-- the check of a block
unfoldable pub check_of : (ℕ → ℕ) → ℕ
check_of f = 0xFFFF - sum16 255 f

-- f i, f (i + 1), .., n of them
unfoldable pub run : ℕ → ℕ → (ℕ → ℕ) → List ℕ
run i zero f = []
run i (suc n) f = f i ∷ run (suc i) n f

-- p holds of all numbers below n
abbrev pub all : ℕ → (ℕ → Bool) → Bool
all zero p = true
all (suc n) p = all n p && p n
