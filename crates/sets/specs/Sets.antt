-- A set of rows as a mask of two words, row 0 the lowest bit of the first (document 01, "Table").
-- Everywhere else a set is a test of row numbers, `ℕ → Bool`; `has` and `set_of` lead from the one to the other.
-- Assumes nothing.
use Rattle.std.specs.Prelude.{ℕ, ◌+◌, ◌*◌, ◌/◌, ◌%◌, ◌^◌, ◌≡◌, Bool, true, not, ◌&&◌, ◌||◌, eqb, ltb}
use Rattle.sets.specs.Sums.{on, sum, count}
use Rattle.sets.specs.declared.Set.{Set}

-- the two words as one number
abbrev pub word : Set → ℕ
word s = s.high * 2 ^ 64 + s.low

unfoldable pub bit : ℕ → ℕ → Bool
bit w i = eqb (w / 2 ^ i % 2) 1

-- whether row i is in the set
abbrev pub has : Set → ℕ → Bool
has s i = bit (word s) i

-- the number whose bits below n are those that p takes
unfoldable pub mask : ℕ → (ℕ → Bool) → ℕ
mask n p = sum n (λ i. on (p i) (2 ^ i))

-- the set of the rows that p takes
unfoldable pub set_of : (ℕ → Bool) → Set
set_of p = record { low = mask 64 p; high = mask 64 (λ i. p (64 + i)) }

-- every row of H is one of G
infix 4 ◌⊆◌
abbrev pub ◌⊆◌ : (ℕ → Bool) → (ℕ → Bool) → Type 0
H ⊆ G = (i : ℕ) → H i ≡ true → G i ≡ true

-- the rows of H but k
unfoldable pub without : (ℕ → Bool) → ℕ → ℕ → Bool
without H k i = H i && not (eqb i k)

abbrev pub none : Set
none = record { low = 0; high = 0 }

abbrev pub below : ℕ → Set
below n = set_of (λ i. ltb i n)

abbrev pub with_row : Set → ℕ → Set
with_row s k = set_of (λ i. has s i || eqb i k)

abbrev pub without_row : Set → ℕ → Set
without_row s k = set_of (without (has s) k)

unfoldable pub size : Set → ℕ
size s = count 128 (has s)

-- no bit at or above n
abbrev pub within : Set → ℕ → Bool
within s n = ltb (word s) (2 ^ n)
