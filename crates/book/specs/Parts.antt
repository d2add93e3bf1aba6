-- What the book's private functions promise one another, beside Heads, Fault and Spare.
-- Assumes nothing.
use Rattle.std.specs.Prelude.{ℕ, zero, suc, ◌+◌, ◌%◌, Bool, true, cond, List, ltb, eqb, get_or, set}
use Rattle.book.specs.Bytes.{all}

-- a plain sum of words with its carries taken around: what is left by 65535, and 65535 where a sum that is not 0 leaves nothing
unfoldable pub carried : ℕ → ℕ
carried zero = 0
carried (suc s) = 1 + s % 65535

-- out with f 0, f 1, .., n of them, stored from `from` on
unfoldable pub stored : ℕ → ℕ → (ℕ → ℕ) → List ℕ → List ℕ
stored from zero f out = out
stored from (suc n) f out = set (stored from n f out) (from + n) (f n)

-- entry i of an order of p rows is 255 where it stands behind them; so are all before entry n
abbrev pub free_at : ℕ → List ℕ → ℕ → Bool
free_at p order i = cond (ltb i p) true (eqb (get_or order i 0) 255)

unfoldable pub rest_free : ℕ → List ℕ → ℕ → Bool
rest_free p order n = all n (free_at p order)
