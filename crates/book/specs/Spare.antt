-- The bytes of a book that are no field: what the code tests for 13 beside the form of the verdict.
-- Assumes nothing.
use Rattle.std.specs.Prelude.{ℕ, zero, suc, ◌+◌, ◌*◌, ◌/◌, Bool, true, cond, not, ◌&&◌, List, ltb, leb, eqb, length, get_or}
use Rattle.book.specs.Bytes.{all}
use Rattle.book.specs.Layout.{Edition}
use Rattle.book.specs.Read.{of_block}

-- byte q behind the number of block k is no field of a book of n rows
unfoldable pub spare : Edition → ℕ → ℕ → ℕ → Bool
spare e n zero q = leb (112 + e.more) q
spare e n (suc k) q = not (ltb q (4 * e.page) && ltb (e.page * k + q / 4) (e.words * n))

-- byte q behind the number of block k is zero where it is spare; so is every byte of the block, and of the book
abbrev pub zero_at : Edition → ℕ → List ℕ → ℕ → ℕ → Bool
zero_at e n b k q = cond (spare e n k q) (eqb (of_block b k (2 + q)) 0) true

unfoldable pub zero_block : Edition → ℕ → List ℕ → ℕ → Bool
zero_block e n b k = all 508 (zero_at e n b k)

unfoldable pub zeros : Edition → ℕ → List ℕ → Bool
zeros e n b = all (length b / 512) (zero_block e n b)

-- so many bytes from `from` on are zero
unfoldable pub blank : List ℕ → ℕ → ℕ → Bool
blank b from count = all count (λ t. eqb (get_or b (from + t) 0) 0)
