-- The layout of the timing book (document 01, "Timing book"), said once, by `at`: writing lists it, and reading holds a book to it.
-- Assumes nothing.
use Rattle.std.specs.Prelude.{ℕ, zero, suc, ◌+◌, ◌-◌, ◌*◌, ◌/◌, ◌%◌, cond, List, ◌∷◌, ◌++◌, ltb, get_or}
use Rattle.sets.specs.Sets.{word}
use Rattle.book.specs.Bytes.{byte, check_of, run}
use Rattle.book.specs.declared.verdicts.Verdict.{Verdict}

-- Where editions differ: byte 2, the words of a row, the words of a row block, and the bytes of block 0 behind the group.
pub record Edition : Type 0 where
  pub number : ℕ
  pub words : ℕ
  pub page : ℕ
  pub more : ℕ

abbrev pub edition_one : Edition
edition_one = record { number = 1; words = 3; page = 126; more = 0 }

-- the most blocks of a book
abbrev pub longest : ℕ
longest = 4

-- What a book says. The table is the rows' words, one row after the other; more is what stands in block 0 behind the group.
pub record Content : Type 0 where
  pub m : ℕ
  pub n : ℕ
  pub verdict : Verdict
  pub more : List ℕ
  pub table : List ℕ

-- block 0 and the blocks of the rows
abbrev pub blocks : Edition → ℕ → ℕ
blocks e n = 1 + (e.words * n + (e.page - 1)) / e.page

-- block 0 behind its number
abbrev pub head : Edition → Content → List ℕ
head e x =
    e.number ∷ x.m ∷ x.n ∷ x.verdict.kind
    ∷ (x.verdict.order ++ (run 0 12 (λ j. byte j (word x.verdict.group)) ++ x.more))

-- byte q behind the number of block k: block 0 is the head, the others have the table's words; what is left is zero
unfoldable pub inner : Edition → Content → ℕ → ℕ → ℕ
inner e x zero q = get_or (head e x) q 0
inner e x (suc k) q = cond (ltb q (4 * e.page)) (byte (3 - q % 4) (get_or x.table (e.page * k + q / 4) 0)) 0

-- byte p of block k before its check, and with it
unfoldable pub opened : Edition → Content → ℕ → ℕ → ℕ
opened e x k p = cond (ltb p 2) (byte (1 - p) k) (inner e x k (p - 2))

unfoldable pub sealed : Edition → Content → ℕ → ℕ → ℕ
sealed e x k p = let y = byte (511 - p) (check_of (opened e x k)) in cond (ltb p 510) (opened e x k p) y

-- byte i of the book, and the book
abbrev pub at : Edition → Content → ℕ → ℕ
at e x i = sealed e x (i / 512) (i % 512)

unfoldable pub book_of : Edition → Content → List ℕ
book_of e x = run 0 (512 * blocks e x.n) (at e x)
