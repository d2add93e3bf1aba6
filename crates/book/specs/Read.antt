-- Reading a book (document 01, "Timing book"): the checks in reading's own order, the answer, and the lent words afterwards.
-- Assumes nothing.
use Rattle.std.specs.Prelude.{ℕ, zero, suc, ◌+◌, ◌*◌, ◌/◌, ◌%◌, Bool, not, ◌&&◌, List, [], ◌∷◌, ◌++◌, leb, eqb, length, get_or, drop, replicate}
use Rattle.sets.specs.Sums.{on, first}
use Rattle.sets.specs.Sets.{none}
use Rattle.rows.specs.Judge.{Check, check, check_at, judge}
use Rattle.rows.specs.Numbers.{done, table_length, row_range, short_output, book_length, block_number, block_check, edition, book_field}
use Rattle.rows.specs.Table.{in_range, cores_check}
use Rattle.sets.specs.declared.Set.{Set}
use Rattle.rows.specs.declared.table.Row.{Row}
use Rattle.book.specs.Bytes.{big, little, check_of, run, all}
use Rattle.book.specs.Form.{formed}
use Rattle.book.specs.Layout.{Edition, edition_one, longest, Content, blocks, at}
use Rattle.book.specs.declared.verdicts.Verdict.{Verdict}

-- What reading answers: the number; with 3 the lowest row at fault, with 10 and 11 the first block at fault; and what the book says.
pub record BookRead : Type 0 where
  pub number : ℕ
  pub row : ℕ
  pub block : ℕ
  pub m : ℕ
  pub n : ℕ
  pub verdict : Verdict

-- ---- what stands in a book

-- byte p of block k
abbrev pub of_block : List ℕ → ℕ → ℕ → ℕ
of_block b k p = get_or b (512 * k + p) 0

-- where word j of the table stands, and the word
abbrev pub place : Edition → ℕ → ℕ
place e j = 512 * (1 + j / e.page) + 2 + 4 * (j % e.page)

abbrev pub word_at : Edition → List ℕ → ℕ → ℕ
word_at e b j = big 4 (λ t. get_or b (place e j + t) 0)

-- the group, row 0 the lowest bit of byte 102
abbrev pub group_of : List ℕ → Set
group_of b = record { low = little 8 (λ j. get_or b (102 + j) 0); high = little 4 (λ j. get_or b (110 + j) 0) }

abbrev pub verdict_of : List ℕ → Verdict
verdict_of b = record { kind = get_or b 5 0; order = run 6 96 (λ i. get_or b i 0); group = group_of b }

unfoldable pub content : Edition → List ℕ → Content
content e b = record {
  m = get_or b 3 0;
  n = get_or b 4 0;
  verdict = verdict_of b;
  more = run 114 e.more (λ i. get_or b i 0);
  table = run 0 (e.words * get_or b 4 0) (word_at e b);
}

-- ---- the checks, in their order

-- the blocks: the length, then each block's number and check
unfoldable pub whole : List ℕ → Bool
whole b = eqb (length b % 512) 0 && leb 1 (length b / 512) && leb (length b / 512) longest

unfoldable pub numbered : List ℕ → ℕ → Bool
numbered b k = eqb (big 2 (of_block b k)) k

unfoldable pub checked : List ℕ → ℕ → Bool
checked b k = eqb (big 2 (λ t. of_block b k (510 + t))) (check_of (of_block b k))

abbrev pub each_block : List ℕ → ℕ → ℕ → List Check
each_block b k zero = []
each_block b k (suc d) = check_at (numbered b k) block_number k ∷ check_at (checked b k) block_check k ∷ each_block b (suc k) d

unfoldable pub block_checks : List ℕ → List Check
block_checks b = check (whole b) book_length ∷ each_block b 0 (length b / 512)

-- the head: the edition, m, n, and the length for n
abbrev pub edition_check : Edition → List ℕ → Check
edition_check e b = check (eqb (get_or b 2 0) e.number) edition

abbrev pub count_check : Content → Check
count_check x = check (leb x.n 96) table_length

abbrev pub size_check : Edition → Content → List ℕ → Check
size_check e x b = check (eqb (length b) (512 * blocks e x.n)) book_length

unfoldable pub head_checks : Edition → Content → List ℕ → List Check
head_checks e x b = edition_check e b ∷ cores_check x.m ∷ count_check x ∷ size_check e x b ∷ []

-- the body: every field and filler (the book is what writing its content gives), the rows, and room for the words
unfoldable pub spelled : Edition → Content → List ℕ → Bool
spelled e x b = all (length b) (λ i. eqb (get_or b i 0) (at e x i))

abbrev pub fields_check : Edition → Content → List ℕ → Check
fields_check e x b = check (formed x.n x.verdict && spelled e x b) book_field

abbrev pub row_words : Edition → List ℕ → ℕ → Row
row_words e t i =
    record { c = get_or t (e.words * i) 0; d = get_or t (e.words * i + 1) 0; t = get_or t (e.words * i + 2) 0 }

-- the lowest row that breaks its range; n where none does
unfoldable pub lowest_bad : Edition → Content → ℕ
lowest_bad e x = first (λ i. not (in_range (row_words e x.table i))) x.n 0

abbrev pub range_check : Edition → Content → Check
range_check e x = check_at (leb x.n (lowest_bad e x)) row_range (lowest_bad e x)

abbrev pub room_check : Content → ℕ → Check
room_check x room = check (leb (3 * x.n) room) short_output

unfoldable pub body_checks : Edition → Content → List ℕ → ℕ → List Check
body_checks e x b room = fields_check e x b ∷ range_check e x ∷ room_check x room ∷ []

abbrev pub read_checks : Edition → List ℕ → ℕ → List Check
read_checks e b room = let x = content e b in block_checks b ++ (head_checks e x b ++ body_checks e x b room)

-- ---- the answer

abbrev pub no_verdict : Verdict
no_verdict = record { kind = 0; order = replicate 96 255; group = none }

-- with 3 the place is a row, with 10 and 11 a block
abbrev pub refused : ℕ → ℕ → BookRead
refused number place =
    let bad-row = eqb number row_range in
    record {
      number = number;
      row = on bad-row place;
      block = on (not bad-row) place;
      m = 0;
      n = 0;
      verdict = no_verdict;
    }

abbrev pub taken : Content → BookRead
taken x = record { number = done; row = 0; block = 0; m = x.m; n = x.n; verdict = x.verdict }

unfoldable pub read_of : List ℕ → ℕ → BookRead
read_of b room = judge (read_checks edition_one b room) refused (taken (content edition_one b))

-- the lent words afterwards: the table at their start
unfoldable pub read_into : List ℕ → List ℕ → List ℕ
read_into b words =
    let x = content edition_one b in
    judge (read_checks edition_one b (length words)) (λ number place. words) (x.table ++ drop (length x.table) words)
