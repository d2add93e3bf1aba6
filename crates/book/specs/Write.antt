-- Writing a book (document 01, "Timing book"): the checks in the general order, the answer, and the lent bytes afterwards.
-- Assumes nothing.
use Rattle.std.specs.Prelude.{ℕ, ◌*◌, List, [], ◌∷◌, ◌++◌, leb, length, drop}
use Rattle.rows.specs.Judge.{Check, check, judge}
use Rattle.rows.specs.Numbers.{done, short_output, book_field}
use Rattle.rows.specs.Table.{row_count, table_checks}
use Rattle.book.specs.Form.{formed}
use Rattle.book.specs.Layout.{Edition, edition_one, Content, blocks, book_of}
use Rattle.book.specs.declared.verdicts.Verdict.{Verdict}

-- What writing answers: the number, and with 3 the lowest row at fault.
pub record BookWritten : Type 0 where
  pub number : ℕ
  pub row : ℕ

-- what a book of these words says
abbrev pub content_of : List ℕ → ℕ → Verdict → Content
content_of words m v = record { m = m; n = row_count words; verdict = v; more = []; table = words }

-- the form of the verdict, and room for the book
abbrev pub book_checks : Edition → Content → ℕ → List Check
book_checks e x room =
    check (formed x.n x.verdict) book_field ∷ check (leb (512 * blocks e x.n) room) short_output ∷ []

abbrev pub write_checks : List ℕ → ℕ → Verdict → ℕ → List Check
write_checks words m v room = table_checks words m ++ book_checks edition_one (content_of words m v) room

-- the answer
unfoldable pub write_of : List ℕ → ℕ → Verdict → ℕ → BookWritten
write_of words m v room =
    judge (write_checks words m v room) (λ number row. record { number = number; row = row }) (record { number = done; row = 0 })

-- the lent bytes afterwards: the book at their start
unfoldable pub write_into : List ℕ → ℕ → Verdict → List ℕ → List ℕ
write_into words m v out =
    let book = book_of edition_one (content_of words m v) in
    judge (write_checks words m v (length out)) (λ number row. out) (book ++ drop (length book) out)
