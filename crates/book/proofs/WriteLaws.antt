-- Laws of writing: the answer and the lent bytes by the check that failed, and where none did.
-- Assumes nothing.
use Rattle.std.specs.Prelude.{ℕ, ◌*◌, ◌≤◌, ◌<◌, ◌≡◌, refl, true, false, List, ◌++◌, length}
use Rattle.std.proofs.Common.{◌∙◌, le-leb}
use Rattle.std.proofs.Math.ListN.{drop}
use Rattle.std.proofs.Math.Path.{sym, ap}
use Rattle.std.proofs.lemmas.Bool.{lt-leb}
use Rattle.rows.specs.Judge.{Check, judge}
use Rattle.rows.specs.Numbers.{done, short_output, book_field}
use Rattle.rows.specs.Table.{row_count, table_fault}
use Rattle.rows.proofs.TableLaws.{judge_refused, judge_passed}
use Rattle.book.specs.Form.{formed}
use Rattle.book.specs.Layout.{edition_one, blocks, book_of}
use Rattle.book.specs.LayoutLaws.{book_length}
use Rattle.book.specs.Write.{BookWritten, content_of, book_checks, write_checks, write_of, write_into}
use Rattle.book.specs.declared.verdicts.Verdict.{Verdict}

-- a refusal: its number and row, and the bytes as they were
abbrev pub Refused : List ℕ → ℕ → Verdict → List ℕ → ℕ → ℕ → Type 0
Refused words m v out number row =
    (record { number = number; row = row } ≡ write_of words m v (length out)) × (out ≡ write_into words m v out)

-- the work: 0, and the book at the start of the bytes
abbrev pub Written : List ℕ → ℕ → Verdict → List ℕ → Type 0
Written words m v out =
    (record { number = done; row = 0 } ≡ write_of words m v (length out))
    × (book_of edition_one (content_of words m v) ++ drop (512 * blocks edition_one (row_count words)) out ≡ write_into words m v out)

abbrev size : List ℕ → ℕ
size words = 512 * blocks edition_one (row_count words)

-- whatever a refusal and the work give
module _ {A : Type 0} (words : List ℕ) (m : ℕ) (v : Verdict) (room : ℕ) (refuse : ℕ → ℕ → A) (work : A) where
  abbrev others : List Check
  others = book_checks edition_one (content_of words m v) room

  judged_table : ((table_fault words m).number ≡ done → ⊥)
      → judge (write_checks words m v room) refuse work ≡ refuse (table_fault words m).number (table_fault words m).row
  judged_table h = judge_refused words m others refuse work h

  module _ (fair : (table_fault words m).number ≡ done) where
    judged_form : formed (row_count words) v ≡ false → judge (write_checks words m v room) refuse work ≡ refuse book_field 0
    judged_form h = judge_passed words m others refuse work fair ∙ rw h refl

    judged_room : formed (row_count words) v ≡ true → room < size words
        → judge (write_checks words m v room) refuse work ≡ refuse short_output 0
    judged_room f h = judge_passed words m others refuse work fair ∙ rw (f, lt-leb (size words) room h) refl

    judged_done : formed (row_count words) v ≡ true → size words ≤ room → judge (write_checks words m v room) refuse work ≡ work
    judged_done f h = judge_passed words m others refuse work fair ∙ rw (f, le-leb (size words) room h) refl

module _ (words : List ℕ) (m : ℕ) (v : Verdict) (out : List ℕ) where
  abbrev refuse : ℕ → ℕ → BookWritten
  refuse number row = record { number = number; row = row }

  abbrev stay : ℕ → ℕ → List ℕ
  stay number row = out

  abbrev book : List ℕ
  book = book_of edition_one (content_of words m v)

  abbrev stored : List ℕ
  stored = book ++ drop (length book) out

  pub write_table : ((table_fault words m).number ≡ done → ⊥) → Refused words m v out (table_fault words m).number (table_fault words m).row
  unfolding write_of write_into
  write_table h =
      (sym (judged_table words m v (length out) refuse (refuse done 0) h), sym (judged_table words m v (length out) stay stored h))

  module _ (fair : (table_fault words m).number ≡ done) where
    pub write_form : formed (row_count words) v ≡ false → Refused words m v out book_field 0
    unfolding write_of write_into
    write_form h =
        (sym (judged_form words m v (length out) refuse (refuse done 0) fair h), sym (judged_form words m v (length out) stay stored fair h))

    pub write_room : formed (row_count words) v ≡ true → length out < size words → Refused words m v out short_output 0
    unfolding write_of write_into
    write_room f h =
        (sym (judged_room words m v (length out) refuse (refuse done 0) fair f h), sym (judged_room words m v (length out) stay stored fair f h))

    pub write_done : formed (row_count words) v ≡ true → size words ≤ length out → Written words m v out
    unfolding write_of write_into
    write_done f h = (
      sym (judged_done words m v (length out) refuse (refuse done 0) fair f h),
      ap (λ (k : ℕ). book ++ drop k out) (sym (book_length edition_one (content_of words m v)))
          ∙ sym (judged_done words m v (length out) stay stored fair f h),
    )
