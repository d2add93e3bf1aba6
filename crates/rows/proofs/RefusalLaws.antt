-- Laws of refusals: none has the number 0, and its number, its row and its block tell which it is, so that an answer told in numbers is one answer.
-- Assumes nothing.
use Rattle.std.specs.Prelude.{ℕ, ◌≤◌, ◌≡◌, refl, cond, eqb, Result, Ok, Err}
use Rattle.std.proofs.Common.{sym, ap, ◌∙◌, arith}
use Rattle.rows.specs.Numbers.{done, table_length, cores, row_range, malformed, unsound, short_output, book_length, block_number, block_check, edition, book_field}
use Rattle.rows.specs.Refusals.{refusal_number, refusal_row, refusal_block}
use Rattle.rows.specs.Table.{Checked}
use Rattle.rows.specs.Told.{told_check}
use Rattle.rows.specs.declared.refusal.Refusal.{Refusal}
use Rattle.rows.specs.declared.refusal.Refusal.TheVariants.{TableLength, Cores, RowRange, Malformed, Unsound, ShortOutput, BookLength, BlockNumber, BlockCheck, Edition, BookField, Policy}

-- 0 is no refusal's number
pub refused_not_done : (r : Refusal) → refusal_number r ≡ done → ⊥
refused_not_done TableLength e = omega arith
refused_not_done Cores e = omega arith
refused_not_done (RowRange row) e = omega arith
refused_not_done Malformed e = omega arith
refused_not_done Unsound e = omega arith
refused_not_done ShortOutput e = omega arith
refused_not_done BookLength e = omega arith
refused_not_done (BlockNumber block) e = omega arith
refused_not_done (BlockCheck block) e = omega arith
refused_not_done Edition e = omega arith
refused_not_done BookField e = omega arith
refused_not_done Policy e = omega arith

-- the refusal that a number, a row and a block tell
abbrev pub refusal_told : ℕ → ℕ → ℕ → Refusal
refusal_told number row block =
    cond (eqb number table_length) TableLength (
    cond (eqb number cores) Cores (
    cond (eqb number row_range) (RowRange row) (
    cond (eqb number malformed) Malformed (
    cond (eqb number unsound) Unsound (
    cond (eqb number short_output) ShortOutput (
    cond (eqb number book_length) BookLength (
    cond (eqb number block_number) (BlockNumber block) (
    cond (eqb number block_check) (BlockCheck block) (
    cond (eqb number edition) Edition (
    cond (eqb number book_field) BookField (
    Policy
    )))))))))))

pub told_back : (r : Refusal) → refusal_told (refusal_number r) (refusal_row r) (refusal_block r) ≡ r
told_back TableLength = refl
told_back Cores = refl
told_back (RowRange row) = refl
told_back Malformed = refl
told_back Unsound = refl
told_back ShortOutput = refl
told_back BookLength = refl
told_back (BlockNumber block) = refl
told_back (BlockCheck block) = refl
told_back Edition = refl
told_back BookField = refl
told_back Policy = refl

pub refusal_one : (r s : Refusal) → refusal_number r ≡ refusal_number s → refusal_row r ≡ refusal_row s → refusal_block r ≡ refusal_block s → r ≡ s
refusal_one r s number row block = sym (told_back r) ∙ rw (number, row, block) (told_back s)

-- only the two refusals of a block name one
pub no_block : (r : Refusal) → (refusal_number r ≡ block_number → ⊥) → (refusal_number r ≡ block_check → ⊥) → refusal_block r ≡ 0
no_block TableLength h k = refl
no_block Cores h k = refl
no_block (RowRange row) h k = refl
no_block Malformed h k = refl
no_block Unsound h k = refl
no_block ShortOutput h k = refl
no_block BookLength h k = refl
no_block (BlockNumber block) h k = absurd (h refl)
no_block (BlockCheck block) h k = absurd (k refl)
no_block Edition h k = refl
no_block BookField h k = refl
no_block Policy h k = refl

-- refusals that are told apart by number and row: all but those of a block
pub told_one : (r s : Refusal) → (refusal_number r ≡ block_number → ⊥) → (refusal_number r ≡ block_check → ⊥)
    → refusal_number r ≡ refusal_number s → refusal_row r ≡ refusal_row s → r ≡ s
told_one r s h k number row =
    refusal_one r s number row (no_block r h k ∙ sym (no_block s (λ e. h (number ∙ e)) (λ e. k (number ∙ e))))

-- the checks of a table answer one thing: what is told of them, 0 to 3, tells it
pub check_one : (x y : Result (Unit {0}) Refusal) → (told_check x).number ≤ row_range → told_check x ≡ told_check y → x ≡ y
check_one (Ok x) (Ok y) h e = refl
check_one (Ok x) (Err s) h e = absurd (refused_not_done s (sym (ap (λ (c : Checked). c.number) e)))
check_one (Err r) (Ok y) h e = absurd (refused_not_done r (ap (λ (c : Checked). c.number) e))
check_one (Err r) (Err s) h e =
    ap {B = Result (Unit {0}) Refusal} Err
    (told_one r s (λ k. omega arith) (λ k. omega arith) (ap (λ (c : Checked). c.number) e) (ap (λ (c : Checked). c.row) e))
