-- Laws of the answers told in numbers: a refusal of reading is told as the definition has it, and a told answer is that of one answer alone.
-- Assumes nothing.
use Rattle.std.specs.Prelude.{ℕ, ◌*◌, ◌/◌, ◌≡◌, refl, Bool, true, false, List, [], ◌∷◌, leb, length, Result, Ok, Err}
use Rattle.std.proofs.Common.{sym, ap, ◌∙◌, arith}
use Rattle.rows.specs.Judge.{check, check_at, judge}
use Rattle.rows.specs.Numbers.{done, table_length, cores, row_range, short_output, block_number, block_check, book_field}
use Rattle.rows.specs.Refusals.{refusal_number, refusal_row, refusal_block}
use Rattle.rows.specs.Table.{row_count}
use Rattle.rows.proofs.RefusalLaws.{refused_not_done, refusal_told, told_back}
use Rattle.rows.proofs.TableLaws.{well_sized, some_cores, lowest_fault}
use Rattle.rows.specs.declared.refusal.Refusal.{Refusal}
use Rattle.rows.specs.declared.refusal.Refusal.TheVariants.{TableLength, Cores, RowRange, Malformed, Unsound, ShortOutput, BookLength, BlockNumber, BlockCheck, Edition, BookField, Policy}
use Rattle.book.specs.Fault.{refusal_place}
use Rattle.book.specs.Read.{BookRead, refused}
use Rattle.book.specs.Told.{told_read, told_write}
use Rattle.book.specs.Form.{formed}
use Rattle.book.specs.Layout.{edition_one, blocks}
use Rattle.book.specs.Write.{BookWritten, write_of}
use Rattle.book.specs.declared.verdicts.Verdict.{Verdict}
use Rattle.book.specs.declared.reading.Book.{Book}

pub told_refused : (e : Refusal) → told_read (Err e) ≡ refused (refusal_number e) (refusal_place e)
told_refused TableLength = refl
told_refused Cores = refl
told_refused (RowRange row) = refl
told_refused Malformed = refl
told_refused Unsound = refl
told_refused ShortOutput = refl
told_refused BookLength = refl
told_refused (BlockNumber block) = refl
told_refused (BlockCheck block) = refl
told_refused Edition = refl
told_refused BookField = refl
told_refused Policy = refl

-- ---- a told answer is that of one answer alone, so that a contract determines the whole answer

-- two refusals that tell the same number, row and block are one
same_refusal : (d e : Refusal) → refusal_number d ≡ refusal_number e → refusal_row d ≡ refusal_row e → refusal_block d ≡ refusal_block e → d ≡ e
same_refusal d e n r b = sym (told_back d) ∙ (λ i. refusal_told (n i) (r i) (b i)) ∙ told_back e

pub told_read_one : (x y : Result Book Refusal) → told_read x ≡ told_read y → x ≡ y
told_read_one (Ok a) (Ok b) h =
    λ i. Ok (record { m = (h i).m; n = (h i).n; verdict = (h i).verdict })
told_read_one (Ok a) (Err e) h = absurd (refused_not_done e (sym (ap (λ (r : BookRead). r.number) h)))
told_read_one (Err d) (Ok b) h = absurd (refused_not_done d (ap (λ (r : BookRead). r.number) h))
told_read_one (Err d) (Err e) h =
    ap Err
    (same_refusal d e (ap (λ (r : BookRead). r.number) h) (ap (λ (r : BookRead). r.row) h) (ap (λ (r : BookRead). r.block) h))

-- writing tells no block, and refuses with no number that names one
no_block : (e : Refusal) → (refusal_number e ≡ block_number → ⊥) → (refusal_number e ≡ block_check → ⊥) → refusal_block e ≡ 0
no_block TableLength p q = refl
no_block Cores p q = refl
no_block (RowRange row) p q = refl
no_block Malformed p q = refl
no_block Unsound p q = refl
no_block ShortOutput p q = refl
no_block BookLength p q = refl
no_block (BlockNumber block) p q = absurd (p refl)
no_block (BlockCheck block) p q = absurd (q refl)
no_block Edition p q = refl
no_block BookField p q = refl
no_block Policy p q = refl

told_write_one : (n : ℕ) → (n ≡ block_number → ⊥) → (n ≡ block_check → ⊥) → (x y : Result (Unit {0}) Refusal)
    → (told_write x).number ≡ n → told_write x ≡ told_write y → x ≡ y
told_write_one n p q (Ok a) (Ok b) e h = refl
told_write_one n p q (Ok a) (Err r) e h = absurd (refused_not_done r (sym (ap (λ (w : BookWritten). w.number) h)))
told_write_one n p q (Err r) (Ok b) e h = absurd (refused_not_done r (ap (λ (w : BookWritten). w.number) h))
told_write_one n p q (Err r) (Err s) e h =
    let same : refusal_number r ≡ refusal_number s = ap (λ (w : BookWritten). w.number) h in
    let none = no_block r (λ k. p (sym e ∙ k)) (λ k. q (sym e ∙ k)) in
    let none' = no_block s (λ k. p (sym e ∙ same ∙ k)) (λ k. q (sym e ∙ same ∙ k)) in
    ap Err (same_refusal r s same (ap (λ (w : BookWritten). w.row) h) (none ∙ sym none'))

names_none : (words : List ℕ) (m : ℕ) (v : Verdict) (room : ℕ)
    → ((write_of words m v room).number ≡ block_number → ⊥) × ((write_of words m v room).number ≡ block_check → ⊥)
unfolding write_of
names_none words m v room =
    go (well_sized words) (some_cores m) (leb (length words / 3) (lowest_fault words)) (formed (row_count words) v)
    (leb (512 * blocks edition_one (row_count words)) room)
  where
    refuse : ℕ → ℕ → BookWritten
    refuse number row = record { number = number; row = row }

    go : (a b c d f : Bool) → let n =
        (judge
        (check a table_length ∷ check b cores ∷ check_at c row_range (lowest_fault words) ∷ check d book_field ∷ check f short_output ∷ [])
        refuse (refuse done 0)).number in (n ≡ block_number → ⊥) × (n ≡ block_check → ⊥)
    go true true true true true = (λ e. omega arith, λ e. omega arith)
    go true true true true false = (λ e. omega arith, λ e. omega arith)
    go true true true false f = (λ e. omega arith, λ e. omega arith)
    go true true false d f = (λ e. omega arith, λ e. omega arith)
    go true false c d f = (λ e. omega arith, λ e. omega arith)
    go false b c d f = (λ e. omega arith, λ e. omega arith)

pub write_one : (words : List ℕ) (m : ℕ) (v : Verdict) (room : ℕ) (x y : Result (Unit {0}) Refusal) → told_write x ≡ write_of words m v room
    → told_write y ≡ write_of words m v room → x ≡ y
write_one words m v room x y p q =
    let none = names_none words m v room in
    told_write_one (write_of words m v room).number none.0 none.1 x y (ap (λ (w : BookWritten). w.number) p) (p ∙ sym q)

-- what a book that is read is in the numbers of document 01: 0 with its cores, its rows and its verdict
pub book_is_0 : (m n : ℕ) (v : Verdict)
    → told_read (Ok (record { m = m; n = n; verdict = v })) ≡ record { number = 0; row = 0; block = 0; m = m; n = n; verdict = v }
book_is_0 m n v = refl
