-- Laws of tables: what a row that was read is, what a table that passed its checks is, and how the checks of a table stand before others.
-- Assumes nothing.
use Rattle.std.specs.Prelude.{ℕ, ◌+◌, ◌*◌, ◌/◌, ◌%◌, ◌≤◌, ◌<◌, min, ◌≡◌, refl, Bool, true, false, ◌&&◌, cond, Some, None, is_none, List, [], ◌∷◌, ◌++◌, leb, eqb, length, get_or}
use Rattle.std.proofs.Common.{ap, ◌∙◌, ⊎_elim, arith, leb-true, leb-false, le-leb, eqb-true, eq-eqb, ne_eqb}
use Rattle.std.proofs.Math.ListN.{get_or-eq_default}
use Rattle.std.proofs.lemmas.Bool.{lt-leb, not-false}
use Rattle.sets.specs.BoolLaws.{either, and_left, and_right}
use Rattle.sets.specs.SumLaws.{first_is}
use Rattle.rows.specs.Known.{Ranged, Valid}
use Rattle.rows.specs.Judge.{Check, check, check_at, judge}
use Rattle.rows.specs.Numbers.{done, table_length, cores, row_range}
use Rattle.rows.specs.Table.{Checked, in_range, words_at, read_at, faulty, table, row_count, first_fault, table_checks, table_fault}
use Rattle.rows.specs.declared.table.Row.{Row}

-- ---- rows

pub in_range_lem : (r : Row) → in_range r ≡ true → Ranged r
unfolding in_range
in_range_lem r h =
    let h₃ = and_left (leb 1 r.c && leb r.c r.d && leb r.d r.t) (leb r.t 10_000_000) h in
    let h₂ = and_left (leb 1 r.c && leb r.c r.d) (leb r.d r.t) h₃ in
    record {
      some = leb-true 1 r.c (and_left (leb 1 r.c) (leb r.c r.d) h₂);
      within = leb-true r.c r.d (and_right (leb 1 r.c) (leb r.c r.d) h₂);
      constrained = leb-true r.d r.t (and_right (leb 1 r.c && leb r.c r.d) (leb r.d r.t) h₃);
      short = leb-true r.t 10_000_000 (and_right (leb 1 r.c && leb r.c r.d && leb r.d r.t) (leb r.t 10_000_000) h);
    }

-- past the last whole row there is no row in range, since its T reads as 0
pub past_fault : (words : List ℕ) (i : ℕ) → length words / 3 ≤ i → in_range (words_at words i) ≡ false
past_fault words i h =
    ⊎_elim
    (λ (e : in_range (words_at words i) ≡ true).
    let r = in_range_lem (words_at words i) e in
    let z : get_or words (3 * i + 2) 0 ≡ 0 = get_or-eq_default words 0 (omega arith) in
    absurd (omega (arith, r.some, r.within, r.constrained)))
    (λ e. e)
    (either (in_range (words_at words i)))

pub read_in_range : (words : List ℕ) (i : ℕ) → in_range (words_at words i) ≡ true → read_at words i ≡ Some (words_at words i)
unfolding read_at
read_in_range words i e = rw e refl

pub read_out_of_range : (words : List ℕ) (i : ℕ) → in_range (words_at words i) ≡ false → read_at words i ≡ None
unfolding read_at
read_out_of_range words i e = rw e refl

pub read_fault : (words : List ℕ) (i : ℕ) → read_at words i ≡ None → faulty words i ≡ true
read_fault words i h =
    ⊎_elim
    (λ (e : in_range (words_at words i) ≡ true).
    let f = read_in_range words i e in
    let z : ◌≡◌ {A = ℕ} 0 1 = cc in absurd (omega arith))
    (λ (e : in_range (words_at words i) ≡ false). rw e refl)
    (either (in_range (words_at words i)))

-- no row is read exactly where it is at fault
pub read_none : (words : List ℕ) (i : ℕ) → is_none (read_at words i) ≡ faulty words i
unfolding read_at
read_none words i =
    ⊎_elim (λ (e : in_range (words_at words i) ≡ true). rw e refl) (λ (e : in_range (words_at words i) ≡ false). rw e refl)
    (either (in_range (words_at words i)))

-- a row that was read: its words, in range
pub record Read (words : List ℕ) (i : ℕ) (r : Row) : Type 0 where
  pub words_are : words_at words i ≡ r
  pub fair : faulty words i ≡ false
  pub ranged : Ranged r

pub read_fine : (words : List ℕ) (i : ℕ) (r : Row) → read_at words i ≡ Some r → Read words i r
read_fine words i r h =
    ⊎_elim
    (λ (e : in_range (words_at words i) ≡ true).
    let f = read_in_range words i e in
    let s : words_at words i ≡ r = cc in
    record { words_are = s; fair = rw e refl; ranged = in_range_lem r (rw s at e) })
    (λ (e : in_range (words_at words i) ≡ false).
    let f = read_out_of_range words i e in
    let z : ◌≡◌ {A = ℕ} 0 1 = cc in absurd (omega arith))
    (either (in_range (words_at words i)))

-- of every row of a table C is at most D, also of one at fault, which never works
pub row_within : (words : List ℕ) (i : ℕ) → (table words i).c ≤ (table words i).d
row_within words i =
    ⊎_elim (λ (e : in_range (words_at words i) ≡ true). rw (read_in_range words i e) (in_range_lem (words_at words i) e).within)
    (λ (e : in_range (words_at words i) ≡ false). rw (read_out_of_range words i e) (omega arith))
    (either (in_range (words_at words i)))

-- and D is at most 10,000,000
pub row_short : (words : List ℕ) (i : ℕ) → (table words i).d ≤ 10_000_000
row_short words i =
    ⊎_elim
    (λ (e : in_range (words_at words i) ≡ true).
    let r = in_range_lem (words_at words i) e in
    rw (read_in_range words i e) (omega (arith, r.constrained, r.short)))
    (λ (e : in_range (words_at words i) ≡ false). rw (read_out_of_range words i e) (omega arith))
    (either (in_range (words_at words i)))

-- ---- the checks 1, 2 and 3

abbrev pub well_sized : List ℕ → Bool
well_sized words = eqb (length words % 3) 0 && leb (length words / 3) 96

abbrev pub some_cores : ℕ → Bool
some_cores m = leb 1 m && leb m 32

abbrev pub lowest_fault : List ℕ → ℕ
lowest_fault words = first_fault words (length words / 3)

-- the answer by the first check that fails, and where none does
pub fault_length : (words : List ℕ) (m : ℕ) → well_sized words ≡ false → table_fault words m ≡ record { number = table_length; row = 0 }
unfolding table_fault
fault_length words m e = rw e refl

pub fault_cores : (words : List ℕ) (m : ℕ) → well_sized words ≡ true → some_cores m ≡ false
    → table_fault words m ≡ record { number = cores; row = 0 }
unfolding table_fault
fault_cores words m e f = rw (e, f) refl

pub fault_row : (words : List ℕ) (m : ℕ) → well_sized words ≡ true → some_cores m ≡ true → lowest_fault words < length words / 3
    → table_fault words m ≡ record { number = row_range; row = lowest_fault words }
unfolding table_fault
fault_row words m e f h = rw (e, f, lt-leb (length words / 3) (lowest_fault words) h) refl

pub fault_none : (words : List ℕ) (m : ℕ) → well_sized words ≡ true → some_cores m ≡ true → length words / 3 ≤ lowest_fault words
    → table_fault words m ≡ record { number = done; row = 0 }
unfolding table_fault
fault_none words m e f h = rw (e, f, le-leb (length words / 3) (lowest_fault words) h) refl

-- the checks of a table answer no number but 0, 1, 2 and 3
pub fault_most : (words : List ℕ) (m : ℕ) → (table_fault words m).number ≤ 3
unfolding table_fault
fault_most words m = go (well_sized words) (some_cores m) (leb (length words / 3) (lowest_fault words))
  where
    go : (a b c : Bool) →
        (judge {A = Checked} (check a table_length ∷ check b cores ∷ check_at c row_range (lowest_fault words) ∷ [])
        (λ number place. record { number = number; row = place }) (record { number = done; row = 0 })).number ≤ 3
    go true true true = omega arith
    go true true false = omega arith
    go true false c = omega arith
    go false b c = omega arith

-- what follows the checks of a table: the work where they pass, else their refusal
abbrev after : {A : Type 0} → Checked → (ℕ → ℕ → A) → A → A
after f refuse work = let refusal = refuse f.number f.row in cond (eqb f.number done) work refusal

judge_table : {A : Type 0} (words : List ℕ) (m : ℕ) (others : List Check) (refuse : ℕ → ℕ → A) (work : A)
    → judge (table_checks words m ++ others) refuse work ≡ after (table_fault words m) refuse (judge others refuse work)
unfolding table_fault
judge_table words m others refuse work =
    go (well_sized words) (some_cores m) (leb (length words / 3) (lowest_fault words))
  where
    go : (a b c : Bool) →
        judge (check a table_length ∷ check b cores ∷ check_at c row_range (lowest_fault words) ∷ others) refuse work
        ≡ after
        (judge (check a table_length ∷ check b cores ∷ check_at c row_range (lowest_fault words) ∷ [])
        (λ number place. record { number = number; row = place }) (record { number = done; row = 0 }))
        refuse (judge others refuse work)
    go true true true = refl
    go true true false = refl
    go true false c = refl
    go false b c = refl

-- the checks of a table before other checks: what `check_table` answers serves for the whole list
module _ {A : Type 0} (words : List ℕ) (m : ℕ) (others : List Check) (refuse : ℕ → ℕ → A) (work : A) where
  pub judge_refused : ((table_fault words m).number ≡ done → ⊥)
      → judge (table_checks words m ++ others) refuse work ≡ refuse (table_fault words m).number (table_fault words m).row
  judge_refused h = judge_table words m others refuse work ∙ rw (ne_eqb (table_fault words m).number done h) refl

  pub judge_passed : (table_fault words m).number ≡ done → judge (table_checks words m ++ others) refuse work ≡ judge others refuse work
  judge_passed h = judge_table words m others refuse work ∙ rw (eq-eqb (table_fault words m).number done h) refl

row_is : (words : List ℕ) (i : ℕ) → faulty words i ≡ false → Ranged (table words i) × (table words i ≡ words_at words i)
row_is words i e =
    let fair = not-false (in_range (words_at words i)) e in
    rw (read_in_range words i fair) (in_range_lem (words_at words i) fair, refl)

pub passed_valid : (words : List ℕ) (m : ℕ) → (table_fault words m).number ≡ done → Valid words m
unfolding row_count first_fault
passed_valid words m h =
    ⊎_elim
    (λ (e : well_sized words ≡ true).
    ⊎_elim
    (λ (f : some_cores m ≡ true).
    ⊎_elim
    (λ (l : leb (length words / 3) (lowest_fault words) ≡ true).
    let size : length words % 3 ≡ 0 = eqb-true (length words % 3) 0 (and_left (eqb (length words % 3) 0) (leb (length words / 3) 96) e) in
    let most : length words / 3 ≤ 96 = leb-true (length words / 3) 96 (and_right (eqb (length words % 3) 0) (leb (length words / 3) 96) e) in
    let scan = first_is (faulty words) (length words / 3) 0 in
    let fair : (i : ℕ) → i < min (length words / 3) 96 → faulty words i ≡ false =
    λ i q. scan.before i (omega arith) (omega (arith, leb-true (length words / 3) (lowest_fault words) l))
    in
    record {
      some_cores = leb-true 1 m (and_left (leb 1 m) (leb m 32) f);
      most_cores = leb-true m 32 (and_right (leb 1 m) (leb m 32) f);
      whole = omega arith;
      most_rows = omega arith;
      ranged = λ i q. (row_is words i (fair i q)).0;
      words_are = λ i q. (row_is words i (fair i q)).1;
    })
    (λ (l : leb (length words / 3) (lowest_fault words) ≡ false).
    let z = ap (λ (r : Checked). r.number) (fault_row words m e f (leb-false (length words / 3) (lowest_fault words) l)) in
    absurd (omega arith))
    (either (leb (length words / 3) (lowest_fault words))))
    (λ (f : some_cores m ≡ false). let z = ap (λ (r : Checked). r.number) (fault_cores words m e f) in absurd (omega arith))
    (either (some_cores m)))
    (λ (e : well_sized words ≡ false). let z = ap (λ (r : Checked). r.number) (fault_length words m e) in absurd (omega arith))
    (either (well_sized words))

-- ---- any words

pub row_count_most : (words : List ℕ) → row_count words ≤ 96
unfolding row_count
row_count_most words = omega arith

-- so that a mask has a bit for each
pub row_count_bits : (words : List ℕ) → row_count words ≤ 128
row_count_bits words = omega (arith, row_count_most words)
