-- Laws of reading's checks: the blocks one at a time, what the checks leave known, and the words of the table.
-- Assumes nothing.
use Rattle.std.specs.Prelude.{ℕ, zero, suc, ◌+◌, ◌-◌, ◌*◌, ◌/◌, ◌%◌, ◌≤◌, ◌<◌, ◌≡◌, Bool, true, false, cond, ◌&&◌, Some, None, List, [], ◌++◌, eqb, leb, length, get_or, drop}
use Rattle.std.proofs.Common.{zero-le, sym, ap, ◌∙◌, ⊎_elim, arith, add-one, eq-or-lt_of_le, zero-add, append_assoc, eqb-true, leb-true}
use Rattle.std.proofs.Math.Path.{refl}
use Rattle.std.specs.Simd.{first_chunks}
use Rattle.sets.specs.BoolLaws.{and_left, and_right}
use Rattle.sets.specs.Sums.{first}
use Rattle.rows.specs.Table.{in_range, words_at, read_at, faulty}
use Rattle.rows.specs.declared.table.Row.{Row}
use Rattle.rows.specs.Judge.{Check}
use Rattle.rows.specs.JudgeLaws.{Passed, append_passed}
use Rattle.book.specs.Bytes.{big, check_of}
use Rattle.book.specs.ByteLaws.{run_at, run_length, chunk_at, big_ext, check_ext}
use Rattle.book.specs.Fault.{At, Clear, fault_of}
use Rattle.book.specs.FaultLaws.{judge_told, fault_first, fault_next}
use Rattle.book.specs.Form.{formed}
use Rattle.book.specs.Layout.{Edition, edition_one, longest}
use Rattle.book.specs.Known.{Sealed, Headed}
use Rattle.book.specs.Read.{of_block, place, word_at, verdict_of, content, whole, numbered, checked, each_block, spelled, lowest_bad, block_checks, head_checks, body_checks, read_checks, refused, taken, read_of, read_into}

-- ---- the blocks, one at a time

module _ (b : List ℕ) (n k : ℕ) (l : k < n) where
  next : fault_of (each_block b k (n - k)) ≡ fault_of (each_block b k (suc (n - (k + 1))))
  next = let e : n - k ≡ suc (n - (k + 1)) = omega arith in ap (λ (d : ℕ). fault_of (each_block b k d)) e

  pub bad_number : numbered b k ≡ false → fault_of (each_block b k (n - k)) ≡ At 10 k
  bad_number p = next ∙ rw p refl

  pub bad_check : numbered b k ≡ true → checked b k ≡ false → fault_of (each_block b k (n - k)) ≡ At 11 k
  bad_check p q = next ∙ rw (p, q) refl

  pub good_block : numbered b k ≡ true → checked b k ≡ true → fault_of (each_block b k (n - k)) ≡ fault_of (each_block b (k + 1) (n - (k + 1)))
  good_block p q = next ∙ rw (p, q, add-one k) refl

-- block k of the book, where the book is cut into blocks
module _ (b : List ℕ) (blocks : List (List ℕ)) (k : ℕ) (cut : blocks ≡ first_chunks 512 (length b / 512) b) (l : k < length b / 512) where
  byte_in : (t : ℕ) → t < 512 → get_or (get_or blocks k []) t 0 ≡ of_block b k t
  byte_in t h = ap (λ (l : List (List ℕ)). get_or (get_or l k []) t 0) cut ∙ chunk_at 512 (length b / 512) b k t l h

  pub numbered_in : eqb (big 2 (λ t. get_or (get_or blocks k []) t 0)) k ≡ numbered b k
  unfolding numbered
  numbered_in = ap (λ (n : ℕ). eqb n k) (big_ext 2 _ _ (λ t h. byte_in t (omega arith)))

  pub checked_in : eqb (big 2 (λ t. get_or (get_or blocks k []) (510 + t) 0)) (check_of (λ p. get_or (get_or blocks k []) p 0)) ≡ checked b k
  unfolding checked
  checked_in =
      rw (big_ext 2 _ (λ t. of_block b k (510 + t)) (λ t h. byte_in (510 + t) (omega arith)), check_ext _ (of_block b k) (λ p h. byte_in p (omega arith))) refl

-- ---- what the checks leave known

each_block_lem : (b : List ℕ) (k d : ℕ) → Passed (each_block b k d) → (j : ℕ) → k ≤ j → j < k + d → (numbered b j ≡ true) × (checked b j ≡ true)
each_block_lem b k zero p j h l = absurd (omega arith)
each_block_lem b k (suc d) p j h l =
    ⊎_elim (λ (e : k ≡ j). rw (← e) (p.0, p.1.0)) (λ (m : k < j). each_block_lem b (suc k) d p.1.1 j m (omega arith)) (eq-or-lt_of_le h)

pub whole_blocks : (b : List ℕ) → whole b ≡ true → (length b % 512 ≡ 0) × (1 ≤ length b / 512) × (length b / 512 ≤ 4)
unfolding whole
whole_blocks b h =
    let r : Bool = eqb (length b % 512) 0 in
    let s : Bool = leb 1 (length b / 512) in
    let t : Bool = leb (length b / 512) longest in (
      eqb-true _ 0 (and_left r s (and_left (r && s) t h)),
      leb-true 1 _ (and_right r s (and_left (r && s) t h)),
      leb-true _ 4 (and_right (r && s) t h),
    )

pub sealed_blocks : (b : List ℕ) → Passed (block_checks b) → Sealed b
unfolding block_checks
sealed_blocks b p =
    let w = whole_blocks b p.0 in
    record {
      some = omega (arith, w.0, w.1);
      most = omega (arith, w.0, w.2);
      whole = omega (arith, w.0);
      blocks = λ k l. each_block_lem b 0 (length b / 512) p.1 k zero-le (omega arith);
    }

pub headed : (b : List ℕ) → Passed (head_checks edition_one (content edition_one b) b) → Headed b (get_or b 4 0)
unfolding head_checks content
headed b p =
    let m = get_or b 3 0 in
    record {
      edition = eqb-true _ 1 p.0;
      some_cores = leb-true 1 m (and_left (leb 1 m) (leb m 32) p.1.0);
      most_cores = leb-true m 32 (and_right (leb 1 m) (leb m 32) p.1.0);
      count = refl;
      few = leb-true _ 96 p.1.1.0;
      size = eqb-true _ _ p.1.1.1.0;
    }

-- ---- the table

pub table_at : (e : Edition) (b : List ℕ) (j : ℕ) → j < e.words * get_or b 4 0 → get_or (content e b).table j 0 ≡ word_at e b j
unfolding content
table_at e b j h = run_at 0 (e.words * get_or b 4 0) (word_at e b) j h ∙ ap (word_at e b) (zero-add j)

-- where the three words of row i stand
place_row : (i t : ℕ) → t < 3 → 512 * (1 + i / 42) + 2 + 12 * (i % 42) + 4 * t ≡ place edition_one (3 * i + t)
place_row i t h =
    let d : (3 * i + t) / 126 ≡ i / 42 = omega arith in
    let r : (3 * i + t) % 126 ≡ 3 * (i % 42) + t = omega arith in
    rw (d, r) (omega arith)

pub word_row : (b : List ℕ) (i t p : ℕ) → t < 3 → p ≡ 512 * (1 + i / 42) + 2 + 12 * (i % 42) + 4 * t
    → big 4 (λ s. get_or b (p + s) 0) ≡ word_at edition_one b (3 * i + t)
word_row b i t p h e = ap (λ (x : ℕ). big 4 (λ s. get_or b (x + s) 0)) (e ∙ place_row i t h)

-- a row is read by its words
pub read_ext : (t u : List ℕ) (i j : ℕ) → words_at t i ≡ words_at u j → read_at t i ≡ read_at u j
unfolding read_at
read_ext t u i j e = ap (λ (r : Row). cond (in_range r) (Some r) None) e

pub table_length : (e : Edition) (b : List ℕ) → length (content e b).table ≡ e.words * get_or b 4 0
unfolding content
table_length e b = run_length 0 (e.words * get_or b 4 0) (word_at e b)

pub headed_table : (b : List ℕ) (n : ℕ) → Headed b n → length (content edition_one b).table ≡ 3 * n
headed_table b n h = table_length edition_one b ∙ ap (λ (k : ℕ). 3 * k) (sym h.count)

-- the lowest bad row is the first that rows' own test does not pass
pub lowest_bad_lem : (b : List ℕ) (n : ℕ) → n ≡ get_or b 4 0
    → first (faulty (content edition_one b).table) n 0 ≡ lowest_bad edition_one (content edition_one b)
unfolding lowest_bad content
lowest_bad_lem b n e = ap (λ (k : ℕ). first (faulty (content edition_one b).table) k 0) e

pub content_count : (e : Edition) (b : List ℕ) → (content e b).n ≡ get_or b 4 0
unfolding content
content_count e b = refl

-- ---- the whole of reading

-- what all checks leave known of a book with room for so many words
pub record Readable (b : List ℕ) (room : ℕ) : Type 0 where
  pub sealed : Sealed b
  pub headed : Headed b (get_or b 4 0)
  pub form : formed (get_or b 4 0) (verdict_of b) ≡ true
  pub spelling : spelled edition_one (content edition_one b) b ≡ true
  pub rows : get_or b 4 0 ≤ lowest_bad edition_one (content edition_one b)
  pub space : 3 * get_or b 4 0 ≤ room

pub readable : (b : List ℕ) (room : ℕ) → Passed (read_checks edition_one b room) → Readable b room
unfolding body_checks content
readable b room h =
    let x = content edition_one b in
    let outer = append_passed (block_checks b) (head_checks edition_one x b ++ body_checks edition_one x b room) h in
    let inner = append_passed (head_checks edition_one x b) (body_checks edition_one x b room) outer.1 in
    let body = inner.1 in
    record {
      sealed = sealed_blocks b outer.0;
      headed = headed b inner.0;
      form = and_left (formed x.n x.verdict) (spelled edition_one x b) body.0;
      spelling = and_right (formed x.n x.verdict) (spelled edition_one x b) body.0;
      rows = leb-true x.n (lowest_bad edition_one x) body.1.0;
      space = leb-true (3 * x.n) room body.1.1.0;
    }

-- the first fault of the lists, one after the other: that of the blocks and of the head, and that of the body
abbrev pub head : List ℕ → List Check
head b = head_checks edition_one (content edition_one b) b

abbrev pub outer : List ℕ → List Check
outer b = block_checks b ++ head b

module _ (b : List ℕ) (room : ℕ) where
  abbrev pub body : List Check
  body = body_checks edition_one (content edition_one b) b room

  pub outer_fault : (i p : ℕ) → fault_of (outer b) ≡ At i p → fault_of (read_checks edition_one b room) ≡ At i p
  outer_fault i p h = ap fault_of (sym (append_assoc (block_checks b) (head b) body)) ∙ fault_first (outer b) body i p h

  pub body_fault : fault_of (outer b) ≡ Clear → fault_of (read_checks edition_one b room) ≡ fault_of body
  body_fault h = ap fault_of (sym (append_assoc (block_checks b) (head b) body)) ∙ fault_next (outer b) body h

-- the answer and the lent words by the first fault
module _ (b : List ℕ) where
  pub read_refused : (room i p : ℕ) → fault_of (read_checks edition_one b room) ≡ At i p → read_of b room ≡ refused i p
  unfolding read_of
  read_refused room i p h = judge_told (read_checks edition_one b room) _ _ ∙ rw h refl

  pub into_refused : (words : List ℕ) (i p : ℕ) → fault_of (read_checks edition_one b (length words)) ≡ At i p → read_into b words ≡ words
  unfolding read_into
  into_refused words i p h = judge_told (read_checks edition_one b (length words)) _ _ ∙ rw h refl

  pub read_taken : (room : ℕ) → fault_of (read_checks edition_one b room) ≡ Clear → read_of b room ≡ taken (content edition_one b)
  unfolding read_of
  read_taken room h = judge_told (read_checks edition_one b room) _ _ ∙ rw h refl

  pub into_taken : (words : List ℕ) → fault_of (read_checks edition_one b (length words)) ≡ Clear
      → read_into b words ≡ (content edition_one b).table ++ drop (3 * get_or b 4 0) words
  unfolding read_into
  into_taken words h =
      judge_told (read_checks edition_one b (length words)) _ _ ∙ rw (h, table_length edition_one b) refl
