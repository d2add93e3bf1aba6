-- What the code tests for 13: a book whose blocks have their numbers and checks is what writing its content gives exactly where every spare byte is zero;
-- and the spare bytes of a block are one run.
-- Assumes nothing.
use Rattle.std.specs.Prelude.{ℕ, zero, suc, ◌+◌, ◌-◌, ◌*◌, ◌/◌, ◌%◌, ◌≤◌, ◌<◌, ◌≡◌, false, cond, ◌&&◌, List, [], ◌∷◌, leb, take, drop}
use Rattle.std.proofs.Common.{◌∙◌, zero-add, mul_comm, div-one, arith, eqb-true, eq-eqb, lt-ltb, le-ltb, le-leb}
use Rattle.std.proofs.Math.Arith.{digits_div, digits_mod}
use Rattle.std.proofs.Math.Bool.{Bool, true}
use Rattle.std.proofs.Math.Dec.{eqb}
use Rattle.std.proofs.Math.ListN.{length, get_or, get_or-eq_default}
use Rattle.std.proofs.Math.Logic.{⊎_elim}
use Rattle.std.proofs.Math.Path.{refl, sym, ap}
use Rattle.std.specs.List.{list_all, range_with_len}
use Rattle.std.proofs.lemmas.Bool.{lt-leb}
use Rattle.sets.specs.BoolLaws.{either, not_both}
use Rattle.rows.specs.Judge.{Check, check, check_at}
use Rattle.rows.specs.Numbers.{row_range, short_output, book_field}
use Rattle.sets.specs.Sets.{word}
use Rattle.book.specs.Bytes.{byte, big, little, check_of, all}
use Rattle.book.specs.ByteLaws.{run_length, run_at, all_at, all_make, all_part, all_from, all_next, side, check_ext, check_fits, byte_little, byte_big, byte_low, byte_high, byte_none, little_lt}
use Rattle.book.specs.Fault.{fault_of}
use Rattle.book.specs.Form.{formed}
use Rattle.book.specs.Layout.{Edition, edition_one, longest, head, inner, opened, sealed, at}
use Rattle.book.specs.LayoutLaws.{Fit, one_fits, at_inner, head_order, head_group, head_more}
use Rattle.book.specs.Read.{of_block, place, word_at, group_of, verdict_of, content, numbered, checked, spelled, fields_check, lowest_bad, body_checks}
use Rattle.book.specs.Known.{Sealed, Headed}
use Rattle.book.proofs.ReadLaws.{content_count}
use Rattle.book.specs.Spare.{spare, zero_at, zero_block, zeros, blank}

module _ (e : Edition) (f : Fit e) (b : List ℕ) (bytes : (i : ℕ) → get_or b i 0 < 256) (edition : get_or b 2 0 ≡ e.number) where
  -- what is written behind the number of a block is what was read, and zero where nothing is read
  Kept : ℕ → ℕ → Type 0
  Kept k q = inner e (content e b) k q ≡ cond (spare e (get_or b 4 0) k q) 0 (of_block b k (2 + q))

  -- block 0: byte q of the head is byte 2 + q of the book
  kept_field : (q : ℕ) → q < 112 + e.more → get_or (head e (content e b)) q 0 ≡ get_or b (2 + q) 0 → Kept 0 q
  unfolding Kept inner spare
  kept_field q l h =
      let z : 512 * 0 + (2 + q) ≡ 2 + q = omega arith in
      rw (lt-leb (112 + e.more) q l) (h ∙ ap (λ (i : ℕ). get_or b i 0) (sym z))

  -- the bytes of the group that is read are those where it stands
  group_kept : (i : ℕ) → i < 12 → byte i (word (group_of b)) ≡ get_or b (102 + i) 0
  group_kept i h =
      let low : ℕ → ℕ = λ j. get_or b (102 + j) 0 in
      let high : ℕ → ℕ = λ j. get_or b (110 + j) 0 in
      ⊎_elim
      (λ (l : 8 ≤ i).
      let a : 8 + (i - 8) ≡ i = omega arith in
      let d : 110 + (i - 8) ≡ 102 + i = omega arith in
      ap (λ (k : ℕ). byte k (word (group_of b))) (sym a)
      ∙ byte_high 8 (little 4 high) (little 8 low) (i - 8) (little_lt 8 low (λ j. bytes (102 + j)))
      ∙ byte_little 4 high (λ j. bytes (110 + j)) (i - 8) (omega arith) ∙ ap (λ (k : ℕ). get_or b k 0) d)
      (λ (l : i < 8). byte_low 8 (little 4 high) (little 8 low) i l ∙ byte_little 8 low (λ j. bytes (102 + j)) i l)
      (side 8 i)

  kept_head : (q : ℕ) → Kept 0 q
  unfolding Kept inner spare content
  kept_head zero = kept_field 0 (omega arith) (sym edition)
  kept_head (suc zero) = kept_field 1 (omega arith) refl
  kept_head (suc (suc zero)) = kept_field 2 (omega arith) refl
  kept_head (suc (suc (suc zero))) = kept_field 3 (omega arith) refl
  kept_head (suc (suc (suc (suc j)))) =
      let q : ℕ = suc (suc (suc (suc j))) in
      let y = content e b in
      let o : length y.verdict.order ≡ 96 = run_length 6 96 (λ i. get_or b i 0) in
      let at-q : (i : ℕ) → i ≡ q → get_or (head e y) i 0 ≡ get_or (head e y) q 0 = λ i r. ap (λ (k : ℕ). get_or (head e y) k 0) r in
      let back : (i : ℕ) → i ≡ 2 + q → get_or b i 0 ≡ get_or b (2 + q) 0 = λ i r. ap (λ (k : ℕ). get_or b k 0) r in
      ⊎_elim
      (λ (h : 96 ≤ j).
      ⊎_elim
      (λ (h₂ : 108 ≤ j).
      let i = j - 108 in
      let a = sym (at-q (112 + i) (omega arith)) ∙ head_more e y o i in
      ⊎_elim
      (λ (h₃ : e.more ≤ i).
      rw (le-leb (112 + e.more) q (omega arith))
      (a ∙ get_or-eq_default y.more 0 (omega (arith, run_length 114 e.more (λ i. get_or b i 0)))))
      (λ (h₃ : i < e.more).
      kept_field q (omega arith) (a ∙ run_at 114 e.more (λ i. get_or b i 0) i h₃ ∙ back (114 + i) (omega arith)))
      (side e.more i))
      (λ (h₂ : j < 108).
      let i = j - 96 in
      kept_field q (omega arith)
      (sym (at-q (100 + i) (omega arith)) ∙ head_group e y o i (omega arith)
      ∙ group_kept i (omega arith) ∙ back (102 + i) (omega arith)))
      (side 108 j))
      (λ (h : j < 96).
      kept_field q (omega arith)
      (sym (at-q (4 + j) (omega arith)) ∙ head_order e y o j h ∙ run_at 6 96 (λ i. get_or b i 0) j h ∙ back (6 + j) (omega arith)))
      (side 96 j)

  -- a row block: each byte of a word of the table
  kept_row : (k q : ℕ) → Kept (suc k) q
  unfolding Kept inner spare content
  kept_row k q =
      let n = get_or b 4 0 in
      let y = content e b in
      let j = e.page * k + q / 4 in
      ⊎_elim (λ (h : 4 * e.page ≤ q). rw (le-ltb q (4 * e.page) h) refl)
      (λ (h : q < 4 * e.page).
      ⊎_elim
      (λ (h₂ : e.words * n ≤ j).
      rw (lt-ltb q (4 * e.page) h, le-ltb j (e.words * n) h₂)
      (ap (byte (3 - q % 4)) (get_or-eq_default y.table 0 (omega (arith, run_length 0 (e.words * n) (word_at e b)))) ∙ byte_none (3 - q % 4)))
      (λ (h₂ : j < e.words * n).
      let r : q / 4 < e.page = omega arith in
      let d : j / e.page ≡ k = ap (λ (x : ℕ). (x + q / 4) / e.page) (mul_comm e.page k) ∙ digits_div k r in
      let m : j % e.page ≡ q / 4 = ap (λ (x : ℕ). (x + q / 4) % e.page) (mul_comm e.page k) ∙ digits_mod k r in
      let g : ℕ → ℕ = λ t. get_or b (place e j + t) 0 in
      let i : place e j + q % 4 ≡ 512 * suc k + (2 + q) = omega arith in
      rw (lt-ltb q (4 * e.page) h, lt-ltb j (e.words * n) h₂)
      (ap (byte (3 - q % 4)) (run_at 0 (e.words * n) (word_at e b) j h₂ ∙ ap (word_at e b) (zero-add j))
      ∙ byte_big g (λ t. bytes _) (q % 4) (omega arith) ∙ ap (λ (x : ℕ). get_or b x 0) i))
      (side (e.words * n) j))
      (side (4 * e.page) q)

  pub kept : (k q : ℕ) → inner e (content e b) k q ≡ cond (spare e (get_or b 4 0) k q) 0 (of_block b k (2 + q))
  unfolding Kept
  kept zero q = kept_head q
  kept (suc k) q = kept_row k q

  -- ---- the whole book

  module _ (N : ℕ) (small : N ≤ longest) (len : length b ≡ 512 * N) where
    two_bytes : (u v w : ℕ) → u < 256 → v < 256 → w < 65536 → (0 * 256 + u) * 256 + v ≡ w → (u ≡ byte 1 w) × (v ≡ byte 0 w)
    two_bytes u v w p q r h = (omega arith, omega (arith, div-one w))

    module _ (k : ℕ) (l : k < N) (num : numbered b k ≡ true) (chk : checked b k ≡ true)
        (zeros : (q : ℕ) → q < 508 → spare e (get_or b 4 0) k q ≡ true → of_block b k (2 + q) ≡ 0) where
      inner_same : (q : ℕ) → q < 508 → of_block b k (2 + q) ≡ inner e (content e b) k q
      inner_same q h =
          ⊎_elim (λ (s : spare e (get_or b 4 0) k q ≡ true). zeros q h s ∙ sym (kept k q ∙ rw s refl))
          (λ (s : spare e (get_or b 4 0) k q ≡ false). sym (kept k q ∙ rw s refl))
          (either (spare e (get_or b 4 0) k q))

      number_bytes : (of_block b k 0 ≡ byte 1 k) × (of_block b k 1 ≡ byte 0 k)
      unfolding numbered
      number_bytes = two_bytes (of_block b k 0) (of_block b k 1) k (bytes _) (bytes _) (omega arith) (eqb-true _ _ num)

      open_same : (p : ℕ) → p < 510 → of_block b k p ≡ opened e (content e b) k p
      unfolding opened
      open_same zero h = number_bytes.0
      open_same (suc zero) h = number_bytes.1
      open_same (suc (suc q)) h =
          let a : suc (suc q) ≡ 2 + q = omega arith in
          let c : 2 + q - 2 ≡ q = omega arith in
          rw (a, le-ltb (2 + q) 2 (omega arith), c) (inner_same q (omega arith))

      block_same : (p : ℕ) → p < 512 → of_block b k p ≡ sealed e (content e b) k p
      unfolding sealed checked
      block_same p h =
          let c = check_of (opened e (content e b) k) in
          let s : check_of (of_block b k) ≡ c = check_ext (of_block b k) (opened e (content e b) k) open_same in
          let a : 512 * k + (510 + 0) ≡ 512 * k + 510 = omega arith in
          let d : 512 * k + (510 + 1) ≡ 512 * k + 511 = omega arith in
          let r : big 2 (λ t. get_or b (512 * k + (510 + t)) 0) ≡ check_of (of_block b k) = eqb-true _ _ chk in
          let t = two_bytes (of_block b k 510) (of_block b k 511) c (bytes _) (bytes _) (check_fits _) (rw (a, d) at r ∙ s) in
          ⊎_elim
          (λ (g : 510 ≤ p).
          ⊎_elim (λ (i : 511 ≤ p). let r : p ≡ 511 = omega arith in rw r t.1)
          (λ (i : p < 511). let r : p ≡ 510 = omega arith in rw r t.0)
          (side 511 p))
          (λ (g : p < 510). rw (lt-ltb p 510 g) (open_same p g))
          (side 510 p)

    pub spelled_spare : ((k : ℕ) → k < N → (numbered b k ≡ true) × (checked b k ≡ true)
        × ((q : ℕ) → q < 508 → spare e (get_or b 4 0) k q ≡ true → of_block b k (2 + q) ≡ 0)) → spelled e (content e b) b ≡ true
    unfolding spelled
    spelled_spare H =
        let each : (i : ℕ) → i < length b → eqb (get_or b i 0) (at e (content e b) i) ≡ true =
        λ i l.
        let K = H (i / 512) (omega arith) in
        let a : 512 * (i / 512) + i % 512 ≡ i = omega arith in
        eq-eqb (get_or b i 0) (at e (content e b) i)
        (ap (λ (x : ℕ). get_or b x 0) (sym a) ∙ block_same (i / 512) (omega arith) K.0 K.1 K.2 (i % 512) (omega arith))
        in
        all_make (length b) (λ i. eqb (get_or b i 0) (at e (content e b) i)) each

    pub spare_spelled : spelled e (content e b) b ≡ true → (k q : ℕ) → k < N → q < 508 → spare e (get_or b 4 0) k q ≡ true → of_block b k (2 + q) ≡ 0
    unfolding spelled
    spare_spelled h k q l m s =
        let y = content e b in
        eqb-true _ _ (all_at (length b) (λ i. eqb (get_or b i 0) (at e y i)) h (512 * k + (2 + q)) (omega arith))
        ∙ at_inner e y k q m ∙ kept k q ∙ rw s refl

    zero_at_lem : zeros e (get_or b 4 0) b ≡ true → (k q : ℕ) → k < N → q < 508 → spare e (get_or b 4 0) k q ≡ true → of_block b k (2 + q) ≡ 0
    unfolding zeros zero_block
    zero_at_lem h k q l m s =
        let n = get_or b 4 0 in
        let block = all_at (length b / 512) (λ k. zero_block e n b k) h k (omega arith) in
        eqb-true (of_block b k (2 + q)) 0 (rw s at (all_at 508 (zero_at e n b k) block q m))

    zero_make : ((k q : ℕ) → k < N → q < 508 → spare e (get_or b 4 0) k q ≡ true → of_block b k (2 + q) ≡ 0) → zeros e (get_or b 4 0) b ≡ true
    unfolding zeros zero_block
    zero_make H =
        let n = get_or b 4 0 in
        all_make (length b / 512) (λ k. zero_block e n b k)
        (λ k l.
        all_make 508 (zero_at e n b k)
        (λ q m.
        ⊎_elim (λ (s : spare e n k q ≡ true). rw s (eq-eqb (of_block b k (2 + q)) 0 (H k q (omega arith) m s))) (λ (s : spare e n k q ≡ false). rw s refl)
        (either (spare e n k q))))

    -- what code tests for 13 besides the form: where the blocks' numbers and checks are right, the spare bytes alone
    pub spelled_zeros : ((k : ℕ) → k < N → (numbered b k ≡ true) × (checked b k ≡ true)) → spelled e (content e b) b ≡ zeros e (get_or b 4 0) b
    spelled_zeros H =
        ⊎_elim
        (λ (z : zeros e (get_or b 4 0) b ≡ true).
        spelled_spare (λ k l. ((H k l).0, (H k l).1, λ q m s. zero_at_lem z k q l m s)) ∙ sym z)
        (λ (z : zeros e (get_or b 4 0) b ≡ false).
        ⊎_elim (λ (t : spelled e (content e b) b ≡ true). not_both (zero_make (spare_spelled t)) z)
        (λ (t : spelled e (content e b) b ≡ false). t ∙ sym z)
        (either (spelled e (content e b) b)))
        (either (zeros e (get_or b 4 0) b))

-- ---- the spare bytes of a block as a run

-- a part of the book is such a run
pub blank_part : (b : List ℕ) (from n : ℕ) → from + n ≤ length b
    → all (length (take n (drop from b))) (λ t. eqb (get_or (take n (drop from b)) t 0) 0) ≡ blank b from n
unfolding blank
blank_part b from n h = all_part 0 from n b h

-- block 0: what stands behind the group
pub head_blank : (n : ℕ) (b : List ℕ) → zero_block edition_one n b 0 ≡ blank b 114 396
unfolding zero_block blank spare
head_blank n b =
    all_from 112 396 (zero_at edition_one n b 0) (λ t. eqb (get_or b (114 + t) 0) 0) (λ q l. rw (lt-leb 112 q l) refl)
    (λ t l.
    let e : 512 * 0 + (2 + (112 + t)) ≡ 114 + t = omega arith in
    rw (le-leb 112 (112 + t) (omega arith), e) refl)

-- a row block: what stands behind its words
module _ (n k count : ℕ) (few : count ≤ 126) (most : 126 * k + count ≤ 3 * n) (last : (j : ℕ) → count ≤ j → j < 126 → 3 * n ≤ 126 * k + j) where
  word_kept : (q : ℕ) → q < 4 * count → spare edition_one n (suc k) q ≡ false
  unfolding spare
  word_kept q l = rw (lt-ltb q 504 (omega arith), lt-ltb (126 * k + q / 4) (3 * n) (omega arith)) refl

  rest_spare : (q : ℕ) → 4 * count ≤ q → spare edition_one n (suc k) q ≡ true
  unfolding spare
  rest_spare q l =
      ⊎_elim
      (λ (h : 504 ≤ q). rw (le-ltb q 504 h) refl)
      (λ (h : q < 504). rw (lt-ltb q 504 h, le-ltb (126 * k + q / 4) (3 * n) (last (q / 4) (omega arith) (omega arith))) refl)
      (side 504 q)

  pub rows_blank : (b : List ℕ) → zero_block edition_one n b (suc k) ≡ blank b (512 * (k + 1) + 2 + 4 * count) (508 - 4 * count)
  unfolding zero_block blank
  rows_blank b =
      let p : ℕ → Bool = zero_at edition_one n b (suc k) in
      let from : ℕ = 512 * (k + 1) + 2 + 4 * count in
      let whole : 508 ≡ 4 * count + (508 - 4 * count) = omega arith in
      ap (λ (c : ℕ). all c p) whole
      ∙ all_from (4 * count) (508 - 4 * count) p (λ t. eqb (get_or b (from + t) 0) 0) (λ q l. rw (word_kept q l) refl)
      (λ t l.
      let e : 512 * suc k + (2 + (4 * count + t)) ≡ from + t = omega arith in
      rw (rest_spare (4 * count + t) (omega arith), e) refl)

-- every block: block 0, and then the row blocks one after the other
pub zeros_listed : (n count : ℕ) (b : List ℕ) → length b / 512 ≡ 1 + count
    → blank b 114 396 && list_all (λ k. zero_block edition_one n b (k + 1)) (range_with_len 0 count) ≡ zeros edition_one n b
unfolding zeros
zeros_listed n count b e =
    let size : length b / 512 ≡ suc count = omega (arith, e) in
    rw (size, ← head_blank n b) (sym (all_next count (zero_block edition_one n b)))

-- ---- 13, and the checks of the body

-- of a book whose blocks and head are right, 13 is exactly that the form is wrong or a spare byte is not zero
pub fields_iff : (b : List ℕ) (n : ℕ) → ((i : ℕ) → get_or b i 0 < 256) → Sealed b → Headed b n
    → (fields_check edition_one (content edition_one b) b).passed ≡ formed n (verdict_of b) && zeros edition_one n b
unfolding content
fields_iff b n bytes s h =
    let same = spelled_zeros edition_one one_fits b bytes h.edition (length b / 512) (omega (arith, s.most)) s.whole s.blocks in
    rw h.count (ap (λ (t : Bool). formed (get_or b 4 0) (verdict_of b) && t) same)

-- the checks of the body, as the code makes them
abbrev pub made_checks : List ℕ → ℕ → ℕ → List Check
made_checks b n room =
    let low = lowest_bad edition_one (content edition_one b) in
    check (formed n (verdict_of b) && zeros edition_one n b) book_field
    ∷ check_at (leb n low) row_range low
    ∷ check (leb (3 * n) room) short_output
    ∷ []

pub body_checks_lem : (b : List ℕ) (n room : ℕ) → ((i : ℕ) → get_or b i 0 < 256) → Sealed b → Headed b n
    → fault_of (body_checks edition_one (content edition_one b) b room) ≡ fault_of (made_checks b n room)
unfolding body_checks
body_checks_lem b n room bytes s h = rw (fields_iff b n bytes s h, content_count edition_one b ∙ sym h.count) refl
