-- What is written reads back, for every edition whose blocks hold their fields: the content of a book is what was written, and every check passes.
-- Assumes nothing.
use Rattle.std.specs.Prelude.{ℕ, zero, suc, ◌+◌, ◌-◌, ◌*◌, ◌/◌, ◌%◌, ◌^◌, ◌≤◌, ◌<◌, ◌≡◌, Bool, ltb, List, ◌++◌}
use Rattle.std.proofs.Common.{ap, ◌∙◌, ⊎_elim, zero-add, le-div_iff_mul-le, mul-le-mul_left, arith, eq-eqb, lt-ltb, le-leb, ltb-true, ltb-false}
use Rattle.std.proofs.Math.Bool.{true, false, not}
use Rattle.std.proofs.Math.Dec.{eqb}
use Rattle.std.proofs.Math.ListN.{length, get_or}
use Rattle.std.proofs.Math.Nat.{mod-lt, div-add-mod, div-mul-le_self, suc-mul}
use Rattle.std.proofs.Math.Path.{refl}
use Rattle.sets.specs.BoolLaws.{either, not_both, and_in}
use Rattle.sets.specs.Sums.{first}
use Rattle.sets.specs.NumberLaws.{div_mono}
use Rattle.sets.specs.SumLaws.{first_is}
use Rattle.rows.specs.Table.{in_range}
use Rattle.rows.specs.JudgeLaws.{Passed, passed_append}
use Rattle.book.specs.Bytes.{byte, big, little, check_of, run}
use Rattle.book.specs.ByteLaws.{run_is, all_make, check_ext, check_fits, little_ext, little_byte, byte_low, byte_high, big_two, big_four}
use Rattle.book.specs.Form.{formed}
use Rattle.book.specs.Layout.{Edition, longest, Content, blocks, head, inner, opened, sealed, at, book_of}
use Rattle.book.specs.LayoutLaws.{Fit, book_length, book_at, sealed_open, sealed_check, at_block, at_inner, at_head, head_order, head_group, head_more}
use Rattle.book.specs.Read.{of_block, place, word_at, content, whole, numbered, checked, each_block, block_checks, head_checks, spelled, row_words, lowest_bad, body_checks, read_checks}

pub record Legal (e : Edition) (x : Content) : Type 0 where
  pub some_cores : 1 ≤ x.m
  pub most_cores : x.m ≤ 32
  pub few : x.n ≤ 96
  pub order : length x.verdict.order ≡ 96
  pub low : x.verdict.group.low < 2 ^ 64
  pub high : x.verdict.group.high < 2 ^ 32
  pub form : formed x.n x.verdict ≡ true
  pub more : length x.more ≡ e.more
  pub table : length x.table ≡ e.words * x.n
  pub words : (j : ℕ) → get_or x.table j 0 < 2 ^ 32
  pub rows : (i : ℕ) → i < x.n → in_range (row_words e x.table i) ≡ true

-- a test that takes none of the numbers below n
first_none : (p : ℕ → Bool) (n : ℕ) → ((i : ℕ) → i < n → p i ≡ false) → n ≤ first p n 0
first_none p n h =
    let r = first_is p n 0 in
    ⊎_elim (λ e. let l = ltb-true (first p n 0) n e in not_both (r.found (omega (arith, l))) (h (first p n 0) l))
    (ltb-false (first p n 0) n)
    (either (ltb (first p n 0) n))

-- a byte of word j of the table
word_byte : (e : Edition) (x : Content) (j t : ℕ) → t < 4 → 0 < e.page → 4 * e.page ≤ 508
    → at e x (place e j + t) ≡ byte (3 - t) (get_or x.table j 0)
unfolding inner
word_byte e x j t h s f =
    let J = j / e.page in
    let R = j % e.page in
    let r : R < e.page = mod-lt j s in
    let a : place e j + t ≡ 512 * suc J + (2 + (4 * R + t)) = omega arith in
    let b : (4 * R + t) % 4 ≡ t = omega arith in
    let c : (4 * R + t) / 4 ≡ R = omega arith in
    ap (at e x) a ∙ at_inner e x (suc J) (4 * R + t) (omega arith)
    ∙ rw (lt-ltb (4 * R + t) (4 * e.page) (omega arith), b, c, div-add-mod j e.page) refl

module _ (e : Edition) (f : Fit e) (x : Content) (l : Legal e x) where
  size : ℕ
  size = 512 * blocks e x.n

  len : length (book_of e x) ≡ size
  unfolding size
  len = book_length e x

  get : (i : ℕ) → i < size → get_or (book_of e x) i 0 ≡ at e x i
  unfolding size
  get i h = book_at e x i h

  big_enough : 512 ≤ size
  unfolding size
  big_enough = omega arith

  -- ---- the fields stand where they are read

  field : (q : ℕ) → q < 508 → get_or (book_of e x) (2 + q) 0 ≡ get_or (head e x) q 0
  field q h = get (2 + q) (omega (arith, big_enough)) ∙ at_head e x q h

  field_at : (i q : ℕ) → i ≡ 2 + q → q < 508 → get_or (book_of e x) i 0 ≡ get_or (head e x) q 0
  field_at i q a h = ap (λ (k : ℕ). get_or (book_of e x) k 0) a ∙ field q h

  field_order : (j : ℕ) → j < 96 → get_or (book_of e x) (6 + j) 0 ≡ get_or x.verdict.order j 0
  field_order j h = field_at (6 + j) (4 + j) (omega arith) (omega arith) ∙ head_order e x l.order j h

  field_low : (j : ℕ) → j < 8 → get_or (book_of e x) (102 + j) 0 ≡ byte j x.verdict.group.low
  field_low j h =
      field_at (102 + j) (100 + j) (omega arith) (omega arith) ∙ head_group e x l.order j (omega arith)
      ∙ byte_low 8 x.verdict.group.high x.verdict.group.low j h

  field_high : (j : ℕ) → j < 4 → get_or (book_of e x) (110 + j) 0 ≡ byte j x.verdict.group.high
  field_high j h =
      field_at (110 + j) (100 + (8 + j)) (omega arith) (omega arith) ∙ head_group e x l.order (8 + j) (omega arith)
      ∙ byte_high 8 x.verdict.group.high x.verdict.group.low j l.low

  field_more : (j : ℕ) → j < e.more → get_or (book_of e x) (114 + j) 0 ≡ get_or x.more j 0
  field_more j h = field_at (114 + j) (112 + j) (omega arith) (omega (arith, f.more)) ∙ head_more e x l.order j

  field_word : (j : ℕ) → j < e.words * x.n → word_at e (book_of e x) j ≡ get_or x.table j 0
  unfolding size
  field_word j h =
      let J = j / e.page in
      let up : suc J ≤ (e.words * x.n + (e.page - 1)) / e.page =
      (le-div_iff_mul-le f.some).1 (rw suc-mul (omega (arith, div-mul-le_self j e.page, f.some)))
      in
      let r : j % e.page < e.page = mod-lt j f.some in
      let at_byte : (t : ℕ) → t < 4 → get_or (book_of e x) (place e j + t) 0 ≡ byte (3 - t) (get_or x.table j 0) =
      λ t k. get _ (omega (arith, f.holds)) ∙ word_byte e x j t k f.some f.holds
      in
      rw (at_byte 0 (omega arith), at_byte 1 (omega arith), at_byte 2 (omega arith), at_byte 3 (omega arith)) (big_four (get_or x.table j 0) (l.words j))

  pub content_back : content e (book_of e x) ≡ x
  unfolding content
  content_back = λ i. record {
    m = m i;
    n = n i;
    verdict = record { kind = k i; order = o i; group = record { low = low i; high = high i } };
    more = w i;
    table = t i;
  }
    where
      b : List ℕ
      b = book_of e x

      m : get_or b 3 0 ≡ x.m
      m = field 1 (omega arith)

      n : get_or b 4 0 ≡ x.n
      n = field 2 (omega arith)

      k : get_or b 5 0 ≡ x.verdict.kind
      k = field 3 (omega arith)

      o : run 6 96 (λ i. get_or b i 0) ≡ x.verdict.order
      o = run_is 6 96 (λ i. get_or b i 0) x.verdict.order l.order field_order

      low : little 8 (λ j. get_or b (102 + j) 0) ≡ x.verdict.group.low
      low =
          little_ext 8 (λ j. get_or b (102 + j) 0) (λ j. byte j x.verdict.group.low) field_low
          ∙ little_byte 8 x.verdict.group.low l.low

      high : little 4 (λ j. get_or b (110 + j) 0) ≡ x.verdict.group.high
      high =
          little_ext 4 (λ j. get_or b (110 + j) 0) (λ j. byte j x.verdict.group.high) field_high
          ∙ little_byte 4 x.verdict.group.high l.high

      w : run 114 e.more (λ i. get_or b i 0) ≡ x.more
      w = run_is 114 e.more (λ i. get_or b i 0) x.more l.more field_more

      t : run 0 (e.words * get_or b 4 0) (word_at e b) ≡ x.table
      t =
          ap (λ (c : ℕ). run 0 (e.words * c) (word_at e b)) n
          ∙ run_is 0 (e.words * x.n) (word_at e b) x.table l.table (λ j h. ap (word_at e b) (zero-add j) ∙ field_word j h)

  -- ---- the checks pass

  count : length (book_of e x) / 512 ≡ blocks e x.n
  unfolding size
  count = omega (arith, len)

  at_most : blocks e x.n ≤ longest
  at_most =
      let h : e.words * x.n + (e.page - 1) ≤ e.words * 96 + (e.page - 1) = omega (arith, mul-le-mul_left e.words l.few) in
      omega (arith, f.most, div_mono e.page h)

  in_block : (k p : ℕ) → k < blocks e x.n → p < 512 → of_block (book_of e x) k p ≡ sealed e x k p
  unfolding size
  in_block k p h i = get (512 * k + p) (omega arith) ∙ at_block e x k p i

  number_passed : (k : ℕ) → k < blocks e x.n → numbered (book_of e x) k ≡ true
  unfolding numbered opened
  number_passed k h =
      eq-eqb _ k
      (rw (in_block k 0 h (omega arith) ∙ sealed_open e x k 0 (omega arith), in_block k 1 h (omega arith) ∙ sealed_open e x k 1 (omega arith))
      (big_two k (omega (arith, at_most))))

  check_passed : (k : ℕ) → k < blocks e x.n → checked (book_of e x) k ≡ true
  unfolding checked
  check_passed k h =
      let same : check_of (of_block (book_of e x) k) ≡ check_of (opened e x k) =
      check_ext (of_block (book_of e x) k) (opened e x k) (λ p i. in_block k p h (omega arith) ∙ sealed_open e x k p i)
      in
      eq-eqb (big 2 (λ t. of_block (book_of e x) k (510 + t))) (check_of (of_block (book_of e x) k))
      (rw (in_block k 510 h (omega arith) ∙ sealed_check e x k 510 (omega arith), in_block k 511 h (omega arith) ∙ sealed_check e x k 511 (omega arith), same)
      (big_two (check_of (opened e x k)) (check_fits (opened e x k))))

  each_passed : (k d : ℕ) → k + d ≤ blocks e x.n → Passed (each_block (book_of e x) k d)
  each_passed k zero h = tt
  each_passed k (suc d) h =
      (number_passed k (omega arith), (check_passed k (omega arith), each_passed (suc k) d (omega arith)))

  blocks_passed : Passed (block_checks (book_of e x))
  unfolding block_checks whole size
  blocks_passed =
      let b = book_of e x in
      let z : length b % 512 ≡ 0 = omega (arith, len) in
      let a : 1 ≤ length b / 512 = omega (arith, count) in
      let c : length b / 512 ≤ longest = omega (arith, count, at_most) in (
        and_in _ _ (and_in _ _ (eq-eqb _ 0 z) (le-leb 1 _ a)) (le-leb _ longest c),
        each_passed 0 (length b / 512) (omega (arith, count)),
      )

  head_passed : Passed (head_checks e x (book_of e x))
  unfolding head_checks size
  head_passed = (
    eq-eqb _ _ (field 0 (omega arith)),
    (and_in _ _ (le-leb 1 _ l.some_cores) (le-leb _ 32 l.most_cores), (le-leb _ 96 l.few, (eq-eqb _ _ len, tt))),
  )

  body_passed : (room : ℕ) → 3 * x.n ≤ room → Passed (body_checks e x (book_of e x) room)
  unfolding body_checks spelled lowest_bad size
  body_passed room h =
      let b = book_of e x in
      let every : (i : ℕ) → i < length b → eqb (get_or b i 0) (at e x i) ≡ true = λ i h. eq-eqb _ _ (get i (omega (arith, len))) in
      let fair : (i : ℕ) → i < x.n → not (in_range (row_words e x.table i)) ≡ false = λ i h. rw (l.rows i h) refl in (
        and_in _ _ l.form (all_make _ (λ i. eqb (get_or b i 0) (at e x i)) every),
        (le-leb _ _ (first_none (λ i. not (in_range (row_words e x.table i))) x.n fair), (le-leb _ room h, tt)),
      )

  pub checks_back : (room : ℕ) → 3 * x.n ≤ room → Passed (read_checks e (book_of e x) room)
  checks_back room h =
      rw content_back
      (passed_append (block_checks (book_of e x)) (head_checks e x (book_of e x) ++ body_checks e x (book_of e x) room) blocks_passed
      (passed_append (head_checks e x (book_of e x)) (body_checks e x (book_of e x) room) head_passed (body_passed room h)))
