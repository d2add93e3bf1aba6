-- The laws of the book: what is written reads back as it was, a book has one spelling, and a check is 0 where the sum is 0xFFFF.
-- That 13 is exactly a wrong form or a spare byte that is not zero is `fields_iff` of SpareLaws.
-- Assumes nothing.
use Rattle.std.specs.Prelude.{ℕ, zero, suc, ◌+◌, ◌*◌, ◌/◌, ◌%◌, ◌^◌, ◌≤◌, ◌<◌, ◌≡◌, refl, true, false, List, [], ◌++◌, ltb, leb, eqb, take, drop, replicate}
use Rattle.std.proofs.Common.{zero-le, sym, ap₂, ◌∙◌, ⊎_elim, arith, zero-add, lt_of_lt_of_le, pow_mono, eqb-true, eq-eqb, le-leb, ltb-true, ltb-false, leb-true}
use Rattle.std.proofs.Math.ListN.{length, get_or, get_or-eq_default}
use Rattle.std.proofs.Math.Path.{ap}
use Rattle.std.proofs.Math.Seq.{take_at}
use Rattle.std.proofs.lemmas.Bool.{not-false}
use Rattle.sets.specs.BoolLaws.{either, and_in}
use Rattle.rows.specs.Numbers.{done}
use Rattle.sets.specs.Sums.{first}
use Rattle.sets.specs.SumLaws.{first_is}
use Rattle.sets.specs.SetLaws.{FitsWords}
use Rattle.rows.specs.Table.{Checked, in_range, words_at, faulty, row_count, first_fault, table_checks, table_fault}
use Rattle.rows.proofs.TableLaws.{passed_valid, in_range_lem, fault_none}
use Rattle.rows.specs.JudgeLaws.{Passed, append_passed, Refusing, refusing_append, done_passed, judge_works}
use Rattle.book.specs.Bytes.{byte, big, sum16, check_of, run}
use Rattle.book.specs.ByteLaws.{run_is, all_at}
use Rattle.book.specs.Form.{formed}
use Rattle.book.specs.FormLaws.{formed_group}
use Rattle.book.specs.Layout.{edition_one, Content, blocks, opened, sealed, at, book_of}
use Rattle.book.specs.LayoutLaws.{one_fits, book_length, sealed_check}
use Rattle.book.specs.Write.{BookWritten, content_of, book_checks, write_checks, write_of, write_into}
use Rattle.book.proofs.WriteLaws.{write_done}
use Rattle.book.specs.Read.{BookRead, of_block, content, verdict_of, checked, each_block, block_checks, head_checks, body_checks, spelled, read_checks, refused, taken, read_of, read_into}
use Rattle.book.specs.Fault.{Clear, fault_of}
use Rattle.book.specs.FaultLaws.{passed_clear}
use Rattle.book.proofs.ReadLaws.{content_count, table_length, lowest_bad_lem, Readable, readable, read_taken, into_taken}
use Rattle.book.proofs.BackLaws.{Legal, content_back, checks_back}
use Rattle.book.specs.declared.verdicts.Verdict.{Verdict}

-- ---- a check of 0

-- where the sum of a block is 0xFFFF its check is 0, and 0xFFFF is refused
pub zero_check : (f : ℕ → ℕ) → sum16 255 f ≡ 0xFFFF → check_of f ≡ 0
unfolding check_of
zero_check f h = rw h refl

pub zero_written : (x : Content) (k : ℕ) → sum16 255 (opened edition_one x k) ≡ 0xFFFF
    → (sealed edition_one x k 510 ≡ 0) × (sealed edition_one x k 511 ≡ 0)
zero_written x k h =
    let z = zero_check (opened edition_one x k) h in (
      sealed_check edition_one x k 510 (omega arith) ∙ ap (byte 1) z,
      sealed_check edition_one x k 511 (omega arith) ∙ ap (byte 0) z,
    )

pub full_refused : (b : List ℕ) (k : ℕ) → sum16 255 (of_block b k) ≡ 0xFFFF → big 2 (λ t. of_block b k (510 + t)) ≡ 0xFFFF
    → checked b k ≡ false
unfolding checked
full_refused b k h s = rw (s, zero_check (of_block b k) h) refl

-- ---- what the answer 0 leaves known

-- of writing
pub record Writable (words : List ℕ) (m : ℕ) (v : Verdict) (room : ℕ) : Type 0 where
  pub fair : (table_fault words m).number ≡ done
  pub form : formed (row_count words) v ≡ true
  pub space : 512 * blocks edition_one (row_count words) ≤ room
  pub rows : (i : ℕ) → i < length words / 3 → in_range (words_at words i) ≡ true

table_rows : (words : List ℕ) (m : ℕ) → Passed (table_checks words m) → (i : ℕ) → i < length words / 3 → in_range (words_at words i) ≡ true
unfolding first_fault
table_rows words m p i h =
    let n = length words / 3 in
    not-false (in_range (words_at words i))
    ((first_is (faulty words) n 0).before i zero-le (omega (arith, leb-true n (first (faulty words) n 0) p.1.1.0)))

table_fair : (words : List ℕ) (m : ℕ) → Passed (table_checks words m) → (table_fault words m).number ≡ done
unfolding table_fault
table_fair words m p =
    ap (λ (c : Checked). c.number)
    (judge_works (table_checks words m) (λ number place. record { number = number; row = place }) (record { number = done; row = 0 }) p)

pub writable : (words : List ℕ) (m : ℕ) (v : Verdict) (room : ℕ) → (write_of words m v room).number ≡ done → Writable words m v room
unfolding write_of
writable words m v room h =
    let others = book_checks edition_one (content_of words m v) room in
    let refusing : Refusing (write_checks words m v room) = (refl, (refl, (refl, (refl, (refl, tt))))) in
    let passed =
    done_passed (write_checks words m v room) (λ number row. record { number = number; row = row }) (record { number = done; row = 0 })
    (λ (r : BookWritten). r.number) refusing (λ i p. refl) h
    in
    let p = append_passed (table_checks words m) others passed in
    record {
      fair = table_fair words m p.0;
      form = p.1.0;
      space = leb-true _ room p.1.1.0;
      rows = table_rows words m p.0;
    }

-- of reading
refusing_each : (b : List ℕ) (k d : ℕ) → Refusing (each_block b k d)
refusing_each b k zero = tt
refusing_each b k (suc d) = (refl, (refl, refusing_each b (suc k) d))

refusing_read : (b : List ℕ) (room : ℕ) → Refusing (read_checks edition_one b room)
unfolding block_checks head_checks body_checks
refusing_read b room =
    let x = content edition_one b in
    refusing_append (block_checks b) (head_checks edition_one x b ++ body_checks edition_one x b room)
    (refl, refusing_each b 0 (length b / 512)) (refl, (refl, (refl, (refl, (refl, (refl, (refl, tt)))))))

pub read_passed : (b : List ℕ) (room : ℕ) → (read_of b room).number ≡ done → Passed (read_checks edition_one b room)
unfolding read_of
read_passed b room h =
    done_passed (read_checks edition_one b room) refused (taken (content edition_one b)) (λ (r : BookRead). r.number)
    (refusing_read b room) (λ i p. refl) h

-- ---- what is written reads back

-- what a caller's verdict is by its types: 96 entries, and two words of 64 bits
pub record Typed (v : Verdict) : Type 0 where
  pub order : length v.order ≡ 96
  pub group : FitsWords v.group

row_short : (words : List ℕ) (i : ℕ) → in_range (words_at words i) ≡ true → (k : ℕ) → k < 3 → get_or words (3 * i + k) 0 < 2 ^ 32
row_short words i h zero l =
    let r = in_range_lem (words_at words i) h in
    let e : 3 * i + 0 ≡ 3 * i = omega arith in
    rw e (omega (arith, r.within, r.constrained, r.short))
row_short words i h (suc zero) l = let r = in_range_lem (words_at words i) h in omega (arith, r.constrained, r.short)
row_short words i h (suc (suc zero)) l = omega (arith, (in_range_lem (words_at words i) h).short)
row_short words i h (suc (suc (suc k))) l = absurd (omega arith)

words_short : (words : List ℕ) → length words % 3 ≡ 0 → ((i : ℕ) → i < length words / 3 → in_range (words_at words i) ≡ true)
    → (j : ℕ) → get_or words j 0 < 2 ^ 32
words_short words whole rows j =
    ⊎_elim
    (λ e.
    let l = ltb-true j (length words) e in
    let at : 3 * (j / 3) + j % 3 ≡ j = omega arith in
    rw at at (row_short words (j / 3) (rows (j / 3) (omega arith)) (j % 3) (omega arith)))
    (λ e. rw (get_or-eq_default words 0 (ltb-false j (length words) e)) (omega arith))
    (either (ltb j (length words)))

high_short : (n high low : ℕ) → n ≤ 96 → high * 2 ^ 64 + low < 2 ^ n → high < 2 ^ 32
high_short n high low h l = omega (arith, lt_of_lt_of_le l (pow_mono {j = 96} h))

-- what the writer takes is legal
pub writable_legal : (words : List ℕ) (m : ℕ) (v : Verdict) (room : ℕ) → Typed v → Writable words m v room
    → Legal edition_one (content_of words m v)
writable_legal words m v room t w =
    let valid = passed_valid words m w.fair in
    let whole : length words % 3 ≡ 0 = omega (arith, valid.whole) in
    record {
      some_cores = valid.some_cores;
      most_cores = valid.most_cores;
      few = valid.most_rows;
      order = t.order;
      low = t.group.0;
      high = high_short (row_count words) v.group.high v.group.low valid.most_rows (formed_group (row_count words) v w.form);
      form = w.form;
      more = refl;
      table = valid.whole;
      words = words_short words whole w.rows;
      rows = λ i h. w.rows i (omega (arith, valid.whole));
    }

-- the book that a writer was answered 0 for, at the start of its output, reads back as it was written
pub reads_back : (words : List ℕ) (m : ℕ) (v : Verdict) (out into : List ℕ) → Typed v → (write_of words m v (length out)).number ≡ done
    → length words ≤ length into
    → (read_of (take (512 * blocks edition_one (row_count words)) (write_into words m v out)) (length into)
    ≡ record { number = done; row = 0; block = 0; m = m; n = row_count words; verdict = v })
    × (read_into (take (512 * blocks edition_one (row_count words)) (write_into words m v out)) into ≡ words ++ drop (length words) into)
reads_back words m v out into t h r =
    let w = writable words m v (length out) h in
    let x = content_of words m v in
    let b = book_of edition_one x in
    let size = 512 * blocks edition_one (row_count words) in
    let legal = writable_legal words m v (length out) t w in
    let valid = passed_valid words m w.fair in
    let back = content_back edition_one one_fits x legal in
    let stored = (write_done words m v out w.fair w.form w.space).1 in
    let cut : take size (write_into words m v out) ≡ b =
    ap (take size) (sym stored) ∙ take_at b (drop size out) size (book_length edition_one x)
    in
    let clear = passed_clear (read_checks edition_one b (length into)) (checks_back edition_one one_fits x legal (length into) (omega (arith, valid.whole))) in
    let count : 3 * get_or b 4 0 ≡ length words =
    ap (λ (k : ℕ). 3 * k) (sym (content_count edition_one b)) ∙ ap (λ (y : Content). 3 * y.n) back ∙ sym valid.whole
    in
    rw cut (
      read_taken b (length into) clear ∙ ap taken back,
      into_taken b into clear ∙ ap₂ (λ (y : Content) (k : ℕ). y.table ++ drop k into) back count,
    )

-- ---- one spelling

pub spelling : (b : List ℕ) (room : ℕ) → Readable b room → b ≡ book_of edition_one (content edition_one b)
unfolding spelled book_of
spelling b room r =
    let x = content edition_one b in
    let size : length b ≡ 512 * blocks edition_one x.n = r.headed.size ∙ ap (λ (k : ℕ). 512 * blocks edition_one k) (sym (content_count edition_one b)) in
    let each : (j : ℕ) → j < 512 * blocks edition_one x.n → at edition_one x (0 + j) ≡ get_or b j 0 =
    λ j l.
    ap (at edition_one x) (zero-add j)
    ∙ sym (eqb-true _ _ (all_at (length b) (λ i. eqb (get_or b i 0) (at edition_one x i)) r.spelling j (omega arith)))
    in
    sym (run_is 0 (512 * blocks edition_one x.n) (at edition_one x) b size each)

nothing_more : (f : ℕ → ℕ) → [] ≡ run 114 0 f
unfolding run
nothing_more f = refl

-- the content of a book is that of its table's words, its core count and its verdict, and the writer takes them
module _ (b : List ℕ) (room : ℕ) (r : Readable b room) where
  abbrev words : List ℕ
  words = (content edition_one b).table

  count : row_count words ≡ get_or b 4 0
  unfolding row_count
  count = omega (arith, table_length edition_one b, r.headed.few)

  content_words : content_of words (get_or b 3 0) (verdict_of b) ≡ content edition_one b
  unfolding content
  content_words = λ i. record {
    m = get_or b 3 0;
    n = count i;
    verdict = verdict_of b;
    more = nothing_more (λ j. get_or b j 0) i;
    table = words;
  }

  words_fair : (table_fault words (get_or b 3 0)).number ≡ done
  unfolding first_fault
  words_fair =
      let m = get_or b 3 0 in
      let n = length words / 3 in
      let whole = table_length edition_one b in
      let rows : n ≡ get_or b 4 0 = omega (arith, whole) in
      let sized = and_in (eqb (length words % 3) 0) (leb n 96) (eq-eqb (length words % 3) 0 (omega (arith, whole))) (le-leb n 96 (omega (arith, r.headed.few))) in
      let cored = and_in (leb 1 m) (leb m 32) (le-leb 1 m r.headed.some_cores) (le-leb m 32 r.headed.most_cores) in
      ap (λ (c : Checked). c.number) (fault_none words m sized cored (omega (arith, rows, r.rows, lowest_bad_lem b n rows)))

-- what reading answered: the table at the start of the words, and the rest
words_read : List ℕ → List ℕ → List ℕ
words_read b into = take (3 * (read_of b (length into)).n) (read_into b into)

module _ (b into : List ℕ) (h : (read_of b (length into)).number ≡ done) where
  clear : fault_of (read_checks edition_one b (length into)) ≡ Clear
  clear = passed_clear (read_checks edition_one b (length into)) (read_passed b (length into) h)

  good : Readable b (length into)
  good = readable b (length into) (read_passed b (length into) h)

  answer : read_of b (length into) ≡ taken (content edition_one b)
  answer = read_taken b (length into) clear

  table_cut : words_read b into ≡ (content edition_one b).table
  unfolding words_read
  table_cut =
      let t = (content edition_one b).table in
      let n : (read_of b (length into)).n ≡ get_or b 4 0 = ap (λ (r : BookRead). r.n) answer ∙ content_count edition_one b in
      rw n
      (ap (take (3 * get_or b 4 0)) (into_taken b into clear)
      ∙ take_at t (drop (3 * get_or b 4 0) into) (3 * get_or b 4 0) (table_length edition_one b))

  content_is : content_of (words_read b into) (read_of b (length into)).m (read_of b (length into)).verdict ≡ content edition_one b
  unfolding content
  content_is = rw (table_cut, answer) (content_words b (length into) good)

  book_is : book_of edition_one (content_of (words_read b into) (read_of b (length into)).m (read_of b (length into)).verdict) ≡ b
  book_is = ap (book_of edition_one) content_is ∙ sym (spelling b (length into) good)

  fair_again : (table_fault (words_read b into) (read_of b (length into)).m).number ≡ done
  unfolding content
  fair_again = rw (table_cut, answer) (words_fair b (length into) good)

  formed_again : formed (row_count (words_read b into)) (read_of b (length into)).verdict ≡ true
  unfolding content
  formed_again = rw (table_cut, answer, count b (length into) good) good.form

-- what reading hands over with 0: the core count, and the table at the start of the words
pub record Handed (b : List ℕ) (room : ℕ) (words : List ℕ) (r : BookRead) : Type 0 where
  pub read : (read_of b room).number ≡ done
  pub some_cores : 1 ≤ r.m
  pub most_cores : r.m ≤ 32
  pub cores : r.m ≡ (content edition_one b).m
  pub fits : 3 * r.n ≤ room
  pub table : take (3 * r.n) words ≡ (content edition_one b).table
  pub fair : (table_fault (content edition_one b).table (content edition_one b).m).number ≡ done
  pub size : length b ≡ 512 * blocks edition_one (row_count (content edition_one b).table)

pub handed : (b into words : List ℕ) (r : BookRead) → r ≡ read_of b (length into) → words ≡ read_into b into → r.number ≡ done
    → Handed b (length into) words r
unfolding content words_read
handed b into words r e w d =
    let h : (read_of b (length into)).number ≡ done = rw e at d in
    let g = good b into h in
    let rows = ap (λ (r : BookRead). r.n) (answer b into h) ∙ content_count edition_one b in
    let cores = ap (λ (r : BookRead). r.m) (answer b into h) in
    rw (w, e)
    (record {
      read = h;
      some_cores = rw cores g.headed.some_cores;
      most_cores = rw cores g.headed.most_cores;
      cores = cores;
      fits = rw rows g.space;
      table = table_cut b into h;
      fair = words_fair b (length into) g;
      size = g.headed.size ∙ ap (λ (n : ℕ). 512 * blocks edition_one n) (sym (count b (length into) g));
    })

-- as many words as the longest table has, and what reading hands over in them
abbrev pub lent : List ℕ
lent = replicate 288 0

pub read_handed : (b : List ℕ) → (read_of b 288).number ≡ done → Handed b 288 (read_into b lent) (read_of b 288)
read_handed b h = handed b lent (read_into b lent) (read_of b 288) refl refl h

-- a book that was read is what writing its content gives
pub writes_back : (b into out : List ℕ) → (read_of b (length into)).number ≡ done → length b ≤ length out
    → (write_of (take (3 * (read_of b (length into)).n) (read_into b into)) (read_of b (length into)).m (read_of b (length into)).verdict (length out)
    ≡ record { number = done; row = 0 })
    × (write_into (take (3 * (read_of b (length into)).n) (read_into b into)) (read_of b (length into)).m (read_of b (length into)).verdict out
    ≡ b ++ drop (length b) out)
unfolding words_read
writes_back b into out h l =
    let r = read_of b (length into) in
    let w = words_read b into in
    let again = book_is b into h in
    let size = sym (book_length edition_one (content_of w r.m r.verdict)) ∙ ap length again in
    let done = write_done w r.m r.verdict out (fair_again b into h) (formed_again b into h) (omega (arith, size)) in
    (sym done.0, sym done.1 ∙ ap₂ (λ (c : List ℕ) (k : ℕ). c ++ drop k out) again size)

-- two books with the same content are the same bytes
pub one_spelling : (b c into : List ℕ) → (read_of b (length into)).number ≡ done → read_of b (length into) ≡ read_of c (length into)
    → read_into b into ≡ read_into c into → b ≡ c
unfolding words_read
one_spelling b c into h e w =
    sym (book_is b into h)
    ∙ ap₂ (λ (r : BookRead) (t : List ℕ). book_of edition_one (content_of (take (3 * r.n) t) r.m r.verdict)) e w
    ∙ book_is c into (ap (λ (r : BookRead). r.number) (sym e) ∙ h)
