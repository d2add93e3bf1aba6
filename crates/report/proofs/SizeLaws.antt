-- How long a listing is: the text of any book fits an output of 8,192 bytes.
-- Assumes nothing.
use Rattle.std.specs.Prelude.{ℕ, zero, suc, ◌+◌, ◌^◌, ◌≤◌, ◌<◌, ◌≡◌, refl, Bool, true, false, ◌||◌, List, [], ◌∷◌, length, get_or, take, replicate}
use Rattle.std.proofs.Common.{arith, div-le_self, mul-le-mul_right, eqb-true, eq-eqb, ltb-true}
use Rattle.std.proofs.Math.Dec.{eqb}
use Rattle.std.proofs.Math.ListN.{length-append}
use Rattle.std.proofs.Math.Logic.{⊎_elim}
use Rattle.std.proofs.Math.Nat.{div-le_of_le-mul}
use Rattle.std.proofs.lemmas.List.{length-replicate}
use Rattle.rows.specs.declared.terms.Terms.{Terms}
use Rattle.rows.specs.Board.{board_of, limited}
use Rattle.sets.specs.BoolLaws.{either}
use Rattle.rows.specs.Numbers.{done}
use Rattle.sets.specs.Sets.{has, without}
use Rattle.sets.specs.SumLaws.{sum_bound, on_true}
use Rattle.rows.specs.Table.{in_range, words_at, table, row_count}
use Rattle.rows.proofs.TableLaws.{in_range_lem, read_in_range, read_out_of_range, row_count_most}
use Rattle.rows.specs.declared.table.Row.{Row}
use Rattle.test.specs.Test.{interference, used}
use Rattle.test.proofs.TestLaws.{interference_fits}
use Rattle.search.specs.Search.{elem, rows_below}
use Rattle.search.specs.Demand.{among}
use Rattle.search.specs.Answers.{placed_of, found_of, written_of, Demanded}
use Rattle.search.specs.OrderLaws.{elem_times}
use Rattle.search.proofs.CallLaws.{placed_most, found_demanded}
use Rattle.search.specs.declared.call.Found.{Found}
use Rattle.book.specs.Layout.{edition_one}
use Rattle.book.specs.Read.{content, read_of}
use Rattle.report.specs.TextLaws.{decimal_short, lines_most}
use Rattle.report.specs.Listing.{order_word, blocked_word, share, load, header, row_line, level_line, member_line, listed, refused_text, listing_of}
use Rattle.book.proofs.BookLaws.{read_handed}
use Rattle.report.proofs.ListingLaws.{Cases, unread, read, listing_cases}

-- ---- the numbers

-- a row of a table, also where it is at fault
record Modest (r : Row) : Type 0 where
  within : r.c ≤ r.t
  constrained : r.d ≤ r.t
  short : r.t ≤ 10_000_000

modest : (words : List ℕ) (i : ℕ) → Modest (table words i)
modest words i =
    ⊎_elim
    (λ (e : in_range (words_at words i) ≡ true).
    let r = in_range_lem (words_at words i) e in
    rw (read_in_range words i e) (record { within = omega (arith, r.within, r.constrained); constrained = r.constrained; short = r.short }))
    (λ (e : in_range (words_at words i) ≡ false).
    rw (read_out_of_range words i e) (record { within = omega arith; constrained = omega arith; short = omega arith }))
    (either (in_range (words_at words i)))

share_most : (words : List ℕ) (i : ℕ) → share words i ≤ 1000
share_most words i = div-le_of_le-mul (table words i).t (omega (arith, (modest words i).within))

pub load_most : (words : List ℕ) → load words ≤ 96_000
unfolding load
load_most words = omega (arith, sum_bound (row_count words) 1000 (share words) (λ i l. share_most words i), row_count_most words)

used_most : (words : List ℕ) (terms : Terms) (H : ℕ → Bool) (k : ℕ) → used (board_of words terms) H k < 10 ^ 12
unfolding used
used_most words terms H k =
    let row = modest words k in
    let total = interference_fits (board_of words terms) H (table words k) (row_count_most words) (omega (arith, row.constrained, row.short)) in
    omega (arith, total, div-le_self (interference (board_of words terms) H (table words k)) terms.m, row.within, row.short)

-- ---- the lines

module _ (words : List ℕ) (m : ℕ) where
  row_most : (H : ℕ → Bool) (k : ℕ) → k < 100 → length (row_line words m H k) ≤ 58
  unfolding row_line
  row_most H k h =
      let row = modest words k in
      simp length-append
      (omega (
        arith,
        decimal_short 1 k h,
        decimal_short 7 (table words k).c (omega (arith, row.within, row.short)),
        decimal_short 7 (table words k).d (omega (arith, row.constrained, row.short)),
        decimal_short 7 (table words k).t (omega (arith, row.short)),
        decimal_short 11 (used (board_of words (limited m)) H k) (used_most words (limited m) H k),
      ))

  level_most : (order : List ℕ) (j : ℕ) → j < 96 → get_or order j 0 < 100 → length (level_line words m order j) ≤ 61
  unfolding level_line
  level_most order j l h = simp length-append (omega (arith, decimal_short 1 (j + 1) (omega arith), row_most (among (take j order)) (get_or order j 0) h))

  member_most : (G : ℕ → Bool) (i : ℕ) → i < 96 → length (member_line words m G i) ≤ 61
  unfolding member_line
  member_most G i l =
      ⊎_elim (λ (e : G i ≡ true). rw e (omega (arith, row_most (without G i) i (omega arith)))) (λ (e : G i ≡ false). rw e (omega arith)) (either (G i))

  header_most : (word : List ℕ) (tests : ℕ) → length word ≤ 7 → m ≤ 32 → tests < 10_000 → length (header word words m tests) ≤ 40
  unfolding header
  header_most word tests w c t =
      simp length-append
      (omega (
        arith,
        decimal_short 1 m (omega arith),
        decimal_short 1 (row_count words) (omega (arith, row_count_most words)),
        decimal_short 3 tests t,
        decimal_short 4 (load words) (omega (arith, load_most words)),
      ))

-- ---- the listing

elem_at : (p : List ℕ) (j : ℕ) → j < length p → elem (get_or p j 0) p ≡ true
elem_at [] j h = absurd (omega arith)
elem_at (x ∷ p) zero h = rw (eq-eqb x x refl) refl
elem_at (x ∷ p) (suc j) h = rw (elem_at p j (omega arith)) (or_true (eqb (get_or p j 0) x))
  where
    or_true : (b : Bool) → b || true ≡ true
    or_true true = refl
    or_true false = refl

module _ (words : List ℕ) (m : ℕ) where
  abbrev placed : List ℕ
  placed = placed_of (board_of words (limited m))

  abbrev found : Found
  found = found_of words (limited m) 96

  demanded : Demanded (board_of words (limited m)) found (written_of words (limited m) (replicate 96 255))
  demanded = rw (length-replicate {A = ℕ} 96 255) at (found_demanded words (limited m) (replicate 96 255))

  tests_most : found.tests < 10_000
  tests_most =
      let most = row_count_most words in
      omega (arith, demanded.bounded, mul-le-mul_right (suc (row_count words)) most)

  -- an order holds rows of the table only
  order_most : found.number ≡ done → (j : ℕ) → j < length placed → get_or placed j 0 < row_count words
  order_most e j h =
      let k = get_or placed j 0 in
      let once = elem_times k placed (elem_at placed j h) in
      ltb-true k (row_count words) (on_true (rows_below (row_count words) k) (omega (arith, once, demanded.orders e k)))

  pub listed_most : m ≤ 32 → length (listed words m) ≤ 8192
  unfolding listed
  listed_most h =
      let most = row_count_most words in
      let tests = found.tests in
      ⊎_elim
      (λ (e : eqb found.number done ≡ true).
      let rows = order_most (eqb-true found.number done e) in
      let levels = lines_most (length placed) 61 (level_line words m placed) (λ j l. level_most words m placed j (omega (arith, placed_most (board_of words (limited m)))) (omega (arith, rows j l))) in
      rw (e, length-append) (omega (arith, header_most words m order_word tests (omega arith) h tests_most, levels, placed_most (board_of words (limited m)))))
      (λ (e : eqb found.number done ≡ false).
      let G = has found.group in
      let members = lines_most (row_count words) 61 (member_line words m G) (λ i l. member_most words m G i (omega arith)) in
      rw (e, length-append) (omega (arith, header_most words m blocked_word tests (omega arith) h tests_most, members)))
      (either (eqb found.number done))

pub refused_most : (number : ℕ) → number < 10 ^ 10 → length (refused_text number) ≤ 19
refused_most number h = simp length-append (omega (arith, decimal_short 9 number h))

-- the text of any book
pub listing_most : (b : List ℕ) → length (listing_of b) ≤ 8192
listing_most b = go (listing_cases b)
  where
    go : Cases b → length (listing_of b) ≤ 8192
    go (unread l r e) = rw e (omega (arith, refused_most (read_of b 288).number (omega (arith, l))))
    go (read d e) = let h = read_handed b d in rw e (listed_most (content edition_one b).table (content edition_one b).m (omega (arith, h.cores, h.most_cores)))
