-- Laws of the check of an order: what an order is, its rows level by level as the code takes them out of a mask, the lowest level that
-- fails, and the answer by the check that decides it.
-- Assumes nothing.
use Rattle.std.specs.Prelude.{ℕ, zero, suc, ◌+◌, ◌-◌, ◌≤◌, ◌<◌, ◌≡◌, ◌↔◌, ◌⊎◌, Bool, true, false, List, [], ◌∷◌, eqb, length, take, drop, get_or}
use Rattle.std.proofs.Common.{ap, ◌∙◌, inl, inr, ⊎_elim, eq-or-lt_of_le, le_of_suc-le-suc, le_refl, take-append-drop, drop_of_length-le, drop-cons, arith, ltb-true, leb-false, eqb-true, eq-eqb}
use Rattle.std.proofs.Math.Bool.{and-true}
use Rattle.std.proofs.Math.Path.{refl, sym}
use Rattle.sets.specs.BoolLaws.{either, not_both, and_in, and_left, and_right, same}
use Rattle.rows.specs.Judge.{Check, check}
use Rattle.rows.specs.Numbers.{done, malformed, order_fails}
use Rattle.sets.specs.Sums.{times, on}
use Rattle.sets.specs.SumLaws.{count_zero_iff, on_le, on_true}
use Rattle.sets.specs.Sets.{has, set_of, below, without_row}
use Rattle.sets.specs.SetLaws.{has_set_of}
use Rattle.rows.specs.Table.{row_count, table_fault}
use Rattle.rows.proofs.TableLaws.{judge_refused, judge_passed}
use Rattle.rows.specs.Board.{Board, board_of}
use Rattle.rows.specs.declared.terms.Terms.{Terms}
use Rattle.test.specs.Test.{used, passes}
use Rattle.test.proofs.TestLaws.{used_ext}
use Rattle.search.specs.Search.{rows_below, free}
use Rattle.search.specs.Demand.{Order, among, Passing}
use Rattle.search.specs.State.{distinct}
use Rattle.search.specs.FreeLaws.{free_in, in_free}
use Rattle.search.specs.OrderLaws.{times_append, elem_times, times_elem, times_pos, times_none, tally, distinct_order}
use Rattle.search.specs.DemandLaws.{rows_count}
use Rattle.search.specs.StateLaws.{distinct_is, has_unplaced, all_unplaced, less_unplaced}
use Rattle.search.specs.TestOfLaws.{test_ext}
use Rattle.audit.specs.Audit.{is_order, lowest_of, lowest_failing, levels_of, order_refusal, order_checked_of}

-- ---- what an order is

-- a list in which rows below n stand at most once, and no others, has distinct rows: a row stands in the tail no more often than in the whole
once_distinct : (n : ℕ) (o : List ℕ) → ((i : ℕ) → times i o ≤ on (rows_below n i) 1) → distinct n o ≡ true
once_distinct n [] once = refl
once_distinct n (k ∷ o) once =
    let self : on (eqb k k) 1 ≡ 1 = rw (eq-eqb k k refl) refl in
    let below = on_true (rows_below n k) (omega (arith, once k)) in
    let alone = times_none k o (omega (arith, once k, on_le (rows_below n k) 1)) in
    and_in (free (rows_below n) o k) (distinct n o) (in_free (rows_below n) o k below alone) (once_distinct n o (λ i. omega (arith, once i)))

module _ (n : ℕ) (o : List ℕ) where
  -- no row is left over, so all are there
  order_length : Order (rows_below n) o → length o ≡ n
  order_length O =
      let none : (i : ℕ) → free (rows_below n) o i ≡ false =
      λ i.
      ⊎_elim
      (λ (e : free (rows_below n) o i ≡ true).
      let f = free_in (rows_below n) o i e in
      let one : on (rows_below n i) 1 ≡ 1 = rw f.0 refl in
      absurd (omega (arith, O i, times_elem i o f.1)))
      (λ (e : free (rows_below n) o i ≡ false). e)
      (either (free (rows_below n) o i))
      in
      let D = distinct_is n o (once_distinct n o (λ i. omega (arith, O i))) in
      omega (arith, tally (rows_below n) n (λ i h. ltb-true i n h) o D, rows_count n, (count_zero_iff n (free (rows_below n) o)).1 (λ i _. none i))

  pub order_entries : is_order n o ≡ true → length o ≡ n
  unfolding is_order
  order_entries h = eqb-true (length o) n (and_left (eqb (length o) n) (distinct n o) h)

  -- the test of an order takes the permutations of 0 to n − 1
  pub is_order_iff : (is_order n o ≡ true) ↔ Order (rows_below n) o
  unfolding is_order
  is_order_iff = (
    λ h.
        let D = distinct_is n o (and_right (eqb (length o) n) (distinct n o) h) in
        distinct_order (rows_below n) n (λ i l. ltb-true i n l) o D (order_entries h ∙ sym (rows_count n)),
    λ O. and_in (eqb (length o) n) (distinct n o) (eq-eqb (length o) n (order_length O)) (once_distinct n o (λ i. omega (arith, O i))),
  )

-- ---- the rows of the lower levels, and the mask of the others

-- distinct rows are distinct from every level down
distinct_drop : (n : ℕ) (o : List ℕ) (j : ℕ) → distinct n o ≡ true → distinct n (drop j o) ≡ true
distinct_drop n o zero h = h
distinct_drop n [] (suc j) h = refl
distinct_drop n (k ∷ o) (suc j) h = distinct_drop n o j (and_right (free (rows_below n) o k) (distinct n o) h)

-- so a level from which down they are not tells of the whole
pub distinct_fails : (n : ℕ) (o : List ℕ) (j : ℕ) → distinct n (drop j o) ≡ false → distinct n o ≡ false
distinct_fails n o j f =
    ⊎_elim (λ (e : distinct n o ≡ true). not_both (distinct_drop n o j e) f) (λ (e : distinct n o ≡ false). e) (either (distinct n o))

-- below the lowest level stands no row
pub left_all : (n : ℕ) (o : List ℕ) → length o ≡ n → below n ≡ set_of (free (rows_below n) (drop n o))
left_all n o e = rw (drop_of_length-le o {i = n} (omega arith)) (all_unplaced n)

-- one level up
module _ (n : ℕ) (o : List ℕ) (level : ℕ) (h : 0 < level) (l : level ≤ length o) where
  rows_from : drop (level - 1) o ≡ get_or o (level - 1) 0 ∷ drop level o
  rows_from =
      let next : suc (level - 1) ≡ level = omega arith in
      drop-cons o (level - 1) 0 (omega arith) ∙ ap (λ (j : ℕ). get_or o (level - 1) 0 ∷ drop j o) next

  -- its row is distinct from those of the lower levels exactly when the mask of the others has it
  pub distinct_level : n ≤ 96 → distinct n (drop level o) ≡ true
      → distinct n (drop (level - 1) o) ≡ has (set_of (free (rows_below n) (drop level o))) (get_or o (level - 1) 0)
  distinct_level most e = rw (rows_from, e, and-true) (sym (has_unplaced n (drop level o) (get_or o (level - 1) 0) most))

  pub left_level : without_row (set_of (free (rows_below n) (drop level o))) (get_or o (level - 1) 0) ≡ set_of (free (rows_below n) (drop (level - 1) o))
  left_level = rw rows_from (less_unplaced n (drop level o) (get_or o (level - 1) 0))

-- of an order, the rows that the lower levels leave are those of the higher levels
rows_above : (n : ℕ) (o : List ℕ) → Order (rows_below n) o → (j i : ℕ) → free (rows_below n) (drop j o) i ≡ among (take j o) i
rows_above n o O j i =
    let one : times i (take j o) + times i (drop j o) ≡ on (rows_below n i) 1 =
    sym (times_append i (take j o) (drop j o)) ∙ ap (times i) (take-append-drop j o) ∙ O i
    in
    same (free (rows_below n) (drop j o) i) (among (take j o) i)
    (λ e.
    let f = free_in (rows_below n) (drop j o) i e in
    let below : on (rows_below n i) 1 ≡ 1 = rw f.0 refl in
    times_pos i (take j o) (omega (arith, times_elem i (drop j o) f.1)))
    (λ e.
    let some = elem_times i (take j o) e in
    in_free (rows_below n) (drop j o) i (on_true (rows_below n i) (omega arith)) (times_none i (drop j o) (omega (arith, on_le (rows_below n i) 1))))

-- so the mask serves for them in the test and in used
module _ (b : Board) (most : b.n ≤ 96) (o : List ℕ) (formed : is_order b.n o ≡ true) (j k : ℕ) where
  abbrev left : ℕ → Bool
  left = has (set_of (free (rows_below b.n) (drop j o)))

  mask_above : (i : ℕ) → i < 128 → left i ≡ among (take j o) i
  mask_above i l = has_set_of (free (rows_below b.n) (drop j o)) i l ∙ rows_above b.n o ((is_order_iff b.n o).0 formed) j i

  pub test_above : passes b left k ≡ passes b (among (take j o)) k
  test_above = test_ext b most left (among (take j o)) k mask_above

  pub used_above : used b left k ≡ used b (among (take j o)) k
  used_above = used_ext b b.t left (among (take j o)) (λ i l. mask_above i (omega arith)) (λ i l e. refl) k refl

-- ---- the lowest level that fails

-- of the levels 1 to b, one fails and every lower one passes
pub record LowestFails (test : (ℕ → Bool) → ℕ → Bool) (o : List ℕ) (b level : ℕ) : Type 0 where
  -- so many levels are higher
  pub higher : ℕ
  pub level_is : level ≡ suc higher
  pub within : higher < b
  pub fails : test (among (take higher o)) (get_or o higher 0) ≡ false
  pub lower_pass : (j : ℕ) → higher < j → j < b → test (among (take j o)) (get_or o j 0) ≡ true

module _ (test : (ℕ → Bool) → ℕ → Bool) (o : List ℕ) where
  -- at a level that passes the scan goes one level up, at one that fails it ends
  pub lowest_up : (level : ℕ) → 0 < level → test (among (take (level - 1) o)) (get_or o (level - 1) 0) ≡ true
      → lowest_of test o level ≡ lowest_of test o (level - 1)
  lowest_up zero h e = absurd (omega arith)
  lowest_up (suc j) h e = let at : suc j - 1 ≡ j = omega arith in rw (at, rw at at e) refl

  pub lowest_here : (level : ℕ) → 0 < level → test (among (take (level - 1) o)) (get_or o (level - 1) 0) ≡ false → lowest_of test o level ≡ level
  lowest_here zero h e = absurd (omega arith)
  lowest_here (suc j) h e = let at : suc j - 1 ≡ j = omega arith in rw (rw at at e) refl

  -- none fails, or the one found is the lowest
  lowest_is : (b : ℕ)
      → ((lowest_of test o b ≡ 0) × ((j : ℕ) → j < b → test (among (take j o)) (get_or o j 0) ≡ true)) ⊎ LowestFails test o b (lowest_of test o b)
  lowest_is zero = inl (refl, λ j h. absurd (omega arith))
  lowest_is (suc b) =
      ⊎_elim
      (λ (e : test (among (take b o)) (get_or o b 0) ≡ true).
      let pass : (j : ℕ) → j ≡ b → test (among (take j o)) (get_or o j 0) ≡ true = λ j q. rw q e in
      rw e
      (⊎_elim (λ w. inl (w.0, λ j h. ⊎_elim (pass j) (w.1 j) (eq-or-lt_of_le (le_of_suc-le-suc h))))
      (λ (w : LowestFails test o b (lowest_of test o b)).
      inr
      (record {
        higher = w.higher;
        level_is = w.level_is;
        within = omega (arith, w.within);
        fails = w.fails;
        lower_pass = λ j p h. ⊎_elim (pass j) (w.lower_pass j p) (eq-or-lt_of_le (le_of_suc-le-suc h));
      }))
      (lowest_is b)))
      (λ (e : test (among (take b o)) (get_or o b 0) ≡ false).
      rw e
      (inr (record { higher = b; level_is = refl; within = le_refl (suc b); fails = e; lower_pass = λ j p h. absurd (omega arith) })))
      (either (test (among (take b o)) (get_or o b 0)))

  pub lowest_none_iff : (lowest_failing test o ≡ 0) ↔ Passing test o
  lowest_none_iff =
      ⊎_elim (λ w. (λ _. w.1, λ _. w.0))
      (λ (w : LowestFails test o (length o) (lowest_failing test o)).
      (λ z. absurd (omega (arith, w.level_is)), λ P. not_both (P w.higher w.within) w.fails))
      (lowest_is (length o))

  pub lowest_some : 0 < lowest_failing test o → LowestFails test o (length o) (lowest_failing test o)
  lowest_some h = ⊎_elim (λ w. absurd (omega (arith, w.0))) (λ w. w) (lowest_is (length o))

-- a level that fails uses more than its row's D
pub lowest_exceeds : (b : Board) (o : List ℕ) → 0 < lowest_failing (passes b) o
    → (let j = lowest_failing (passes b) o - 1 in (b.t (get_or o j 0)).d < used b (among (take j o)) (get_or o j 0))
unfolding passes
lowest_exceeds b o h =
    let F = lowest_some (passes b) o h in
    let at : lowest_failing (passes b) o - 1 ≡ F.higher = omega (arith, F.level_is) in
    let k = get_or o F.higher 0 in
    rw at (leb-false (used b (among (take F.higher o)) k) (b.t k).d F.fails)

-- ---- the answer by the check that decides it

module _ (words : List ℕ) (terms : Terms) (o : List ℕ) where
  form : List Check
  form = check (is_order (row_count words) o) malformed ∷ []

  -- 1, 2, 3
  pub order_refused : ((table_fault words terms.m).number ≡ done → ⊥)
      → order_checked_of words terms o ≡ order_refusal (table_fault words terms.m).number (table_fault words terms.m).row
  unfolding order_checked_of form
  order_refused h = judge_refused words terms.m form order_refusal (levels_of (board_of words terms) o) h

  module _ (passed : (table_fault words terms.m).number ≡ done) where
    -- 5
    pub order_malformed : is_order (row_count words) o ≡ false → order_checked_of words terms o ≡ order_refusal malformed 0
    unfolding order_checked_of form
    order_malformed e = judge_passed words terms.m form order_refusal (levels_of (board_of words terms) o) passed ∙ rw e refl

    -- the work
    pub order_levels : is_order (row_count words) o ≡ true → order_checked_of words terms o ≡ levels_of (board_of words terms) o
    unfolding order_checked_of form
    order_levels e = judge_passed words terms.m form order_refusal (levels_of (board_of words terms) o) passed ∙ rw e refl

module _ (b : Board) (o : List ℕ) where
  -- 0
  pub levels_done : lowest_failing (passes b) o ≡ 0 → levels_of b o ≡ order_refusal done 0
  unfolding levels_of
  levels_done e = rw e refl

  -- 6
  pub levels_fails : (level : ℕ) → 0 < level → lowest_failing (passes b) o ≡ level
      → levels_of b o
      ≡ record {
        number = order_fails;
        row = 0;
        level = level;
        used = used b (among (take (level - 1) o)) (get_or o (level - 1) 0);
      }
  unfolding levels_of
  levels_fails zero h e = absurd (omega arith)
  levels_fails (suc j) h e = let at : suc j - 1 ≡ j = omega arith in rw (at, e) refl
