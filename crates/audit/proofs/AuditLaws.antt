-- What the checkers' answers say of a table that passed its checks, in the words of document 01, and that they and the search agree.
-- An order checks 0 exactly when it is an order of the rows that passes at every level, a group exactly when it is blocked; either decides
-- what the search answers, and what the search answers checks 0.
-- Assumes nothing.
use Rattle.std.specs.Prelude.{ℕ, ◌-◌, ◌≤◌, ◌<◌, ◌≡◌, refl, ◌↔◌, ◌⊎◌, true, false, List, eqb, leb, ltb, length, get_or, replicate}
use Rattle.std.proofs.Common.{sym, ap, ◌∙◌, inl, inr, ⊎_elim, arith, eq-or-lt_of_le, eqb-true, leb-true, leb-false, ltb-true, ltb-false}
use Rattle.std.proofs.Math.Path.{fun_ext}
use Rattle.std.proofs.lemmas.Bool.{eqb-false}
use Rattle.std.proofs.lemmas.List.{length-replicate}
use Rattle.sets.specs.BoolLaws.{either, not_both}
use Rattle.rows.specs.Numbers.{done, blocked, malformed, order_fails, member_passes}
use Rattle.sets.specs.Sets.{has, ◌⊆◌, size}
use Rattle.rows.specs.Table.{row_count, table, table_fault}
use Rattle.rows.proofs.TableLaws.{row_count_most}
use Rattle.sets.specs.declared.Set.{Set}
use Rattle.search.specs.Search.{rows_below, free}
use Rattle.search.specs.Demand.{Order, Passing, Blocked, Truth}
use Rattle.search.specs.Answers.{placed_of, found_of, written_of, Demanded}
use Rattle.search.specs.FreeLaws.{free_in}
use Rattle.search.specs.DemandLaws.{search_truth, rows_count, rows_below_lem}
use Rattle.search.proofs.CallLaws.{placed_most, found_short, found_blocked, found_done, found_demanded}
use Rattle.search.specs.declared.call.Found.{Found}
use Rattle.audit.specs.Audit.{OrderChecked, GroupChecked, is_order, lowest_failing, is_group, lowest_passing, order_checked_of, group_checked_of}
use Rattle.sets.specs.SumLaws.{count_zero_iff}
use Rattle.sets.specs.SetLaws.{size_zero_iff}
use Rattle.rows.specs.Board.{Board, board_of}
use Rattle.rows.specs.declared.terms.Terms.{Terms}
use Rattle.test.proofs.TestLaws.{passes_antitone}
use Rattle.test.specs.Test.{passes}
use Rattle.audit.proofs.OrderLaws.{is_order_iff, LowestFails, lowest_none_iff, lowest_some, lowest_exceeds, order_malformed, order_levels, levels_done, levels_fails}
use Rattle.audit.proofs.GroupLaws.{Group, is_group_iff, LowestPasses, lowest_passes, none_passes_iff, group_malformed, group_member, group_done}

module _ (words : List ℕ) (terms : Terms) (passed : (table_fault words terms.m).number ≡ done) where
  abbrev b : Board
  b = board_of words terms

  -- ---- orders

  module _ (o : List ℕ) where
    -- no order, an order that passes at every level, or one that fails at the level named
    pub order_cases : ((order_checked_of words terms o).number ≡ malformed)
        ⊎ (((order_checked_of words terms o).number ≡ done) × Order (rows_below (row_count words)) o × Passing (passes b) o)
        ⊎ (((order_checked_of words terms o).number ≡ order_fails) × Order (rows_below (row_count words)) o
        × LowestFails (passes b) o (length o) (order_checked_of words terms o).level
        × ((table words (get_or o ((order_checked_of words terms o).level - 1) 0)).d < (order_checked_of words terms o).used))
    order_cases =
        let lowest = lowest_failing (passes b) o in
        ⊎_elim
        (λ (e : is_order (row_count words) o ≡ true).
        let O = (is_order_iff (row_count words) o).0 e in
        ⊎_elim
        (λ (z : eqb lowest 0 ≡ true).
        let none = eqb-true lowest 0 z in
        inr (inl (
          ap (λ (r : OrderChecked). r.number) (order_levels words terms o passed e ∙ levels_done b o none),
          O,
          (lowest_none_iff (passes b) o).0 none,
        )))
        (λ (z : eqb lowest 0 ≡ false).
        let some : 0 < lowest = omega (arith, eqb-false lowest 0 z) in
        let is = order_levels words terms o passed e ∙ levels_fails b o lowest some refl in
        inr (inr (
          ap (λ (r : OrderChecked). r.number) is,
          O,
          rw is (lowest_some (passes b) o some),
          rw is (lowest_exceeds b o some),
        )))
        (either (eqb lowest 0)))
        (λ (e : is_order (row_count words) o ≡ false). inl (ap (λ (r : OrderChecked). r.number) (order_malformed words terms o passed e)))
        (either (is_order (row_count words) o))

    -- an order checked 0 is an order of the rows and passes at every level, and every such order checks 0
    pub order_done_iff : ((order_checked_of words terms o).number ≡ done) ↔ (Order (rows_below (row_count words)) o × Passing (passes b) o)
    order_done_iff = (
      λ h. ⊎_elim (λ w. absurd (omega arith)) (⊎_elim (λ w. (w.1, w.2)) (λ w. absurd (omega (arith, w.0)))) order_cases,
      λ (O, P).
          ap (λ (r : OrderChecked). r.number)
          (order_levels words terms o passed ((is_order_iff (row_count words) o).1 O) ∙ levels_done b o ((lowest_none_iff (passes b) o).1 P)),
    )

    -- an order answered 6 is an order of the rows; the level named fails, and every lower level, of larger number, passes
    pub order_fails_at : (order_checked_of words terms o).number ≡ order_fails
        → Order (rows_below (row_count words)) o × LowestFails (passes b) o (length o) (order_checked_of words terms o).level
    order_fails_at h =
        ⊎_elim (λ w. absurd (omega arith)) (⊎_elim (λ w. absurd (omega (arith, w.0))) (λ w. (w.1, w.2))) order_cases

    -- and used of that level is more than its row's D
    pub order_fails_used : (order_checked_of words terms o).number ≡ order_fails
        → (table words (get_or o ((order_checked_of words terms o).level - 1) 0)).d < (order_checked_of words terms o).used
    order_fails_used h =
        ⊎_elim (λ w. absurd (omega arith)) (⊎_elim (λ w. absurd (omega (arith, w.0))) (λ w. w.3)) order_cases

  -- ---- groups

  module _ (group : Set) where
    -- no group, a blocked group, or one of which the member named passes
    pub group_cases : ((group_checked_of words terms group).number ≡ malformed)
        ⊎ (((group_checked_of words terms group).number ≡ done) × Group (row_count words) group
        × Blocked (rows_below (row_count words)) (passes b) (has group))
        ⊎ (((group_checked_of words terms group).number ≡ member_passes) × Group (row_count words) group
        × LowestPasses (passes b) (has group) (group_checked_of words terms group).row)
    group_cases =
        let lowest = lowest_passing (passes b) (row_count words) group in
        ⊎_elim
        (λ (e : is_group (row_count words) group ≡ true).
        let G = (is_group_iff (row_count words) group).0 e in
        ⊎_elim
        (λ (l : ltb lowest (row_count words) ≡ true).
        let less = ltb-true lowest (row_count words) l in
        let is = group_member words terms group passed e less in
        inr (inr (
          ap (λ (r : GroupChecked). r.number) is,
          G,
          rw is (lowest_passes (passes b) (row_count words) group less),
        )))
        (λ (l : ltb lowest (row_count words) ≡ false).
        let none = ltb-false lowest (row_count words) l in
        inr (inl (
          ap (λ (r : GroupChecked). r.number) (group_done words terms group passed e none),
          G,
          (none_passes_iff (passes b) (row_count words) group G).0 none,
        )))
        (either (ltb lowest (row_count words))))
        (λ (e : is_group (row_count words) group ≡ false). inl (ap (λ (r : GroupChecked). r.number) (group_malformed words terms group passed e)))
        (either (is_group (row_count words) group))

    -- a group checked 0 has a member, none but rows of the table, and is blocked, and every such group checks 0
    pub group_done_iff : ((group_checked_of words terms group).number ≡ done)
        ↔ (Group (row_count words) group × Blocked (rows_below (row_count words)) (passes b) (has group))
    group_done_iff = (
      λ h. ⊎_elim (λ w. absurd (omega arith)) (⊎_elim (λ w. (w.1, w.2)) (λ w. absurd (omega (arith, w.0)))) group_cases,
      λ (G, B).
          ap (λ (r : GroupChecked). r.number)
          (group_done words terms group passed ((is_group_iff (row_count words) group).1 G)
          ((none_passes_iff (passes b) (row_count words) group G).1 B)),
    )

    -- of a group answered 14 the row named is a member that passes with the others above it, and every lower member fails
    pub group_member_passes : (group_checked_of words terms group).number ≡ member_passes
        → LowestPasses (passes b) (has group) (group_checked_of words terms group).row
    group_member_passes h =
        ⊎_elim (λ w. absurd (omega arith)) (⊎_elim (λ w. absurd (omega (arith, w.0))) (λ w. w.2)) group_cases

  -- ---- the search

  -- demand 3
  truth : Truth (row_count words) (rows_below (row_count words)) (passes b) (placed_of b)
  truth = search_truth (row_count words) (rows_below (row_count words)) (passes b) (passes_antitone b) (rows_below_lem (row_count words))

  -- no row is left exactly when all are placed
  none_left_iff : ((i : ℕ) → free (rows_below (row_count words)) (placed_of b) i ≡ false) ↔ (length (placed_of b) ≡ row_count words)
  none_left_iff =
      let n = row_count words in
      let left = free (rows_below n) (placed_of b) in (
        λ z. omega (arith, truth.size, rows_count n, (count_zero_iff n left).1 (λ i _. z i)),
        λ e i.
            ⊎_elim
            (λ (f : left i ≡ true).
            let below = ltb-true i n (free_in (rows_below n) (placed_of b) i f).0 in
            (count_zero_iff n left).0 (omega (arith, truth.size, rows_count n)) i below)
            (λ (f : left i ≡ false). f)
            (either (left i)),
      )

  -- an order checked 0 tells that the search accepts
  pub order_done_search : (o : List ℕ) → (order_checked_of words terms o).number ≡ done
      → (room : ℕ) → row_count words ≤ room → (found_of words terms room).number ≡ done
  order_done_search o h room fits =
      let passing = (order_done_iff o).0 h in
      ap (λ (r : Found). r.number) (found_done words terms room passed fits (none_left_iff.0 (truth.none.1 (o, passing.0, passing.1))))

  -- a group checked 0 lies inside the rows that the search leaves unplaced
  pub group_done_inside : (group : Set) → (group_checked_of words terms group).number ≡ done
      → has group ⊆ free (rows_below (row_count words)) (placed_of b)
  group_done_inside group h = truth.inside (has group) ((group_done_iff group).0 h).1

  -- so it tells that the search answers 4
  pub group_done_search : (group : Set) → (group_checked_of words terms group).number ≡ done
      → (room : ℕ) → row_count words ≤ room → (found_of words terms room).number ≡ blocked
  group_done_search group h room fits =
      ⊎_elim
      (λ (e : length (placed_of b) ≡ row_count words).
      let none : (i : ℕ) → i < 128 → has group i ≡ false =
      λ i _.
      ⊎_elim (λ (g : has group i ≡ true). not_both (group_done_inside group h i g) (none_left_iff.1 e i)) (λ (g : has group i ≡ false). g)
      (either (has group i))
      in
      absurd (omega (arith, (size_zero_iff group).1 none, ((group_done_iff group).0 h).0.some)))
      (λ (l : length (placed_of b) < row_count words). ap (λ (r : Found). r.number) (found_blocked words terms room passed fits l))
      (eq-or-lt_of_le (placed_most b))

  -- what demand 3 and the names of the answer say, whatever room the output has
  demanded : (room : ℕ) → Demanded b (found_of words terms room) (written_of words terms (replicate room 0))
  demanded room = rw (length-replicate {A = ℕ} room 0) at (found_demanded words terms (replicate room 0))

  -- the order that the search answers checks 0
  pub search_order_done : (room : ℕ) → (found_of words terms room).number ≡ done → (order_checked_of words terms (placed_of b)).number ≡ done
  search_order_done room h = (order_done_iff (placed_of b)).1 ((demanded room).orders h, (demanded room).passes h)

  -- the search that answers 4 left a row
  blocked_left : (room : ℕ) → (found_of words terms room).number ≡ blocked → length (placed_of b) < row_count words
  blocked_left room h =
      ⊎_elim
      (λ (e : length (placed_of b) ≡ row_count words).
      ⊎_elim
      (λ (l : leb (row_count words) room ≡ true).
      absurd (omega (arith, ap (λ (r : Found). r.number) (found_done words terms room passed (leb-true (row_count words) room l) e))))
      (λ (l : leb (row_count words) room ≡ false).
      absurd (omega (arith, ap (λ (r : Found). r.number) (found_short words terms room passed (leb-false (row_count words) room l)))))
      (either (leb (row_count words) room)))
      (λ (l : length (placed_of b) < row_count words). l)
      (eq-or-lt_of_le (placed_most b))

  -- the group that the search answers checks 0
  pub search_group_done : (room : ℕ) → (found_of words terms room).number ≡ blocked
      → (group_checked_of words terms (found_of words terms room).group).number ≡ done
  search_group_done room h =
      let n = row_count words in
      let left = free (rows_below n) (placed_of b) in
      let group = (found_of words terms room).group in
      let names = (demanded room).names h in
      let some : 0 < size group =
      ⊎_elim (ltb-true 0 (size group))
      (λ (e : ltb 0 (size group) ≡ false).
      let empty : size group ≡ 0 = omega (arith, ltb-false 0 (size group) e) in
      let none : (i : ℕ) → i < n → left i ≡ false =
      λ i l. sym (names i) ∙ (size_zero_iff group).0 empty i (omega (arith, row_count_most words))
      in
      absurd (omega (arith, (count_zero_iff n left).1 none, truth.size, rows_count n, blocked_left room h)))
      (either (ltb 0 (size group)))
      in
      let inside : (i : ℕ) → has group i ≡ true → rows_below n i ≡ true =
      λ i e. (free_in (rows_below n) (placed_of b) i (sym (names i) ∙ e)).0
      in
      let same : has group ≡ left = fun_ext names in
      (group_done_iff group).1 (record { some = some; inside = inside }, rw same truth.blocked)
