-- The search's verdict on a table that passed its checks: what it is where every row is placed and where rows are left, and that it has its form.
-- Assumes nothing.
use Rattle.std.specs.Prelude.{ℕ, zero, suc, ◌+◌, ◌-◌, ◌≤◌, ◌<◌, ◌≡◌, ◌⊎◌, true, false, List, [], ◌∷◌, ◌++◌, Err, eqb, get_or, drop, replicate}
use Rattle.std.proofs.Common.{zero-le, sym, ap, ◌∙◌, inl, inr, eq-or-lt_of_le, take-suc, take-take, get_or-take, get_or-append-add, length-take-le, eq-eqb, lt-ltb, le-ltb, ltb-true, ltb-false, arith}
use Rattle.std.proofs.Math.Dec.{ltb}
use Rattle.std.proofs.Math.ListN.{length, take, length-append, length-drop}
use Rattle.std.proofs.Math.Logic.{⊎_elim}
use Rattle.std.proofs.Math.Path.{refl}
use Rattle.std.proofs.Math.Seq.{take_at, split_at, get_or-drop}
use Rattle.std.proofs.lemmas.List.{get_or-replicate}
use Rattle.rows.specs.Board.{board_of, limited}
use Rattle.sets.specs.BoolLaws.{either, and_in}
use Rattle.rows.specs.Numbers.{done, blocked}
use Rattle.sets.specs.Sums.{on, times}
use Rattle.sets.specs.SumLaws.{on_le, on_true, on_false, count_zero_iff}
use Rattle.sets.specs.Sets.{word, has, set_of, none, within}
use Rattle.sets.specs.SetLaws.{within_iff, set_of_fits}
use Rattle.rows.specs.Table.{row_count, table_fault}
use Rattle.rows.proofs.TableLaws.{row_count_most}
use Rattle.rows.proofs.RefusalLaws.{refused_not_done}
use Rattle.rows.specs.declared.refusal.Refusal.{Refusal}
use Rattle.sets.specs.declared.Set.{Set}
use Rattle.search.proofs.ToldLaws.{refused_not_blocked}
use Rattle.search.specs.Search.{rows_below, free}
use Rattle.search.specs.Demand.{Order}
use Rattle.search.specs.OrderLaws.{times_append}
use Rattle.search.specs.DemandLaws.{rows_count}
use Rattle.search.specs.StateLaws.{has_unplaced}
use Rattle.search.specs.Answers.{placed_of, found_of, written_of, Demanded}
use Rattle.search.specs.Told.{told_search}
use Rattle.search.proofs.CallLaws.{placed_most, found_done, found_blocked, written_same, written_order, found_demanded}
use Rattle.search.specs.declared.call.Found.{Found}
use Rattle.book.specs.ByteLaws.{all_make}
use Rattle.book.specs.Form.{among, entry_fits, order_fits, group_fits, formed}
use Rattle.book.specs.FormLaws.{group_none, group_some}
use Rattle.book.proofs.BookLaws.{Typed}
use Rattle.book.specs.declared.verdicts.Verdict.{Verdict}
use Rattle.host.specs.Host.{verdict_by}

-- ---- forms

-- a row that does not stand in the first i entries is not among them
absent_among : (order : List ℕ) (i k : ℕ) → i ≤ length order → times k (take i order) ≤ 0 → among order i k ≡ false
absent_among order zero k h t = refl
absent_among order (suc i) k h t =
    let x = get_or order i 0 in
    let e : times k (take (suc i) order) ≡ times k (take i order) + (on (eqb k x) 1 + 0) =
    ap (times k) (take-suc order i 0 h) ∙ times_append k (take i order) (x ∷ [])
    in
    rw (absent_among order i k (omega arith) (omega (arith, e))) (on_false (eqb k x) (omega (arith, e)))

-- each of n rows once in the first n entries, and 255 behind them
module _ (n : ℕ) (order : List ℕ) (l : n ≤ length order) (O : Order (rows_below n) (take n order))
    (rest : (i : ℕ) → n ≤ i → i < 96 → get_or order i 0 ≡ 255) where
  row_fits : (i : ℕ) → i < n → entry_fits n order i ≡ true
  row_fits i h =
      let k = get_or order i 0 in
      let p = take n order in
      let here : get_or p i 0 ≡ k = get_or-take n order i 0 h in
      let above : take i p ≡ take i order = take-take i n order (omega arith) in
      let inside : i < length p = omega (arith, length-take-le n order l) in
      let all : times k p ≡ times k (take i order) + (on (eqb k k) 1 + times k (drop (suc i) p)) =
      ap (times k) (split_at p i 0 inside) ∙ times_append k (take i p) (get_or p i 0 ∷ drop (suc i) p) ∙ rw (here, above) refl
      in
      let one : times k (take i order) + (1 + times k (drop (suc i) p)) ≡ on (ltb k n) 1 = rw (eq-eqb k k refl) at (sym all ∙ O k) in
      rw (
        lt-ltb i n h,
        on_true (ltb k n) (omega arith),
        absent_among order i k (omega arith) (omega (arith, on_le (ltb k n) 1)),
      )
      refl

  order_fits_lem : order_fits n order ≡ true
  unfolding order_fits
  order_fits_lem =
      all_make 96 (entry_fits n order)
      (λ i h.
      ⊎_elim (λ (e : ltb i n ≡ true). row_fits i (ltb-true i n e))
      (λ (e : ltb i n ≡ false). rw e (eq-eqb _ 255 (rest i (ltb-false i n e) h)))
      (either (ltb i n)))

formed_done : (n : ℕ) (order : List ℕ) → order_fits n order ≡ true → formed n (record { kind = 1; order = order; group = none }) ≡ true
unfolding formed
formed_done n order h = and_in (order_fits n order) (group_fits 1 none n) h (sym (group_none 1 n none refl refl))

formed_blocked : (n : ℕ) (order : List ℕ) (g : Set) → order_fits 0 order ≡ true → (word g ≡ 0 → ⊥) → within g n ≡ true
    → formed n (record { kind = 2; order = order; group = g }) ≡ true
unfolding formed
formed_blocked n order g h s w = and_in (order_fits 0 order) (group_fits 2 g n) h (sym (group_some 2 n g s) ∙ w)

-- ---- the verdict

blanks : List ℕ
blanks = replicate 96 255

blank_at : (i : ℕ) → i < 96 → get_or blanks i 0 ≡ 255
unfolding blanks
blank_at i h = get_or-replicate 96 i 255 0 h

blanks_length : length blanks ≡ 96
unfolding blanks
blanks_length = refl

module _ (words : List ℕ) (m : ℕ) (fair : (table_fault words m).number ≡ done) where
  abbrev placed : List ℕ
  placed = placed_of (board_of words (limited m))

  most : row_count words ≤ 96
  most = row_count_most words

  -- every row is placed, or some are left
  placed_cases : (length placed ≡ row_count words) ⊎ (length placed < row_count words)
  placed_cases = eq-or-lt_of_le (placed_most (board_of words (limited m)))

  demanded : Demanded (board_of words (limited m)) (found_of words (limited m) 96) (written_of words (limited m) blanks)
  unfolding blanks
  demanded = found_demanded words (limited m) blanks

  module _ (e : length placed ≡ row_count words) where
    number_done : (found_of words (limited m) 96).number ≡ done
    number_done = ap (λ (r : Found). r.number) (found_done words (limited m) 96 fair most e)

    ordered : List ℕ
    ordered = placed ++ drop (row_count words) blanks

    verdict_done : verdict_by words m ≡ record { kind = 1; order = ordered; group = none }
    unfolding verdict_by blanks ordered
    verdict_done = rw (written_order words (limited m) blanks number_done, found_done words (limited m) 96 fair most e) refl

    ordered_length : length ordered ≡ 96
    unfolding ordered
    ordered_length =
        omega (arith, length-append placed (drop (row_count words) blanks), length-drop (row_count words) blanks, blanks_length, most)

    ordered_blank : (i : ℕ) → row_count words ≤ i → i < 96 → get_or ordered i 0 ≡ 255
    unfolding ordered
    ordered_blank i h l =
        let p = placed in
        let at : length p + (i - length p) ≡ i = omega arith in
        let back : row_count words + (i - length p) ≡ i = omega arith in
        rw at at (get_or-append-add p (drop (row_count words) blanks) (i - length p) 0)
        ∙ get_or-drop (row_count words) blanks (i - length p) 0 ∙ rw back (blank_at i l)

    ordered_formed : formed (row_count words) (verdict_by words m) ≡ true
    unfolding ordered
    ordered_formed =
        let n = row_count words in
        let begins : take n ordered ≡ placed = take_at placed (drop n blanks) n e in
        rw verdict_done
        (formed_done n ordered
        (order_fits_lem n ordered (omega (arith, ordered_length, most)) (rw begins (demanded.orders number_done)) ordered_blank))

  module _ (l : length placed < row_count words) where
    left : Set
    left = set_of (free (rows_below (row_count words)) placed)

    number_blocked : (found_of words (limited m) 96).number ≡ blocked
    number_blocked = ap (λ (r : Found). r.number) (found_blocked words (limited m) 96 fair most l)

    verdict_blocked : verdict_by words m ≡ record { kind = 2; order = blanks; group = left }
    unfolding verdict_by blanks left
    verdict_blocked = rw (written_same words (limited m) blanks (λ z. omega (arith, number_blocked)), found_blocked words (limited m) 96 fair most l) refl

    left_has : (i : ℕ) → has left i ≡ free (rows_below (row_count words)) placed i
    unfolding left
    left_has i = has_unplaced (row_count words) placed i most

    left_some : word left ≡ 0 → ⊥
    left_some z =
        let n = row_count words in
        let dom = rows_below n in
        let none_left : (i : ℕ) → i < n → free dom placed i ≡ false =
        λ i h. sym (left_has i) ∙ (within_iff left 0).0 (lt-ltb (word left) 1 (omega arith)) i zero-le
        in
        omega (arith, (count_zero_iff n (free dom placed)).1 none_left, demanded.truth.size, rows_count n)

    left_within : within left (row_count words) ≡ true
    unfolding free
    left_within = (within_iff left (row_count words)).1 (λ i h. left_has i ∙ rw (le-ltb i (row_count words) h) refl)

    left_formed : formed (row_count words) (verdict_by words m) ≡ true
    left_formed =
        rw verdict_blocked
        (formed_blocked (row_count words) blanks left
        (order_fits_lem 0 blanks zero-le (λ i. rw (le-ltb i 0 zero-le) refl) (λ i h k. blank_at i k)) left_some left_within)

  pub verdict_formed : formed (row_count words) (verdict_by words m) ≡ true
  verdict_formed = ⊎_elim ordered_formed left_formed placed_cases

  pub verdict_typed : Typed (verdict_by words m)
  unfolding left
  verdict_typed =
      ⊎_elim (λ e. rw (verdict_done e) (record { order = ordered_length e; group = (omega arith, omega arith) }))
      (λ l. rw (verdict_blocked l) (record { order = blanks_length; group = set_of_fits (free (rows_below (row_count words)) placed) }))
      placed_cases

  -- 0 with verdict 1, 4 with verdict 2
  pub verdict_kind : (((found_of words (limited m) 96).number ≡ done) × ((verdict_by words m).kind ≡ 1))
      ⊎ (((found_of words (limited m) 96).number ≡ blocked) × ((verdict_by words m).kind ≡ 2))
  verdict_kind =
      ⊎_elim (λ e. inl (number_done e, ap (λ (v : Verdict). v.kind) (verdict_done e)))
      (λ l. inr (number_blocked l, ap (λ (v : Verdict). v.kind) (verdict_blocked l)))
      placed_cases

  -- and the search does not refuse
  pub not_refused : (why : Refusal) → told_search (Err why) ≡ found_of words (limited m) 96 → ⊥
  not_refused why e =
      let number = ap (λ (r : Found). r.number) e in
      ⊎_elim (λ d. refused_not_done why (number ∙ d.0)) (λ b. refused_not_blocked why (number ∙ b.0)) verdict_kind
