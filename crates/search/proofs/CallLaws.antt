-- Laws of the search in one call: its answer by the check that decides it, and the demands on the answer.
-- Assumes nothing.
use Rattle.std.specs.Prelude.{ℕ, ◌≤◌, ◌<◌, ◌≡◌, true, false, cond, List, [], ◌∷◌, ◌++◌, leb, eqb, length, take, drop}
use Rattle.std.proofs.Common.{zero-le, sym, ap, ◌∙◌, ⊎_elim, arith, ne_of_lt, take_at, leb-true, leb-false, le-leb, eqb-true, eq-eqb, ne_eqb}
use Rattle.std.proofs.Math.Path.{refl}
use Rattle.std.proofs.lemmas.Bool.{lt-leb, eqb-false}
use Rattle.sets.specs.BoolLaws.{either}
use Rattle.rows.specs.Judge.{Check, check}
use Rattle.rows.specs.Numbers.{done, blocked, short_output}
use Rattle.sets.specs.Sets.{set_of, none}
use Rattle.rows.specs.Table.{table_fault}
use Rattle.rows.proofs.TableLaws.{judge_refused, judge_passed, row_count_most, fault_most}
use Rattle.rows.specs.Board.{Board, board_of}
use Rattle.rows.specs.declared.terms.Terms.{Terms}
use Rattle.rows.specs.Table.{Checked}
use Rattle.test.specs.Test.{passes}
use Rattle.test.proofs.TestLaws.{passes_antitone}
use Rattle.search.specs.Search.{rows_below, free}
use Rattle.search.specs.Demand.{Truth}
use Rattle.search.specs.Answers.{search_of, placed_of, number_of, refusal, found_by, found_of, written_of, Demanded}
use Rattle.search.specs.OrderLaws.{Distinct, placing_distinct, distinct_order, placing_passing}
use Rattle.search.specs.SearchLaws.{search_ends, search_tests}
use Rattle.search.specs.DemandLaws.{search_truth, rows_below_lem, rows_count, distinct_most}
use Rattle.search.specs.StateLaws.{has_unplaced}
use Rattle.search.specs.AnswerLaws.{group_blocked, group_none}
use Rattle.search.specs.declared.call.Found.{Found}

-- ---- how the search ends

module _ (b : Board) where
  -- demand 3
  true_search : Truth b.n (rows_below b.n) (passes b) (placed_of b)
  true_search = search_truth b.n (rows_below b.n) (passes b) (passes_antitone b) (rows_below_lem b.n)

  placed_distinct : Distinct (rows_below b.n) (placed_of b)
  placed_distinct = placing_distinct (rows_below b.n) (passes b) (placed_of b) true_search.placing

  pub placed_most : length (placed_of b) ≤ b.n
  placed_most = distinct_most b.n (placed_of b) placed_distinct

  number_is : number_of b.n (search_of b).progress ≡ cond (eqb (length (placed_of b)) b.n) done blocked
  unfolding number_of
  number_is = rw (search_ends b.n (rows_below b.n) (passes b)) refl

  number_blocked : length (placed_of b) < b.n → number_of b.n (search_of b).progress ≡ blocked
  number_blocked l = number_is ∙ rw (ne_eqb (length (placed_of b)) b.n (ne_of_lt l)) refl

  number_done : length (placed_of b) ≡ b.n → number_of b.n (search_of b).progress ≡ done
  number_done e = number_is ∙ rw (eq-eqb (length (placed_of b)) b.n e) refl

  -- 0 is answered only with every row placed
  done_all : number_of b.n (search_of b).progress ≡ done → length (placed_of b) ≡ b.n
  done_all d =
      ⊎_elim (eqb-true (length (placed_of b)) b.n)
      (λ (f : eqb (length (placed_of b)) b.n ≡ false).
      let z : blocked ≡ done = rw f at (sym number_is ∙ d) in
      absurd (omega arith))
      (either (eqb (length (placed_of b)) b.n))

  -- a refusal before the search is neither 0 nor 4
  demanded_refused : (number place : ℕ) (out : List ℕ) → (number ≡ done → ⊥) → (number ≡ blocked → ⊥) → Demanded b (refusal number place) out
  demanded_refused number place out d f =
      record {
        truth = true_search;
        stores = λ e. absurd (d e);
        orders = λ e. absurd (d e);
        passes = λ e. absurd (d e);
        names = λ e. absurd (f e);
        bounded = zero-le;
      }

  -- and the search meets what is demanded, where its order is stored
  demanded_searched : b.n ≤ 96 → (out : List ℕ) → (number_of b.n (search_of b).progress ≡ done → take b.n out ≡ placed_of b)
      → Demanded b (found_by b.n (search_of b)) out
  demanded_searched most out stored =
      let n = b.n in
      record {
        truth = true_search;
        stores = stored;
        orders = λ d. distinct_order (rows_below n) n (rows_below_lem n) (placed_of b) placed_distinct (done_all d ∙ sym (rows_count n));
        passes = λ d. placing_passing (rows_below n) (passes b) (passes_antitone b) (placed_of b) true_search.placing;
        names = λ e i. rw (group_blocked n (search_of b).progress e) (has_unplaced n (placed_of b) i most);
        bounded = search_tests n (rows_below n) (passes b);
      }

-- ---- the answer by the check that decides it

module _ (words : List ℕ) (terms : Terms) where
  abbrev b : Board
  b = board_of words terms

  abbrev fault : Checked
  fault = table_fault words terms.m

  module _ (room : ℕ) where
    space : List Check
    space = check (leb b.n room) short_output ∷ []

    -- 1, 2, 3
    pub found_refused : (fault.number ≡ done → ⊥) → found_of words terms room ≡ refusal fault.number fault.row
    unfolding found_of space
    found_refused h = judge_refused words terms.m space refusal (found_by b.n (search_of b)) h

    module _ (passed : fault.number ≡ done) where
      -- 8
      pub found_short : room < b.n → found_of words terms room ≡ refusal short_output 0
      unfolding found_of space
      found_short l = judge_passed words terms.m space refusal (found_by b.n (search_of b)) passed ∙ rw (lt-leb b.n room l) refl

      module _ (fits : b.n ≤ room) where
        pub found_searched : found_of words terms room ≡ found_by b.n (search_of b)
        unfolding found_of space
        found_searched = judge_passed words terms.m space refusal (found_by b.n (search_of b)) passed ∙ rw (le-leb b.n room fits) refl

        -- 4
        pub found_blocked : length (placed_of b) < b.n
            → found_of words terms room
            ≡ record { number = blocked; row = 0; group = set_of (free (rows_below b.n) (placed_of b)); tests = (search_of b).tests }
        found_blocked l = let e = number_blocked b l in found_searched ∙ rw (group_blocked b.n (search_of b).progress e, e) refl

        -- 0
        pub found_done : length (placed_of b) ≡ b.n → found_of words terms room ≡ record { number = done; row = 0; group = none; tests = (search_of b).tests }
        found_done e = let d = number_done b e in found_searched ∙ rw (group_none b.n (search_of b).progress (λ e. omega arith), d) refl

  -- the output afterwards
  module _ (out : List ℕ) where
    pub written_same : ((found_of words terms (length out)).number ≡ done → ⊥) → written_of words terms out ≡ out
    unfolding written_of
    written_same h = rw (ne_eqb (found_of words terms (length out)).number done h) refl

    pub written_order : (found_of words terms (length out)).number ≡ done → written_of words terms out ≡ placed_of b ++ drop b.n out
    unfolding written_of
    written_order h = rw (eq-eqb (found_of words terms (length out)).number done h) refl

    -- whatever is answered meets the demands
    pub found_demanded : Demanded b (found_of words terms (length out)) (written_of words terms out)
    found_demanded =
        ⊎_elim
        (λ (f : eqb fault.number done ≡ true).
        let passed = eqb-true fault.number done f in
        ⊎_elim
        (λ (l : leb b.n (length out) ≡ true).
        let e = found_searched (length out) passed (leb-true b.n (length out) l) in
        rw e
        (demanded_searched b (row_count_most words) (written_of words terms out)
        (λ d. rw (written_order (ap (λ (r : Found). r.number) e ∙ d)) (take_at (placed_of b) (drop b.n out) b.n (done_all b d)))))
        (λ (l : leb b.n (length out) ≡ false).
        rw (found_short (length out) passed (leb-false b.n (length out) l))
        (demanded_refused b short_output 0 (written_of words terms out) (λ e. omega arith) (λ e. omega arith)))
        (either (leb b.n (length out))))
        (λ (f : eqb fault.number done ≡ false).
        let fails = eqb-false fault.number done f in
        rw (found_refused (length out) fails)
        (demanded_refused b fault.number fault.row (written_of words terms out) fails (λ e. omega (arith, fault_most words terms.m))))
        (either (eqb fault.number done))
