-- Laws of quota steps: one probe of the code, where a run of probes stands and how it ends, the answer by the check that decides it, and what it is held to.
-- Assumes nothing.
use Rattle.std.specs.Prelude.{Option, Some, None, ℕ, zero, suc, ◌+◌, ◌-◌, ◌≤◌, ◌<◌, ◌≡◌, ◌⊎◌, Bool, length, List, [], ◌∷◌}
use Rattle.std.proofs.Common.{◌∙◌, inl, inr, add-one, arith, eqb-true, eq-eqb, ne_eqb, le-leb, ltb-true}
use Rattle.std.proofs.Math.Bool.{true, false}
use Rattle.std.proofs.Math.Dec.{eqb}
use Rattle.std.proofs.Math.Logic.{⊎_elim}
use Rattle.std.proofs.Math.Nat.{sub-zero}
use Rattle.std.proofs.Math.Path.{refl, sym, ap, ap₂, fun_ext, subst}
use Rattle.std.proofs.lemmas.Bool.{eqb-false}
use Rattle.std.proofs.lemmas.Bool.{lt-leb}
use Rattle.sets.specs.Sums.{first}
use Rattle.sets.specs.SumLaws.{count_at, some_below_some, some_below_none}
use Rattle.sets.specs.BoolLaws.{either}
use Rattle.rows.specs.Judge.{Check, check}
use Rattle.rows.specs.Numbers.{done, blocked, unsound, unfinished}
use Rattle.sets.specs.Sets.{has, set_of, without, none, without_row}
use Rattle.rows.specs.Table.{row_count, table_fault}
use Rattle.rows.proofs.TableLaws.{judge_refused, judge_passed, row_count_most, fault_most}
use Rattle.rows.specs.Board.{Board, board_of}
use Rattle.sets.specs.declared.Set.{Set}
use Rattle.rows.specs.declared.terms.Terms.{Terms}
use Rattle.test.specs.Test.{passes}
use Rattle.test.proofs.TestLaws.{passes_antitone}
use Rattle.search.specs.Search.{rows_below, free, Progress, Run, fresh, tested, next, finished, probe, run, bound}
use Rattle.search.specs.Demand.{Truth}
use Rattle.search.specs.OrderLaws.{Distinct, tally}
use Rattle.search.specs.SearchLaws.{next_is, run_finished, run_add, run_quota, run_bound, fresh_potential}
use Rattle.search.specs.DemandLaws.{rows_below_lem, rows_count, distinct_most, steps_truth}
use Rattle.search.specs.State.{placed_rows, progress_of, state_of, placed_at, sound, left_of}
use Rattle.search.specs.Tally.{IsLeft}
use Rattle.search.specs.StateLaws.{order_place, rows_placed_lem, progress_of_state, has_unplaced, less_unplaced, sound_distinct, sound_state, left_is}
use Rattle.search.specs.Answers.{run_of, number_of, group_of, handed_back, next_left, stepped_by, work_of, stepped_of, StepDemanded, probed_of, Stand}
use Rattle.search.specs.AnswerLaws.{number_unfinished, number_finished, group_blocked}
use Rattle.search.specs.TestOfLaws.{test_without, test_mask}
use Rattle.search.specs.declared.state.State.{State}
use Rattle.search.specs.Answers.{Stepped}

-- ---- distinct rows

-- they are fewer than n where a row is still to be tested
pub distinct_less : (n : ℕ) (test : (ℕ → Bool) → ℕ → Bool) (p : Progress) → Distinct (rows_below n) p.placed → finished n (rows_below n) p ≡ false
    → length p.placed < n
distinct_less n test p D f =
    let N = next_is n (rows_below n) test p f in
    let some = count_at n (free (rows_below n) p.placed) (next n (rows_below n) p) N.below N.is_free in
    omega (arith, tally (rows_below n) n (λ i h. ltb-true i n h) p.placed D, rows_count n)

tested_distinct : (dom : ℕ → Bool) (p : List ℕ) (k : ℕ) → free dom p k ≡ true → Distinct dom p → (b : Bool) → Distinct dom (tested p k b).placed
tested_distinct dom p k f D true = (f, D)
tested_distinct dom p k f D false = D

pub probe_distinct : (n : ℕ) (dom : ℕ → Bool) (test : (ℕ → Bool) → ℕ → Bool) (p : Progress) → finished n dom p ≡ false → Distinct dom p.placed
    → Distinct dom (probe n dom test p).placed
unfolding probe
probe_distinct n dom test p f D =
    tested_distinct dom p.placed (next n dom p) (next_is n dom test p f).is_free D
    (test (without (free dom p.placed) (next n dom p)) (next n dom p))

run_distinct : (n : ℕ) (dom : ℕ → Bool) (test : (ℕ → Bool) → ℕ → Bool) (q : ℕ) (p : Progress) → Distinct dom p.placed
    → Distinct dom (run n dom test q p).progress.placed
run_distinct n dom test zero p D = D
run_distinct n dom test (suc q) p D =
    ⊎_elim (λ (e : finished n dom p ≡ true). rw e D)
    (λ (e : finished n dom p ≡ false). rw e (run_distinct n dom test q (probe n dom test p) (probe_distinct n dom test p e D)))
    (either (finished n dom p))

-- ---- one probe of the code

module _ (b : Board) (s : State) (left : Set) (k : ℕ) where
  pub probed_passed : passes b (has (without_row left k)) k ≡ true
      → probed_of b s left k ≡ record { state = placed_at b.n s k; left = without_row left k }
  probed_passed e = rw e refl

  pub probed_failed : passes b (has (without_row left k)) k ≡ false
      → probed_of b s left k ≡ record { state = record { order = s.order; placed = s.placed; cursor = k + 1 }; left = left }
  probed_failed e = rw e refl

-- the code's stand for a progress
abbrev pub stand_of : ℕ → Progress → Stand
stand_of n p = record { state = state_of n p; left = set_of (free (rows_below n) p.placed) }

-- the code's probe of it is the stand for the progress after the test
pub probed_tested : (b : Board) → b.n ≤ 96 → (p : Progress) (k : ℕ) → length p.placed < b.n
    → probed_of b (state_of b.n p) (set_of (free (rows_below b.n) p.placed)) k
    ≡ stand_of b.n (tested p.placed k (passes b (without (free (rows_below b.n) p.placed) k) k))
probed_tested b most p k h =
    let F = free (rows_below b.n) p.placed in
    let t : passes b (has (without_row (set_of F) k)) k ≡ passes b (without F k) k =
    test_without b most (set_of F) k ∙ test_mask b most F k
    in
    ⊎_elim
    (λ (e : passes b (without F k) k ≡ true).
    probed_passed b (state_of b.n p) (set_of F) k (t ∙ e)
    ∙ rw (e, order_place b.n p.placed k h, less_unplaced b.n p.placed k, add-one) refl)
    (λ (e : passes b (without F k) k ≡ false). probed_failed b (state_of b.n p) (set_of F) k (t ∙ e) ∙ rw (e, add-one) refl)
    (either (passes b (without F k) k))

-- ---- where a run stands

-- After some tests of its quota a run from state s stands at a progress of distinct rows, and what is left of the quota makes the rest of
-- the run.
pub record Stands (b : Board) (quota : ℕ) (s : State) (st : Stand) (tests : ℕ) : Type 0 where
  pub progress : Progress
  pub stand_is : st ≡ stand_of b.n progress
  pub distinct : Distinct (rows_below b.n) progress.placed
  pub same : (run b.n (rows_below b.n) (passes b) quota (progress_of b.n s)).progress
      ≡ (run b.n (rows_below b.n) (passes b) (quota - tests) progress).progress
  pub made : (run b.n (rows_below b.n) (passes b) quota (progress_of b.n s)).tests
      ≡ tests + (run b.n (rows_below b.n) (passes b) (quota - tests) progress).tests

-- the first row that the mask has is that of the next test
pub next_is_first : (n : ℕ) (p : Progress) → n ≤ 96
    → first (has (set_of (free (rows_below n) p.placed))) (n - p.cursor) p.cursor ≡ next n (rows_below n) p
unfolding next
next_is_first n p h = ap (λ (H : ℕ → Bool). first H (n - p.cursor) p.cursor) (fun_ext (λ i. has_unplaced n p.placed i h))

pub stands_start : {b : Board} {quota : ℕ} {s : State} {left : Set} → b.n ≤ 96 → length s.order ≡ 96 → left_of b.n s ≡ Some left
    → Stands b quota s (record { state = s; left = left }) 0
stands_start {b = b} {s = s} {left = left} most size e =
    let is = left_is b.n s left e in
    record {
      progress = progress_of b.n s;
      stand_is = ap₂ (λ (t : State) (l : Set). record { state = t; left = l }) (sound_state b.n s size most is.0) is.1;
      distinct = sound_distinct b.n s is.0;
      same = rw sub-zero refl;
      made = rw sub-zero (omega arith);
    }

module _ {b : Board} {quota : ℕ} {s : State} {st : Stand} {tests : ℕ} (S : Stands b quota s st tests) (most : b.n ≤ 96) where
  abbrev found : Option ℕ
  found = next_left b.n st.left st.state.cursor

  row_is : first (has st.left) (b.n - st.state.cursor) st.state.cursor ≡ next b.n (rows_below b.n) S.progress
  row_is = rw S.stand_is (next_is_first b.n S.progress most)

  -- with no row to test the run is finished
  stands_finished : found ≡ None → finished b.n (rows_below b.n) S.progress ≡ true
  unfolding finished
  stands_finished e =
      le-leb b.n (next b.n (rows_below b.n) S.progress) (rw row_is at (some_below_none (first (has st.left) (b.n - st.state.cursor) st.state.cursor) b.n e))

  module _ {k : ℕ} (e : found ≡ Some k) where
    row : (k ≡ next b.n (rows_below b.n) S.progress) × (next b.n (rows_below b.n) S.progress < b.n)
    row = rw row_is at (some_below_some (first (has st.left) (b.n - st.state.cursor) st.state.cursor) b.n e)

    stands_unfinished : finished b.n (rows_below b.n) S.progress ≡ false
    unfolding finished
    stands_unfinished = lt-leb b.n (next b.n (rows_below b.n) S.progress) row.1

    pub stands_placed : st.state.placed < b.n
    stands_placed = rw S.stand_is (distinct_less b.n (passes b) S.progress S.distinct stands_unfinished)

    -- the row of the next test is one that is left
    pub stands_left : IsLeft b.n st.left k
    stands_left =
        let p = S.progress in
        let free-row = (next_is b.n (rows_below b.n) (passes b) p stands_unfinished).is_free in
        (omega (arith, row.0, row.1), rw S.stand_is (has_unplaced b.n p.placed k most ∙ rw (← row.0) at free-row))

    -- one probe takes it one test on
    pub stands_probe : tests < quota → {st' : Stand} → st' ≡ probed_of b st.state st.left k → Stands b quota s st' (tests + 1)
    unfolding probe
    stands_probe l {st'} e =
        let p = S.progress in
        let test = passes b in
        let p' = probe b.n (rows_below b.n) test p in
        let f = stands_unfinished in
        let is : st' ≡ stand_of b.n p' =
        e ∙ ap₂ (λ (t : Stand) (j : ℕ). probed_of b t.state t.left j) S.stand_is row.0
        ∙ probed_tested b most p (next b.n (rows_below b.n) p) (distinct_less b.n test p S.distinct f)
        in
        let rest : quota - tests ≡ suc (quota - (tests + 1)) = omega arith in
        record {
          progress = p';
          stand_is = is;
          distinct = probe_distinct b.n (rows_below b.n) test p f S.distinct;
          same = rw (rest, f) at S.same;
          made = omega (arith, rw (rest, f) at S.made);
        }

-- ---- how a run ends

module _ (n : ℕ) (p : Progress) (tests : ℕ) (st : Stand) (is : st ≡ stand_of n p) where
  pub answer_unfinished : finished n (rows_below n) p ≡ false
      → record { number = unfinished; row = 0; group = none; tests = tests; state = st.state }
      ≡ stepped_by n (record { progress = p; tests = tests })
  unfolding number_of group_of
  answer_unfinished f = rw (is, f) refl

  pub answer_blocked : finished n (rows_below n) p ≡ true → st.state.placed < n
      → record { number = blocked; row = 0; group = st.left; tests = tests; state = st.state }
      ≡ stepped_by n (record { progress = p; tests = tests })
  unfolding number_of group_of
  answer_blocked f h =
      let short : eqb (length p.placed) n ≡ false = ne_eqb (length p.placed) n (λ e. omega (arith, ap (λ (t : Stand). t.state.placed) is)) in
      rw (is, f, short) refl

  pub answer_done : finished n (rows_below n) p ≡ true → Distinct (rows_below n) p.placed → n ≤ st.state.placed
      → record { number = done; row = 0; group = none; tests = tests; state = st.state }
      ≡ stepped_by n (record { progress = p; tests = tests })
  unfolding number_of group_of
  answer_done f D h =
      let all : eqb (length p.placed) n ≡ true =
      eq-eqb (length p.placed) n (omega (arith, ap (λ (t : Stand). t.state.placed) is, distinct_most n p.placed D))
      in
      rw (is, f, all) refl

module _ {b : Board} {quota : ℕ} {s : State} {st : Stand} {tests : ℕ} (S : Stands b quota s st tests) (most : b.n ≤ 96) where
  -- where it is finished or has spent its quota, the run stands at its end
  ended : (finished b.n (rows_below b.n) S.progress ≡ true) ⊎ (quota ≤ tests)
      → stepped_by b.n (record { progress = S.progress; tests = tests }) ≡ work_of b s quota
  unfolding work_of
  ended w =
      let p = S.progress in
      let work = run b.n (rows_below b.n) (passes b) in
      let rest : work (quota - tests) p ≡ record { progress = p; tests = 0 } =
      ⊎_elim (λ (f : finished b.n (rows_below b.n) p ≡ true). run_finished b.n (rows_below b.n) (passes b) (quota - tests) p f)
      (λ (l : quota ≤ tests). let spent : quota - tests ≡ 0 = omega arith in rw spent refl)
      w
      in
      let whole : work quota (progress_of b.n s) ≡ record { progress = p; tests = tests } =
      ap₂ (λ (q : Progress) (t : ℕ). record { progress = q; tests = t }) (S.same ∙ ap (λ (r : Run). r.progress) rest)
      (omega (arith, S.made, ap (λ (r : Run). r.tests) rest))
      in
      sym (ap (stepped_by b.n) whole)

  pub run_unfinished : {k : ℕ} → next_left b.n st.left st.state.cursor ≡ Some k → quota ≤ tests
      → record { number = unfinished; row = 0; group = none; tests = tests; state = st.state } ≡ work_of b s quota
  run_unfinished e l = answer_unfinished b.n S.progress tests st S.stand_is (stands_unfinished S most e) ∙ ended (inr l)

  module _ (e : next_left b.n st.left st.state.cursor ≡ None) where
    pub run_blocked : st.state.placed < b.n
        → record { number = blocked; row = 0; group = st.left; tests = tests; state = st.state } ≡ work_of b s quota
    run_blocked l =
        let f = stands_finished S most e in
        answer_blocked b.n S.progress tests st S.stand_is f l ∙ ended (inl f)

    pub run_done : b.n ≤ st.state.placed
        → record { number = done; row = 0; group = none; tests = tests; state = st.state } ≡ work_of b s quota
    run_done l =
        let f = stands_finished S most e in
        answer_done b.n S.progress tests st S.stand_is f S.distinct l ∙ ended (inl f)

-- ---- the answer by the check that decides it

module _ (words : List ℕ) (terms : Terms) (s : State) (quota : ℕ) where
  form : List Check
  form = check (sound (row_count words) s) unsound ∷ []

  -- 1, 2, 3
  pub step_refused : ((table_fault words terms.m).number ≡ done → ⊥)
      → stepped_of words terms s quota ≡ handed_back s (table_fault words terms.m).number (table_fault words terms.m).row
  unfolding stepped_of form
  step_refused h = judge_refused words terms.m form (handed_back s) (work_of (board_of words terms) s quota) h

  -- 7
  pub step_unsound : (table_fault words terms.m).number ≡ done → sound (row_count words) s ≡ false → stepped_of words terms s quota ≡ handed_back s unsound 0
  unfolding stepped_of form
  step_unsound h e = judge_passed words terms.m form (handed_back s) (work_of (board_of words terms) s quota) h ∙ rw e refl

  -- 0, 4, 15
  pub step_work : (table_fault words terms.m).number ≡ done → sound (row_count words) s ≡ true → stepped_of words terms s quota ≡ work_of (board_of words terms) s quota
  unfolding stepped_of form
  step_work h e = judge_passed words terms.m form (handed_back s) (work_of (board_of words terms) s quota) h ∙ rw e refl

-- ---- what the answer is held to

module _ (b : Board) (most : b.n ≤ 96) (s : State) (quota : ℕ) where
  -- tests from fresh are within the bound
  fresh_bound : (a : ℕ) → (run_of b a fresh).tests ≤ bound b.n
  fresh_bound a =
      omega (
        arith,
        run_bound b.n (rows_below b.n) (passes b) a fresh,
        fresh_potential b.n (rows_below b.n) (passes b),
      )

  -- a refusal of the table or of the state
  handed_back_lem : (number place : ℕ) → (number ≡ done → ⊥) → (number ≡ blocked → ⊥) → (number ≡ unfinished → ⊥)
      → StepDemanded b s quota (handed_back s number place)
  handed_back_lem number place d f u =
      record {
        spent = λ e. absurd (u e);
        truth = λ a e w. absurd (⊎_elim d f w);
        names = λ e. absurd (f e);
        bounded = λ a e. omega (arith, fresh_bound a);
      }

  work_demanded : sound b.n s ≡ true → StepDemanded b s quota (work_of b s quota)
  unfolding work_of
  work_demanded h =
      let n = b.n in
      let dom = rows_below n in
      let test = passes b in
      let p = (run_of b quota (progress_of n s)).progress in
      let held : placed_rows n (state_of n p) ≡ p.placed =
      rows_placed_lem n p.placed (distinct_most n p.placed (run_distinct n dom test quota (progress_of n s) (sound_distinct n s h)))
      in
      let from : (a : ℕ) → s ≡ state_of n (run_of b a fresh).progress → progress_of n s ≡ (run_of b a fresh).progress =
      λ a e.
      ap (progress_of n) e
      ∙ progress_of_state n (run_of b a fresh).progress
      (distinct_most n (run_of b a fresh).progress.placed (run_distinct n dom test a fresh tt))
      in
      record {
        spent = λ e. run_quota n dom test quota (progress_of n s) (number_unfinished n p e);
        truth =
            λ a e w.
            let whole : p ≡ (run_of b (a + quota) fresh).progress =
            ap (λ (q : Progress). (run_of b quota q).progress) (from a e) ∙ sym (run_add n dom test a quota fresh).0
            in
            let ends = subst (λ (q : Progress). finished n dom q ≡ true) whole (number_finished n p w) in
            subst (Truth n dom test) (sym (held ∙ ap (λ (q : Progress). q.placed) whole))
            (steps_truth n dom test (passes_antitone b) (rows_below_lem n) (a + quota) ends);
        names =
            λ e i.
            ap (λ (g : Set). has g i) (group_blocked n p e) ∙ has_unplaced n p.placed i most
            ∙ ap (λ (q : List ℕ). free dom q i) (sym held);
        bounded =
            λ a e.
            omega (
              arith,
              ap (λ (q : Progress). (run_of b quota q).tests) (from a e),
              (run_add n dom test a quota fresh).1,
              fresh_bound (a + quota),
            );
      }

module _ (words : List ℕ) (terms : Terms) (s : State) (quota : ℕ) where
  abbrev b : Board
  b = board_of words terms

  pub step_demanded : StepDemanded b s quota (stepped_of words terms s quota)
  step_demanded =
      let most = row_count_most words in
      let number = (table_fault words terms.m).number in
      ⊎_elim
      (λ (e : eqb number done ≡ true).
      let passed = eqb-true number done e in
      ⊎_elim
      (λ (h : sound (row_count words) s ≡ true).
      subst (StepDemanded b s quota) (sym (step_work words terms s quota passed h)) (work_demanded b most s quota h))
      (λ (h : sound (row_count words) s ≡ false).
      subst (StepDemanded b s quota) (sym (step_unsound words terms s quota passed h))
      (handed_back_lem b most s quota unsound 0 (λ q. omega arith) (λ q. omega arith) (λ q. omega arith)))
      (either (sound (row_count words) s)))
      (λ (e : eqb number done ≡ false).
      let refused = eqb-false number done e in
      let few = fault_most words terms.m in
      subst (StepDemanded b s quota) (sym (step_refused words terms s quota refused))
      (handed_back_lem b most s quota number (table_fault words terms.m).row refused (λ q. omega arith) (λ q. omega arith)))
      (either (eqb number done))

  -- so an answer that is the definition's meets the whole contract
  pub step_meets : (r : Stepped) → r ≡ stepped_of words terms s quota → (r ≡ stepped_of words terms s quota) × StepDemanded b s quota r
  step_meets r e = (e, subst (StepDemanded b s quota) (sym e) step_demanded)
