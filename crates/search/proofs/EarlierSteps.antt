-- Laws of a form that the code took before, in which a run of probes held the row of its next test as a number.
-- They hold still, so that whoever cited them finds them; the last law ties them to the present form.
-- Assumes nothing.
use Rattle.std.specs.Prelude.{ℕ, suc, ◌+◌, ◌-◌, ◌≤◌, ◌<◌, ◌≡◌, ◌⊎◌, true, false, length}
use Rattle.std.proofs.Common.{◌∙◌, ⊎_elim, inl, inr, arith, le-leb, refl, sym, ap, ap₂}
use Rattle.std.proofs.Math.Nat.{sub-zero}
use Rattle.std.proofs.lemmas.Bool.{lt-leb}
use Rattle.sets.specs.Sums.{first}
use Rattle.rows.specs.Numbers.{done, blocked, unfinished}
use Rattle.sets.specs.Sets.{has, set_of, none}
use Rattle.rows.specs.Board.{Board}
use Rattle.sets.specs.declared.Set.{Set}
use Rattle.test.specs.Test.{passes}
use Rattle.search.specs.Search.{rows_below, free, Progress, Run, next, finished, probe, run}
use Rattle.search.specs.OrderLaws.{Distinct}
use Rattle.search.specs.SearchLaws.{next_is, run_finished}
use Rattle.search.specs.State.{placed_rows, progress_of, sound}
use Rattle.search.specs.StateLaws.{has_unplaced, sound_distinct, sound_state}
use Rattle.search.specs.Answers.{stepped_by, work_of, probed_of, Stand}
use Rattle.search.specs.StepLaws.{Stands as PresentStands, distinct_less, probe_distinct, stand_of, probed_tested, next_is_first, answer_unfinished, answer_blocked, answer_done}
use Rattle.search.specs.declared.state.State.{State}

-- After some tests of its quota a run from state s stands at a progress of distinct rows, with the row of the next test, and what is
-- left of the quota makes the rest of the run.
pub record Stands (b : Board) (quota : ℕ) (s : State) (st : Stand) (tests k : ℕ) : Type 0 where
  pub progress : Progress
  pub stand_is : st ≡ stand_of b.n progress
  pub distinct : Distinct (rows_below b.n) progress.placed
  pub row_is : k ≡ next b.n (rows_below b.n) progress
  pub same : (run b.n (rows_below b.n) (passes b) quota (progress_of b.n s)).progress
      ≡ (run b.n (rows_below b.n) (passes b) (quota - tests) progress).progress
  pub made : (run b.n (rows_below b.n) (passes b) quota (progress_of b.n s)).tests
      ≡ tests + (run b.n (rows_below b.n) (passes b) (quota - tests) progress).tests

-- the row of the next test tells whether the run is finished
next_finished : (n : ℕ) (p : Progress) (k : ℕ) → k ≡ next n (rows_below n) p → n ≤ k → finished n (rows_below n) p ≡ true
unfolding finished
next_finished n p k e h = le-leb n (next n (rows_below n) p) (rw e at h)

next_unfinished : (n : ℕ) (p : Progress) (k : ℕ) → k ≡ next n (rows_below n) p → k < n → finished n (rows_below n) p ≡ false
unfolding finished
next_unfinished n p k e h = lt-leb n (next n (rows_below n) p) (rw e at h)

pub stands_start : {b : Board} {quota : ℕ} {s : State} {left : Set} {k : ℕ} → b.n ≤ 96 → length s.order ≡ 96 → sound b.n s ≡ true
    → left ≡ set_of (free (rows_below b.n) (placed_rows b.n s)) → k ≡ first (has left) (b.n - s.cursor) s.cursor
    → Stands b quota s (record { state = s; left = left }) 0 k
stands_start {b = b} {s = s} most size h e r =
    record {
      progress = progress_of b.n s;
      stand_is = ap₂ (λ (t : State) (l : Set). record { state = t; left = l }) (sound_state b.n s size most h) e;
      distinct = sound_distinct b.n s h;
      row_is = rw e at r ∙ next_is_first b.n (progress_of b.n s) most;
      same = rw sub-zero refl;
      made = rw sub-zero (omega arith);
    }

module _ {b : Board} {quota : ℕ} {s : State} {st : Stand} {tests k : ℕ} (S : Stands b quota s st tests k) where
  pub stands_placed : k < b.n → st.state.placed < b.n
  stands_placed h =
      rw S.stand_is (distinct_less b.n (passes b) S.progress S.distinct (next_unfinished b.n S.progress k S.row_is h))

  -- the row of the next test is one that is left
  pub stands_left : b.n ≤ 96 → k < b.n → has st.left k ≡ true
  stands_left most h =
      let p = S.progress in
      let free-row = (next_is b.n (rows_below b.n) (passes b) p (next_unfinished b.n p k S.row_is h)).is_free in
      rw S.stand_is (has_unplaced b.n p.placed k most ∙ rw (← S.row_is) at free-row)

  -- one probe takes it one test on
  pub stands_probe : b.n ≤ 96 → k < b.n → tests < quota → {st' : Stand} {k' : ℕ} → st' ≡ probed_of b st.state st.left k
      → k' ≡ first (has st'.left) (b.n - st'.state.cursor) st'.state.cursor → Stands b quota s st' (tests + 1) k'
  unfolding probe
  stands_probe most h l {st'} e r =
      let p = S.progress in
      let test = passes b in
      let p' = probe b.n (rows_below b.n) test p in
      let f = next_unfinished b.n p k S.row_is h in
      let is : st' ≡ stand_of b.n p' =
      e ∙ ap₂ (λ (t : Stand) (j : ℕ). probed_of b t.state t.left j) S.stand_is S.row_is
      ∙ probed_tested b most p (next b.n (rows_below b.n) p) (distinct_less b.n test p S.distinct f)
      in
      let rest : quota - tests ≡ suc (quota - (tests + 1)) = omega arith in
      record {
        progress = p';
        stand_is = is;
        distinct = probe_distinct b.n (rows_below b.n) test p f S.distinct;
        row_is =
            r ∙ ap (λ (t : Stand). first (has t.left) (b.n - t.state.cursor) t.state.cursor) is ∙ next_is_first b.n p' most;
        same = rw (rest, f) at S.same;
        made = omega (arith, rw (rest, f) at S.made);
      }

  -- ---- how a run ends

  -- where it is finished or has spent its quota, the run stands at its end
  ended : (finished b.n (rows_below b.n) S.progress ≡ true) ⊎ (quota ≤ tests)
      → stepped_by b.n (record { progress = S.progress; tests = tests }) ≡ work_of b s quota
  unfolding work_of
  ended w =
      let p = S.progress in
      let work = run b.n (rows_below b.n) (passes b) in
      let rest : work (quota - tests) p ≡ record { progress = p; tests = 0 } =
      ⊎_elim (λ (f : finished b.n (rows_below b.n) p ≡ true). run_finished b.n (rows_below b.n) (passes b) (quota - tests) p f)
      (λ (l : quota ≤ tests). let spent : quota - tests ≡ 0 = omega arith in rw spent refl)
      w
      in
      let whole : work quota (progress_of b.n s) ≡ record { progress = p; tests = tests } =
      ap₂ (λ (q : Progress) (t : ℕ). record { progress = q; tests = t }) (S.same ∙ ap (λ (r : Run). r.progress) rest)
      (omega (arith, S.made, ap (λ (r : Run). r.tests) rest))
      in
      sym (ap (stepped_by b.n) whole)

  pub run_unfinished : k < b.n → quota ≤ tests
      → record { number = unfinished; row = 0; group = none; tests = tests; state = st.state } ≡ work_of b s quota
  run_unfinished h l =
      answer_unfinished b.n S.progress tests st S.stand_is (next_unfinished b.n S.progress k S.row_is h) ∙ ended (inr l)

  pub run_blocked : b.n ≤ k → st.state.placed < b.n
      → record { number = blocked; row = 0; group = st.left; tests = tests; state = st.state } ≡ work_of b s quota
  run_blocked h l =
      let f = next_finished b.n S.progress k S.row_is h in
      answer_blocked b.n S.progress tests st S.stand_is f l ∙ ended (inl f)

  pub run_done : b.n ≤ k → b.n ≤ st.state.placed
      → record { number = done; row = 0; group = none; tests = tests; state = st.state } ≡ work_of b s quota
  run_done h l =
      let f = next_finished b.n S.progress k S.row_is h in
      answer_done b.n S.progress tests st S.stand_is f S.distinct l ∙ ended (inl f)

-- ---- the present form, told in this one

pub stands_row : {b : Board} {quota : ℕ} {s : State} {st : Stand} {tests k : ℕ} → PresentStands b quota s st tests → b.n ≤ 96
    → k ≡ first (has st.left) (b.n - st.state.cursor) st.state.cursor → Stands b quota s st tests k
stands_row {b} {quota} {s} {st} {tests} {k} S most e =
    record {
      progress = S.progress;
      stand_is = S.stand_is;
      distinct = S.distinct;
      row_is = e ∙ rw S.stand_is (next_is_first b.n S.progress most);
      same = S.same;
      made = S.made;
    }
