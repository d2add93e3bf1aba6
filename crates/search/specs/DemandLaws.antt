-- Demand 3 of the search, in one call and in quota steps, over any antitone test.
-- Assumes nothing.
use Rattle.std.specs.Prelude.{ℕ, ◌+◌, ◌≤◌, ◌<◌, ◌≡◌, Bool, true, false, ◌&&◌, List, length, ltb}
use Rattle.std.proofs.Common.{⊎_elim, arith, ltb-true, lt-ltb}
use Rattle.sets.specs.Sums.{count}
use Rattle.sets.specs.BoolLaws.{either, and_left, and_in}
use Rattle.sets.specs.SumLaws.{count_mono, count_all, count_at, count_le}
use Rattle.test.proofs.TestLaws.{Antitone}
use Rattle.search.specs.Search.{Progress, rows_below, free, run, fresh, next, finished, search}
use Rattle.search.specs.Demand.{Truth}
use Rattle.search.specs.FreeLaws.{free_in, in_free, same_set}
use Rattle.search.specs.StrandLaws.{stranded_blocked, blocked_stranded, same_stranded}
use Rattle.search.specs.OrderLaws.{Distinct, none_stranded, placing_distinct, tally}
use Rattle.search.specs.SearchLaws.{Reached, next_is, fresh_reached, run_reached, finished_stuck, search_ends, search_reached}

pub truth : (n : ℕ) (dom : ℕ → Bool) (test : (ℕ → Bool) → ℕ → Bool) → Antitone test → ((i : ℕ) → dom i ≡ true → i < n)
    → (s : Progress) → Reached n dom test s → finished n dom s ≡ true → Truth n dom test s.placed
truth n dom test anti below s R f =
    let P = R.placing in
    let S = finished_stuck n dom test below s R f in
    record {
      placing = P;
      stuck = S;
      same =
          λ q Q t i.
          same_set (free dom q) (free dom s.placed) (same_stranded dom test anti q s.placed Q t P S)
          (same_stranded dom test anti s.placed q P S Q t) i;
      none = none_stranded dom test anti s.placed P S;
      blocked = stranded_blocked dom test s.placed S;
      inside = λ G b. blocked_stranded dom test anti G b s.placed P;
      largest = λ G b. count_mono n G (free dom s.placed) (blocked_stranded dom test anti G b s.placed P);
      size = tally dom n below s.placed (placing_distinct dom test s.placed P);
    }

module _ (n : ℕ) (dom : ℕ → Bool) (test : (ℕ → Bool) → ℕ → Bool) (anti : Antitone test) (below : (i : ℕ) → dom i ≡ true → i < n) where
  -- the search in one call
  pub search_truth : Truth n dom test (search n dom test).progress.placed
  search_truth = truth n dom test anti below (search n dom test).progress (search_reached n dom test) (search_ends n dom test)

  -- a run in quota steps from fresh that is finished
  pub steps_truth : (q : ℕ) → finished n dom (run n dom test q fresh).progress ≡ true → Truth n dom test (run n dom test q fresh).progress.placed
  steps_truth q f =
      truth n dom test anti below (run n dom test q fresh).progress (run_reached n dom test q fresh (fresh_reached n dom test)) f

-- all rows of a table are below n
pub rows_below_lem : (n i : ℕ) → rows_below n i ≡ true → i < n
rows_below_lem n i h = ltb-true i n h

pub rows_count : (n : ℕ) → count n (rows_below n) ≡ n
rows_count n = count_all n (rows_below n) (λ i l. lt-ltb i n l)

-- distinct rows below n are at most n
pub distinct_most : (n : ℕ) (p : List ℕ) → Distinct (rows_below n) p → length p ≤ n
distinct_most n p D = omega (arith, tally (rows_below n) n (λ i h. ltb-true i n h) p D, rows_count n)

-- ---- of any rows, those of them that the table has

abbrev pub in_table : ℕ → (ℕ → Bool) → ℕ → Bool
in_table n dom i = ltb i n && dom i

module _ (n : ℕ) (dom : ℕ → Bool) where
  in_below : (i : ℕ) → in_table n dom i ≡ true → i < n
  in_below i h = ltb-true i n (and_left (ltb i n) (dom i) h)

  pub in_table_free : (p : List ℕ) (i : ℕ) → i < n → free dom p i ≡ true → free (in_table n dom) p i ≡ true
  in_table_free p i l f =
      let w = free_in dom p i f in
      in_free (in_table n dom) p i (and_in (ltb i n) (dom i) (lt-ltb i n l) w.0) w.1

  in_table_most : (p : List ℕ) → Distinct (in_table n dom) p → length p + count n (free (in_table n dom) p) ≤ n
  in_table_most p D = omega (arith, tally (in_table n dom) n in_below p D, count_le n (in_table n dom))

  -- with n distinct rows placed the state is finished: document 01's "placed = n, or .." is one test
  pub full_finished : (test : (ℕ → Bool) → ℕ → Bool) (s : Progress) → Distinct (in_table n dom) s.placed → n ≤ length s.placed
      → finished n dom s ≡ true
  full_finished test s D e =
      ⊎_elim (λ (f : finished n dom s ≡ true). f)
      (λ (f : finished n dom s ≡ false).
      let N = next_is n dom test s f in
      let H = free (in_table n dom) s.placed in
      let some : 1 ≤ count n H = count_at n H (next n dom s) N.below (in_table_free s.placed (next n dom s) N.below N.is_free) in
      absurd (omega (arith, in_table_most s.placed D)))
      (either (finished n dom s))
