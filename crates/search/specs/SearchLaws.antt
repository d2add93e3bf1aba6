-- Laws of the search: what it reaches is a search free in its choices, what is finished is stuck, how many tests it makes, and how runs compose.
-- Assumes nothing.
use Rattle.std.specs.Prelude.{ℕ, zero, suc, ◌+◌, ◌*◌, ◌-◌, ◌≤◌, ◌<◌, ◌≡◌, Bool, ◌&&◌, List, [], ◌∷◌}
use Rattle.std.proofs.Common.{zero-le, ap, le_refl, le_of_suc-le-suc, eq-or-lt_of_le, zero-add, suc-add, le-div_iff_mul-le, zero-lt-suc, arith, leb-true, leb-false, le-leb}
use Rattle.std.proofs.Math.Bool.{true, false}
use Rattle.std.proofs.Math.Dec.{leb}
use Rattle.std.proofs.Math.Logic.{⊎_elim}
use Rattle.std.proofs.Math.Path.{refl}
use Rattle.std.proofs.lemmas.Bool.{lt-leb}
use Rattle.sets.specs.Sums.{on, count}
use Rattle.sets.specs.BoolLaws.{either, not_both, and_in, and_left, and_right}
use Rattle.sets.specs.SumLaws.{first_is, sum_mono, sum_less, on_mono, count_mono, count_le}
use Rattle.sets.specs.Sets.{without}
use Rattle.search.specs.Search.{Progress, fresh, tested, free, next, finished, probe, run, bound, search}
use Rattle.search.specs.Demand.{Placing, Stuck}
use Rattle.search.specs.FreeLaws.{free_in, free_head, free_tail}

-- 0 + 1 + .. + (u - 1)
abbrev pub tri : ℕ → ℕ
tri zero = 0
tri (suc u) = tri u + u

pub tri_less : (u v : ℕ) → u < v → tri u + u ≤ tri v
tri_less u zero h = absurd (omega arith)
tri_less u (suc v) h =
    ⊎_elim (λ (e : u ≡ v). rw e (le_refl (tri v + v))) (λ (l : u < v). omega (arith, tri_less u v l)) (eq-or-lt_of_le (le_of_suc-le-suc h))

pub tri_mono : (u v : ℕ) → u ≤ v → tri u ≤ tri v
tri_mono u v h = ⊎_elim (λ (e : u ≡ v). rw e (le_refl (tri v))) (λ (l : u < v). omega (arith, tri_less u v l)) (eq-or-lt_of_le h)

pub tri_twice : (n : ℕ) → (tri n + n) * 2 ≡ n * suc n
tri_twice zero = refl
tri_twice (suc n) = omega (arith, tri_twice n)

module _ (n : ℕ) (dom : ℕ → Bool) (test : (ℕ → Bool) → ℕ → Bool) where
  -- reached from fresh: the list is a free search's, and every free row before the cursor has failed
  pub record Reached (s : Progress) : Type 0 where
    pub placing : Placing dom test s.placed
    pub failed : (i : ℕ) → i < s.cursor → free dom s.placed i ≡ true → test (without (free dom s.placed) i) i ≡ false

  pub fresh_reached : Reached fresh
  fresh_reached = record { placing = tt; failed = λ i h. absurd (omega arith) }

  -- the row of the next test
  pub record Next (s : Progress) (k : ℕ) : Type 0 where
    pub from : s.cursor ≤ k
    pub below : k < n
    pub is_free : free dom s.placed k ≡ true
    pub before : (j : ℕ) → s.cursor ≤ j → j < k → free dom s.placed j ≡ false

  pub next_is : (s : Progress) → finished n dom s ≡ false → Next s (next n dom s)
  unfolding finished next
  next_is s f =
      let r = first_is (free dom s.placed) (n - s.cursor) s.cursor in
      let l : next n dom s < n = leb-false n (next n dom s) f in
      record { from = r.from; below = l; is_free = r.found (omega (arith, r.from)); before = r.before }

  pub probe_reached : (s : Progress) → finished n dom s ≡ false → Reached s → Reached (probe n dom test s)
  unfolding probe
  probe_reached s f R = go (next_is s f) (test (without (free dom s.placed) (next n dom s)) (next n dom s)) refl
    where
      go : {k : ℕ} → Next s k → (b : Bool) → test (without (free dom s.placed) k) k ≡ b → Reached (tested s.placed k b)
      go N true e = record { placing = (N.is_free, e, R.placing); failed = λ i h. absurd (omega arith) }
      go {k} N false e =
          record {
            placing = R.placing;
            failed =
                λ i h m.
                ⊎_elim (λ (q : i ≡ k). rw q e)
                (λ (q : i < k).
                ⊎_elim (λ (x : leb s.cursor i ≡ true). not_both m (N.before i (leb-true s.cursor i x) q))
                (λ (x : leb s.cursor i ≡ false). R.failed i (leb-false s.cursor i x) m)
                (either (leb s.cursor i)))
                (eq-or-lt_of_le (le_of_suc-le-suc h));
          }

  pub run_reached : (q : ℕ) (s : Progress) → Reached s → Reached (run n dom test q s).progress
  run_reached zero s R = R
  run_reached (suc q) s R =
      ⊎_elim (λ (e : finished n dom s ≡ true). rw e R)
      (λ (e : finished n dom s ≡ false). rw e (run_reached q (probe n dom test s) (probe_reached s e R)))
      (either (finished n dom s))

  module _ (below : (i : ℕ) → dom i ≡ true → i < n) where
    pub finished_stuck : (s : Progress) → Reached s → finished n dom s ≡ true → Stuck dom test s.placed
    unfolding finished next
    finished_stuck s R f k m =
        let r = first_is (free dom s.placed) (n - s.cursor) s.cursor in
        let l : n ≤ next n dom s = leb-true n (next n dom s) f in
        let b : k < n = below k (free_in dom s.placed k m).0 in
        ⊎_elim (λ (x : leb s.cursor k ≡ true). not_both m (r.before k (leb-true s.cursor k x) (omega arith)))
        (λ (x : leb s.cursor k ≡ false). R.failed k (leb-false s.cursor k x) m)
        (either (leb s.cursor k))

  -- ---- how many tests

  -- a bound on the tests still to come: each row placed costs at most one test of each row that is left
  unfoldable pub left : Progress → ℕ
  left s = count n (λ i. free dom s.placed i && leb s.cursor i)

  unfoldable pub potential : Progress → ℕ
  unfolding left
  potential s = tri (count n (free dom s.placed)) + left s

  -- an unfinished state has a row left
  left_pos : (s : Progress) (k : ℕ) → Next s k → 1 ≤ left s
  unfolding left
  left_pos s k N =
      omega (
        arith,
        sum_less n (λ i. 0) (λ i. on (free dom s.placed i && leb s.cursor i) 1) k N.below (λ i. zero-le)
            (rw (N.is_free, le-leb s.cursor k N.from) (le_refl 1)),
        sum_mono n (λ i. 0) (λ i. 0) (λ i _. zero-le),
      )

  -- placing k leaves fewer free rows
  free_less : (p : List ℕ) (k : ℕ) → k < n → free dom p k ≡ true → count n (free dom (k ∷ p)) < count n (free dom p)
  free_less p k l m =
      sum_less n (λ i. on (free dom (k ∷ p) i) 1) (λ i. on (free dom p i) 1) k l
      (λ i. on_mono (free dom (k ∷ p) i) (free dom p i) (free_tail dom k p i) (le_refl 1))
      (rw (m, free_head dom k p) (le_refl 1))

  tested_less : (s : Progress) (k : ℕ) → Next s k → (b : Bool) → potential (tested s.placed k b) < potential s
  unfolding potential left
  tested_less s k N true =
      let u = count n (free dom (k ∷ s.placed)) in
      let l : count n (λ i. free dom (k ∷ s.placed) i && leb 0 i) ≤ u = count_mono n _ _ (λ i h. and_left (free dom (k ∷ s.placed) i) (leb 0 i) h) in
      omega (arith, tri_less u (count n (free dom s.placed)) (free_less s.placed k N.below N.is_free), left_pos s k N)
  tested_less s k N false =
      omega (
        arith,
        sum_less n (λ i. on (free dom s.placed i && leb (suc k) i) 1) (λ i. on (free dom s.placed i && leb s.cursor i) 1) k N.below
            (λ i.
            on_mono (free dom s.placed i && leb (suc k) i) (free dom s.placed i && leb s.cursor i)
            (λ h.
            and_in (free dom s.placed i) (leb s.cursor i) (and_left (free dom s.placed i) (leb (suc k) i) h)
            (le-leb s.cursor i (omega (arith, N.from, leb-true (suc k) i (and_right (free dom s.placed i) (leb (suc k) i) h)))))
            (le_refl 1))
            (rw (N.is_free, le-leb s.cursor k N.from, lt-leb (suc k) k (le_refl (suc k))) (le_refl 1)),
      )

  -- each test brings the bound down
  pub probe_less : (s : Progress) → finished n dom s ≡ false → potential (probe n dom test s) < potential s
  unfolding probe
  probe_less s f = tested_less s (next n dom s) (next_is s f) (test (without (free dom s.placed) (next n dom s)) (next n dom s))

  pub run_bound : (q : ℕ) (s : Progress) → (run n dom test q s).tests + potential (run n dom test q s).progress ≤ potential s
  run_bound zero s = omega arith
  run_bound (suc q) s =
      ⊎_elim (λ (e : finished n dom s ≡ true). rw e (omega arith))
      (λ (e : finished n dom s ≡ false). rw e (omega (arith, run_bound q (probe n dom test s), probe_less s e)))
      (either (finished n dom s))

  -- an unfinished run made exactly its quota
  pub run_quota : (q : ℕ) (s : Progress) → finished n dom (run n dom test q s).progress ≡ false → (run n dom test q s).tests ≡ q
  run_quota zero s = λ f. refl
  run_quota (suc q) s =
      ⊎_elim (λ (e : finished n dom s ≡ true). rw e (λ f. not_both e f))
      (λ (e : finished n dom s ≡ false). rw e (λ f. ap suc (run_quota q (probe n dom test s) f)))
      (either (finished n dom s))

  -- so a run with enough quota is finished
  pub run_ends : (q : ℕ) (s : Progress) → potential s ≤ q → finished n dom (run n dom test q s).progress ≡ true
  unfolding potential
  run_ends q s h =
      ⊎_elim (λ e. e)
      (λ (e : finished n dom (run n dom test q s).progress ≡ false).
      let z = (run n dom test q s).progress in
      absurd (omega (arith, run_quota q s e, run_bound q s, left_pos z (next n dom z) (next_is z e))))
      (either (finished n dom (run n dom test q s).progress))

  pub fresh_potential : potential fresh ≤ bound n
  unfolding potential left
  fresh_potential =
      (le-div_iff_mul-le (zero-lt-suc 1)).1
      (omega (
        arith,
        tri_twice n,
        tri_mono (count n (free dom [])) n (count_le n (free dom [])),
        count_le n (λ i. free dom [] i && leb 0 i),
      ))

  -- the search ends, within its bound
  pub search_ends : finished n dom (search n dom test).progress ≡ true
  unfolding search
  search_ends = run_ends (bound n) fresh fresh_potential

  pub search_tests : (search n dom test).tests ≤ bound n
  unfolding search
  search_tests = omega (arith, run_bound (bound n) fresh, fresh_potential)

  pub search_reached : Reached (search n dom test).progress
  unfolding search
  search_reached = run_reached (bound n) fresh fresh_reached

  -- a finished state stays, with no test
  pub run_finished : (q : ℕ) (s : Progress) → finished n dom s ≡ true → run n dom test q s ≡ record { progress = s; tests = 0 }
  run_finished zero s f = refl
  run_finished (suc q) s f = rw f refl

  -- a run in two parts
  pub run_add : (a b : ℕ) (s : Progress) → ((run n dom test (a + b) s).progress ≡ (run n dom test b (run n dom test a s).progress).progress)
      × ((run n dom test (a + b) s).tests ≡ (run n dom test a s).tests + (run n dom test b (run n dom test a s).progress).tests)
  run_add zero b s = rw (zero-add b) (refl, omega arith)
  run_add (suc a) b s =
      rw (suc-add a b)
      (⊎_elim
      (λ (e : finished n dom s ≡ true). rw (e, run_finished b s e) (refl, refl))
      (λ (e : finished n dom s ≡ false).
      let ih = run_add a b (probe n dom test s) in
      rw e (ih.0, omega (arith, ih.1)))
      (either (finished n dom s)))
