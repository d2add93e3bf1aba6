-- Legal schedules exist: whatever the releases and costs, in each tick let the m highest tasks that are behind execute.
-- First the m highest of a set of tasks, then which tasks are behind, then the schedule.
-- Assumes nothing.
use Rattle.std.specs.Prelude.{ℕ, zero, suc, ◌+◌, ◌≤◌, ◌<◌, min, ◌≡◌, Bool, true, false, ◌&&◌, leb, ltb, eqb}
use Rattle.std.proofs.Common.{zero-le, sym, ap, ◌∙◌, ⊎_elim, arith, le_refl, eq-or-lt_of_le, ne_of_lt, leb-true, ltb-true, ltb-false, le-leb, lt-ltb, le-ltb, eqb-true, eq-eqb, ne_eqb}
use Rattle.std.proofs.Math.Bool.{and-true, and-false}
use Rattle.std.proofs.Math.Path.{refl}
use Rattle.sets.specs.NumberLaws.{le_or_lt}
use Rattle.sets.specs.Sums.{on, sum, count, first}
use Rattle.sets.specs.BoolLaws.{either, not_both, and_left, and_right}
use Rattle.sets.specs.SumLaws.{sum_mono, sum_ext, sum_add, first_is}
use Rattle.rows.specs.declared.table.Row.{Row}
use Rattle.schedule.specs.Schedule.{above, Pattern}
use Rattle.schedule.proofs.Lives.{Life, served, LegalLives}
use Rattle.schedule.proofs.MoreSums.{sum_at, count_none, count_single, spaced_least}

-- ---- the m highest of a set

-- a number below b + 1 is below b or is b
below_next : (r b : ℕ) (p : Bool) → on (ltb r (suc b) && p) 1 ≡ on (ltb r b && p) 1 + on (eqb r b && p) 1
below_next r b p =
    ⊎_elim
    (λ (l : r ≤ b).
    ⊎_elim
    (λ (e : r ≡ b). rw (eq-eqb r b e, lt-ltb r (suc b) (omega arith), le-ltb r b (omega arith)) (omega arith))
    (λ (q : r < b). rw (ne_eqb r b (ne_of_lt q), lt-ltb r (suc b) (omega arith), lt-ltb r b q) (omega arith))
    (eq-or-lt_of_le l))
    (λ (l : b < r). rw (ne_eqb r b (λ e. ne_of_lt l (sym e)), le-ltb r (suc b) l, le-ltb r b (omega arith)) (omega arith))
    (le_or_lt r b)

module _ (n m : ℕ) (rank : ℕ → ℕ) (w : ℕ → Bool) where
  -- those of p with a rank below b, and with rank b
  abbrev pub under : (ℕ → Bool) → ℕ → ℕ → Bool
  under p b i = ltb (rank i) b && p i

  abbrev ranked : (ℕ → Bool) → ℕ → ℕ → Bool
  ranked p b i = eqb (rank i) b && p i

  -- i is in the set, and fewer than m of the set are above it
  abbrev pub pick : ℕ → Bool
  pick i = w i && ltb (count n (under w (rank i))) m

  under_next : (p : ℕ → Bool) (b : ℕ) → count n (under p (suc b)) ≡ count n (under p b) + count n (ranked p b)
  under_next p b =
      sum_ext n _ _ (λ i _. below_next (rank i) b (p i)) ∙ sym (sum_add n (λ i. on (under p b i) 1) (λ i. on (ranked p b i) 1))

  under_zero : (p : ℕ → Bool) → count n (under p 0) ≡ 0
  under_zero p = count_none n (under p 0) (λ i _. rw (le-ltb (rank i) 0 zero-le) refl)

  -- one of rank b is picked where fewer than m of the set have a rank below b
  ranked_pick : (b : ℕ) (z : Bool) → ltb (count n (under w b)) m ≡ z → (i : ℕ) → ranked pick b i ≡ eqb (rank i) b && (w i && z)
  ranked_pick b z o i =
      ⊎_elim
      (λ (e : eqb (rank i) b ≡ true).
      rw e (ap (λ (r : ℕ). w i && ltb (count n (under w r)) m) (eqb-true (rank i) b e) ∙ ap (λ (y : Bool). w i && y) o))
      (λ (e : eqb (rank i) b ≡ false). rw e refl)
      (either (eqb (rank i) b))

  module _ (apart : (i j : ℕ) → i < n → j < n → rank i ≡ rank j → i ≡ j) where
    ranked_one : (b : ℕ) → count n (ranked w b) ≤ 1
    ranked_one b =
        count_single n (ranked w b)
        (λ i j k l e f.
        apart i j k l (eqb-true (rank i) b (and_left (eqb (rank i) b) (w i) e) ∙ sym (eqb-true (rank j) b (and_left (eqb (rank j) b) (w j) f))))

    -- of the set below rank b as many as there are, and at most m, are picked
    picked : (b : ℕ) → count n (under pick b) ≡ min (count n (under w b)) m
    picked zero = omega (arith, under_zero w, under_zero pick)
    picked (suc b) =
        ⊎_elim
        (λ (o : ltb (count n (under w b)) m ≡ true).
        let same : count n (ranked pick b) ≡ count n (ranked w b) =
        sum_ext n _ _ (λ i _. rw (ranked_pick b true o i, and-true) refl)
        in
        omega (arith, under_next w b, under_next pick b, picked b, ltb-true (count n (under w b)) m o, ranked_one b))
        (λ (o : ltb (count n (under w b)) m ≡ false).
        let none : count n (ranked pick b) ≡ 0 =
        count_none n (ranked pick b) (λ i _. rw (ranked_pick b false o i, and-false, and-false) refl)
        in
        omega (arith, under_next w b, under_next pick b, picked b, ltb-false (count n (under w b)) m o))
        (either (ltb (count n (under w b)) m))

    -- at most m are picked, and m above one that is passed over
    pub pick_few : count n pick ≤ m
    pick_few =
        let b = suc (sum n rank) in
        let all : count n pick ≤ count n (under pick b) =
        sum_mono n _ _ (λ i l. rw (lt-ltb (rank i) b (omega (arith, sum_at n rank i l))) (le_refl (on (pick i) 1)))
        in
        omega (arith, picked b)

    pub pick_above : (k : ℕ) → w k ≡ true → pick k ≡ false → m ≤ count n (λ i. above rank k i && pick i)
    pick_above k e f =
        let full : ltb (count n (under w (rank k))) m ≡ false = rw e at f in
        omega (arith, picked (rank k), ltb-false (count n (under w (rank k))) m full)

-- ---- which tasks are behind

-- job j is released by u, and d ticks do not finish it
abbrev pub unmet : (ℕ → ℕ) → (ℕ → ℕ) → ℕ → ℕ → ℕ → Bool
unmet release cost d u j = leb (release j) u && ltb d (sum (suc j) cost)

-- some job is so
abbrev pub behind : (ℕ → ℕ) → (ℕ → ℕ) → ℕ → ℕ → Bool
behind release cost d u = unmet release cost d u (first (unmet release cost d u) (suc u) 0)

module _ (release cost : ℕ → ℕ) (d u : ℕ) where
  -- a task is behind exactly when it has such a job
  behind_job : behind release cost d u ≡ true → (j : ℕ) × (release j ≤ u) × (d < sum (suc j) cost)
  behind_job e =
      let j = first (unmet release cost d u) (suc u) 0 in (
        j,
        leb-true (release j) u (and_left (leb (release j) u) (ltb d (sum (suc j) cost)) e),
        ltb-true d (sum (suc j) cost) (and_right (leb (release j) u) (ltb d (sum (suc j) cost)) e),
      )

  job_behind : (j : ℕ) → j ≤ release j → release j ≤ u → d < sum (suc j) cost → behind release cost d u ≡ true
  job_behind j l p q =
      let r = first (unmet release cost d u) (suc u) 0 in
      let F = first_is (unmet release cost d u) (suc u) 0 in
      let here : unmet release cost d u j ≡ true = rw (le-leb (release j) u p, lt-ltb d (sum (suc j) cost) q) refl in
      ⊎_elim (λ (o : suc u ≤ r). not_both here (F.before j zero-le (omega arith))) (λ (o : r < suc u). F.found (omega arith))
      (le_or_lt (suc u) r)

-- ---- the schedule

module _ (n m : ℕ) (rank : ℕ → ℕ) (release cost : ℕ → ℕ → ℕ) where
  -- the ticks that task i has executed before u
  unfoldable pub given : ℕ → ℕ → ℕ
  given zero i = 0
  given (suc u) i = given u i + on (pick n m rank (λ k. behind (release k) (cost k) (given u k) u) i) 1

  unfoldable pub made : ℕ → Life
  made i = record { release = release i; cost = cost i; runs = λ u. pick n m rank (λ k. behind (release k) (cost k) (given u k) u) i }

  -- the counts are those of the schedule made
  served_made : (i u : ℕ) → served (made i) u ≡ given u i
  unfolding given made
  served_made i zero = refl
  served_made i (suc u) = omega (arith, served_made i u)

  pub made_legal : (t : ℕ → Row) → ((i : ℕ) → i < n → 1 ≤ (t i).t) → Pattern n t release cost
      → ((i j : ℕ) → i < n → j < n → rank i ≡ rank j → i ≡ j) → LegalLives n m t rank made
  unfolding made
  made_legal t period P apart = record {
    tasks =
        λ i l.
        record {
          spaced = λ j. P.spaced i j l;
          costs = λ j. P.costs i j l;
          ready =
              λ u e.
              let (j, p, q) = behind_job (release i) (cost i) (given u i) u (and_left (behind (release i) (cost i) (given u i) u) _ e) in
              (j, p, omega (arith, served_made i u));
        };
    cores = λ u. pick_few n m rank (λ k. behind (release k) (cost k) (given u k) u) apart;
    greedy =
        λ k u l (j, p, q) e.
        pick_above n m rank (λ k. behind (release k) (cost k) (given u k) u) apart k
        (job_behind (release k) (cost k) (given u k) u j (spaced_least (release k) (t k).t (λ i. P.spaced k i l) (period k l) j) p
        (omega (arith, served_made k u)))
        e;
  }
