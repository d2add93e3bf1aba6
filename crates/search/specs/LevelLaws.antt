-- Laws of a level: a scan of the free rows in table sequence makes the tests of a run up to the first that passes, and places that row.
-- What a run leaves is its list and its tests; its last cursor, which one call does not hold, is left open.
-- Assumes nothing.
use Rattle.std.specs.Prelude.{ℕ, zero, suc, ◌+◌, ◌-◌, ◌≤◌, ◌<◌, min, ◌≡◌, Bool, true, false, cond, List, ◌∷◌, ltb}
use Rattle.std.proofs.Common.{sym, ap, ◌∙◌, ⊎_elim, le_refl, zero-add, suc-add, add_comm, add_assoc, arith, le-leb, lt-ltb, le-ltb}
use Rattle.std.proofs.Math.Dec.{leb}
use Rattle.std.proofs.Math.Numerals.{add-one}
use Rattle.std.proofs.Math.Path.{refl}
use Rattle.std.proofs.lemmas.Bool.{lt-leb}
use Rattle.sets.specs.BoolLaws.{either}
use Rattle.sets.specs.Sums.{on, count, first}
use Rattle.sets.specs.SumLaws.{count_upto, first_is, first_taken, first_next, first_end}
use Rattle.sets.specs.Sets.{without}
use Rattle.search.specs.Search.{Progress, Run, fresh, tested, counted, free, next, finished, probe, run, bound, search}
use Rattle.search.specs.SearchLaws.{run_finished, run_add, search_ends}
use Rattle.search.specs.Answers.{passing}

-- a run that ends as another does, with so many tests more
pub record Ends (made : ℕ) (a b : Run) : Type 0 where
  pub placed : a.progress.placed ≡ b.progress.placed
  pub tests : a.tests ≡ made + b.tests

ends_on : {j k : ℕ} {a b c : Run} → Ends j a b → Ends k b c → Ends (j + k) a c
ends_on x y = record { placed = x.placed ∙ y.placed; tests = omega (arith, x.tests, y.tests) }

module _ (n : ℕ) (dom : ℕ → Bool) (p : List ℕ) where
  abbrev at : ℕ → Progress
  at i = record { placed = p; cursor = i }

  -- where a scan goes on from that ended at row r: the next level, or the end where no row passed
  unfoldable pub levelled : ℕ → Progress
  levelled r = cond (ltb r n) (record { placed = r ∷ p; cursor = 0 }) (at n)

  next_skip : (i : ℕ) → i < n → free dom p i ≡ false → next n dom (at i) ≡ next n dom (at (suc i))
  unfolding next
  next_skip i h e = rw add-one at (first_next (free dom p) n i h e)

  next_taken : (i : ℕ) → i < n → free dom p i ≡ true → next n dom (at i) ≡ i
  unfolding next
  next_taken i h e = first_taken (free dom p) n i h e

  pub end_finished : (i : ℕ) → n ≤ i → finished n dom (at i) ≡ true
  unfolding finished next
  end_finished i h = rw (first_end (free dom p) n i h) (le-leb n i h)

  pub levelled_placed : (r : ℕ) → r < n → levelled r ≡ record { placed = r ∷ p; cursor = 0 }
  unfolding levelled
  levelled_placed r h = rw (lt-ltb r n h) refl

  pub levelled_stuck : (r : ℕ) → n ≤ r → levelled r ≡ at n
  unfolding levelled
  levelled_stuck r h = rw (le-ltb r n h) refl

  module _ (test : (ℕ → Bool) → ℕ → Bool) where
    -- a row that is not free is passed over
    run_skip : (q i : ℕ) → i < n → free dom p i ≡ false → Ends 0 (run n dom test q (at i)) (run n dom test q (at (suc i)))
    unfolding finished probe
    run_skip zero i h e = record { placed = refl; tests = refl }
    run_skip (suc q) i h e =
        rw (next_skip i h e)
        (⊎_elim
        (λ (f : leb n (next n dom (at (suc i))) ≡ true). rw f (record { placed = refl; tests = refl }))
        (λ (f : leb n (next n dom (at (suc i))) ≡ false). rw f (record { placed = refl; tests = omega arith }))
        (either (leb n (next n dom (at (suc i))))))

    -- a free row is tested
    run_test : (q i : ℕ) → i < n → free dom p i ≡ true
        → run n dom test (suc q) (at i) ≡ counted (run n dom test q (tested p i (test (without (free dom p) i) i)))
    unfolding finished probe
    run_test q i h e = rw (next_taken i h e, lt-leb n i h) refl

    -- the scan from row i on: its tests, e, are those of the free rows up to where it ends
    level_from : (d i e q : ℕ) → i + d ≡ n → count i (free dom p) + e ≡ count (min (suc (first (passing test (free dom p)) d i)) n) (free dom p)
        → Ends e (run n dom test (e + q) (at i)) (run n dom test q (levelled (first (passing test (free dom p)) d i)))
    level_from zero i e q s c =
        let last : min (suc i) n ≡ i = omega arith in
        let none : e ≡ 0 = omega (arith, rw last at c) in
        rw (
          none,
          zero-add q,
          levelled_stuck i (omega arith),
          run_finished n dom test q (at i) (end_finished i (omega arith)),
          run_finished n dom test q (at n) (end_finished n (le_refl n)),
        )
        (record { placed = refl; tests = refl })
    level_from (suc d) i e q s c =
        let H = free dom p in
        let rest = first (passing test H) d (suc i) in
        let h : i < n = omega arith in
        ⊎_elim
        (λ (f : free dom p i ≡ true).
        let one : on (free dom p i) 1 ≡ 1 = rw f refl in
        ⊎_elim
        (λ (t : test (without (free dom p) i) i ≡ true).
        let here : first (passing test H) (suc d) i ≡ i = rw (f, t) refl in
        let last : min (suc i) n ≡ suc i = omega arith in
        let once : e ≡ 1 = omega (arith, one, rw (here, last) at c) in
        rw (once, suc-add 0 q, zero-add q, run_test q i h f, f, t, levelled_placed i h) (record { placed = refl; tests = omega arith }))
        (λ (t : test (without (free dom p) i) i ≡ false).
        let past : first (passing test H) (suc d) i ≡ rest = rw (f, t) refl in
        let some : 1 ≤ e =
        omega (arith, one, rw past at c, count_upto (suc i) (min (suc rest) n) H (omega (arith, (first_is (passing test H) d (suc i)).from)))
        in
        let more : e ≡ suc (e - 1) = omega arith in
        let ih = level_from d (suc i) (e - 1) q (omega arith) (omega (arith, one, rw past at c)) in
        rw (past, more, suc-add (e - 1) q, run_test (e - 1 + q) i h f, t) (record { placed = ih.placed; tests = omega (arith, ih.tests) }))
        (either (test (without (free dom p) i) i)))
        (λ (f : free dom p i ≡ false).
        let none : on (free dom p i) 1 ≡ 0 = rw f refl in
        let past : first (passing test H) (suc d) i ≡ rest = rw f refl in
        let skip = run_skip (e + q) i h f in
        let ih = level_from d (suc i) e q (omega arith) (omega (arith, none, rw past at c)) in
        rw past (record { placed = skip.placed ∙ ih.placed; tests = omega (arith, skip.tests, ih.tests) }))
        (either (free dom p i))

-- Where a search comes to, with any quota to spare.
module _ (n : ℕ) (dom : ℕ → Bool) (test : (ℕ → Bool) → ℕ → Bool) where
  -- the search from fresh goes on from s after so many tests
  abbrev pub Comes : ℕ → Progress → Type 0
  Comes made s = (q : ℕ) → Ends made (run n dom test (made + q) fresh) (run n dom test q s)

  pub comes_fresh : Comes 0 fresh
  comes_fresh q = rw (zero-add q) (record { placed = refl; tests = omega arith })

  -- a level more
  pub comes_level : (made : ℕ) (p : List ℕ) → Comes made (record { placed = p; cursor = 0 })
      → (r : ℕ) → r ≡ first (passing test (free dom p)) n 0 → Comes (made + count (min (suc r) n) (free dom p)) (levelled n dom p r)
  comes_level made p C r e q =
      let tests = count (min (suc r) n) (free dom p) in
      let L = level_from n dom p test n 0 tests q (zero-add n) (rw e (omega arith)) in
      rw (add_assoc made tests q) (ends_on (C (tests + q)) (rw (sym e) at L))

  -- a search that has come to a finished state is the whole search
  pub comes_search : (made : ℕ) (s : Progress) → Comes made s → finished n dom s ≡ true
      → ((search n dom test).progress.placed ≡ s.placed) × ((search n dom test).tests ≡ made)
  unfolding search
  comes_search made s C f =
      let E = rw (add_comm made (bound n), run_finished n dom test (bound n) s f) at (C (bound n)) in
      let A = rw (run_finished n dom test made (run n dom test (bound n) fresh).progress (search_ends n dom test)) at (run_add n dom test (bound n) made fresh) in
      (sym (ap (λ (z : Progress). z.placed) A.0) ∙ E.placed, omega (arith, A.1, E.tests))
