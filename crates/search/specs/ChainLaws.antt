-- Quota steps compose: steps one after the other make the tests of one run with their quotas together, the search in one call is their limit, and nonzero quotas finish within n(n+1)/2 tests in all.
-- Assumes nothing.
use Rattle.std.specs.Prelude.{ℕ, ◌+◌, ◌-◌, ◌≤◌, ◌≡◌, refl, Bool, true, List, [], ◌∷◌, length}
use Rattle.std.proofs.Common.{zero-le, sym, ap₂, ◌∙◌, add-zero, arith}
use Rattle.std.proofs.Math.Path.{ap}
use Rattle.search.specs.Search.{Progress, Run, fresh, finished, run, bound, search}
use Rattle.search.specs.SearchLaws.{run_add, run_ends, run_bound, run_finished, fresh_potential, search_ends}

abbrev pub total : List ℕ → ℕ
total [] = 0
total (q ∷ qs) = q + total qs

-- no quota is 0
abbrev pub Nonzero : List ℕ → Type 0
Nonzero [] = Unit {0}
Nonzero (q ∷ qs) = (1 ≤ q) × Nonzero qs

-- a run is its progress and its tests
run_is : (r : Run) {p : Progress} {t : ℕ} → r.progress ≡ p → r.tests ≡ t → r ≡ record { progress = p; tests = t }
run_is r e f = ap₂ (λ (p : Progress) (t : ℕ). record { progress = p; tests = t }) e f

module _ (n : ℕ) (dom : ℕ → Bool) (test : (ℕ → Bool) → ℕ → Bool) where
  -- steps with these quotas, each from where the one before it ended; the tests of all
  abbrev pub chain : List ℕ → Progress → Run
  chain [] s = record { progress = s; tests = 0 }
  chain (q ∷ qs) s =
      let here = run n dom test q s in
      let rest = chain qs here.progress in
      record { progress = rest.progress; tests = here.tests + rest.tests }

  -- a then b is a + b, and tests add
  pub chain_run : (qs : List ℕ) (s : Progress) → chain qs s ≡ run n dom test (total qs) s
  chain_run [] s = refl
  chain_run (q ∷ qs) s =
      let both = run_add n dom test q (total qs) s in
      rw (chain_run qs (run n dom test q s).progress) (sym (run_is (run n dom test (q + total qs) s) both.0 both.1))

  -- more quota than the bound changes nothing: the one call is the limit
  pub run_limit : (q : ℕ) → bound n ≤ q → run n dom test q fresh ≡ search n dom test
  unfolding search
  run_limit q h =
      let more : q ≡ bound n + (q - bound n) = omega arith in
      let end = run n dom test (bound n) fresh in
      let both = run_add n dom test (bound n) (q - bound n) fresh in
      let stays = run_finished n dom test (q - bound n) end.progress (search_ends n dom test) in
      ap (λ (a : ℕ). run n dom test a fresh) more
      ∙ run_is (run n dom test (bound n + (q - bound n)) fresh) (rw stays at both.0) (rw (stays, add-zero) at both.1)

  -- with nonzero quotas so many steps as the bound finish the search
  total_length : (qs : List ℕ) → Nonzero qs → length qs ≤ total qs
  total_length [] z = zero-le
  total_length (q ∷ qs) z = omega (arith, total_length qs z.1)

  pub chain_finishes : (qs : List ℕ) → Nonzero qs → bound n ≤ length qs → finished n dom (chain qs fresh).progress ≡ true
  chain_finishes qs z h =
      rw (chain_run qs fresh)
      (run_ends n dom test (total qs) fresh (omega (arith, fresh_potential n dom test, total_length qs z)))

  -- and however many steps there are, they make no more tests than the bound
  pub chain_bounded : (qs : List ℕ) → (chain qs fresh).tests ≤ bound n
  chain_bounded qs = rw (chain_run qs fresh) (omega (arith, run_bound n dom test (total qs) fresh, fresh_potential n dom test))
