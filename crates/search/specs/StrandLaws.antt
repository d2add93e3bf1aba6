-- Searches free in their choices, over an antitone test, strand the same rows, and these are the largest blocked group.
-- Assumes nothing.
use Rattle.std.specs.Prelude.{ℕ, ◌≡◌, refl, Bool, true, false, List, [], ◌∷◌, eqb}
use Rattle.std.proofs.Common.{subst, eqb-true}
use Rattle.sets.specs.BoolLaws.{not_both}
use Rattle.sets.specs.Sets.{◌⊆◌, without}
use Rattle.sets.specs.SetLaws.{without_mono}
use Rattle.test.proofs.TestLaws.{Antitone}
use Rattle.search.specs.Search.{elem, free}
use Rattle.search.specs.Demand.{Placing, Stuck, Blocked}
use Rattle.search.specs.FreeLaws.{free_in, in_free}

module _ (dom : ℕ → Bool) (test : (ℕ → Bool) → ℕ → Bool) where
  pub stranded_blocked : (p : List ℕ) → Stuck dom test p → Blocked dom test (free dom p)
  stranded_blocked p s = record { inside = λ i h. (free_in dom p i h).0; fails = s }

  module _ (anti : Antitone test) where
    -- no search places a member of a blocked group
    pub blocked_unplaced : (G : ℕ → Bool) → Blocked dom test G → (p : List ℕ) → Placing dom test p → (i : ℕ) → G i ≡ true → elem i p ≡ false
    blocked_unplaced G b [] P i g = refl
    blocked_unplaced G b (k ∷ p) P i g = go (blocked_unplaced G b p P.2) (eqb i k) refl
      where
        go : ((j : ℕ) → G j ≡ true → elem j p ≡ false) → (e : Bool) → eqb i k ≡ e → elem i (k ∷ p) ≡ false
        go ih true e =
            let gk : G k ≡ true = subst (λ (j : ℕ). G j ≡ true) (eqb-true i k e) g in
            let sub : G ⊆ free dom p = λ j h. in_free dom p j (b.inside j h) (ih j h) in
            not_both (anti (without G k) (without (free dom p) k) k (without_mono G (free dom p) k sub) P.1) (b.fails k gk)
        go ih false e = rw e (ih i g)

    -- so every blocked group lies inside the stranded rows
    pub blocked_stranded : (G : ℕ → Bool) → Blocked dom test G → (p : List ℕ) → Placing dom test p → G ⊆ free dom p
    blocked_stranded G b p P i g = in_free dom p i (b.inside i g) (blocked_unplaced G b p P i g)

    -- and all searches that cannot go on strand the same rows
    pub same_stranded : (p q : List ℕ) → Placing dom test p → Stuck dom test p → Placing dom test q → Stuck dom test q → free dom p ⊆ free dom q
    same_stranded p q P s Q t = blocked_stranded (free dom p) (stranded_blocked p s) q Q
