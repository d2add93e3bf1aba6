-- Laws of the free rows: membership, one more row placed, and sets inside one another.
-- Assumes nothing.
use Rattle.std.specs.Prelude.{ℕ, ◌≡◌, refl, Bool, true, false, List, ◌∷◌, eqb}
use Rattle.std.proofs.Common.{eq-eqb}
use Rattle.std.proofs.Math.Bool.{and-false}
use Rattle.sets.specs.BoolLaws.{and_not, not_and, or_right, same}
use Rattle.sets.specs.Sets.{◌⊆◌}
use Rattle.search.specs.Search.{elem, free}

pub free_in : (dom : ℕ → Bool) (p : List ℕ) (i : ℕ) → free dom p i ≡ true → (dom i ≡ true) × (elem i p ≡ false)
unfolding free
free_in dom p i = and_not (dom i) (elem i p)

pub in_free : (dom : ℕ → Bool) (p : List ℕ) (i : ℕ) → dom i ≡ true → elem i p ≡ false → free dom p i ≡ true
unfolding free
in_free dom p i = not_and (dom i) (elem i p)

-- one more row placed
pub free_head : (dom : ℕ → Bool) (k : ℕ) (p : List ℕ) → free dom (k ∷ p) k ≡ false
unfolding free
free_head dom k p = rw (eq-eqb k k refl, and-false) refl

pub free_tail : (dom : ℕ → Bool) (k : ℕ) (p : List ℕ) (i : ℕ) → free dom (k ∷ p) i ≡ true → free dom p i ≡ true
free_tail dom k p i h =
    let f = free_in dom (k ∷ p) i h in
    in_free dom p i f.0 (or_right (eqb i k) (elem i p) f.1)

-- sets inside one another are one set
pub same_set : (H G : ℕ → Bool) → H ⊆ G → G ⊆ H → (i : ℕ) → H i ≡ G i
same_set H G s t i = same (H i) (G i) (s i) (t i)
