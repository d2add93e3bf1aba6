-- What demand 3 speaks of: searches free in their choices, blocked groups, orders that pass, and `Truth`, the demand itself.
-- Assumes nothing.
use Rattle.std.specs.Prelude.{ℕ, ◌+◌, ◌≤◌, ◌<◌, ◌≡◌, ◌↔◌, Bool, true, false, List, [], ◌∷◌, length, take, get_or}
use Rattle.sets.specs.Sums.{on, count, times}
use Rattle.sets.specs.Sets.{◌⊆◌, without}
use Rattle.search.specs.Search.{elem, free}

-- an order: each row of dom stands in it once, and nothing else does
abbrev pub Order : (ℕ → Bool) → List ℕ → Type 0
Order dom o = (i : ℕ) → times i o ≡ on (dom i) 1

-- the rows of a list, as a set
abbrev pub among : List ℕ → ℕ → Bool
among p i = elem i p

-- at every level the row passes with the rows of the higher levels above it
abbrev pub Passing : ((ℕ → Bool) → ℕ → Bool) → List ℕ → Type 0
Passing test o = (j : ℕ) → j < length o → test (among (take j o)) (get_or o j 0) ≡ true

module _ (dom : ℕ → Bool) (test : (ℕ → Bool) → ℕ → Bool) where
  -- the lists that a search makes which puts any passing row at the lowest free level, the row placed last in front
  abbrev pub Placing : List ℕ → Type 0
  Placing [] = Unit {0}
  Placing (k ∷ p) = (free dom p k ≡ true) × (test (without (free dom p) k) k ≡ true) × Placing p

  -- none passes: the search cannot go on
  abbrev pub Stuck : List ℕ → Type 0
  Stuck p = (k : ℕ) → free dom p k ≡ true → test (without (free dom p) k) k ≡ false

  -- a group in which each member fails with all the others above it
  pub record Blocked (G : ℕ → Bool) : Type 0 where
    pub inside : G ⊆ dom
    pub fails : (k : ℕ) → G k ≡ true → test (without G k) k ≡ false

-- What demand 3 says of a list of placed rows.
pub record Truth (n : ℕ) (dom : ℕ → Bool) (test : (ℕ → Bool) → ℕ → Bool) (p : List ℕ) : Type 0 where
  -- it is made by a search free in its choices that cannot go on
  pub placing : Placing dom test p
  pub stuck : Stuck dom test p
  -- all such searches strand the same rows
  pub same : (q : List ℕ) → Placing dom test q → Stuck dom test q → (i : ℕ) → free dom q i ≡ free dom p i
  -- none are stranded exactly when some order passes at every level
  pub none : ((i : ℕ) → free dom p i ≡ false) ↔ ((o : List ℕ) × Order dom o × Passing test o)
  -- the stranded rows are a blocked group, every blocked group lies inside it, and none is larger
  pub blocked : Blocked dom test (free dom p)
  pub inside : (G : ℕ → Bool) → Blocked dom test G → G ⊆ free dom p
  pub largest : (G : ℕ → Bool) → Blocked dom test G → count n G ≤ count n (free dom p)
  -- placed and stranded rows make up all
  pub size : length p + count n (free dom p) ≡ count n dom
