-- Checks in order: the first that fails gives the answer, and the work is done where none does.
-- Assumes nothing.
use Rattle.std.specs.Prelude.{ℕ, Bool, cond, List, [], ◌∷◌}

-- a check: whether it passed, and the number and the place that are answered where it did not
pub record Check : Type 0 where
  pub passed : Bool
  pub number : ℕ
  pub place : ℕ

abbrev pub check : Bool → ℕ → Check
check passed number = record { passed = passed; number = number; place = 0 }

-- a check that answers a place too
abbrev pub check_at : Bool → ℕ → ℕ → Check
check_at passed number place = record { passed = passed; number = number; place = place }

abbrev pub judge : {A : Type 0} → List Check → (ℕ → ℕ → A) → A → A
judge [] refuse work = work
judge (c ∷ cs) refuse work = let rest = judge cs refuse work in cond c.passed rest (refuse c.number c.place)
