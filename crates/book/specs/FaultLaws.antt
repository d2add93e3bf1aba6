-- Laws of the first fault of checks in an order: an answer told by it, lists of checks one after the other, and no fault where all passed.
-- Assumes nothing.
use Rattle.std.specs.Prelude.{ℕ, ◌≡◌, refl, Bool, true, false, cond, List, [], ◌∷◌, ◌++◌}
use Rattle.std.proofs.Common.{ap, ◌∙◌, arith}
use Rattle.rows.specs.Judge.{Check, judge}
use Rattle.rows.specs.JudgeLaws.{Passed}
use Rattle.book.specs.Fault.{Fault, At, Clear, fault_of}

-- ---- an answer told by the first fault

abbrev pub told : {A : Type 0} → Fault → (ℕ → ℕ → A) → A → A
told (At number place) refuse work = refuse number place
told Clear refuse work = work

pub judge_told : {A : Type 0} (cs : List Check) (refuse : ℕ → ℕ → A) (work : A)
    → judge cs refuse work ≡ told (fault_of cs) refuse work
judge_told [] refuse work = refl
judge_told (c ∷ cs) refuse work = go c.passed (judge_told cs refuse work)
  where
    go : (p : Bool) → judge cs refuse work ≡ told (fault_of cs) refuse work
        → cond p (judge cs refuse work) (refuse c.number c.place)
        ≡ told (cond p (fault_of cs) (At c.number c.place)) refuse work
    go true ih = ih
    go false ih = refl

pub fault_append : (cs ds : List Check) → fault_of (cs ++ ds) ≡ told (fault_of cs) At (fault_of ds)
fault_append [] ds = refl
fault_append (c ∷ cs) ds = go c.passed (fault_append cs ds)
  where
    go : (p : Bool) → fault_of (cs ++ ds) ≡ told (fault_of cs) At (fault_of ds)
        → cond p (fault_of (cs ++ ds)) (At c.number c.place)
        ≡ told (cond p (fault_of cs) (At c.number c.place)) At (fault_of ds)
    go true ih = ih
    go false ih = refl

pub fault_first : (cs ds : List Check) (i p : ℕ) → fault_of cs ≡ At i p → fault_of (cs ++ ds) ≡ At i p
fault_first cs ds i p h = fault_append cs ds ∙ ap (λ (f : Fault). told f At (fault_of ds)) h

pub fault_next : (cs ds : List Check) → fault_of cs ≡ Clear → fault_of (cs ++ ds) ≡ fault_of ds
fault_next cs ds h = fault_append cs ds ∙ ap (λ (f : Fault). told f At (fault_of ds)) h

-- ---- no fault

pub passed_clear : (cs : List Check) → Passed cs → fault_of cs ≡ Clear
passed_clear [] p = refl
passed_clear (c ∷ cs) p = rw p.0 (passed_clear cs p.1)

pub clear_passed : (cs : List Check) → fault_of cs ≡ Clear → Passed cs
clear_passed [] h = tt
clear_passed (c ∷ cs) h = go c.passed refl h (clear_passed cs)
  where
    go : (p : Bool) → c.passed ≡ p → cond p (fault_of cs) (At c.number c.place) ≡ Clear → (fault_of cs ≡ Clear → Passed cs)
        → (c.passed ≡ true) × Passed cs
    go true e k ih = (e, ih k)
    go false e k ih = absurd (let z : ◌≡◌ {A = ℕ} 0 1 = cc in let y : ⊥ = omega arith in y)
