-- Laws of checks in their order: what is known where all passed, which refusals are no 0, and lists of checks one after the other.
-- Assumes nothing.
use Rattle.std.specs.Prelude.{ℕ, ◌≡◌, refl, Bool, true, false, cond, List, [], ◌∷◌, ◌++◌, eqb}
use Rattle.std.proofs.Common.{sym, ap, ◌∙◌, eq-eqb}
use Rattle.sets.specs.BoolLaws.{not_both}
use Rattle.rows.specs.Judge.{Check, judge}
use Rattle.rows.specs.Numbers.{done}

-- ---- all passed

abbrev pub Passed : List Check → Type 0
Passed [] = Unit {0}
Passed (c ∷ cs) = (c.passed ≡ true) × Passed cs

pub passed_append : (cs ds : List Check) → Passed cs → Passed ds → Passed (cs ++ ds)
passed_append [] ds p q = q
passed_append (c ∷ cs) ds p q = (p.0, passed_append cs ds p.1 q)

pub append_passed : (cs ds : List Check) → Passed (cs ++ ds) → Passed cs × Passed ds
append_passed [] ds p = (tt, p)
append_passed (c ∷ cs) ds p = let rest = append_passed cs ds p.1 in ((p.0, rest.0), rest.1)

-- where all pass the work is done
pub judge_works : {A : Type 0} (cs : List Check) (refuse : ℕ → ℕ → A) (work : A) → Passed cs → judge cs refuse work ≡ work
judge_works [] refuse work p = refl
judge_works (c ∷ cs) refuse work p = rw p.0 (judge_works cs refuse work p.1)

-- ---- 0 is no refusal

-- checks that all answer a number other than 0: a fault among them is no 0
abbrev pub Refusing : List Check → Type 0
Refusing [] = Unit {0}
Refusing (c ∷ cs) = (eqb c.number done ≡ false) × Refusing cs

pub refusing_append : (cs ds : List Check) → Refusing cs → Refusing ds → Refusing (cs ++ ds)
refusing_append [] ds p q = q
refusing_append (c ∷ cs) ds p q = (p.0, refusing_append cs ds p.1 q)

-- an answer of 0 by such checks is the work's
pub done_passed : {A : Type 0} (cs : List Check) (refuse : ℕ → ℕ → A) (work : A) (number : A → ℕ) → Refusing cs
    → ((i p : ℕ) → number (refuse i p) ≡ i) → number (judge cs refuse work) ≡ done → Passed cs
done_passed [] refuse work number r f h = tt
done_passed (c ∷ cs) refuse work number r f h = go c.passed refl h (done_passed cs refuse work number r.1 f)
  where
    go : (p : Bool) → c.passed ≡ p → number (cond p (judge cs refuse work) (refuse c.number c.place)) ≡ done
        → (number (judge cs refuse work) ≡ done → Passed cs) → (c.passed ≡ true) × Passed cs
    go true e k ih = (e, ih k)
    go false e k ih = not_both (eq-eqb c.number done (sym (f c.number c.place) ∙ k)) r.0

-- ---- answers told apart

module _ {A : Type 0} where
  pub judge_append : (cs ds : List Check) (refuse : ℕ → ℕ → A) (work : A)
      → judge (cs ++ ds) refuse work ≡ judge cs refuse (judge ds refuse work)
  judge_append [] ds refuse work = refl
  judge_append (c ∷ cs) ds refuse work =
      ap (λ (rest : A). cond c.passed rest (refuse c.number c.place)) (judge_append cs ds refuse work)

  -- where some check fails, the answer is its refusal whatever the work
  pub judge_fails : (cs : List Check) (refuse : ℕ → ℕ → A) (x y : A) → (Passed cs → ⊥) → judge cs refuse x ≡ judge cs refuse y
  judge_fails [] refuse x y h = absurd (h tt)
  judge_fails (c ∷ cs) refuse x y h = go c.passed refl (judge_fails cs refuse x y)
    where
      go : (p : Bool) → c.passed ≡ p → ((Passed cs → ⊥) → judge cs refuse x ≡ judge cs refuse y)
          → cond p (judge cs refuse x) (refuse c.number c.place) ≡ cond p (judge cs refuse y) (refuse c.number c.place)
      go true e ih = ih (λ q. h (e, q))
      go false e ih = refl

  pub judge_same : (cs : List Check) (x : A) → judge cs (λ number place. x) x ≡ x
  judge_same [] x = refl
  judge_same (c ∷ cs) x = go c.passed (judge_same cs x)
    where
      go : (p : Bool) → judge cs (λ number place. x) x ≡ x → cond p (judge cs (λ number place. x) x) x ≡ x
      go true ih = ih
      go false ih = refl

pub judge_field : {A B : Type 0} (f : A → B) (cs : List Check) (refuse : ℕ → ℕ → A) (work : A)
    → f (judge cs refuse work) ≡ judge cs (λ number place. f (refuse number place)) (f work)
judge_field f [] refuse work = refl
judge_field {A} {B} f (c ∷ cs) refuse work = go c.passed (judge_field f cs refuse work)
  where
    go : (p : Bool) → f (judge cs refuse work) ≡ judge cs (λ number place. f (refuse number place)) (f work)
        → f (cond p (judge cs refuse work) (refuse c.number c.place))
        ≡ cond p (judge cs (λ number place. f (refuse number place)) (f work)) (f (refuse c.number c.place))
    go true ih = ih
    go false ih = refl
