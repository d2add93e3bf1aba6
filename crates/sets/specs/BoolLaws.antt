-- Laws of Bool tests: both cases with their equations, and tests joined by `&&`, `||` and `not`.
-- Assumes nothing.
use Rattle.std.specs.Prelude.{◌≡◌, refl, ◌⊎◌, Bool, true, false, cond, not, ◌&&◌, ◌||◌}
use Rattle.std.proofs.Common.{sym, ◌∙◌, inl, inr, true≢false}
use Rattle.std.proofs.lemmas.Bool.{false≢true}

pub either : (b : Bool) → (b ≡ true) ⊎ (b ≡ false)
either true = inl refl
either false = inr refl

-- what both branches have
pub cond_both : {A : Type 0} (P : A → Type 0) (b : Bool) {x y : A} → (b ≡ true → P x) → (b ≡ false → P y) → P (cond b x y)
cond_both P true t f = t refl
cond_both P false t f = f refl

pub not_both : {A : Type 0} {b : Bool} → b ≡ true → b ≡ false → A
not_both p q = absurd (true≢false (sym p ∙ q))

pub and_in : (a b : Bool) → a ≡ true → b ≡ true → a && b ≡ true
and_in true b p q = q
and_in false b p q = p

pub and_left : (a b : Bool) → a && b ≡ true → a ≡ true
and_left true b h = refl
and_left false b h = h

pub and_right : (a b : Bool) → a && b ≡ true → b ≡ true
and_right true b h = h
and_right false b h = absurd (false≢true h)

pub and_fails : (a b : Bool) → (a ≡ false) ⊎ (b ≡ false) → a && b ≡ false
and_fails true b (inl h) = absurd (true≢false h)
and_fails true b (inr h) = h
and_fails false b h = refl

pub and_swap : (a b c : Bool) → a && b && c ≡ a && c && b
and_swap true true true = refl
and_swap true true false = refl
and_swap true false true = refl
and_swap true false false = refl
and_swap false b c = refl

pub and_not : (a b : Bool) → a && not b ≡ true → (a ≡ true) × (b ≡ false)
and_not true true h = absurd (false≢true h)
and_not true false h = (refl, refl)
and_not false b h = absurd (false≢true h)

pub not_and : (a b : Bool) → a ≡ true → b ≡ false → a && not b ≡ true
not_and true true p q = absurd (true≢false q)
not_and true false p q = refl
not_and false b p q = p

pub or_right : (a b : Bool) → a || b ≡ false → b ≡ false
or_right true b h = absurd (true≢false h)
or_right false b h = h

-- tests that imply one another are one test
pub same : (a b : Bool) → (a ≡ true → b ≡ true) → (b ≡ true → a ≡ true) → a ≡ b
same true b p q = sym (p refl)
same false true p q = q refl
same false false p q = refl
