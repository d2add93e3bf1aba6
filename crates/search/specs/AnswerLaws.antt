-- Laws of the number and the group that a search answers.
-- Assumes nothing.
use Rattle.std.specs.Prelude.{ℕ, ◌≡◌, refl, ◌⊎◌, Bool, true, false, cond, eqb, length}
use Rattle.std.proofs.Common.{⊎_elim, arith, eq-eqb, ne_eqb}
use Rattle.rows.specs.Numbers.{done, blocked, unfinished}
use Rattle.sets.specs.Sets.{set_of, none}
use Rattle.search.specs.Search.{rows_below, free, Progress, finished}
use Rattle.search.specs.Answers.{number_of, group_of}

pub number_unfinished : (n : ℕ) (p : Progress) → number_of n p ≡ unfinished → finished n (rows_below n) p ≡ false
unfolding number_of
number_unfinished n p = go (finished n (rows_below n) p) (eqb (length p.placed) n)
  where
    go : (f b : Bool) → cond f (cond b done blocked) unfinished ≡ unfinished → f ≡ false
    go true true h = absurd (omega arith)
    go true false h = absurd (omega arith)
    go false b h = refl

pub number_finished : (n : ℕ) (p : Progress) → (number_of n p ≡ done) ⊎ (number_of n p ≡ blocked) → finished n (rows_below n) p ≡ true
unfolding number_of
number_finished n p = go (finished n (rows_below n) p) (eqb (length p.placed) n)
  where
    go : (f b : Bool) → (cond f (cond b done blocked) unfinished ≡ done) ⊎ (cond f (cond b done blocked) unfinished ≡ blocked) → f ≡ true
    go true b w = refl
    go false b w = absurd (⊎_elim (λ (e : 15 ≡ 0). omega arith) (λ (e : 15 ≡ 4). omega arith) w)

pub group_blocked : (n : ℕ) (p : Progress) → number_of n p ≡ blocked → group_of n p ≡ set_of (free (rows_below n) p.placed)
unfolding group_of
group_blocked n p h = rw (eq-eqb (number_of n p) blocked h) refl

pub group_none : (n : ℕ) (p : Progress) → (number_of n p ≡ blocked → ⊥) → group_of n p ≡ none
unfolding group_of
group_none n p h = rw (ne_eqb (number_of n p) blocked h) refl
