-- `Set::below` meets its contract. The word is the number of n ones, whose bits are the rows below n.
-- From n = 128 on it is full, as it is for 128, and a set has no other rows. Assumes nothing.
use Rattle.std.specs.Prelude.{ℕ, ◌-◌, ◌^◌, ◌≡◌}
use Rattle.std.proofs.Common.{sym, ap, ◌∙◌, lt_of_lt_of_le, lt-ltb, rules}
use Rattle.sets.specs.Sets.{word, bit, below}
use Rattle.sets.specs.SetLaws.{FitsWords, bit_ones, eq_set_of, set_ext, shl_one}
use Rattle.sets.specs.declared.Set.{Set}
use Rattle.sets.proofs.Set.below.Goals as goal

-- the set whose word is the number of n ones
ones_below : (s : Set) (n : ℕ) → FitsWords s → word s ≡ 2 ^ n - 1 → s ≡ below n
ones_below s n f e = eq_set_of s _ f (λ i l. ap (λ (w : ℕ). bit w i) e ∙ bit_ones n i)

pub returns-then-n-lt128 : goal.returns-then-n-lt128
returns-then-n-lt128 c = ones_below _ _ (search rules) (c.from.ensures ∙ ap (λ x. x - 1) (shl_one 128 c.args.n c.if-n-lt128.true))

pub returns-else-n-lt128 : goal.returns-else-n-lt128
returns-else-n-lt128 c =
    ones_below _ 128 (search rules) c.from-else-n-lt128.ensures
    ∙ set_ext _ _ (λ i l. lt-ltb i 128 l ∙ sym (lt-ltb i c.args.n (lt_of_lt_of_le l c.if-n-lt128.false)))
