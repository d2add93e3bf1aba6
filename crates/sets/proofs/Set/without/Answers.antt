-- `Set::without` meets its contract. The bit of a row that the set has is taken off its word, and every other bit stays.
-- A set that does not have the row stays as it is. Assumes nothing.
use Rattle.std.specs.Prelude.{ℕ, ◌≡◌, true}
use Rattle.std.proofs.Common.{sym, ap, ◌∙◌, rules}
use Rattle.sets.specs.Sets.{word, bit, has, without}
use Rattle.sets.specs.SetLaws.{bit_le, bit_sub, has_lt, eq_set_of, shl_one, without_absent}
use Rattle.sets.proofs.Set.without.Goals as goal

pub overflow_shl-word : goal.overflow_shl-word
overflow_shl-word c = has_lt c.args.self c.args.row (search rules) (search rules)

pub overflow_sub-word : goal.overflow_sub-word
overflow_sub-word c = let s = c.args.self in
    let k = c.args.row in
    rw (c.from.ensures, shl_one 128 k (has_lt s k (search rules) (search rules))) (bit_le (word s) k (search rules))

pub returns-then-has : goal.returns-then-has
unfolding without
returns-then-has c = let s = c.args.self in
    let k = c.args.row in
    let kept : has s k ≡ true = search rules in
    let less = rw (c.from.ensures, shl_one 128 k (has_lt s k (search rules) kept)) at c.from-then-has.ensures in
    eq_set_of _ _ (search rules) (λ i l. ap (λ (w : ℕ). bit w i) less ∙ bit_sub k (word s) i kept)

pub returns-else-has : goal.returns-else-has
returns-else-has c = let s = c.args.self in
    let k = c.args.row in
    eq_set_of _ _ (search rules) (λ i l. sym (without_absent (has s) k i (search rules)))
