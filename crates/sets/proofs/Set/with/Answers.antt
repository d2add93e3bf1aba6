-- `Set::with` meets its contract. The word joined with 2 ^ row has the bits of both, the set's rows and the row.
-- A row from 128 on is none that a set can have, and the set stays as it is. Assumes nothing.
use Rattle.std.specs.Prelude.{ℕ, Bool, ◌||◌}
use Rattle.std.proofs.Common.{ap, ◌∙◌, ne_of_lt, lt_of_lt_of_le, ne_eqb, rules}
use Rattle.std.proofs.Math.Bool.{or-false}
use Rattle.sets.specs.Sets.{word, bit, has}
use Rattle.sets.specs.SetLaws.{bit_or_lem, bit_pow, eq_set_of, shl_one}
use Rattle.sets.proofs.Set.with.Goals as goal

pub returns-then-row-lt128 : goal.returns-then-row-lt128
returns-then-row-lt128 c = let s = c.args.self in
    let k = c.args.row in
    let joined = rw (c.from.ensures, shl_one 128 k c.if-row-lt128.true) at c.from-then-row-lt128.ensures in
    eq_set_of _ _ (search rules) (λ i l. ap (λ (w : ℕ). bit w i) joined ∙ bit_or_lem (word s) _ i ∙ ap (λ (t : Bool). has s i || t) (bit_pow k i))

pub returns-else-row-lt128 : goal.returns-else-row-lt128
returns-else-row-lt128 c =
    eq_set_of _ _ (search rules) (λ i l. rw (ne_eqb i c.args.row (ne_of_lt (lt_of_lt_of_le l c.if-row-lt128.false)), or-false))
