-- `Set::has` meets its contract. A row below 64 is a bit of the low word and one from 64 to 127 a bit of the high word, and both are bits of the number that the words make.
-- That number is below 2 ^ 128, so the set has no row from 128 on. Assumes nothing.
use Rattle.std.specs.Prelude.{◌-◌, ◌%◌, ◌≡◌}
use Rattle.std.proofs.Common.{sym, ◌∙◌, arith, rules, le-ltb}
use Rattle.sets.specs.Sets.{bit}
use Rattle.sets.specs.SetLaws.{has_low, has_high, has_above}
use Rattle.sets.proofs.Set.has.Goals as goal
use Rattle.sets.proofs.Set.has.Goals.{then-row-lt64, else-row-lt64}

pub returns-then-row-lt128 : goal.returns-then-row-lt128
unfolding bit
returns-then-row-lt128 c = let s = c.args.self in
    let k = c.args.row in
    elim c.if-row-lt64.branch [
      | then-row-lt64 w ↦ let same : k % 64 ≡ k = omega arith in rw (w.word-is, same) (sym (has_low s k w.if-row-lt64.true))
      | else-row-lt64 w ↦ let same : k % 64 ≡ k - 64 = omega arith in rw (w.word-is, same) (sym (has_high s k (search rules) w.if-row-lt64.false))
    ]

pub returns-else-row-lt128 : goal.returns-else-row-lt128
returns-else-row-lt128 c = le-ltb c.args.row 128 c.if-row-lt128.false ∙ sym (has_above c.args.self c.args.row (search rules) c.if-row-lt128.false)
