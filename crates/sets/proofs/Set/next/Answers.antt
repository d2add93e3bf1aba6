-- `Set::next` meets its contract. The zeros of a word from a place on, up to its next bit, lead to the first row there, in the low word and then in the high one.
-- A word that has none left has 64 zeros, and these lead past its last row. Assumes nothing.
use Rattle.std.specs.Prelude.{ℕ, ◌+◌, ◌-◌, ◌/◌, ◌^◌, ◌≤◌, ◌<◌, min, ◌≡◌, false}
use Rattle.std.proofs.Common.{◌∙◌, arith, rules}
use Rattle.std.specs.Int.Count.{count_trailing_zeros}
use Rattle.sets.specs.Sums.{first}
use Rattle.sets.specs.SumLaws.{first_is}
use Rattle.sets.specs.Sets.{bit, has}
use Rattle.sets.specs.SetLaws.{FitsWords, zeros_first, next_low, next_high, has_low}
use Rattle.sets.specs.declared.Set.{Set}
use Rattle.sets.proofs.Set.next.Goals as goal
use Rattle.sets.proofs.Set.next.Goals.{then-from-lt64+else-row-lt64, else-from-lt64}

-- from the high word's own row k on, where there is none from i up to it
from_high : (s : Set) (i k : ℕ) → FitsWords s → i < 128 → i ≤ k → 64 ≤ k → ((j : ℕ) → i ≤ j → j < k → has s j ≡ false)
    → min (k + count_trailing_zeros 64 (s.high / 2 ^ (k - 64))) 128 ≡ first (has s) (128 - i) i
from_high s i k f l m h none =
    omega (arith, zeros_first 64 s.high (k - 64), next_high s i (k - 64) f l (omega arith) (λ j p q. none j p (omega arith)))

pub returns-then-row-lt64 : goal.returns-then-row-lt64
returns-then-row-lt64 c = let s = c.args.self in
    let i = c.args.from in
    let row = zeros_first 64 s.low i in
    row ∙ next_low s i (rw row at c.if-row-lt64.true)

pub returns : goal.returns
returns c = let s = c.args.self in
    let i = c.args.from in
    rw c.min.ensures
    (elim c.if-from-lt64.branch [
      | then-from-lt64+else-row-lt64 w ↦
          let past : 64 ≤ first (bit s.low) 64 i = rw (zeros_first 64 s.low i) at w.if-row-lt64.false in
          rw w.from-is
          (from_high s i 64 (search rules) (omega arith) (omega arith) (omega arith)
          (λ j p q. has_low s j q ∙ (first_is (bit s.low) 64 i).before j p (omega arith)))
      | else-from-lt64 w ↦
          rw w.from-is (from_high s i i (search rules) (omega arith) (omega arith) (omega arith) (λ j p q. absurd (omega arith)))
    ])
