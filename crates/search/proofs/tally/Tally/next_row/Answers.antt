-- The first row of all from the cursor on, where it is below n, is the first of those below n.
-- Assumes nothing.
use Rattle.std.proofs.Common.{ℕ, ◌-◌, ◌≤◌, ◌≡◌, Bool, true, false, ltb, ⊎_elim, arith, ◌∙◌, ltb-true, ltb-false}
use Rattle.std.specs.Bool.{then_some}
use Rattle.sets.specs.BoolLaws.{either}
use Rattle.sets.specs.Sums.{first, some_below}
use Rattle.sets.specs.SumLaws.{first_is, some_below_only}
use Rattle.sets.specs.Sets.{has}
use Rattle.rows.proofs.TableLaws.{row_count_bits}
use Rattle.search.proofs.tally.Tally.next_row.Goals as goal

first_of_fewer : (p : ℕ → Bool) (n cursor : ℕ) → n ≤ 128
    → then_some (ltb (first p (128 - cursor) cursor) n) (first p (128 - cursor) cursor) ≡ some_below (first p (n - cursor) cursor) n
first_of_fewer p n cursor few =
    let r = first p (128 - cursor) cursor in
    let is = first_is p (128 - cursor) cursor in
    some_below_only p cursor n (then_some (ltb r n) r)
    (⊎_elim (λ (b : ltb r n ≡ true). let l = ltb-true r n b in rw b (is.from, l, is.found (omega (arith, is.from)), is.before))
    (λ (b : ltb r n ≡ false). let l = ltb-false r n b in rw b (λ k a m. is.before k a (omega arith)))
    (either (ltb r n)))

pub returns : goal.returns
returns c =
    c.then_some.ensures
    ∙ rw (c.next-row.ensures, c.row_count.ensures)
    (first_of_fewer (has c.args.self.now.left) _ c.args.cursor (row_count_bits c.args.self.now.board.words.now))
