use Rattle.std.proofs.Common.{◌/◌, ◌<◌, ◌≡◌, ◌∙◌, sym, arith, length}
use Rattle.std.proofs.Math.Nat.{sub-zero}
use Rattle.book.specs.Read.{numbered, checked, block_checks}
use Rattle.book.proofs.ReadLaws.{numbered_in, checked_in, bad_number, bad_check, good_block}
use Rattle.book.proofs.checks.check_blocks.Goals as goal
use Rattle.book.proofs.checks.check_blocks.Goals.{After-numbered, After-checked}

pub returns-then-not-whole : goal.returns-then-not-whole
unfolding block_checks
returns-then-not-whole c = rw (sym c.if-not-whole.ensures)

pub loop-k-init : goal.loop-k-init
unfolding block_checks
loop-k-init c = rw (sym c.if-not-whole.ensures, sub-zero)

-- the block at hand is block k of the book
below : (c : After-numbered) → c.loop-k.k < length c.args.book.now / 512
below c = omega (arith, c.as_chunks.ensures.front_len)

number : (c : After-numbered) → numbered c.args.book.now c.loop-k.k ≡ c.numbered.result
number c = sym (c.numbered.ensures ∙ numbered_in _ _ _ c.as_chunks.ensures.front (below c))

check : (c : After-checked) → checked c.args.book.now c.loop-k.k ≡ c.checked.result
check c = sym (c.checked.ensures ∙ checked_in _ _ _ c.as_chunks.ensures.front (omega (arith, c.as_chunks.ensures.front_len)))

pub returns-then-not-numbered : goal.returns-then-not-numbered
returns-then-not-numbered c =
    let t = (goal.at.returns-then-not-numbered c).After-numbered in
    sym (c.loop-k.invariant ∙ bad_number _ _ _ (below t) (number t ∙ c.if-not-numbered.true))

pub returns-then-not-checked : goal.returns-then-not-checked
returns-then-not-checked c =
    let t = (goal.at.returns-then-not-checked c).After-numbered in
    let s = (goal.at.returns-then-not-checked c).After-checked in
    sym (c.loop-k.invariant ∙ bad_check _ _ _ (below t) (number t ∙ c.if-not-numbered.false) (check s ∙ c.if-not-checked.true))

pub loop-k-preserved : goal.loop-k-preserved
loop-k-preserved c =
    let t = (goal.at.loop-k-preserved c).After-numbered in
    let s = (goal.at.loop-k-preserved c).After-checked in
    c.loop-k.invariant ∙ good_block _ _ _ (below t) (number t ∙ c.if-not-numbered.false) (check s ∙ c.if-not-checked.false)
