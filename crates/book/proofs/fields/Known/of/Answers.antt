-- The checks of the blocks and of the head are gone through one after the other, and the first fault is that of the whole list.
-- A list without a fault leaves known what the next one, and the book, need. Assumes nothing.
use Rattle.std.proofs.Common.{rules, ◌≡◌, sym, ◌∙◌, Err, arith}
use Rattle.book.specs.FaultLaws.{clear_passed, fault_first, fault_next}
use Rattle.book.specs.Known.{Sealed}
use Rattle.book.specs.Read.{block_checks}
use Rattle.book.proofs.ReadLaws.{head, sealed_blocks, headed}
use Rattle.book.proofs.fields.Known.of.Goals as goal
use Rattle.book.proofs.fields.Known.of.Goals.{In_ok-check_blocks, In_ok-check_head}

-- what the blocks leave known where they are right
sealed : (c : In_ok-check_blocks) → Sealed c.args.bytes.now
sealed c = sealed_blocks _ (clear_passed _ (sym c.in_ok-check_blocks.ensures))

pub returns-in_err-check_blocks-clause-fault : goal.returns-in_err-check_blocks-clause-fault
returns-in_err-check_blocks-clause-fault c =
    let same : c.from_residual.result ≡ Err c.in_err-check_blocks.field-0.0 = search rules in
    rw same (sym (fault_first (block_checks c.args.bytes.now) (head c.args.bytes.now) _ _ (sym c.in_err-check_blocks.ensures)))

pub check_head-requires : goal.check_head-requires
check_head-requires c = (sealed c).some

pub returns-in_err-check_head-clause-fault : goal.returns-in_err-check_head-clause-fault
returns-in_err-check_head-clause-fault c =
    let same : c.from_residual-in_err-check_head.result ≡ Err c.in_err-check_head.field-0.0 = search rules in
    rw same (c.in_err-check_head.ensures ∙ sym (fault_next (block_checks c.args.bytes.now) (head c.args.bytes.now) (sym c.in_ok-check_blocks.ensures)))

pub bounds-bytes-4 : goal.bounds-bytes-4
bounds-bytes-4 c = omega (arith, (sealed (goal.at.bounds-bytes-4 c).In_ok-check_blocks).some)

pub invariant_of-result : goal.invariant_of-result
invariant_of-result c = record {
  fits = λ i. omega (arith, c.type_inv.bytes i);
  sealed = sealed (goal.at.invariant_of-result c).In_ok-check_blocks;
  headed = rw c.from.ensures (headed _ (clear_passed _ (sym c.in_ok-check_head.ensures)));
}

pub returns-clause-fault : goal.returns-clause-fault
returns-clause-fault c = c.in_ok-check_head.ensures ∙ sym (fault_next (block_checks c.args.bytes.now) (head c.args.bytes.now) (sym c.in_ok-check_blocks.ensures))
