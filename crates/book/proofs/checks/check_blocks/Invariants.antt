-- The loop's invariant: what is left of the list of the blocks' checks gives the answer of the whole list.
-- A block with a fault ends it there, one without takes it one block on. Assumes nothing.
use Rattle.std.proofs.Common.{◌-◌, ◌/◌, ◌≡◌, length}
use Rattle.book.specs.Fault.{fault_of}
use Rattle.book.specs.Read.{each_block, block_checks}
use Rattle.book.proofs.checks.check_blocks.Given as goal

abbrev pub invariant-loop-k : goal.invariant-loop-k
invariant-loop-k l = fault_of (block_checks l.book) ≡ fault_of (each_block l.book l.k (length l.book / 512 - l.k))
