-- The loop's invariant: the sum is a plain sum of the pairs so far, read low byte first, and the carries of 256 times it, taken around, give the sum of their words.
-- A turn adds the next pair, 127 of them do not fill 64 bits, and the last word is added as it is. Assumes nothing.
use Rattle.std.proofs.Common.{◌*◌, ◌≤◌, ◌≡◌, get_or}
use Rattle.book.specs.Bytes.{sum16}
use Rattle.book.specs.Parts.{carried}
use Rattle.book.proofs.bytes.block_sum.Given as goal

abbrev pub invariant-loop-pair : goal.invariant-loop-pair
invariant-loop-pair l =
    record { same : carried (256 * l.sum) ≡ sum16 (2 * l.pair-index) (λ p. get_or l.block p 0); fits : l.sum ≤ 4294967296 * l.pair-index }
