-- The words so far have the bytes so far. Four bytes are those of the word that is read of them.
use Rattle.std.proofs.Common.{◌≡◌, ◌*◌, length, take}
use Rattle.wire.specs.Answers.{words_bytes}
use Rattle.wire.proofs.case.words.Given as goal

abbrev pub invariant-loop-i : goal.invariant-loop-i
invariant-loop-i l = record {
  room : length l.words ≡ 512;
  bytes : words_bytes (take l.i l.words) ≡ take (4 * l.i) l.bytes;
}
