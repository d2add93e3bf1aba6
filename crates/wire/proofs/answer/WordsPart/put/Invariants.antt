-- The words so far stand behind what the writer held, four bytes each. A word more adds its bytes.
use Rattle.std.proofs.Common.{take}
use Rattle.std.specs.Io.KnownBytes.{Appends}
use Rattle.wire.specs.Answers.{words_bytes}
use Rattle.wire.proofs.answer.WordsPart.put.Given as goal

abbrev pub invariant-loop-word : goal.invariant-loop-word
invariant-loop-word g l =
    Appends (g.W.Write.contents l.initial.out) (g.W.Write.contents l.out) (words_bytes (take l.word-index l.word-items))
