-- A word more is read of the next four bytes, which there are, since n words are no more than the buffer has.
use Rattle.std.proofs.Common.{arith, length-set, ◌∙◌}
use Rattle.wire.proofs.Quads.{words_stored}
use Rattle.wire.proofs.case.words.Goals as goal

pub loop-i-preserved : goal.loop-i-preserved
loop-i-preserved c =
    let words = c.loop-i.words in
    let i = c.loop-i.i in
    record {
      room = length-set words i c.from_be_bytes.result ∙ c.loop-i.invariant.room;
      bytes = words_stored words c.args.bytes.now _ i _ (omega (arith, c.loop-i.invariant.room, c.requires, c.loop-i-test.true)) c.as_chunks.ensures.front
          (omega (arith, c.told-bytes, c.requires, c.loop-i-test.true)) c.fits-bytes c.loop-i.invariant.bytes c.from_be_bytes.ensures;
    }
