use Rattle.std.proofs.Common.{refl, arith, rules}
use Rattle.records.specs.Records.{flat}
use Rattle.records.proofs.RecordsLaws.{flat_next}
use Rattle.records.proofs.flat_words.Goals as goal

pub loop-row-init : goal.loop-row-init
unfolding flat
loop-row-init c = record { room = refl; copied = refl }

pub loop-row-preserved : goal.loop-row-preserved
loop-row-preserved c =
    let l = c.loop-row in
    record { room = search rules; copied = flat_next l.words c.args.tasks.now l.row _ (omega arith) c.loop-row-test.true l.invariant.copied }
