-- The invariant: the words copied so far are the flat words of the tasks so far.
-- A turn stores three words more behind them, which are those of the next task. Assumes nothing.
use Rattle.std.specs.Prelude.{◌≡◌, ◌*◌, length, take}
use Rattle.records.specs.Records.{flat}
use Rattle.records.proofs.flat_words.Given as goal

abbrev pub invariant-loop-row : goal.invariant-loop-row
invariant-loop-row l = record { room : length l.words ≡ 288; copied : take (3 * l.row) l.words ≡ flat (take l.row l.tasks) }
