-- `Set::size` meets its contract. The ones of the word are its bits, the set's rows.
-- A word of 128 bits has no others. Assumes nothing.
use Rattle.std.proofs.Common.{rules}
use Rattle.sets.specs.Sets.{word, size}
use Rattle.sets.specs.SetLaws.{ones_count, word_lt}
use Rattle.sets.proofs.Set.size.Goals as goal

pub returns : goal.returns
unfolding size
returns c = rw c.from.ensures (ones_count 128 (word c.args.self) (word_lt c.args.self (search rules)))
