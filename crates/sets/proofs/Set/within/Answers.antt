-- `Set::within` meets its contract. The word is below 2 ^ n where no bit is at or above n.
-- From n = 128 on it always is. Assumes nothing.
use Rattle.std.proofs.Common.{sym, ◌∙◌, lt_of_lt_of_le, pow_mono, lt-ltb, le-leb, rules}
use Rattle.sets.specs.SetLaws.{word_lt}
use Rattle.sets.proofs.Set.within.Goals as goal

pub returns-then-n-ge128 : goal.returns-then-n-ge128
returns-then-n-ge128 c = le-leb _ _ c.if-n-ge128.true ∙ sym (lt-ltb _ _ (lt_of_lt_of_le (word_lt c.args.self (search rules)) (pow_mono c.if-n-ge128.true)))
