-- Past the last whole row the T of the definition reads as 0, which is out of range; before it the three words are read as the definition reads them.
-- The answer then goes by `in_range`, as the definition goes by its own. Assumes nothing.
use Rattle.std.proofs.Common.{sym, ◌∙◌}
use Rattle.rows.proofs.TableLaws.{past_fault, read_in_range, read_out_of_range}
use Rattle.rows.proofs.table.read_row.Goals as goal

pub returns-then-words-row : goal.returns-then-words-row
returns-then-words-row c = sym (read_out_of_range _ _ (past_fault c.args.words.now _ c.if-words-row.true))

pub returns-then-in_range : goal.returns-then-in_range
returns-then-in_range c = sym (read_in_range _ _ (sym c.in_range.ensures ∙ c.if-in_range.true))

pub returns-else-in_range : goal.returns-else-in_range
returns-else-in_range c = sym (read_out_of_range _ _ (sym c.in_range.ensures ∙ c.if-in_range.false))
