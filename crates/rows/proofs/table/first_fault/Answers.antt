-- The rows are tried from 0 up, and the first at fault is answered; none is where each has been read.
-- A row is at fault where none is read. Assumes nothing.
use Rattle.std.proofs.Common.{rules, ◌∙◌, refl}
use Rattle.sets.specs.RangeLaws.{range_find}
use Rattle.rows.specs.Table.{first_fault, faulty}
use Rattle.rows.proofs.TableLaws.{read_none}
use Rattle.rows.proofs.table.first_fault.Goals as goal

pub returns : goal.returns
unfolding first_fault
returns c =
    let words = c.args.words.now in
    range_find (faulty words) _ _ _ _ c.find.ensures.ran refl (λ i b q k. (search rules, search rules ∙ read_none words i))
