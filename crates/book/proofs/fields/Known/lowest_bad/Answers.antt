-- The rows are tried from 0 up, and the first at fault is answered; none is where each has been read.
-- A row is at fault where none is read. Assumes nothing.
use Rattle.std.proofs.Common.{rules, ℕ, refl, ap, ◌∙◌}
use Rattle.sets.specs.RangeLaws.{range_find}
use Rattle.sets.specs.Sums.{some_below}
use Rattle.rows.proofs.TableLaws.{read_none}
use Rattle.rows.specs.Table.{faulty}
use Rattle.book.specs.Layout.{edition_one}
use Rattle.book.specs.Read.{content}
use Rattle.book.proofs.ReadLaws.{lowest_bad_lem}
use Rattle.book.proofs.fields.Known.lowest_bad.Goals as goal

pub returns : goal.returns
returns c =
    let s = c.args.self.now in
    let table = (content edition_one s.bytes.now).table in
    range_find (faulty table) _ _ _ _ c.find.ensures.ran refl (λ i b q k. (search rules, search rules ∙ read_none table i))
    ∙ ap (λ (i : ℕ). some_below i s.n) (lowest_bad_lem s.bytes.now s.n s.headed.count)
