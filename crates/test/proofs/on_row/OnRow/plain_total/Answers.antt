-- The rows of the walk are those of the set below the number of rows, and what they take sums to the sum of the definition, where
-- a row outside the set takes nothing. It fits 64 bits. Assumes nothing.
use Rattle.std.specs.Prelude.{ℕ, List}
use Rattle.std.proofs.Common.{◌∙◌, arith, rules, tests}
use Rattle.std.proofs.lemmas.Iterator.{YieldsList-from_map}
use Rattle.std.proofs.lemmas.Iterator.Consumers.{YieldsList-from_first, sum_by_from_yields_List, fits_by_from_yields_list}
use Rattle.sets.specs.Rows.{rows_between}
use Rattle.sets.specs.RowsLaws.{sum_rows}
use Rattle.sets.specs.Sets.{has}
use Rattle.sets.specs.declared.Set.{Set}
use Rattle.rows.specs.Table.{row_count}
use Rattle.test.specs.Parts.{takes}
use Rattle.test.proofs.PartsLaws.{plains_fit}
use Rattle.test.specs.declared.on_row.OnRow.{OnRow}
use Rattle.test.proofs.on_row.OnRow.plain_total.Goals as goal

-- the rows of the walk
abbrev walked : OnRow → Set → List ℕ
walked on above = rows_between (has above) 0 (row_count on.words.now)

pub sum-requires-clause-fits : goal.sum-requires-clause-fits
sum-requires-clause-fits c =
    let on = c.args.self in
    let above = c.args.above in
    fits_by_from_yields_list (takes on) (walked on above) c.map.result _
    (YieldsList-from_map _ (takes on) (YieldsList-from_first (λ x. x) (λ rest. rest) (walked on above) (cc)) c.map.ensures.closure (λ x r q k. search (rules, tests)))
    (omega (arith, sum_rows (has above) (takes on) (row_count on.words.now), plains_fit on.words.now on.row above (search rules)))

pub returns : goal.returns
returns c =
    let on = c.args.self in
    let above = c.args.above in
    sum_by_from_yields_List (takes on) (walked on above) c.map.result _ c.sum.ensures.ran
    (YieldsList-from_map _ (takes on) (YieldsList-from_first (λ x. x) (λ rest. rest) (walked on above) (cc)) c.map.ensures.closure (λ x r q k. search (rules, tests)))
    ∙ sum_rows (has above) (takes on) (row_count on.words.now)
