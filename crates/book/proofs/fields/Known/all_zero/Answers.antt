-- The spare bytes of block 0 are tested, and then those of each row block.
-- So all blocks of the book are. Assumes nothing.
use Rattle.std.proofs.Common.{rules, tests, refl, ℕ, Bool, ◌+◌, ◌-◌, ◌*◌, ◌/◌, ◌<◌, ◌≡◌, sym, ◌∙◌, arith, length}
use Rattle.std.proofs.lemmas.Iterator.{YieldsList-from_range, serves_from_Range}
use Rattle.std.proofs.lemmas.Iterator.Search.{all_from_yields_List}
use Rattle.std.specs.List.{list_all, range_with_len}
use Rattle.book.specs.Layout.{edition_one}
use Rattle.book.specs.Spare.{zero_block, blank}
use Rattle.book.proofs.SpareLaws.{blank_part, zeros_listed}
use Rattle.book.proofs.fields.Known.all_zero.Goals as goal
use Rattle.book.proofs.fields.Known.all_zero.Goals.{After-all_are}

-- block 0
head : (c : After-all_are) → c.all_are.result ≡ blank c.args.self.now.bytes.now 114 396
head c = c.all_are.ensures ∙ blank_part c.args.self.now.bytes.now 114 396 (omega (arith, c.args.self.now.headed.size))

pub all-requires-clause-callable : goal.all-requires-clause-callable
all-requires-clause-callable c = serves_from_Range (λ k q r. search rules) (λ k l m. let few : 42 * k < c.args.self.now.n = omega arith in search rules)

pub returns-then-all_are : goal.returns-then-all_are
returns-then-all_are c =
    let s = c.args.self.now in
    let count = c.row_blocks.result in
    let test : ℕ → Bool = λ k. zero_block edition_one s.n s.bytes.now (k + 1) in
    let each : c.all.result ≡ list_all test (range_with_len 0 count) =
    all_from_yields_List test _ _ _ c.all.ensures.ran (YieldsList-from_range 0 count count refl (omega arith)) (λ x b q k. search (rules, tests))
    in
    let first = sym (head (goal.at.returns-then-all_are c).After-all_are) ∙ c.if-all_are.true in
    each ∙ rw first at (zeros_listed s.n count s.bytes.now (omega (arith, s.headed.size)))

pub returns-else-all_are : goal.returns-else-all_are
returns-else-all_are c =
    let s = c.args.self.now in
    let first = sym (head (goal.at.returns-else-all_are c).After-all_are) ∙ c.if-all_are.false in
    c.if-all_are.false ∙ rw first at (zeros_listed s.n (length s.bytes.now / 512 - 1) s.bytes.now (omega (arith, s.headed.size)))
