use Rattle.std.proofs.Common.{Some, ◌+◌, ◌≤◌, arith, refl, sym, ap, ◌∙◌}
use Rattle.sets.specs.Rows.{rows_between}
use Rattle.sets.specs.RowsLaws.{walk_start, walk_on, walk_row, walk_end}
use Rattle.sets.specs.Sets.{has}
use Rattle.rows.specs.Board.{seen}
use Rattle.rows.proofs.TableLaws.{row_count_most}
use Rattle.search.proofs.ScanLaws.{Scanned, walk_told, scans_start, scans_few, scans_skip, scans_failed, scans_found, scans_none}
use Rattle.search.proofs.tally.Tally.scan.Goals as goal

pub loop-i-init : goal.loop-i-init
loop-i-init c =
    record {
      board = refl;
      left = refl;
      none_yet = refl;
      walk = walk_start
          (c.into_iter-i-iterator.ensures.into_iter_gives ∙ c.rows-i-items.ensures ∙ ap (rows_between (has c.args.self.now.left) 0) c.row_count.ensures)
          (scans_start _ _);
    }

pub overflow_add-tests : goal.overflow_add-tests
overflow_add-tests c =
    let few : c.loop-i.tests ≤ 96 =
    walk_told
    (walk_on (scans_skip _ _ _) c.loop-i.invariant.walk c.in-Some.ensures.steps
    (λ l t S. omega (arith, scans_few S, row_count_most c.args.self.now.board.words.now)))
    in
    omega arith

pub passes-requires : goal.passes-requires
passes-requires c =
    let inv = c.loop-i.invariant in
    rw (inv.board, inv.left) (walk_row inv.walk c.in-Some.ensures.steps)

pub returns-then-passes : goal.returns-then-passes
returns-then-passes c =
    let inv = c.loop-i.invariant in
    let pass = rw (inv.left, inv.board) at (sym c.passes.ensures.value ∙ c.if-passes.true) in
    let found : Scanned (seen c.args.self.now.board) c.args.self.now.left (Some c.in-Some.i) (c.loop-i.tests + 1) =
    walk_told
    (walk_on (scans_skip _ _ _) inv.walk c.in-Some.ensures.steps
    (λ l t S. scans_found (row_count_most c.args.self.now.board.words.now) l t S pass))
    in
    record { row_value = found.row; tests_value = found.made; same = (c.passes.ensures.same.0 ∙ inv.board, c.passes.ensures.same.1 ∙ inv.left) }

pub loop-i-preserved : goal.loop-i-preserved
loop-i-preserved c =
    let inv = c.loop-i.invariant in
    let fails = rw (inv.left, inv.board) at (sym c.passes.ensures.value ∙ c.if-passes.false) in
    record {
      board = c.passes.ensures.same.0 ∙ inv.board;
      left = c.passes.ensures.same.1 ∙ inv.left;
      none_yet = inv.none_yet;
      walk = walk_on (scans_skip _ _ _) inv.walk c.in-Some.ensures.steps
          (λ l t S. scans_failed (row_count_most c.args.self.now.board.words.now) l t S fails);
    }

pub returns-in-None : goal.returns-in-None
returns-in-None c =
    let inv = c.loop-i.invariant in
    let none = scans_none (walk_end (scans_skip _ _ _) inv.walk c.in-None.ensures.steps.0) in
    record { row_value = inv.none_yet ∙ none.row; tests_value = none.made; same = (inv.board, inv.left) }
