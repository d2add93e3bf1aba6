use Rattle.std.proofs.Common.{ℕ, ◌≤◌, ◌<◌, sym, ap, ◌∙◌, refl, arith, rules}
use Rattle.sets.specs.SumLaws.{some_below_some, some_below_none}
use Rattle.sets.specs.SetLaws.{has_above}
use Rattle.rows.specs.Board.{seen}
use Rattle.rows.specs.Table.{row_count}
use Rattle.rows.proofs.TableLaws.{row_count_most}
use Rattle.search.specs.declared.ended.Ended.{Ended}
use Rattle.search.specs.EndedLaws.{levels_fresh, levels_full, levels_stuck, levels_place}
use Rattle.search.proofs.ScanLaws.{passing_found, passing_few}
use Rattle.search.proofs.ended.place_rows.Goals as goal
use Rattle.search.proofs.ended.place_rows.Goals.{In-loop}

-- a level is left to fill
below : (c : In-loop) → c.loop.end.placed < row_count c.args.board.words.now
below c = omega (arith, c.row_count-n.ensures, c.loop.invariant.placed)

pub loop-init : goal.loop-init
loop-init c =
    let a = c.args in
    let order = ap (λ (e : Ended). e.order) c.requires in
    let placed = ap (λ (e : Ended). e.placed) c.requires in
    let tests = ap (λ (e : Ended). e.tests) c.requires in
    record {
      board = c.new-tally.ensures.0;
      placed = placed;
      few = omega (arith, tests);
      left = c.new-tally.ensures.1;
      levels = rw (order, placed, tests) (levels_fresh (seen a.board) a.end.now.left (row_count_most a.board.words.now) (search rules, search rules));
    }

pub overflow_add-end : goal.overflow_add-end
overflow_add-end c =
    let few = passing_few _ _ _ c.scan-level.ensures.tests_value in
    let most = row_count_most c.loop.tally.board.words.now in
    let n = row_count_most c.args.board.words.now in
    omega (arith, c.loop.invariant.few, c.row_count-n.ensures)

pub take-requires : goal.take-requires
take-requires c =
    let same = c.scan-level.ensures.same in
    rw (same.0, same.1) (passing_found _ _ (sym c.scan-level.ensures.row_value ∙ c.in-Some.is))

pub put-requires : goal.put-requires
put-requires c =
    let found = passing_found _ _ (rw c.loop.invariant.board at (sym c.scan-level.ensures.row_value ∙ c.in-Some.is)) in
    rw c.row_count-n.ensures (row_count_most c.args.board.words.now, below (goal.at.put-requires c).In-loop, found.0)

pub loop-preserved : goal.loop-preserved
loop-preserved c =
    let inv = c.loop.invariant in
    let scan = c.scan-level.ensures in
    let small = λ (i : ℕ) (h : 128 ≤ i). has_above c.args.end.now.left i (search rules, search rules) h in
    let k = some_below_some _ _ (rw (inv.board, inv.left) at (sym scan.row_value ∙ c.in-Some.is)) in
    let made = rw (inv.board, inv.left, ← k.0) at scan.tests_value in
    let few = passing_few _ _ _ scan.tests_value in
    let most = row_count_most c.loop.tally.board.words.now in
    record {
      board = c.take.ensures.0 ∙ scan.same.0 ∙ inv.board;
      placed = omega (arith, inv.placed);
      few = omega (arith, inv.few);
      left = refl;
      levels = rw (c.put.ensures, c.take.ensures.1, scan.same.1, inv.left, c.row_count-n.ensures)
          (levels_place inv.levels small _ _ k.0 made (omega (arith, k.0, k.1)) (below (goal.at.loop-preserved c).In-loop));
    }

pub returns-after-loop : goal.returns-after-loop
returns-after-loop c = levels_full c.loop.invariant.levels (omega (arith, c.row_count-n.ensures, c.loop.invariant.placed, c.loop-test.false))

pub returns-in_default : goal.returns-in_default
returns-in_default c =
    let inv = c.loop.invariant in
    let scan = c.scan-level.ensures in
    let small = λ (i : ℕ) (h : 128 ≤ i). has_above c.args.end.now.left i (search rules, search rules) h in
    let none = some_below_none _ _ (rw (inv.board, inv.left) at (sym scan.row_value ∙ c.in_default.is)) in
    levels_stuck inv.levels small _ _ refl (rw (inv.board, inv.left) at scan.tests_value) none
