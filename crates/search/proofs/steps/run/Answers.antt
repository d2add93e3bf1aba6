use Rattle.std.proofs.Common.{sym, ◌∙◌, refl, arith, rules}
use Rattle.rows.proofs.TableLaws.{row_count_most}
use Rattle.search.specs.StepLaws.{stands_start, stands_placed, stands_left, stands_probe, run_unfinished, run_blocked, run_done}
use Rattle.search.proofs.steps.run.Goals as goal
use Rattle.search.proofs.steps.run.Goals.{else-loop-test, then-loop-test+in_default}

pub loop-init : goal.loop-init
loop-init c =
    record {
      board = c.new-tally.ensures.0;
      tests = refl;
      stands = rw c.new-tally.ensures.1 (stands_start (row_count_most _) (search rules) c.requires);
    }

pub probe-requires : goal.probe-requires
probe-requires c =
    let inv = c.loop.invariant in
    let most = row_count_most c.args.board.words.now in
    let found = sym (rw inv.board at c.next_row.ensures) ∙ c.in-Some.is in
    rw inv.board (stands_left inv.stands most found, stands_placed inv.stands most found)

pub loop-preserved : goal.loop-preserved
loop-preserved c =
    let inv = c.loop.invariant in
    let most = row_count_most c.args.board.words.now in
    let found = sym (rw inv.board at c.next_row.ensures) ∙ c.in-Some.is in
    record {
      board = c.probe.ensures.same ∙ inv.board;
      tests = omega arith;
      stands = stands_probe inv.stands most found (omega arith) (rw inv.board at c.probe.ensures.value);
    }

pub returns-in-Some-next_row : goal.returns-in-Some-next_row
returns-in-Some-next_row c =
    let inv = c.loop.invariant in
    let most = row_count_most c.args.board.words.now in
    let found = sym (rw inv.board at c.next_row-2.ensures) ∙ c.in-Some-next_row.is in
    run_unfinished inv.stands most found
    (elim c.loop-test.branch [
      | else-loop-test w ↦ omega arith
      | then-loop-test+in_default w ↦
          absurd (w.in_default.not-Some _ (w.next_row.ensures ∙ sym c.next_row-2.ensures ∙ c.in-Some-next_row.is))
    ])

pub returns-in-None : goal.returns-in-None
returns-in-None c =
    let inv = c.loop.invariant in
    let none = sym (rw inv.board at c.next_row-2.ensures) ∙ c.in-None.is in
    run_blocked inv.stands (row_count_most c.args.board.words.now) none (rw c.row_count.ensures at c.if-state-row_count.true)

pub returns-in-None-2 : goal.returns-in-None-2
returns-in-None-2 c =
    let inv = c.loop.invariant in
    let none = sym (rw inv.board at c.next_row-2.ensures) ∙ c.in-None-2.is in
    run_done inv.stands (row_count_most c.args.board.words.now) none (rw c.row_count.ensures at c.if-state-row_count.false)
