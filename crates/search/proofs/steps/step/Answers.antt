-- Each answer is the law of the check that decides it, or that of the run. What the answer is held to holds of the definition.
-- Assumes nothing.
use Rattle.std.proofs.Common.{sym, ◌∙◌}
use Rattle.rows.specs.Board.{limited}
use Rattle.search.specs.StateLaws.{left_is}
use Rattle.search.specs.StepLaws.{step_work, step_meets}
use Rattle.search.proofs.steps.step.Goals as goal

pub returns-in-Ok : goal.returns-in-Ok
returns-in-Ok c =
    let a = c.args in
    let t = limited a.m in
    let sound = (left_is _ a.state c.in-Ok.left c.in-Ok.ensures.1).0 in
    let work = rw (c.limited.ensures.words, c.limited.ensures.terms) at c.run.ensures in
    let meets = step_meets a.words.now t a.state a.quota _ (work ∙ sym (step_work a.words.now t a.state a.quota c.in-Ok.ensures.0 sound)) in
    record { value = meets.0; step_demanded = meets.1 }

pub returns-in-Err : goal.returns-in-Err
returns-in-Err c =
    let a = c.args in
    let meets = step_meets a.words.now (limited a.m) a.state a.quota _ (sym (c.in-Err.ensures a.quota)) in
    record { value = meets.0; step_demanded = meets.1 }
