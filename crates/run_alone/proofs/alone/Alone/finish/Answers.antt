-- The run was ended, and its record is what it leaves.
use Rattle.run_alone.proofs.Quitting.{left_by}
use Rattle.run_alone.proofs.alone.Alone.finish.Goals as goal

pub returns-in_ok-report-in-Ok-clause-ran : goal.returns-in_ok-report-in-Ok-clause-ran
returns-in_ok-report-in-Ok-clause-ran g c =
    let r = c.in_ok-report-in-Ok.ensures in
    λ first new before so closed none_left.
    c.in-Ok.ensures.ran _ _ (left_by {report = c.in_ok-report-in-Ok.report} r.program r.history r.sessions r.traffic r.legal) first new before so closed none_left

pub returns-in_ok-report-in-Ok-clause-goes : goal.returns-in_ok-report-in-Ok-clause-goes
returns-in_ok-report-in-Ok-clause-goes g c =
    let r = c.in_ok-report-in-Ok.ensures in
    c.in-Ok.ensures.goes _ _ (left_by {report = c.in_ok-report-in-Ok.report} r.program r.history r.sessions r.traffic r.legal)

pub returns-in_ok-report-in-Ok-clause-completed : goal.returns-in_ok-report-in-Ok-clause-completed
returns-in_ok-report-in-Ok-clause-completed g c =
    let r = c.in_ok-report-in-Ok.ensures in
    c.in-Ok.ensures.completed _ _ (left_by {report = c.in_ok-report-in-Ok.report} r.program r.history r.sessions r.traffic r.legal)
