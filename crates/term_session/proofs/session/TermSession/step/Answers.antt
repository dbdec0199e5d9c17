use Rattle.std.proofs.Common.{◌≡◌, Some, ap, ◌∙◌, rules}
use Rattle.std.specs.Prelude.{Ok}
use Rattle.std.proofs.lemmas.Result.{IfOk-at_ok}
use Rattle.behaviour_tree.specs.PartsView.{parts_of}
use Rattle.session_calculus.specs.After.{after}
use Rattle.term_session.specs.Configs.{config_view}
use Rattle.term_session.specs.Sessions.{service_of}
use Rattle.term_session.specs.Steps.{stepped, stepped_by}
use Rattle.term_session.proofs.Between.{through}
use Rattle.term_session.proofs.Stepping.{stepped_some}
use Rattle.term_session.proofs.session.TermSession.step.Goals as goal

pub returns-in-Ok-Some-clause-done : goal.returns-in-Ok-Some-clause-done
returns-in-Ok-Some-clause-done c =
    let here = config_view c.in-Some.config in
    let now = config_view c.step-stepped.new.config in
    let done = after (parts_of c.args.program.now) (service_of c.args.self.now) here c.args.strand c.args.given in
    let answer : c.step-stepped.result ≡ Ok (Some c.in-Ok-Some.event) = first_of (search rules, cc) in
    let told = IfOk-at_ok (λ e. stepped now e ≡ stepped_by here done) answer c.step-stepped.ensures.event in
    let came = stepped_some here now done c.in-Ok-Some.event told in
    rw c.in-Some.is (came.0, came.1, came.2, through (Some now) (ap Some came.3) (search rules))
