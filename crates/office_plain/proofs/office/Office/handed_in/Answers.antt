use Rattle.std.proofs.Common.{◌≡◌, ap, subst, IfOk, option_and_then}
use Rattle.office_core.specs.Accepted.{passed_on}
use Rattle.office_plain.specs.View.{setting_of}
use Rattle.office_plain.proofs.office.Office.handed_in.Goals as goal

pub returns-in-Some : goal.returns-in-Some
returns-in-Some c =
    let w = setting_of c.args.self.now in
    λ k wants. subst (λ g. IfOk c.passed_on.result (λ q. q ≡ option_and_then (λ p. passed_on w.parts p c.args.op c.args.value.now) g))
    c.in-Some.ensures c.passed_on.ensures

pub returns-in-None : goal.returns-in-None
returns-in-None c =
    let w = setting_of c.args.self.now in
    λ k wants. ap (option_and_then (λ p. passed_on w.parts p c.args.op c.args.value.now)) c.in-None.ensures
