use Rattle.std.proofs.Common.{◌≡◌, ap, sym, subst, ◌∙◌, None, Some, IfOk, option_and_then}
use Rattle.behaviour_tree.specs.PartsView.{parts_of, port_view}
use Rattle.office_core.specs.Accepted.{passed_to, service_behind}
use Rattle.office_plain.proofs.send.passed_on.Goals as goal

pub returns-in-Some : goal.returns-in-Some
returns-in-Some c =
    let parts = parts_of c.args.program.now in
    let port = port_view c.args.port.now in
    let behind : Some c.in-Some.service ≡ service_behind parts port.location =
    sym c.in-Some.is ∙ c.service_behind.ensures ∙ ap (service_behind parts) c.as_str.ensures in
    subst (λ g. IfOk c.passed_to.result (λ q. q ≡ option_and_then (passed_to parts port c.args.op c.args.value.now) g)) behind
    (subst (λ p. IfOk c.passed_to.result (λ q. q ≡ passed_to p port c.args.op c.args.value.now c.in-Some.service)) c.parts.ensures.parts c.passed_to.ensures)

pub returns-in-None : goal.returns-in-None
returns-in-None c =
    let parts = parts_of c.args.program.now in
    let port = port_view c.args.port.now in
    let behind : None ≡ service_behind parts port.location =
    sym c.in-None.is ∙ c.service_behind.ensures ∙ ap (service_behind parts) c.as_str.ensures in
    ap (option_and_then (passed_to parts port c.args.op c.args.value.now)) behind
