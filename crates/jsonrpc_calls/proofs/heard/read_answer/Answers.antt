use Rattle.std.proofs.Common.{◌≡◌, sym, ap, ◌∙◌, subst, IfOk, None, Some, option_map}
use Rattle.std.specs.Prelude.{option_and_then}
use Rattle.serde_json.specs.View.{view}
use Rattle.jsonrpc_text.specs.Posted.{value_of}
use Rattle.jsonrpc_calls.specs.Heard.{said_to}
use Rattle.jsonrpc_calls.proofs.heard.read_answer.Goals as goal

pub returns-in-None : goal.returns-in-None
returns-in-None c =
    let none : None ≡ value_of c.args.bytes.now = ap (option_map view) (sym c.in-None.is) ∙ c.in_ok-value_of.ensures in
    ap (option_and_then (said_to c.args.id)) none

pub returns-in-Some : goal.returns-in-Some
returns-in-Some c =
    let some : Some (view c.in-Some.value) ≡ value_of c.args.bytes.now = ap (option_map view) (sym c.in-Some.is) ∙ c.in_ok-value_of.ensures in
    subst (λ r. IfOk c.said_to.result (λ outcome. outcome ≡ r)) (ap (option_and_then (said_to c.args.id)) some) c.said_to.ensures
