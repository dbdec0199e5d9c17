use Rattle.std.specs.Prelude.{map}
use Rattle.serde_json.specs.View.{view}
use Rattle.behaviour_tree.specs.PartsView.{operation_view}
use Rattle.behaviour_tree.specs.View.{type_view}
use Rattle.jsonrpc_calls.proofs.Floats.{call-written}
use Rattle.jsonrpc_calls.proofs.call.text_to.Goals as goal

pub returns : goal.returns
returns c =
    call-written c.written.result (view c.in_ok-call_to.field-0) (map type_view c.args.types.now) (operation_view c.args.operation.now) c.args.out.now
    c.in_ok-call_to.ensures c.written.ensures
