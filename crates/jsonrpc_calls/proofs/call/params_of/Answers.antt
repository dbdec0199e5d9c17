use Rattle.std.proofs.Common.{◌∙◌, ap, map}
use Rattle.behaviour_tree.specs.View.{type_view}
use Rattle.jsonrpc_calls.specs.Walks.{params_from}
use Rattle.jsonrpc_calls.proofs.Params.{params_from-json}
use Rattle.jsonrpc_calls.proofs.call.params_of.Goals as goal

pub returns : goal.returns
returns c =
    c.in_ok-params.ensures ∙ ap params_from c.in_ok-found.ensures
    ∙ params_from-json (map type_view c.args.types.now) c.args.value.now (type_view c.args.ty.now)
