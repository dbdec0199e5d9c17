use Rattle.serde_json.specs.View.{view}
use Rattle.behaviour_tree.specs.PartsView.{parts_of}
use Rattle.behaviour_tree.specs.View.{type_view}
use Rattle.jsonrpc_text.proofs.Floats.{answer-written}
use Rattle.jsonrpc_text.proofs.answer.answer_text.Goals as goal

pub returns-clause-text : goal.returns-clause-text
returns-clause-text c =
    answer-written c.written.result (view c.in_ok-response.field-0) (parts_of c.args.program.now).types (type_view c.args.ty.now) c.args.id.now c.args.outcome.now c.in_ok-response.ensures c.written.ensures.text
