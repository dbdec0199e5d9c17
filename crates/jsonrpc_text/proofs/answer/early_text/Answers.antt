use Rattle.std.proofs.Common.{◌≡◌, rules}
use Rattle.serde_json.specs.View.{view}
use Rattle.jsonrpc_text.specs.Responses.{early_data}
use Rattle.jsonrpc_text.proofs.Floats.{early-written}
use Rattle.jsonrpc_text.proofs.answer.early_text.Goals as goal

pub returns-clause-text : goal.returns-clause-text
returns-clause-text c =
    let is : view c.in_ok-refusal.field-0 ≡ early_data c.args.id.now c.args.early.now = search rules in
    early-written c.written.result (view c.in_ok-refusal.field-0) c.args.id.now c.args.early.now is c.written.ensures.text
