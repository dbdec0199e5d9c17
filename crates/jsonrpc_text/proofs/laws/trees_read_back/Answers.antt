use Rattle.jsonrpc_text.proofs.ReadBack.{json-back}
use Rattle.jsonrpc_text.proofs.Typed.{typed-back}
use Rattle.jsonrpc_text.proofs.laws.trees_read_back.Goals as goal

pub returns-clause-trees : goal.returns-clause-trees
returns-clause-trees c = json-back

pub returns-clause-typed : goal.returns-clause-typed
returns-clause-typed c = typed-back
