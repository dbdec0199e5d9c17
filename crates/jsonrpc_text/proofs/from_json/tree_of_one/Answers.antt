use Rattle.jsonrpc_text.proofs.Sorted.{params-several}
use Rattle.jsonrpc_text.proofs.from_json.tree_of_one.Goals as goal

pub returns-in-len2-up : goal.returns-in-len2-up
returns-in-len2-up c = params-several c.args.items.now c.in-len2-up.len_at_least
