use Rattle.std.proofs.Common.{◌≡◌, ◌++◌, drop}
use Rattle.serde_json.specs.View.{items_view}
use Rattle.jsonrpc_text.specs.Posted.{calls_in}
use Rattle.jsonrpc_text.proofs.read.calls_of.Given as goal

abbrev pub invariant-loop-item : goal.invariant-loop-item
invariant-loop-item l = l.calls ++ calls_in (items_view (drop l.item-index l.items)) ≡ calls_in (items_view l.items)
