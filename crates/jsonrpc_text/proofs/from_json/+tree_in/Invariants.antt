use Rattle.std.proofs.Common.{◌≡◌, drop}
use Rattle.serde_json.specs.View.{items_view, members_view}
use Rattle.jolie_trees.specs.Data.{node, no_fields}
use Rattle.jsonrpc_text.specs.Putting.{with_items, with_members}
use Rattle.jsonrpc_text.proofs.from_json.+tree_in.Given as goal

abbrev pub invariant-with_items-loop-item : goal.invariant-with_items-loop-item
invariant-with_items-loop-item l =
    with_items l.name (items_view (drop l.item-index l.items)) l.node ≡ with_items l.name (items_view l.items) l.fn.node

abbrev pub invariant-with_children-loop-name : goal.invariant-with_children-loop-name
invariant-with_children-loop-name l =
    with_members (members_view l.name-iterator) l.node ≡ with_members (members_view l.members.entries) (node l.fn.root no_fields)
