use Rattle.std.proofs.Common.{◌≡◌, ◌≤◌, ◌+◌, ◌*◌, map, drop}
use Rattle.serde_json.specs.Data.{no_members}
use Rattle.serde_json.specs.View.{items_view, members_view}
use Rattle.jolie_trees.specs.Trees.{children_of, levels, fields_levels, trees_levels}
use Rattle.jolie_trees.specs.TreeView.{trees_of, fields_of}
use Rattle.behaviour_tree.specs.View.{field_view, type_fields_of, type_view}
use Rattle.jsonrpc_text.specs.ToJson.{items_json}
use Rattle.jsonrpc_text.proofs.Children.{with_children, followed_by}
use Rattle.jsonrpc_text.proofs.to_json.+json_of.Given as goal

abbrev pub decreases-json_of : goal.decreases-json_of
decreases-json_of l = 4 * levels l.tree.now + 3

abbrev pub decreases-node : goal.decreases-node
decreases-node l = 4 * levels l.tree.now + 2

abbrev pub decreases-members_of : goal.decreases-members_of
decreases-members_of l = 4 * trees_levels (trees_of l.trees.now) + 5

abbrev pub decreases-array : goal.decreases-array
decreases-array l = 4 * trees_levels (trees_of l.trees.now) + 4

abbrev pub invariant-node-loop-name : goal.invariant-node-loop-name
invariant-node-loop-name l = record {
  same : with_children (map type_view l.types) (type_fields_of (map field_view l.fields)) (fields_of l.name-iterator) (members_view l.members.entries)
      ≡ with_children (map type_view l.types) (type_fields_of (map field_view l.fields)) (children_of l.tree) no_members;
  lower : fields_levels (fields_of l.name-iterator) ≤ fields_levels (children_of l.tree);
}

abbrev pub invariant-array-loop-tree : goal.invariant-array-loop-tree
invariant-array-loop-tree l =
    followed_by (items_view l.items.items) (items_json (map type_view l.types) (trees_of (drop l.tree-index l.trees)) (type_view l.ty)) ≡ items_json (map type_view l.types) (trees_of l.trees) (type_view l.ty)
