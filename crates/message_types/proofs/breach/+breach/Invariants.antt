use Rattle.std.proofs.Common.{◌≡◌, ◌≤◌, ◌+◌, ◌*◌, map, drop, Some}
use Rattle.jolie_trees.specs.Trees.{children_of, levels, fields_levels, trees_levels, fields_size}
use Rattle.jolie_trees.specs.TreeView.{trees_of, fields_of}
use Rattle.behaviour_tree.specs.View.{field_view, type_fields_of, type_view}
use Rattle.message_types.specs.Breaches.{breach_of_children, breach_of_members}
use Rattle.message_types.proofs.breach.+breach.Given as goal

abbrev pub decreases-breach : goal.decreases-breach
decreases-breach l = 4 * levels l.value.now + 3

abbrev pub decreases-breach_of_children : goal.decreases-breach_of_children
decreases-breach_of_children l = 4 * levels l.value.now + 2

abbrev pub decreases-breach_under : goal.decreases-breach_under
decreases-breach_under l = 4 * trees_levels (trees_of l.members.now) + 5

abbrev pub decreases-breach_of_members : goal.decreases-breach_of_members
decreases-breach_of_members l = 4 * trees_levels (trees_of l.members.now) + 4

abbrev pub invariant-breach_of_children-loop-name : goal.invariant-breach_of_children-loop-name
invariant-breach_of_children-loop-name l = record {
  same : breach_of_children (map type_view l.types) (fields_of l.name-iterator) (type_fields_of (map field_view l.fields)) ≡ breach_of_children (map type_view l.types) (children_of l.value) (type_fields_of (map field_view l.fields));
  lower : fields_levels (fields_of l.name-iterator) ≤ fields_levels (children_of l.value);
  fewer : fields_size (fields_of l.name-iterator) ≤ fields_size (children_of l.value);
}

abbrev pub invariant-breach_of_members-loop-index : goal.invariant-breach_of_members-loop-index
invariant-breach_of_members-loop-index l = breach_of_members (map type_view l.types) l.name l.index (trees_of (drop l.index l.members)) (Some (type_view l.ty)) ≡ breach_of_members (map type_view l.types) l.name 0 (trees_of l.members) (Some (type_view l.ty))
