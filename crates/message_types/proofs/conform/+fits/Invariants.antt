use Rattle.std.proofs.Common.{◌≡◌, ◌≤◌, ◌+◌, ◌*◌, map, drop, Some}
use Rattle.jolie_trees.specs.Trees.{children_of, levels, fields_levels, trees_levels}
use Rattle.jolie_trees.specs.TreeView.{trees_of, fields_of}
use Rattle.behaviour_tree.specs.Conforms.{children_fit, members_fit}
use Rattle.behaviour_tree.specs.View.{field_view, type_fields_of, type_view}
use Rattle.message_types.proofs.conform.+fits.Given as goal

abbrev pub decreases-fits : goal.decreases-fits
decreases-fits l = 4 * levels l.value.now + 3

abbrev pub decreases-children_fit : goal.decreases-children_fit
decreases-children_fit l = 4 * levels l.value.now + 2

abbrev pub decreases-members_fit : goal.decreases-members_fit
decreases-members_fit l = 4 * trees_levels (trees_of l.members.now) + 5

abbrev pub decreases-all_fit : goal.decreases-all_fit
decreases-all_fit l = 4 * trees_levels (trees_of l.members.now) + 4

abbrev pub invariant-children_fit-loop-name : goal.invariant-children_fit-loop-name
invariant-children_fit-loop-name l = record {
  same : children_fit (map type_view l.types) (fields_of l.name-iterator) (type_fields_of (map field_view l.fields)) ≡ children_fit (map type_view l.types) (children_of l.value) (type_fields_of (map field_view l.fields));
  lower : fields_levels (fields_of l.name-iterator) ≤ fields_levels (children_of l.value);
}

abbrev pub invariant-all_fit-loop-member : goal.invariant-all_fit-loop-member
invariant-all_fit-loop-member l = members_fit (map type_view l.types) (trees_of (drop l.member-index l.members)) (Some (type_view l.ty)) ≡ members_fit (map type_view l.types) (trees_of l.members) (Some (type_view l.ty))
