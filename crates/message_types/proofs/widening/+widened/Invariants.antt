use Rattle.std.proofs.Common.{◌≡◌, ◌+◌, ◌*◌, ◌++◌, map, take, drop}
use Rattle.jolie_trees.specs.Data.{node}
use Rattle.jolie_trees.specs.Trees.{children_of, root_of, levels, trees_levels}
use Rattle.jolie_trees.specs.TreeView.{trees_of}
use Rattle.behaviour_tree.specs.Conforms as spec
use Rattle.behaviour_tree.specs.View.{field_view, type_fields_of, type_view}
use Rattle.message_types.proofs.widening.+widened.Given as goal

abbrev pub decreases-widen_tree : goal.decreases-widen_tree
decreases-widen_tree l = 4 * levels l.value.now + 3

abbrev pub decreases-widen_children : goal.decreases-widen_children
decreases-widen_children l = 4 * levels l.value.now + 2

abbrev pub decreases-widen_members : goal.decreases-widen_members
decreases-widen_members l = 4 * trees_levels (trees_of l.members.now) + 4

abbrev pub invariant-widen_children-loop-place : goal.invariant-widen_children-loop-place
invariant-widen_children-loop-place l = l.value ≡ node (root_of l.fn.value) (spec.wide_children (map type_view l.types) (children_of l.fn.value) (type_fields_of (map field_view (take l.place l.fields))))

abbrev pub invariant-widen_members-loop-member : goal.invariant-widen_members-loop-member
invariant-widen_members-loop-member l = l.members ≡ map (λ t. spec.wide (map type_view l.types) t (type_view l.ty)) (take l.member-index l.fn.members) ++ drop l.member-index l.fn.members
