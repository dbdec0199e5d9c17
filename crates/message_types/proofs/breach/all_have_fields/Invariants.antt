use Rattle.std.proofs.Common.{◌≡◌, map}
use Rattle.jolie_trees.specs.Trees.{children_of}
use Rattle.jolie_trees.specs.TreeView.{fields_of}
use Rattle.behaviour_tree.specs.View.{field_view, type_fields_of}
use Rattle.message_types.specs.Breaches.{all_have_fields}
use Rattle.message_types.proofs.breach.all_have_fields.Given as goal

abbrev pub invariant-loop-name : goal.invariant-loop-name
invariant-loop-name l = all_have_fields (fields_of l.name-iterator) (type_fields_of (map field_view l.fields)) ≡ all_have_fields (children_of l.value) (type_fields_of (map field_view l.fields))
