use Rattle.std.proofs.Common.{◌≡◌, map, drop}
use Rattle.jolie_trees.specs.Trees.{children_of}
use Rattle.behaviour_tree.specs.Conforms.{counts_fit}
use Rattle.behaviour_tree.specs.View.{field_view, type_fields_of}
use Rattle.message_types.proofs.shape.counts_fit.Given as goal

abbrev pub invariant-loop-field : goal.invariant-loop-field
invariant-loop-field l = counts_fit (children_of l.value) (type_fields_of (map field_view (drop l.field-index l.fields))) ≡ counts_fit (children_of l.value) (type_fields_of (map field_view l.fields))
