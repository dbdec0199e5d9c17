use Rattle.std.proofs.Common.{◌≡◌, map, drop}
use Rattle.behaviour_tree.specs.Conforms.{field_type}
use Rattle.behaviour_tree.specs.View.{field_view, type_fields_of}
use Rattle.message_types.proofs.shape.field_named.Given as goal

abbrev pub invariant-loop-field : goal.invariant-loop-field
invariant-loop-field l = field_type l.name (type_fields_of (map field_view (drop l.field-index l.fields))) ≡ field_type l.name (type_fields_of (map field_view l.fields))
