use Rattle.std.proofs.Common.{◌≡◌, map, take}
use Rattle.behaviour_tree.specs.View.{field_view}
use Rattle.lower_types.specs.LoweredTypes.{lowered_field}
use Rattle.lower_types.proofs.program_types.+types.Given as goal

abbrev pub invariant-lowered_fields-loop-field : goal.invariant-lowered_fields-loop-field
invariant-lowered_fields-loop-field l = map field_view l.lowered.items ≡ map (lowered_field l.types) (take l.field-index l.fields)
