use Rattle.std.proofs.Common.{◌≡◌, map, take}
use Rattle.behaviour_tree.specs.View.{field_view}
use Rattle.behaviour_tree.proofs.types.+copied.Given as goal

abbrev pub invariant-copied_fields-loop-field : goal.invariant-copied_fields-loop-field
invariant-copied_fields-loop-field l = map field_view l.copies.items ≡ map field_view (take l.field-index l.field-items)
