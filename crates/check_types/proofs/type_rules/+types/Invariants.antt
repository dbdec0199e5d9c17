use Rattle.std.proofs.Common.{◌≡◌, take, flat_map}
use Rattle.check_base.specs.Least.{joined}
use Rattle.check_types.specs.TypeRules.{field_refused}
use Rattle.check_types.proofs.type_rules.+types.Given as goal

abbrev pub invariant-fields_refused-loop-field : goal.invariant-fields_refused-loop-field
invariant-fields_refused-loop-field l = l.least ≡ joined l.initial.least (flat_map (field_refused l.types) (take l.field-index l.fields))
