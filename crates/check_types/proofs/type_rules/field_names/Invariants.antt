use Rattle.std.proofs.Common.{◌≡◌, take, map}
use Rattle.jolie_ast.specs.declared.types.Field.{Field, out-Field}
use Rattle.check_types.proofs.type_rules.field_names.Given as goal

abbrev pub invariant-loop-field : goal.invariant-loop-field
invariant-loop-field l = l.names.items ≡ map (λ (f : Field). (out-Field f).name) (take l.field-index l.fields)
