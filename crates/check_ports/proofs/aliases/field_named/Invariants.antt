use Rattle.std.proofs.Common.{◌≡◌, drop}
use Rattle.check_ports.specs.SetRules.{field_named}
use Rattle.check_ports.proofs.aliases.field_named.Given as goal

abbrev pub invariant-loop-field : goal.invariant-loop-field
invariant-loop-field l = field_named (drop l.field-index l.fields) l.name ≡ field_named l.fields l.name
