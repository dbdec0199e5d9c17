use Rattle.std.proofs.Common.{◌≡◌, Some, drop}
use Rattle.check_ports.specs.SetRules.{leads_to_value}
use Rattle.check_ports.proofs.aliases.path_leads_to_value.Given as goal

abbrev pub invariant-loop-name : goal.invariant-loop-name
invariant-loop-name l = leads_to_value l.types (Some l.body) (drop l.name-index l.path) ≡ leads_to_value l.types (Some l.initial.body) l.path
