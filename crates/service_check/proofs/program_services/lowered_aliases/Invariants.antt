use Rattle.std.proofs.Common.{◌≡◌, map, take}
use Rattle.behaviour_tree.specs.PartsView.{alias_view}
use Rattle.service_check.specs.Programs.{lowered_alias}
use Rattle.service_check.proofs.program_services.lowered_aliases.Given as goal

abbrev pub invariant-loop-alias : goal.invariant-loop-alias
invariant-loop-alias l = map alias_view l.lowered.items ≡ map (lowered_alias l.types) (take l.alias-index l.aliases)
