use Rattle.std.proofs.Common.{◌≡◌, map, take}
use Rattle.jolie_ast.specs.declared.service.Alias.{Alias}
use Rattle.check_ports.proofs.set_rules.alias_mentions.Given as goal

abbrev pub invariant-loop-alias : goal.invariant-loop-alias
invariant-loop-alias l = l.names.items ≡ map (λ (a : Alias). a.ty) (take l.alias-index l.alias-items)
