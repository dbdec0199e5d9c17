use Rattle.std.proofs.Common.{◌≡◌, ◌++◌, map, take}
use Rattle.jolie_ast.specs.declared.service.Alias.{Alias}
use Rattle.check_ports.proofs.set_rules.add_alias_names.Given as goal

abbrev pub invariant-loop-alias : goal.invariant-loop-alias
invariant-loop-alias l = map (λ n. n.now) l.names.items ≡ map (λ n. n.now) l.initial.names.items ++ map (λ (a : Alias). a.ty) (take l.alias-index l.alias-items)
