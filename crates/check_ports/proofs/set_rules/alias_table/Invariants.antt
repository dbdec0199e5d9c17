use Rattle.std.proofs.Common.{◌≡◌, map, take}
use Rattle.jolie_ast.specs.declared.name.Name.{Name}
use Rattle.jolie_ast.specs.declared.service.Alias.{Alias}
use Rattle.check_ports.proofs.set_rules.alias_table.Given as goal

abbrev pub invariant-loop-alias : goal.invariant-loop-alias
invariant-loop-alias l = l.table ≡ map (λ (n : Name). n.text) (map (λ (a : Alias). a.ty) (take l.alias-index l.alias-items))
