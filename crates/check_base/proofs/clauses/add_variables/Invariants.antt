use Rattle.std.proofs.Common.{◌≡◌, ◌++◌, map, take}
use Rattle.jolie_ast.specs.declared.name.Name.{Name}
use Rattle.check_base.specs.Files.{set_names}
use Rattle.check_base.proofs.clauses.add_variables.Given as goal

abbrev pub invariant-loop-variable : goal.invariant-loop-variable
invariant-loop-variable l = l.names ≡ l.initial.names ++ map (λ (n : Name). n.text) (set_names (take l.variable-index l.set))
