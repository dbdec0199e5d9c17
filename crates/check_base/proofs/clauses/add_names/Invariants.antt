use Rattle.std.proofs.Common.{◌≡◌, ◌++◌, map, take}
use Rattle.jolie_ast.specs.declared.name.Name.{Name}
use Rattle.check_base.proofs.clauses.add_names.Given as goal

abbrev pub invariant-loop-name : goal.invariant-loop-name
invariant-loop-name l = l.texts ≡ l.initial.texts ++ map (λ (n : Name). n.text) (take l.name-index l.names)
