use Rattle.std.proofs.Common.{◌≡◌, ◌++◌, map, take}
use Rattle.jolie_ast.specs.declared.name.Name.{Name}
use Rattle.check_ports.proofs.set_rules.add_texts.Given as goal

abbrev pub invariant-loop-name : goal.invariant-loop-name
invariant-loop-name l = l.texts ≡ l.initial.texts ++ map (λ (n : Name). n.text) (map (λ n. n.now) (take l.name-index l.names))
