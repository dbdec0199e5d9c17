use Rattle.std.proofs.Common.{◌≡◌, ◌++◌, map, take}
use Rattle.jolie_ast.specs.declared.name.Name.{Name}
use Rattle.check_ports.specs.Spared.{spared}
use Rattle.check_ports.proofs.brought.bring.Given as goal

abbrev pub invariant-loop-name : goal.invariant-loop-name
invariant-loop-name l =
    (l.seen ≡ map (λ (n : Name). n.text) (take l.name-index l.names))
    × (l.mentions.items ≡ l.initial.mentions.items ++ spared l.interfaces l.others (take l.name-index l.names))
