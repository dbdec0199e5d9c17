use Rattle.std.proofs.Common.{◌≡◌, map, take}
use Rattle.jolie_ast.specs.declared.name.Name.{Name}
use Rattle.check_base.specs.Least.{joined, refused}
use Rattle.check_base.specs.Repeated.{repeated}
use Rattle.check_base.proofs.repeated.repeated_refused_as.Given as goal

abbrev pub invariant-loop-mention : goal.invariant-loop-mention
invariant-loop-mention l =
    (l.names ≡ map (λ (n : Name). n.text) (take l.mention-index l.mentions))
    × (l.least ≡ joined l.initial.least (refused l.cause (repeated (take l.mention-index l.mentions))))
