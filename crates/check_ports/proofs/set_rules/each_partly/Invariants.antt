use Rattle.std.proofs.Common.{◌≡◌, flat_map, map, take}
use Rattle.check_base.specs.Least.{joined}
use Rattle.check_ports.specs.SetRules.{partly_among}
use Rattle.check_ports.proofs.set_rules.each_partly.Given as goal

abbrev pub invariant-loop-ty : goal.invariant-loop-ty
invariant-loop-ty l = l.least ≡ joined l.initial.least (flat_map (partly_among l.tables) (map (λ n. n.now) (take l.ty-index l.types)))
