use Rattle.std.proofs.Common.{◌≡◌, ◌++◌, List, drop, map, option_map}
use Rattle.jolie_trees.specs.declared.root.Root.{Root}
use Rattle.correlation.specs.Sessions.{all_there, value_of}
use Rattle.correlation.proofs.session.Values.of_all.Given as goal

abbrev pub invariant-loop-variable : goal.invariant-loop-variable
invariant-loop-variable l =
    all_there (map (value_of l.self) l.variables)
    ≡ option_map (λ (ys : List Root). l.values.items ++ ys) (all_there (map (value_of l.self) (drop l.variable-index l.variables)))
