use Rattle.std.proofs.Common.{◌≡◌, ◌++◌, List, drop, map, option_map}
use Rattle.jolie_trees.specs.declared.root.Root.{Root}
use Rattle.behaviour_tree.specs.PartsView.{variable_view}
use Rattle.behaviour_tree.specs.View.{type_view}
use Rattle.office_core.specs.Keys.{all_there}
use Rattle.office_plain.specs.Lookups.{value_in}
use Rattle.office_plain.proofs.named.values_of.Given as goal

abbrev pub invariant-loop-variable : goal.invariant-loop-variable
invariant-loop-variable l =
    all_there (map (value_in (type_view l.ty) l.value) (map variable_view l.variables))
    ≡ option_map (λ (ys : List Root). l.values.items ++ ys)
    (all_there (map (value_in (type_view l.ty) l.value) (map variable_view (drop l.variable-index l.variables))))
