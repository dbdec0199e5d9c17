use Rattle.std.proofs.Common.{◌≡◌, drop, map}
use Rattle.std.specs.List.{list_any}
use Rattle.behaviour_tree.specs.PartsView.{variable_view}
use Rattle.behaviour_tree.specs.View.{type_view}
use Rattle.office_plain.specs.Lookups.{has_alias}
use Rattle.office_plain.proofs.named.is_in.Given as goal

abbrev pub invariant-loop-variable : goal.invariant-loop-variable
invariant-loop-variable l =
    list_any (has_alias (type_view l.ty)) (map variable_view l.variables)
    ≡ list_any (has_alias (type_view l.ty)) (map variable_view (drop l.variable-index l.variables))
