use Rattle.std.proofs.Common.{◌≡◌, map, drop}
use Rattle.std.specs.List.{position_from}
use Rattle.behaviour_tree.specs.Operations.{has_name}
use Rattle.behaviour_tree.specs.PartsView.{operation_view}
use Rattle.behaviour_tree.proofs.operations.place_named.Given as goal

abbrev pub invariant-loop-place : goal.invariant-loop-place
invariant-loop-place l = position_from (has_name l.name) 0 (map operation_view l.operations) ≡ position_from (has_name l.name) l.place (map operation_view (drop l.place l.operations))
