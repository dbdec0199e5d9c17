use Rattle.std.proofs.Common.{◌≡◌, map, drop}
use Rattle.std.specs.List.{position_from}
use Rattle.behaviour_tree.specs.PartsView.{service_view}
use Rattle.office_core.specs.Accepted.{is_at}
use Rattle.office_plain.proofs.services.place_at.Given as goal

abbrev pub invariant-loop-place : goal.invariant-loop-place
invariant-loop-place l =
    position_from (is_at l.location) 0 (map service_view l.services)
    ≡ position_from (is_at l.location) l.place (map service_view (drop l.place l.services))
