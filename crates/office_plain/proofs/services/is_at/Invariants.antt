use Rattle.std.proofs.Common.{◌≡◌, false, map, drop}
use Rattle.std.specs.Prelude.{bytes_eq, if◌then◌else◌}
use Rattle.std.specs.List.{list_any}
use Rattle.behaviour_tree.specs.Data.{PortPart}
use Rattle.behaviour_tree.specs.PartsView.{port_view}
use Rattle.office_plain.proofs.services.is_at.Given as goal

abbrev pub invariant-loop-port : goal.invariant-loop-port
invariant-loop-port l =
    list_any (λ (p : PortPart). if p.input then bytes_eq p.location l.location else false) (map port_view l.port-items)
    ≡ list_any (λ (p : PortPart). if p.input then bytes_eq p.location l.location else false)
    (map port_view (drop l.port-index l.port-items))
