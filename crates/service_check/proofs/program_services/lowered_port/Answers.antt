use Rattle.std.proofs.Common.{map, ap, ◌∙◌}
use Rattle.check_base.specs.Files.{place_in}
use Rattle.service_check.specs.KeptPorts.{sided, texts_in}
use Rattle.service_check.proofs.PartsMade.{port_made}
use Rattle.service_check.proofs.program_services.lowered_port.Goals as goal

pub returns : goal.returns
returns c =
    port_made c.args.interfaces.now (sided c.args.side.now) _ _ _
    (c.name.view_is ∙ c.in_ok-name.ensures)
    c.in_ok-location.ensures
    (c.in_ok-places_in.ensures ∙ ap (λ ns. map (place_in c.args.interfaces.now) (texts_in ns)) c.as_slice.ensures)
