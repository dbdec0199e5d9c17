-- Of a port that is no door none is opened.
use Rattle.std.proofs.Common.{sym, subst, ◌∙◌}
use Rattle.behaviour_tree.specs.PartsView.{port_view}
use Rattle.run_doors.specs.Steps.{Opens, opened_by}
use Rattle.run_doors.proofs.Openings.{no_door_at, opens_none}
use Rattle.run_doors.proofs.opening.open_port.Goals as goal

pub returns-then-not-is_door : goal.returns-then-not-is_door
returns-then-not-is_door g c =
    let before = opened_by (g.D.Doors.told c.args.doors.now)
    c.args.opening.now.ports.items c.args.opening.now.failed in
    subst (λ places. Opens places before before)
    (sym (no_door_at c.args.number (port_view c.args.port.now) (sym c.is_door.ensures ∙ c.if-not-is_door.true)))
    (opens_none before)
