-- A door is opened, or it can't be.
use Rattle.std.proofs.Common.{ap, ◌∙◌, ◌++◌, ◌∷◌, []}
use Rattle.run_doors.specs.Steps.{door_to}
use Rattle.run_doors.proofs.Openings.{port_opened, opens_one, opens_failed}
use Rattle.run_doors.proofs.opening.open_at.Goals as goal

pub returns-in_ok-push-in-Ok : goal.returns-in_ok-push-in-Ok
returns-in_ok-push-in-Ok g c =
    opens_one (door_to c.args.number c.args.location.now)
    (g.D.Doors.told c.args.doors.now)
    (g.D.Doors.told c.open.new.self)
    c.args.opening.now.ports.items c.args.opening.now.failed c.push.new.self.items
    c.in-Ok.ensures.opened c.in-Ok.ensures.listed c.open.ensures.returned c.open.ensures.returned_doors c.in-Ok.ensures.cause.unfailed
    (c.in_ok-push-in-Ok.ensures.items
    ∙ ap (λ p. c.args.opening.now.ports.items ++ p ∷ [])
    (port_opened c.args.number (g.D.Doors.told c.args.doors.now).tally.opened c.args.location.now c.new.result _ c.new.ensures c.in-Ok.ensures.untried))

pub returns-in-Err : goal.returns-in-Err
returns-in-Err g c =
    opens_failed (door_to c.args.number c.args.location.now)
    (g.D.Doors.told c.args.doors.now)
    (g.D.Doors.told c.open.new.self)
    c.args.opening.now.ports.items c.args.opening.now.failed
    c.in-Err.ensures.unopened c.in-Err.ensures.listed c.open.ensures.returned c.open.ensures.returned_doors c.in-Err.ensures.cause.failed
