-- One port after another.
use Rattle.std.proofs.Common.{◌≡◌, ◌<◌, rules, subst, length, get_or}
use Rattle.run_doors.specs.Steps.{opened_by}
use Rattle.run_doors.proofs.Openings.{opens_none, opens_port}
use Rattle.run_doors.proofs.opening.open_service.Goals as goal

pub loop-port-init : goal.loop-port-init
loop-port-init g c =
    opens_none (opened_by (g.D.Doors.told c.args.doors.now)
    c.args.opening.now.ports.items c.args.opening.now.failed)

pub loop-port-preserved : goal.loop-port-preserved
loop-port-preserved g c =
    let same : c.deref-port-items.result.now ≡ c.args.service.now.ports.items = search rules in
    opens_port c.args.number c.args.service.now.ports.items c.loop-port.port-index c.port-item.result
    (subst (λ l. c.loop-port.port-index < length l) same c.loop-port-test.true)
    (subst (λ l. c.port-item.result ≡ get_or l c.loop-port.port-index c.port-item.result) same c.port-item.is)
    (opened_by (g.D.Doors.told c.args.doors.now)
    c.args.opening.now.ports.items c.args.opening.now.failed)
    (opened_by (g.D.Doors.told c.loop-port.doors)
    c.loop-port.opening.ports.items c.loop-port.opening.failed)
    (opened_by (g.D.Doors.told c.open_port.new.doors)
    c.open_port.new.opening.ports.items c.open_port.new.opening.failed)
    c.loop-port.invariant c.in_ok-open_port.ensures
