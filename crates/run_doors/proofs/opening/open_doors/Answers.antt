-- One service after another.
use Rattle.std.proofs.Common.{◌≡◌, ◌<◌, [], false, sym, subst, length, map, get_or}
use Rattle.behaviour_tree.specs.PartsView.{port_view, shared_by}
use Rattle.run_doors.specs.Steps.{Opens, doors_at, opened_by}
use Rattle.run_doors.proofs.Openings.{opens_none, opens_service}
use Rattle.run_doors.proofs.opening.open_doors.Goals as goal

pub loop-place-init : goal.loop-place-init
loop-place-init g c =
    let before = g.D.Doors.told c.args.doors.now in
    subst (λ ps. Opens [] (opened_by before [] false) (opened_by before ps false)) (sym c.new.ensures.items) (opens_none (opened_by before [] false))

pub loop-place-preserved : goal.loop-place-preserved
loop-place-preserved g c =
    let services = (shared_by c.args.program.now).services.items in
    let same : c.services-services.result.now ≡ (shared_by c.args.program.now).services.items = c.services-services.ensures.shared in
    let number : c.numbered-number.result ≡ c.loop-place.place = c.numbered-number.ensures in
    opens_service services c.loop-place.place c.index-services-place.result
    (subst (λ l. c.loop-place.place < length l) same c.loop-place-test.true)
    (subst (λ l. c.index-services-place.result ≡ get_or l c.loop-place.place c.index-services-place.result) same c.index-services-place.is)
    (opened_by (g.D.Doors.told c.args.doors.now) [] false)
    (opened_by (g.D.Doors.told c.loop-place.doors)
    c.loop-place.opening.ports.items c.loop-place.opening.failed)
    (opened_by (g.D.Doors.told c.open_service.new.doors)
    c.open_service.new.opening.ports.items c.open_service.new.opening.failed)
    c.loop-place.invariant
    (subst (λ n. Opens (doors_at n (map port_view c.index-services-place.result.ports.items))
    (opened_by (g.D.Doors.told c.loop-place.doors)
    c.loop-place.opening.ports.items c.loop-place.opening.failed)
    (opened_by (g.D.Doors.told c.open_service.new.doors)
    c.open_service.new.opening.ports.items c.open_service.new.opening.failed)) number c.in_ok-open_service.ensures)
