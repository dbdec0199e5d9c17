-- One door after another.
use Rattle.std.proofs.Common.{map}
use Rattle.std.specs.List.{list_any}
use Rattle.std.specs.Vec.Iter.{into_iter_items, into_iter_len}
use Rattle.run_theorem.specs.Used.{has_failed}
use Rattle.run_doors.specs.Steps.{door_of}
use Rattle.run_doors.proofs.Telling.{doors_on, doors_end, failed_on, left_on, none_left}
use Rattle.run_doors.proofs.giving_back.doors_back.Goals as goal

pub loop-port-preserved : goal.loop-port-preserved
loop-port-preserved g c =
    let at = c.loop-port in
    let old = into_iter_items at.port-iterator in
    let rest = into_iter_items c.next.new.self in
    let steps = c.in-Some.ensures.steps in
    record {
      same =
          failed_on at.failed c.door_back-failed.result (list_any has_failed (map door_of c.args.ports.items)) c.in-Some.port old rest
          steps.0 c.door_back-failed.ensures.failed at.invariant.same;
      doors =
          doors_on (map door_of c.args.ports.items)
          (g.D.Doors.told c.args.doors.now)
          (g.D.Doors.told at.doors)
          (g.D.Doors.told c.door_back-failed.new.doors)
          c.in-Some.port old rest steps.0 at.invariant.doors c.door_back-failed.ensures.doors;
      left = left_on c.in-Some.port old rest (into_iter_len at.port-iterator) (into_iter_len c.next.new.self) steps.0 steps.1 at.invariant.left;
    }

pub returns-clause-doors : goal.returns-clause-doors
returns-clause-doors g c =
    doors_end (map door_of c.args.ports.items)
    (g.D.Doors.told c.args.doors.now)
    (g.D.Doors.told c.loop-port.doors)
    (into_iter_items c.loop-port.port-iterator)
    (none_left (into_iter_items c.loop-port.port-iterator) (into_iter_len c.loop-port.port-iterator) c.in-None.ensures.steps.0 c.loop-port.invariant.left)
    c.loop-port.invariant.doors
