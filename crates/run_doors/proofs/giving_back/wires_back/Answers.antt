-- One wire after another.
use Rattle.std.proofs.Common.{ap, ◌∙◌, ◌++◌, map}
use Rattle.std.specs.Vec.Iter.{into_iter_items, into_iter_len}
use Rattle.run_doors.specs.Steps.{traffic_of, wire_of}
use Rattle.run_doors.proofs.Telling.{wires_on, wires_end, traffic_on, left_on, none_left}
use Rattle.run_doors.proofs.giving_back.wires_back.Goals as goal

pub loop-connection-preserved : goal.loop-connection-preserved
loop-connection-preserved g c =
    let at = c.loop-connection in
    let old = into_iter_items at.connection-iterator in
    let rest = into_iter_items c.next.new.self in
    let steps = c.in-Some.ensures.steps in
    record {
      same =
          ap (λ l. l ++ map traffic_of rest) c.in_ok-push.ensures.ok
          ∙ traffic_on at.traffic (map traffic_of c.args.connections.items) c.wire_back-passed.result c.in-Some.connection old rest
          steps.0 c.wire_back-passed.ensures.traffic at.invariant.same;
      doors =
          wires_on (map wire_of c.args.connections.items)
          (g.D.Doors.told c.args.doors.now)
          (g.D.Doors.told at.doors)
          (g.D.Doors.told c.wire_back-passed.new.doors)
          c.in-Some.connection old rest steps.0 at.invariant.doors c.wire_back-passed.ensures.doors;
      left = left_on c.in-Some.connection old rest (into_iter_len at.connection-iterator) (into_iter_len c.next.new.self) steps.0 steps.1 at.invariant.left;
    }

pub returns-clause-doors : goal.returns-clause-doors
returns-clause-doors g c =
    wires_end (map wire_of c.args.connections.items)
    (g.D.Doors.told c.args.doors.now)
    (g.D.Doors.told c.loop-connection.doors)
    (into_iter_items c.loop-connection.connection-iterator)
    (none_left (into_iter_items c.loop-connection.connection-iterator) (into_iter_len c.loop-connection.connection-iterator) c.in-None.ensures.steps.0 c.loop-connection.invariant.left)
    c.loop-connection.invariant.doors
