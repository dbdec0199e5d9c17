-- One connection after another.
use Rattle.std.proofs.Common.{refl}
use Rattle.run_door_front.proofs.Drained.{left_as_was, written-step, writing-step, moving-step, writes-end}
use Rattle.run_door_front.proofs.draining.write_all.Goals as goal

pub loop-connection-init : goal.loop-connection-init
loop-connection-init g c = record { unvisited = refl; writes = refl; moved = refl; written = tt }

pub loop-connection-preserved : goal.loop-connection-preserved
loop-connection-preserved g c =
    let at = c.loop-connection in
    let before = c.args.connections.now in
    record {
      unvisited = left_as_was before at.connections at.connection-index c.write_on.new.self at.invariant.unvisited;
      writes =
          writing-step before at.connections at.connection-index c.write_on.new.self at.writes _ c.loop-connection-test.true at.invariant.unvisited
          at.invariant.writes c.in_ok-wrote.ensures.0;
      moved =
          moving-step before at.connections at.connection-index c.connection-item.result c.write_on.new.self at.moved _ c.loop-connection-test.true
          at.invariant.unvisited at.invariant.written at.invariant.moved c.in_ok-wrote.ensures.1;
      written =
          written-step before at.connections at.connection-index c.connection-item.result c.write_on.new.self c.loop-connection-test.true
          at.invariant.unvisited at.invariant.written c.in_ok-wrote.ensures.2;
    }

pub returns : goal.returns
returns g c =
    writes-end c.args.connections.now c.loop-connection.connections c.loop-connection.connection-index c.loop-connection.writes c.loop-connection.moved
    c.loop-connection-test.false c.loop-connection.invariant.unvisited c.loop-connection.invariant.writes c.loop-connection.invariant.moved
    c.loop-connection.invariant.written
