-- Each door is tried in turn.
use Rattle.std.proofs.Common.{refl, ◌∙◌}
use Rattle.run_door_front.proofs.Coming.{accepts-none, accepts-step, accepts-end, unvisited-step, rests-set}
use Rattle.run_door_front.proofs.accepting.accept_all.Goals as goal

pub loop-door-init : goal.loop-door-init
loop-door-init g c = record {
  unvisited = refl;
  visited = accepts-none _ c.args.most c.args.connections.now.items c.args.opened.now.items;
  rests = refl;
}

pub loop-door-preserved : goal.loop-door-preserved
loop-door-preserved g c = record {
  unvisited =
      unvisited-step c.args.doors.now c.loop-door.doors c.loop-door.door-index c.accept_at.new.door c.loop-door.invariant.unvisited;
  visited =
      accepts-step _ c.args.most c.args.doors.now c.loop-door.doors c.loop-door.door-index c.door-item.result c.accept_at.new.door c.args.connections.now.items
      c.loop-door.connections.items c.accept_at.new.connections.items c.args.opened.now.items c.loop-door.opened.items c.accept_at.new.opened.items
      c.loop-door-test.true c.loop-door.invariant.unvisited c.loop-door.invariant.visited c.in_ok-accept_at.ensures.0;
  rests =
      rests-set c.loop-door.doors c.loop-door.door-index c.door-item.result c.accept_at.new.door c.in_ok-accept_at.ensures.1 ∙ c.loop-door.invariant.rests;
}

pub returns : goal.returns
returns g c = (
  accepts-end _ c.args.most c.args.doors.now c.loop-door.doors c.loop-door.door-index c.args.connections.now.items c.loop-door.connections.items
      c.args.opened.now.items c.loop-door.opened.items c.loop-door-test.false c.loop-door.invariant.unvisited c.loop-door.invariant.visited,
  c.loop-door.invariant.rests,
)
