-- The first door that has not ended is rested at.
use Rattle.std.proofs.Common.{refl, sym, ◌∙◌}
use Rattle.std.proofs.lemmas.List.{set-get_or}
use Rattle.run_door_front.proofs.Resting.{done-next, rested-here, rested-nowhere}
use Rattle.run_door_front.proofs.next.rest_at_open.Goals as goal

pub loop-door-init : goal.loop-door-init
loop-door-init g c = record { same = refl; done = refl }

pub loop-door-preserved : goal.loop-door-preserved
loop-door-preserved g c = record {
  same = set-get_or c.loop-door.doors c.loop-door.door-index c.door-item.result ∙ c.loop-door.invariant.same;
  done =
      done-next c.args.doors.now c.loop-door.doors c.loop-door.door-index c.door-item.result c.loop-door.invariant.same c.loop-door-test.true
      c.loop-door.invariant.done (sym c.has_ended.ensures ∙ c.if-not-has_ended.false);
}

pub returns-then-not-has_ended : goal.returns-then-not-has_ended
returns-then-not-has_ended g c =
    rested-here c.args.doors.now c.loop-door.doors c.loop-door.door-index c.door-item.result c.rest.new.self c.loop-door.invariant.same
    c.loop-door-test.true c.loop-door.invariant.done (sym c.has_ended.ensures ∙ c.if-not-has_ended.true) c.rest.ensures

pub returns : goal.returns
returns g c =
    rested-nowhere c.args.doors.now c.loop-door.doors c.loop-door.door-index c.loop-door.invariant.same c.loop-door-test.false
    c.loop-door.invariant.done
