-- Rest after rest, until no text goes out any more, nothing moved for too long or there were as many as may be.
use Rattle.std.proofs.Common.{refl, sym, ◌∙◌, arith, inl, inr}
use Rattle.run_door_front.proofs.Drained.{draining-none, draining-more, draining-written, draining-through, draining-halted}
use Rattle.run_door_front.proofs.draining.drain.Goals as goal

pub returns-then-halted : goal.returns-then-halted
returns-then-halted g c = draining-halted c.args.doors.now c.args.connections.now c.args.halted c.if-halted.true

pub loop-writes-init : goal.loop-writes-init
loop-writes-init g c = draining-none _ c.args.doors.now c.args.connections.now refl

pub returns-then-not-writes : goal.returns-then-not-writes
returns-then-not-writes g c =
    draining-written c.loop-writes.left c.loop-writes.still c.args.doors.now c.loop-writes.doors c.args.connections.now c.loop-writes.connections c.write_all.new.connections
    c.loop-writes.invariant c.in_ok-writes.ensures.2 _ c.in_ok-writes.ensures.1 c.args.halted c.if-halted.false _ c.in_ok-writes.ensures.0 c.if-not-writes.true

pub returns-then-left-eq0 : goal.returns-then-left-eq0
returns-then-left-eq0 g c =
    draining-through c.loop-writes.left c.loop-writes.still c.args.doors.now c.loop-writes.doors c.args.connections.now c.loop-writes.connections c.write_all.new.connections
    c.loop-writes.invariant c.in_ok-writes.ensures.2 _ c.in_ok-writes.ensures.1 c.args.halted c.if-halted.false
    (elim c.then-left-eq0.branch [
      | goal.then-left-eq0-via-then-left-eq0 x ↦ inl x.if-left-eq0.true
      | goal.then-left-eq0-via-else-left-eq0+then-is_quiet x ↦ inr (sym x.is_quiet.ensures ∙ x.if-is_quiet.true)
    ])

-- there are not so many in a row that one more is no number
pub still_after-still-requires : goal.still_after-still-requires
still_after-still-requires g c = let bound = c.loop-writes.invariant.bound in omega (arith, bound)

pub loop-writes-preserved : goal.loop-writes-preserved
loop-writes-preserved g c =
    draining-more c.loop-writes.left c.loop-writes.still c.args.doors.now c.loop-writes.doors c.args.connections.now c.loop-writes.connections c.write_all.new.connections
    c.loop-writes.invariant c.in_ok-writes.ensures.2 _ c.in_ok-writes.ensures.1 _ c.is_quiet.ensures c.if-is_quiet.false
    (λ e. absurd (omega (arith, e, c.if-left-eq0.false))) _ c.in_ok-writes.ensures.0 c.if-not-writes.false c.rest.new.doors c.rest.ensures _ c.still_after-still.ensures

pub loop-writes-smaller : goal.loop-writes-smaller
loop-writes-smaller g c = omega (arith, c.if-left-eq0.false)
