-- Each of the numbers is polled in turn.
use Rattle.std.proofs.Common.{sym, refl, subst, true≢false}
use Rattle.std.proofs.lemmas.List.{take_all}
use Rattle.run_door_front.specs.Moving.{HaveWaitedAt}
use Rattle.run_door_front.specs.NextSteps.{lined}
use Rattle.run_door_front.proofs.PollingOne.{polls-none, polls-step, polls-end, number_within}
use Rattle.run_door_front.proofs.Moving.{any-none, unpolled-step, moved-step, waited-step}
use Rattle.run_door_front.proofs.polling.poll_open.Goals as goal

pub loop-number-init : goal.loop-number-init
loop-number-init g c = record {
  polled = polls-none (lined c.args.connections.now.items c.args.queue.now.items);
  unpolled = λ k e. refl;
  moved = sym (any-none c.args.connections.now.items);
  waited = λ k e. absurd (true≢false (sym e));
}

pub poll_at-requires : goal.poll_at-requires
poll_at-requires g c =
    number_within c.args.connections.now.items c.loop-number.connections.items c.args.opened.now c.args.queue.now.items c.loop-number.number-index _
    c.requires c.loop-number.invariant.polled.goes c.loop-number-test.true

pub loop-number-preserved : goal.loop-number-preserved
loop-number-preserved g c =
    let at = c.loop-number in
    let x = lined c.args.connections.now.items c.args.queue.now.items in
    let y = lined at.connections.items at.queue.items in
    let z = lined c.poll_at.new.connections.items c.poll_at.new.queue.items in
    record {
      polled = polls-step c.args.opened.now at.number-index _ x y z c.loop-number-test.true at.invariant.polled c.in_ok-moved.ensures.0;
      unpolled = unpolled-step c.args.opened.now at.number-index _ x y z c.loop-number-test.true at.invariant.unpolled c.in_ok-moved.ensures.0;
      moved =
          moved-step c.args.opened.now c.args.queue.now.items at.number-index _ x y z at.moved _ c.requires c.loop-number-test.true at.invariant.unpolled
          c.in_ok-moved.ensures.0 at.invariant.moved c.in_ok-moved.ensures.1;
      waited =
          waited-step c.args.opened.now c.args.queue.now.items at.number-index _ x y z c.requires c.loop-number-test.true at.invariant.unpolled
          c.in_ok-moved.ensures.0 c.in_ok-moved.ensures.2 at.invariant.waited;
    }

pub returns : goal.returns
returns g c = (
  polls-end c.args.opened.now c.loop-number.number-index (lined c.args.connections.now.items c.args.queue.now.items)
      (lined c.loop-number.connections.items c.loop-number.queue.items) c.loop-number-test.false c.loop-number.invariant.polled,
  c.loop-number.invariant.moved,
  subst (λ ns. HaveWaitedAt ns c.args.connections.now.items c.loop-number.connections.items)
      (take_all c.loop-number.number-index c.args.opened.now c.loop-number-test.false) c.loop-number.invariant.waited,
)
