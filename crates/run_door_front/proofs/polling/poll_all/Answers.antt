-- Those that are open stay among the numbers.
use Rattle.std.proofs.Common.{sym, ap, subst}
use Rattle.run_door_front.specs.Keeping.{is_open_there, IsOrdered}
use Rattle.run_door_front.specs.NextSteps.{Polls, lined}
use Rattle.run_door_front.specs.Moving.{HaveWaitedAt}
use Rattle.run_door_front.proofs.PollingOne.{polls-all}
use Rattle.run_door_front.proofs.Moving.{waited-all}
use Rattle.run_door_front.proofs.polling.poll_all.Goals as goal

pub poll_open-requires : goal.poll_open-requires
poll_open-requires g c = subst (λ ns. IsOrdered c.args.connections.now.items ns c.args.queue.now.items) (sym c.as_slice.ensures.value) c.requires

pub returns : goal.returns
returns g c = (
  polls-all (is_open_there c.deref.result.now) c.args.connections.now.items c.poll_open.new.connections.items c.args.opened.now.items c.keep_open.new.numbers.items
      c.args.queue.now.items c.poll_open.new.queue.items (λ k. ap (λ ls. is_open_there ls k) c.deref.ensures.value) c.keep_open.ensures c.requires
      (subst (λ ns. Polls ns (lined c.args.connections.now.items c.args.queue.now.items) (lined c.poll_open.new.connections.items c.poll_open.new.queue.items))
      c.as_slice.ensures.value c.in_ok-moved.ensures.0),
  c.in_ok-moved.ensures.1,
  waited-all c.args.connections.now.items c.poll_open.new.connections.items c.args.opened.now.items c.args.queue.now.items c.requires
      c.in_ok-moved.ensures.0.goes
      (subst (λ ns. HaveWaitedAt ns c.args.connections.now.items c.poll_open.new.connections.items) c.as_slice.ensures.value c.in_ok-moved.ensures.2),
)
