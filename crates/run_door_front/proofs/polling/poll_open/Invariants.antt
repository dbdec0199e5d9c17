use Rattle.std.proofs.Common.{◌≡◌, take}
use Rattle.run_door_front.specs.NextSteps.{Polls, lined}
use Rattle.run_door_front.specs.Moving.{any_moved, HaveWaitedAt}
use Rattle.run_door_front.proofs.Moving.{AreUnpolled}
use Rattle.run_door_front.proofs.polling.poll_open.Given as goal

abbrev pub invariant-loop-number : goal.invariant-loop-number
invariant-loop-number g l = record {
  polled : Polls (take l.number-index l.opened) (lined l.fn.connections.items l.fn.queue.items) (lined l.connections.items l.queue.items);
  unpolled : AreUnpolled (take l.number-index l.opened) l.fn.connections.items l.connections.items;
  moved : l.moved ≡ any_moved l.fn.connections.items l.connections.items;
  waited : HaveWaitedAt (take l.number-index l.opened) l.fn.connections.items l.connections.items;
}
