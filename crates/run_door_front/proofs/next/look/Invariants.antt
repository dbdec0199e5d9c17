-- Doors and connections go on while nothing is posted.
use Rattle.std.proofs.Common.{◌≡◌}
use Rattle.run_door_front.specs.NextSteps.{Goes, going}
use Rattle.run_door_front.proofs.Looking.{left}
use Rattle.run_door_front.proofs.Turning.{HasTurned}
use Rattle.run_door_front.proofs.next.look.Given as goal

abbrev pub invariant-loop-opened : goal.invariant-loop-opened
invariant-loop-opened g l = record {
  goes : Goes (λ line. (wire : g.row.D-W.Denot) × (line ≡ (g.D.W.PollWire.told wire).wire)) l.most
      (going l.fn.doors l.fn.connections.items l.fn.opened.items l.fn.queue.items l.fn.traffics.items)
      (going l.doors l.connections.items l.opened.items l.queue.items l.traffics.items);
  turned : HasTurned (λ line. (wire : g.row.D-W.Denot) × (line ≡ (g.D.W.PollWire.told wire).wire)) l.most l.changed
      (going l.fn.doors l.fn.connections.items l.fn.opened.items l.fn.queue.items l.fn.traffics.items)
      (going l.doors l.connections.items l.opened.items l.queue.items l.traffics.items);
}

-- each turn but the last has somebody come or a connection end
abbrev pub decreases-loop-opened : goal.decreases-loop-opened
decreases-loop-opened g l = left l.most (going l.doors l.connections.items l.opened.items l.queue.items l.traffics.items)
