use Rattle.std.proofs.Common.{◌≡◌, ◌-◌, [], ◌∷◌, length}
use Rattle.run_door_front.specs.NextSteps.{TakesIn, doorway}
use Rattle.run_door_front.proofs.accepting.accept_at.Given as goal

abbrev pub invariant-loop-alloc : goal.invariant-loop-alloc
invariant-loop-alloc g l = record {
  takes : TakesIn (λ line. (wire : g.row.D-W.Denot) × (line ≡ (g.D.W.PollWire.told wire).wire)) l.most
      (doorway (l.fn.door ∷ []) l.fn.connections.items l.fn.opened.items) (doorway (l.door ∷ []) l.connections.items l.opened.items);
  rests : l.door.door.rests ≡ l.fn.door.door.rests;
}

abbrev pub decreases-loop-alloc : goal.decreases-loop-alloc
decreases-loop-alloc g l = l.most - length l.connections.items
