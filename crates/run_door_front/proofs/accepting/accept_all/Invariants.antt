use Rattle.std.proofs.Common.{◌≡◌, take, drop, map}
use Rattle.run_door_front.specs.NextSteps.{Accepts, doorway}
use Rattle.run_door_front.specs.Rounds.{rests_of}
use Rattle.run_door_front.proofs.accepting.accept_all.Given as goal

abbrev pub invariant-loop-door : goal.invariant-loop-door
invariant-loop-door g l = record {
  unvisited : drop l.door-index l.doors ≡ drop l.door-index l.fn.doors;
  visited : Accepts (λ line. (wire : g.row.D-W.Denot) × (line ≡ (g.D.W.PollWire.told wire).wire)) l.most
      (doorway (take l.door-index l.fn.doors) l.fn.connections.items l.fn.opened.items)
      (doorway (take l.door-index l.doors) l.connections.items l.opened.items);
  rests : map rests_of l.doors ≡ map rests_of l.fn.doors;
}
