-- All doors before this one have ended.
use Rattle.std.proofs.Common.{◌≡◌, true, take}
use Rattle.std.specs.List.{list_all}
use Rattle.run_door_front.proofs.Resting.{is_done}
use Rattle.run_door_front.proofs.next.rest_at_open.Given as goal

abbrev pub invariant-loop-door : goal.invariant-loop-door
invariant-loop-door g l = record {
  same : l.doors ≡ l.fn.doors;
  done : list_all is_done (take l.door-index l.fn.doors) ≡ true;
}
