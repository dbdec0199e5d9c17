use Rattle.std.proofs.Common.{◌≡◌, ◌+◌, ◌<◌, ◌≤◌, Some, false, length}
use Rattle.std.specs.Prelude.{◌⊎◌}
use Rattle.check_types.specs.Circles.{Came, KnownOnWalk, StaysSeen, WalksBelow, is_unseen, mark_at, next_place, unseen}
use Rattle.check_types.proofs.circles.walk.Given as goal

abbrev pub invariant-loop-marks : goal.invariant-loop-marks
invariant-loop-marks l = record {
  place_in : l.place < length l.types;
  known : KnownOnWalk (next_place l.types) (length l.types) l.marks l.start (Some l.place);
  came : Came (next_place l.types) l.marks l.start l.step (Some l.place);
  walks : WalksBelow (l.start + 1) l.marks;
  counted : l.step + unseen l.marks ≤ length l.types;
  stays : StaysSeen l.initial.marks l.marks;
  start_seen : (l.place ≡ l.start) ⊎ (is_unseen (mark_at l.marks l.start) ≡ false);
}

abbrev pub decreases-loop-marks : goal.decreases-loop-marks
decreases-loop-marks l = unseen l.marks
