use Rattle.std.proofs.Common.{◌≡◌, ◌<◌, ◌≤◌, Some, length}
use Rattle.std.specs.Prelude.{◌⊎◌}
use Rattle.check_types.specs.declared.circles.Mark.TheVariants.{Circle}
use Rattle.check_types.specs.Circles.{KnownOnRound, OnlyCircles, mark_at, next_place, steps_on, unseen}
use Rattle.check_types.proofs.circles.go_round.Given as goal

abbrev pub invariant-loop-step : goal.invariant-loop-step
invariant-loop-step l = record {
  place_in : l.place < length l.types;
  here : steps_on (next_place l.types) l._step l.start ≡ Some l.place;
  known : KnownOnRound (next_place l.types) (length l.types) l.marks l.start l.place;
  first : (l._step ≡ 0) ⊎ (mark_at l.marks l.start ≡ Circle);
  only : OnlyCircles l.initial.marks l.marks;
  counted : unseen l.marks ≤ unseen l.initial.marks;
}
