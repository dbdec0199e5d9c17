use Rattle.std.proofs.Common.{◌≡◌, ◌+◌, ◌≤◌, length}
use Rattle.check_types.specs.Circles.{AllSeen, Known, WalksBelow, next_place, unseen}
use Rattle.check_types.proofs.circles.Circles.of.Given as goal

abbrev pub invariant-loop-place : goal.invariant-loop-place
invariant-loop-place l = record {
  same_length : length l.marks.items ≡ length l.types;
  known : Known (next_place l.types) (length l.types) l.marks.items;
  walks : WalksBelow l.place l.marks.items;
  counted : l.seen + unseen l.marks.items ≤ length l.types;
  seen : AllSeen l.place l.marks.items;
}
