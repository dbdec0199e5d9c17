use Rattle.std.proofs.Common.{◌≡◌, ◌-◌, ◌<◌, ◌≤◌, ℕ, false, length, get_or}
use Rattle.frame_arena.specs.Entries.{Entry, entries}
use Rattle.frame_arena.proofs.row.next_row.Given as goal

abbrev pub invariant-loop-place : goal.invariant-loop-place
invariant-loop-place g l = record {
  start : l.initial.place ≤ l.place;
  dead : (d : Entry g.row.F.Denot g.row.K.Denot) (i : ℕ) → l.initial.place ≤ i → i < l.place → (get_or (entries l.fn.rows) i d).line.is_live ≡ false;
}

abbrev pub decreases-loop-place : goal.decreases-loop-place
decreases-loop-place g l = length l.fn.rows - l.place
