use Rattle.std.proofs.Common.{◌-◌, ◌<◌, ◌≤◌, ℕ, length, get_or}
use Rattle.frame_arena.specs.Entries.{entries, numbers}
use Rattle.frame_arena.proofs.row.place_of.Given as goal

abbrev pub invariant-loop-low : goal.invariant-loop-low
invariant-loop-low g l = record {
  order : l.low ≤ l.high;
  within : l.high ≤ length l.fn.rows;
  before : (i : ℕ) → i < l.low → get_or (numbers (entries l.fn.rows)) i 0 < l.fn.number;
  after : (i : ℕ) → l.high ≤ i → i < length (numbers (entries l.fn.rows)) → l.fn.number ≤ get_or (numbers (entries l.fn.rows)) i 0;
}

abbrev pub decreases-loop-low : goal.decreases-loop-low
decreases-loop-low g l = l.high - l.low
