use Rattle.std.proofs.Common.{◌≡◌, ◌≤◌, ◌+◌, ◌-◌, true, length}
use Rattle.correlation.specs.Places.{is_rising, moved, searched}
use Rattle.correlation.proofs.Halving.{doubled, weight}
use Rattle.correlation.proofs.keys.search.Given as goal

abbrev pub invariant-loop-window : goal.invariant-loop-window
invariant-loop-window g l = record {
  rising : is_rising l.window ≡ true;
  place : searched l.initial.sought.values l.fn.rows ≡ moved l.before (searched l.initial.sought.values l.window);
  within : l.before + length l.window ≤ length l.fn.rows;
  same : l.sought.values ≡ l.initial.sought.values;
  counted : l.initial.sought.steps ≤ l.sought.steps;
  cost : doubled (l.sought.steps - l.initial.sought.steps) (weight (length l.window)) ≤ weight (length l.fn.rows);
}

abbrev pub decreases-loop-window : goal.decreases-loop-window
decreases-loop-window g l = length l.window
