use Rattle.std.proofs.Common.{◌≡◌, ◌++◌, Some, length}
use Rattle.frame_arena.specs.Entries.{entries, new_entries}
use Rattle.frame_arena.proofs.row.grow.Given as goal

abbrev pub invariant-loop-i : goal.invariant-loop-i
invariant-loop-i g l = record {
  rows : entries l.rows.items ≡ entries l.fn.rows.items ++ new_entries (Some l.parent) l.first l.i;
  before : l.before ≡ length l.fn.rows.items;
}
