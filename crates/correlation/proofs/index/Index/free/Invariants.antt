use Rattle.std.proofs.Common.{◌≡◌, length}
use Rattle.correlation.proofs.KeySets.{IsFreed}
use Rattle.correlation.proofs.index.Index.free.Given as goal

abbrev pub invariant-loop-place : goal.invariant-loop-place
invariant-loop-place l = record {
  freed : IsFreed l.session l.place l.initial.self.sets.items l.self.sets.items;
  long : length l.self.sets.items ≡ length l.initial.self.sets.items;
}
