use Rattle.std.proofs.Common.{◌≡◌, drop}
use Rattle.correlation.specs.Index.{keys_of}
use Rattle.correlation.proofs.index.Index.find.Given as goal

abbrev pub invariant-loop-keys : goal.invariant-loop-keys
invariant-loop-keys g l = record {
  keys : keys_of l.self.sets.items l.set ≡ keys_of (drop l.keys-index l.keys-items) l.set;
  steps : l.sought ≡ l.initial.sought;
}
