use Rattle.std.proofs.Common.{take}
use Rattle.explain_hints.specs.MayStand.{AreKept, IsTold}
use Rattle.explain_hints.proofs.found.told_among.Given as goal

abbrev pub invariant-loop-hint : goal.invariant-loop-hint
invariant-loop-hint l = AreKept (IsTold l.prefix.text l.prefix.at) (take l.hint-index l.hints) l.told.items
