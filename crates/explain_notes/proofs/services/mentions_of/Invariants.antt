use Rattle.std.proofs.Common.{◌≡◌, take, flat_map}
use Rattle.explain_notes.specs.Services.{clause_mentions}
use Rattle.explain_notes.proofs.services.mentions_of.Given as goal

abbrev pub invariant-loop-clause : goal.invariant-loop-clause
invariant-loop-clause l = l.mentions ≡ flat_map clause_mentions (take l.clause-index l.clause-items)
