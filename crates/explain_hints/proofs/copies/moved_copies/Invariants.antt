use Rattle.std.proofs.Common.{◌≡◌, map, take}
use Rattle.explain_hints.specs.Short.{moved}
use Rattle.explain_hints.proofs.copies.moved_copies.Given as goal

abbrev pub invariant-loop-token : goal.invariant-loop-token
invariant-loop-token l = l.copies ≡ map (moved l.by) (take l.token-index l.tokens)
