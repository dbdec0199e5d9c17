use Rattle.std.proofs.Common.{◌≡◌, ◌++◌, map, drop}
use Rattle.jolie_tokens.specs.Pieces as p
use Rattle.jolie_tokens.specs.Fronts.{meant, parts_from}
use Rattle.jolie_tokens.proofs.string.meant_bytes.Given as goal

abbrev pub invariant-loop-byte : goal.invariant-loop-byte
invariant-loop-byte l = meant l.inside ≡ l.meant.items ++ map p.meant (parts_from l.escaped (drop l.byte-index l.inside))
