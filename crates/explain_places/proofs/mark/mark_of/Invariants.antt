use Rattle.std.proofs.Common.{◌≡◌, ◌++◌, drop}
use Rattle.std.specs.List.{filter_map}
use Rattle.explain_places.specs.Places.{blank_for}
use Rattle.explain_places.proofs.mark.mark_of.Given as goal

abbrev pub invariant-loop-byte : goal.invariant-loop-byte
invariant-loop-byte l = filter_map blank_for l.before ≡ l.mark.items ++ filter_map blank_for (drop l.byte-index l.before)
