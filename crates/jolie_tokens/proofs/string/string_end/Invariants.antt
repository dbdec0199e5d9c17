use Rattle.std.proofs.Common.{◌≡◌, drop}
use Rattle.jolie_tokens.specs.Fronts.{string_end_from, string_end}
use Rattle.jolie_tokens.proofs.string.string_end.Given as goal

abbrev pub invariant-loop-i : goal.invariant-loop-i
invariant-loop-i l = string_end l.after ≡ string_end_from l.escaped l.i (drop l.i l.after)
