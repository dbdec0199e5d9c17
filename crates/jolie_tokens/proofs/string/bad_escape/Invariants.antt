use Rattle.std.proofs.Common.{◌≡◌, ◌<◌, drop, true}
use Rattle.jolie_tokens.specs.Fronts.{bad_escape_from, bad_escape}
use Rattle.jolie_tokens.proofs.string.bad_escape.Given as goal

abbrev pub invariant-loop-i : goal.invariant-loop-i
invariant-loop-i l = (bad_escape l.inside ≡ bad_escape_from l.escaped l.i (drop l.i l.inside)) × (l.escaped ≡ true → 0 < l.i)
