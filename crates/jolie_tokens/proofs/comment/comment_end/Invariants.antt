use Rattle.std.proofs.Common.{◌≡◌, ◌<◌, drop, true}
use Rattle.jolie_tokens.specs.Fronts.{comment_end_from, comment_end}
use Rattle.jolie_tokens.proofs.comment.comment_end.Given as goal

abbrev pub invariant-loop-i : goal.invariant-loop-i
invariant-loop-i l = (comment_end l.after ≡ comment_end_from l.starred l.i (drop l.i l.after)) × (l.starred ≡ true → 0 < l.i)
