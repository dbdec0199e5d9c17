use Rattle.std.proofs.Common.{◌<◌, length, arith, ◌∙◌}
use Rattle.jolie_tokens.proofs.Scans.{string_skip, string_more}
use Rattle.jolie_tokens.proofs.string.string_end.Goals as goal
use Rattle.jolie_tokens.proofs.string.string_end.Goals.{then-escaped, else-escaped+else-byte-eq34}

pub loop-i-preserved : goal.loop-i-preserved
loop-i-preserved c =
    let within : c.loop-i.i < length c.args.after.now = omega arith in
    elim c.if-escaped.branch [
      | then-escaped w ↦ rw w.escaped-is (c.loop-i.invariant ∙ string_skip c.loop-i.escaped c.loop-i.i c.args.after.now within w.if-escaped.true)
      | else-escaped+else-byte-eq34 w ↦ rw w.escaped-is (c.loop-i.invariant ∙ string_more c.loop-i.escaped c.loop-i.i c.args.after.now within w.if-escaped.false (grind arith))
    ]
