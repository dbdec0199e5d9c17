-- The list is read byte by byte.
use Rattle.std.proofs.Common.{◌∙◌, rules, ap, List, ℕ, None}
use Rattle.main_commands.proofs.Picks.{list_after, list_begins, over_comma, over_digit}
use Rattle.main_commands.proofs.numbers.picks_of.Goals.{then-byte-eq44+in-Some+in_ok-push, else-byte-eq44+in-Some-longer}
use Rattle.main_commands.proofs.numbers.picks_of.Goals as goal

pub loop-byte-init : goal.loop-byte-init
loop-byte-init c =
    ap (λ (picks : List ℕ). list_after picks None c.as_bytes-bytes.result.now) c.new-picks.ensures ∙ list_begins c.as_bytes-bytes.result.now

pub loop-byte-preserved : goal.loop-byte-preserved
loop-byte-preserved c = elim c.if-byte-eq44.branch [
  | then-byte-eq44+in-Some+in_ok-push w ↦
      over_comma c.as_bytes-bytes.result.now c.loop-byte.byte-index c.loop-byte-test.true c.loop-byte.picks c.loop-byte.begun c.loop-byte.invariant
      c.if-byte-eq44.picks c.if-byte-eq44.begun w.in-Some.pick (search rules) (search rules) (search rules) (search rules)
  | else-byte-eq44+in-Some-longer w ↦
      over_digit c.as_bytes-bytes.result.now c.loop-byte.byte-index c.loop-byte-test.true c.loop-byte.picks c.loop-byte.begun c.loop-byte.invariant
      c.if-byte-eq44.picks c.if-byte-eq44.begun w.unwrap_or.result w.in-Some-longer.number (search rules) w.unwrap_or.ensures (search rules) (search rules)
      (search rules)
]
