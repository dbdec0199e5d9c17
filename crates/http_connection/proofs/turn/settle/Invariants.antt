use Rattle.std.proofs.Common.{◌≡◌, ℕ, List, false, true}
use Rattle.std.specs.Prelude.{Option}
use Rattle.outside_traits.specs.Told.{WireTold}
use Rattle.http_connection.specs.Seen.{seen}
use Rattle.http_connection.specs.Talking.{log, IsTalking}
use Rattle.http_connection.specs.Stages.{stage_of, is_waiting}
use Rattle.http_connection.specs.Steps.{Called, MayHandOut, left_to_read}
use Rattle.http_connection.specs.declared.stage.Stage.TheVariants as Stages
use Rattle.http_connection.proofs.turn.settle.Given as goal

abbrev pub invariant-loop-wire : goal.invariant-loop-wire
invariant-loop-wire g l = record {
  hands : is_waiting l.kept.next ≡ false → MayHandOut l.kept.next;
  talks : (first : WireTold) (bodies : List (List ℕ)) (texts : List (Option (List ℕ)))
      → IsTalking first (seen l.fn.kept (g.W.Wire.told l.fn.wire)) bodies texts
      → IsTalking first (seen l.kept (g.W.Wire.told l.wire)) bodies texts;
  called : (first : WireTold) (bodies : List (List ℕ)) (texts : List (Option (List ℕ)))
      → IsTalking first (seen l.fn.kept (g.W.Wire.told l.fn.wire)) bodies texts
      → Called (g.W.Wire.told l.fn.wire).calls (g.W.Wire.told l.wire).calls (log l.fn.kept.read.items l.fn.kept.written.items bodies texts) (log l.kept.read.items l.kept.written.items bodies texts);
  ended : (first : WireTold) (bodies : List (List ℕ)) (texts : List (Option (List ℕ)))
      → IsTalking first (seen l.fn.kept (g.W.Wire.told l.fn.wire)) bodies texts
      → first.closed ≡ false → stage_of l.kept.next ≡ Stages.Ended → (g.W.Wire.told l.wire).ended ≡ true;
}

abbrev pub decreases-loop-wire : goal.decreases-loop-wire
decreases-loop-wire g l = left_to_read l.kept
