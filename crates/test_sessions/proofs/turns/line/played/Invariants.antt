-- The session stays seated.
use Rattle.test_seats.specs.Seats.{IsSeated}
use Rattle.test_sessions.proofs.turns.line.played.Given as goal

abbrev pub invariant-loop-line : goal.invariant-loop-line
invariant-loop-line l = record { seated : IsSeated l.seat }
