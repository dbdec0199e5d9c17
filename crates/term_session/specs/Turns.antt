-- These definitions serve the proofs alone: no promise speaks of them.
-- What a turn of a strand sees, and what it came to.
use Rattle.std.specs.Prelude.{Option, None, Some}
use Rattle.std.specs.Arc.{arc_value}
use Rattle.session_calculus.specs.Moves.{Seen, Move, moved_to}
use Rattle.session_calculus.specs.Terms.{Term}
use Rattle.session_events.specs.Seen.{seen_by, made_with, moved_view}
use Rattle.session_events.specs.declared.event.Acted as acted
use Rattle.session_events.specs.declared.event.Moved.{Moved}
use Rattle.session_values.specs.declared.memory.Memory.{Memory}
use Rattle.session_forms.specs.View.{fault_view}
use Rattle.session_forms.specs.declared.installed.Installed.{Installed}
use Rattle.term_session.specs.Walks.{Walked, stuck, faulted, went}
use Rattle.term_session.specs.declared.turn.Turn.{Turn}
use Rattle.term_session.specs.declared.turn.Walked as walked

-- what is seen in a turn, where the nearest scope and the memory of the session are these
abbrev pub seen_at : Turn → Installed → Memory → Seen
seen_at t h m = seen_by t.actor t.given.now h m

-- an event that came, with the nearest scope and the memory as they are then
abbrev pub moved_at : Moved → Installed → Memory → Move Term
moved_at x h m = moved_view x h m

-- what a turn came to, with what stands there and what is seen then
abbrev pub walked_view : {A : Type 0} → Turn → walked.Walked → A → Installed → Memory → Walked A
walked_view t walked.TheVariants.Stuck x h m = stuck x (seen_at t h m)
walked_view t (walked.TheVariants.Faulted f) x h m = faulted (fault_view (arc_value f)) x (seen_at t h m)
walked_view t (walked.TheVariants.Went e n) x h m = went (moved_to x (made_with h m e n.value))

-- the event of a form, if it came; else the form stays
abbrev pub event_at : Turn → Option Moved → Term → Installed → Memory → Walked Term
event_at t None x h m = stuck x (seen_at t h m)
event_at t (Some e) x h m = went (moved_at e h m)

-- what acting at a place came to; the form stays where no event came
abbrev pub came_to : Turn → acted.Acted → Term → Installed → Memory → Walked Term
came_to t acted.TheVariants.Stuck x h m = stuck x (seen_at t h m)
came_to t (acted.TheVariants.Faulted f) x h m = faulted (fault_view (arc_value f)) x (seen_at t h m)
came_to t (acted.TheVariants.Moved e) x h m = went (moved_at e h m)
