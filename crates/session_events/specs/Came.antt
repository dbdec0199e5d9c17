-- What acting at a place comes to.
use Rattle.std.specs.Prelude.{ℕ, Option, None, Some}
use Rattle.std.specs.Arc.{arc_value}
use Rattle.behaviour_tree.specs.declared.words.Given.{Given}
use Rattle.behaviour_tree.specs.Data.{Proc}
use Rattle.session_calculus.specs.After.{act}
use Rattle.session_calculus.specs.Faults.{fault_of}
use Rattle.session_calculus.specs.Moves.{Seen, Move}
use Rattle.session_calculus.specs.Terms.{Fault, Term}
use Rattle.session_values.specs.declared.actor.Actor.{Actor}
use Rattle.session_values.specs.declared.memory.Memory.{Memory}
use Rattle.session_forms.specs.View.{fault_view}
use Rattle.session_forms.specs.declared.installed.Installed.{Installed}
use Rattle.session_events.specs.declared.event.Acted as acted
use Rattle.session_events.specs.declared.scene.Scene.{Scene}
use Rattle.session_events.specs.Seen.{seen_by, moved_view}

-- a place has no event, or a fault, and sees what it saw before; or its event came
pub data Came : Type 0 where
  stuck : Seen → Came
  faulted : Fault → Seen → Came
  moved : Move Term → Came

-- what a place comes to that has a fault, or none, and then an event, or none
abbrev pub came : Seen → Option Fault → Option (Move Term) → Came
came s (Some f) m = faulted f s
came s None (Some m) = moved m
came s None None = stuck s

-- what acting at a place comes to
abbrev pub comes_to : Seen → Proc → Came
comes_to s p = came s (fault_of s p) (act s p)

-- what acting came to, with what is seen then
abbrev pub acted_view : Actor → Given → acted.Acted → Installed → Memory → Came
acted_view a g acted.TheVariants.Stuck h m = stuck (seen_by a g h m)
acted_view a g (acted.TheVariants.Faulted f) h m = faulted (fault_view (arc_value f)) (seen_by a g h m)
acted_view a g (acted.TheVariants.Moved x) h m = moved (moved_view x h m)

-- the same where the handlers stay
abbrev pub acted_in : Scene → Given → acted.Acted → Memory → Came
acted_in p g r m = acted_view p.actor g r p.installed.now m
