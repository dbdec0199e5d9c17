-- These definitions serve the proofs alone: no promise speaks of them.
-- How events go on, as far as the code says it in parts.
use Rattle.std.specs.Prelude.{ℕ, Option, None, Some}
use Rattle.behaviour_tree.specs.declared.words.Event.{Event}
use Rattle.behaviour_tree.specs.declared.words.Given.{Given}
use Rattle.behaviour_tree.specs.declared.words.Given.TheVariants as given
use Rattle.behaviour_tree.specs.declared.words.Kind.TheVariants as kind
use Rattle.behaviour_tree.specs.Data.{Proc}
use Rattle.session_calculus.specs.Moves.{instead}
use Rattle.session_calculus.specs.Names.{correlation_error}
use Rattle.session_calculus.specs.Start.{Begun, begun, start}
use Rattle.session_calculus.specs.Terms.{Term, done}
use Rattle.session_values.specs.declared.actor.Actor.{Actor}

-- a local event
abbrev pub local_event : Actor → Event
local_event a = record { strand = a.strand; kind = kind.Local; number = 0; place = 0; fault = 0 }

-- a behaviour starts, or a fault stands in its place
abbrev pub goes : Option ℕ → Proc → ℕ → Begun Term
goes None p n = start p n
goes (Some f) p n = begun (instead f) n

-- what stands where a variable was to be bound, none where the office gave nothing of the kind
abbrev pub bound_form : Given → Option Term
bound_form given.Bound = Some done
bound_form (given.Held t) = Some (instead correlation_error)
bound_form given.Fixed = Some (instead correlation_error)
bound_form g = None
