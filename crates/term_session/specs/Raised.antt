-- These definitions serve the proofs alone: no promise speaks of them.
-- The event of a fault by where it has come to.
use Rattle.std.specs.Prelude.{ℕ, Option, None, Some}
use Rattle.behaviour_tree.specs.declared.words.Event.{Event}
use Rattle.session_calculus.specs.Names.{main}
use Rattle.session_calculus.specs.Throw.{Carried, up, caught_at, ended_at, blocked, absent}
use Rattle.session_calculus.specs.After.{raise_event}

-- the event of fault f of strand n, none where it is blocked or its strand has no place
abbrev pub event_of_fault : {A : Type 0} → ℕ → ℕ → Carried A → Option Event
event_of_fault n f (up t) = Some (raise_event n 2 main f)
event_of_fault n f (caught_at t q) = Some (raise_event n 0 q f)
event_of_fault n f (ended_at t q) = Some (raise_event n 1 q f)
event_of_fault n f c = None
