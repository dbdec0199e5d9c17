-- These definitions serve the proofs alone: no promise speaks of them.
-- What a step of a session makes.
use Rattle.std.specs.Prelude.{Option, None, Some}
use Rattle.behaviour_tree.specs.declared.words.Event.{Event}
use Rattle.session_calculus.specs.After.{Config, Done}

-- a configuration, and the event that led to it; none where it stayed
pub record Stepped : Type 0 where
  pub config : Config
  pub event : Option Event

-- a configuration and an event
abbrev pub stepped : Config → Option Event → Stepped
stepped c e = record { config = c; event = e }

-- what a configuration becomes by an event that it has, or not
abbrev pub stepped_by : Config → Option Done → Stepped
stepped_by c None = stepped c None
stepped_by c (Some d) = stepped d.config (Some d.event)
