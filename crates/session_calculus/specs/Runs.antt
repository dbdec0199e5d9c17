-- A run of the calculus: events, each with its gift, from where a session begins.
use Rattle.std.specs.Prelude.{◌≡◌, ℕ, List, [], ◌∷◌, Option, Some, option_map, slice_get}
use Rattle.behaviour_tree.specs.declared.words.Event.{Event}
use Rattle.behaviour_tree.specs.declared.words.Given.{Given}
use Rattle.behaviour_tree.specs.Data.{ProgramParts, behaviour_of}
use Rattle.session_calculus.specs.After.{Config, Done, after, first_config}

-- an event with what the office gave for it
pub record TakenStep : Type 0 where
  pub event : Event
  pub gift : Given

-- the steps lead from one configuration to another, each being the event of its strand for its gift
abbrev pub Leads : ProgramParts → ℕ → Config → List TakenStep → Config → Type 0
Leads parts service from [] to = from ≡ to
Leads parts service from (s ∷ steps) to =
    (d : Done) × (after parts service from s.event.strand s.gift ≡ Some d) × (d.event ≡ s.event)
    × Leads parts service d.config steps to

-- where a session of a service begins
abbrev pub start_of : ProgramParts → ℕ → Option Config
start_of parts service = option_map (λ s. first_config (behaviour_of s)) (slice_get parts.services service)

-- the steps are a run of the service's behaviour that ends at this configuration
abbrev pub RunsTo : ProgramParts → ℕ → List TakenStep → Config → Type 0
RunsTo parts service steps last =
    (from : Config) × (start_of parts service ≡ Some from) × Leads parts service from steps last
