-- What is told of the steps of a session, as a list that a lemma can name.
use Rattle.std.specs.Prelude.{ℕ, List, [], ◌∷◌, Option, None, Some, option_and_then, option_map, unwrap_or, nat_eq}
use Rattle.std.specs.List.{filter}
use Rattle.jolie_trees.specs.Data.{Tree}
use Rattle.behaviour_tree.specs.declared.words.Kind.{Kind}
use Rattle.behaviour_tree.specs.declared.words.Need.{Need}
use Rattle.behaviour_tree.specs.declared.words.Need.TheVariants as need
use Rattle.behaviour_tree.specs.declared.words.Given.{Given}
use Rattle.behaviour_tree.specs.declared.words.Given.TheVariants as given
use Rattle.behaviour_tree.specs.Data.{ProgramParts}
use Rattle.behaviour_tree.specs.Operations.{operation_at}
use Rattle.session_calculus.specs.Accepted.{accepted}
use Rattle.session_calculus.specs.After.{Config, Done, after}
use Rattle.session_calculus.specs.Runs.{start_of}

-- the strand in which each session begins
abbrev pub first_strand : ℕ
first_strand = 0

-- an event and what it asks of the office: strand, kind, number, place, fault, need. Of the operations that an input
-- takes only the one of its message is told
pub data Told : Type 0 where
  told : ℕ → Kind → ℕ → ℕ → ℕ → Need → Told

-- a strand that acts, and what the office gives it
pub data Act : Type 0 where
  act : ℕ → Given → Act

-- a message as it lies in the box of a service: widened to the request type of its operation
abbrev pub mail : ProgramParts → ℕ → ℕ → ℕ → Tree → Given
mail parts service m op v =
    given.Mail m op (unwrap_or (accepted parts.types (option_map (λ o. o.request) (operation_at parts service op)) v) v)

-- of the operations of an input the one of the message
abbrev pub narrowed : Given → Need → Need
narrowed (given.Mail m op v) (need.Take ops) = need.Take (filter (nat_eq op) ops)
narrowed g n = n

-- what is told of an event
abbrev pub told_of : Given → Done → Told
told_of g d = told d.event.strand d.event.kind d.event.number d.event.place d.event.fault (narrowed g d.need)

-- what is told of acts, one after the other, up to the first that is not allowed
abbrev pub told_from : ProgramParts → ℕ → Config → List Act → List Told
told_from parts service c [] = []
told_from parts service c (act n g ∷ acts) =
    elim (after parts service c n g) [ None ↦ [] | Some d ↦ told_of g d ∷ told_from parts service d.config acts ]

-- what is told of the acts of a session from its start
abbrev pub happens : ProgramParts → ℕ → List Act → List Told
happens parts service acts = elim (start_of parts service) [ None ↦ [] | Some c ↦ told_from parts service c acts ]

-- where acts lead from a configuration, if each is allowed
abbrev pub leads_to : ProgramParts → ℕ → Config → List Act → Option Config
leads_to parts service c [] = Some c
leads_to parts service c (act n g ∷ acts) =
    elim (after parts service c n g) [ None ↦ None | Some d ↦ leads_to parts service d.config acts ]

-- what is told of an act after other acts, None where it is not allowed or one of those is not
abbrev pub then_tries : ProgramParts → ℕ → List Act → ℕ → Given → Option Told
then_tries parts service acts n g =
    option_and_then (λ c. option_map (told_of g) (after parts service c n g))
    (option_and_then (λ c. leads_to parts service c acts) (start_of parts service))
