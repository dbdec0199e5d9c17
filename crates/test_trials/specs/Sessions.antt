-- What is told of the events of a session, and whether they agree with a history, as values that compute.
use Rattle.std.specs.Prelude.{ℕ, Bool, true, false, ◌&&◌, List, [], ◌∷◌, nat_eq}
use Rattle.std.specs.Prelude.{Option, None, Some, option_map, option_and_then}
use Rattle.behaviour_tree.specs.declared.words.Event.{Event}
use Rattle.behaviour_tree.specs.declared.words.Kind.{Kind}
use Rattle.behaviour_tree.specs.declared.words.Kind.TheVariants as kind
use Rattle.behaviour_tree.specs.declared.words.Need.{Need}
use Rattle.behaviour_tree.specs.declared.words.Need.TheVariants as need
use Rattle.behaviour_tree.specs.Data.{ProgramParts}
use Rattle.session_calculus.specs.After.{Config, Done, after}
use Rattle.session_calculus.specs.Runs.{TakenStep, start_of}
use Rattle.office_core.specs.declared.history.Act.{Act}
use Rattle.office_core.specs.declared.history.Act.TheVariants as act
use Rattle.office_core.specs.declared.history.Entry.{Entry}
use Rattle.office_core.specs.Limits.{Setting}
use Rattle.office_core.specs.Past.{Past}
use Rattle.office_core.specs.Sessions.{service_of}
use Rattle.office_core.specs.Boxes.{queue}
use Rattle.office_core.specs.Keys.{first}
use Rattle.office_core.specs.Accepted.{past_of}
use Rattle.run_record.specs.Steps.{Called, calls_of, steps_of}
use Rattle.run_record.specs.Agrees.{asked_of}
use Rattle.test_trials.specs.Same.{same_bool, same_root, same_tree, same_outcome}

-- an event from its parts
abbrev pub event : ℕ → Kind → ℕ → ℕ → ℕ → Event
event strand k number place fault =
    record { strand = strand; kind = k; number = number; place = place; fault = fault }

-- ---- told

-- the events of strands for gifts, one after the other; none where one of them has no event
abbrev pub told_from : ProgramParts → ℕ → Config → List TakenStep → Option (List Event)
told_from parts d c [] = Some []
told_from parts d c (s ∷ steps) = elim (after parts d c s.event.strand s.gift) [
  | None ↦ None
  | Some k ↦ option_map (λ es. k.event ∷ es) (told_from parts d k.config steps)
]

-- the same from where a session of the service begins
abbrev pub told_of : ProgramParts → ℕ → List TakenStep → Option (List Event)
told_of parts d steps = option_and_then (λ c. told_from parts d c steps) (start_of parts d)

-- ---- Booleans

-- a number for each kind
abbrev pub kind_number : Kind → ℕ
kind_number kind.Local = 0
kind_number kind.Install = 1
kind_number kind.Raise = 2
kind_number kind.Handle = 3
kind_number kind.EndScope = 4
kind_number kind.Compensate = 5
kind_number kind.In = 6
kind_number kind.Reply = 7
kind_number kind.Notify = 8
kind_number kind.Solicit = 9
kind_number kind.Answer = 10
kind_number kind.Bind = 11
kind_number kind.Finish = 12

-- the same event
abbrev pub same_event : Event → Event → Bool
same_event d e =
    nat_eq d.strand e.strand && nat_eq (kind_number d.kind) (kind_number e.kind) && nat_eq d.number e.number
    && nat_eq d.place e.place && nat_eq d.fault e.fault

-- the same events
abbrev pub same_events : List Event → List Event → Bool
same_events [] [] = true
same_events (d ∷ ds) (e ∷ es) = same_event d e && same_events ds es
same_events ds es = false

-- these events are what is told
abbrev pub is_told : Option (List Event) → List Event → Bool
is_told None events = false
is_told (Some told) events = same_events told events

-- the number is there and the same
abbrev pub is_number : Option ℕ → ℕ → Bool
is_number None n = false
is_number (Some m) n = nat_eq m n

-- the call that an event asks for is the one that was made
abbrev pub is_call : ℕ → Need → Past → Act → Bool
is_call s (need.Take ops) past (act.Take n) = is_number (first (queue past s ops)) n
is_call s (need.Bind v x) past (act.Bind u y r) = nat_eq v u && same_root x y
is_call s (need.Reply m o) past (act.Reply n q) = nat_eq m n && same_outcome o q
is_call s (need.Send k port op v wants) past (act.Send l q p u wanted r) =
    nat_eq k l && nat_eq port q && nat_eq op p && same_tree v u && same_bool wants wanted
is_call s (need.Answer k) past (act.Answer l o) = nat_eq k l
is_call s need.Finish past act.End = true
is_call s n past a = false

-- the calls that are asked for are those that were made, one for one and in order
abbrev pub are_calls : ℕ → List Need → List Called → Bool
are_calls s [] [] = true
are_calls s (n ∷ needs) (c ∷ calls) = is_call s n c.before c.act && are_calls s needs calls
are_calls s needs calls = false

-- the events of a session of service d agree with the history
abbrev pub agrees_as : Setting → List Entry → ℕ → List Event → ℕ → Bool
agrees_as w h s events d =
    let steps = steps_of events (calls_of w h s) in
    is_told (told_of w.parts d steps) events && are_calls s (asked_of w.parts d steps) (calls_of w h s)

-- the events of session s agree with the history
abbrev pub agrees : Setting → List Entry → ℕ → List Event → Bool
agrees w h s events = elim (service_of w (past_of w h) s) [ None ↦ false | Some d ↦ agrees_as w h s events d ]
