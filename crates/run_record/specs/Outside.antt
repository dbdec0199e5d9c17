-- What goes out of a run beside answers: the notes, and the trips of calls to services elsewhere.
use Rattle.std.specs.Prelude.{ℕ, ◌&&◌, List, [], ◌∷◌, ◌++◌, nat_eq, if◌then◌else◌}
use Rattle.std.specs.Prelude.{Option, None, option_map, option_and_then, flat_map}
use Rattle.std.specs.List.{filter, filter_map}
use Rattle.jolie_trees.specs.Trees.{root_of}
use Rattle.behaviour_tree.specs.Data.{PortPart}
use Rattle.behaviour_tree.specs.Texts.{spelled}
use Rattle.office_core.specs.declared.history.Act.TheVariants as act
use Rattle.office_core.specs.declared.history.Entry.{Entry}
use Rattle.office_core.specs.declared.outgoing.OutKind.TheVariants as kind
use Rattle.office_core.specs.Limits.{Setting}
use Rattle.office_core.specs.Past.{Past}
use Rattle.office_core.specs.Accepted.{past_of, port_of}
use Rattle.office_core.specs.declared.message.Call.{Call}
use Rattle.office_core.specs.Calls.{calls, call, goes_out, kind_of, same_kind}

-- ---- notes

-- the calls that go to the console, in the order in which they were sent
abbrev pub console_calls : Setting → Past → List Call
console_calls w past = filter (λ c. goes_out c && same_kind kind.Console (kind_of w past c)) (calls past)

-- the line of a call to the console: the text of the value's root
abbrev pub note_of : Call → List ℕ
note_of c = spelled (root_of c.value) ++ 10 ∷ []

-- what a run notes
abbrev pub notes : Setting → List Entry → List ℕ
notes w h = flat_map note_of (console_calls w (past_of w h))

-- ---- trips

-- a call to a service elsewhere, and the location that it is made to
pub record Trip : Type 0 where
  pub location : List ℕ
  pub made : Call

-- the call that an entry of an actor fetched
abbrev pub fetched_in : Past → ℕ → Entry → Option Call
fetched_in past actor e = elim e.act [
  | act.Fetch s k ↦ (if nat_eq actor e.actor then call past s k else None)
  | _ ↦ None
]

-- the trip of a call whose port has a location; the console has none
abbrev pub trip_of : Setting → Past → Call → Option Trip
trip_of w past c =
    option_map (λ (p : PortPart). record { location = p.location; made = c }) (port_of w past c.session c.port)

-- the trips that an actor made, in order: one for each call to a service elsewhere that it fetched
abbrev pub trips : Setting → List Entry → ℕ → List Trip
trips w h actor =
    let past = past_of w h in
    filter_map (λ e. option_and_then (trip_of w past) (fetched_in past actor e)) h
