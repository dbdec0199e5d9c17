-- The calls that sessions sent: their outcomes, and what of them goes out.
use Rattle.std.specs.Prelude.{ℕ, Bool, true, false, not, ◌&&◌, List, length, nat_eq, if◌then◌else◌, Option, None}
use Rattle.std.specs.Prelude.{Some, is_some, option_and_then}
use Rattle.std.specs.List.{filter, filter_map}
use Rattle.jolie_trees.specs.Data.{Tree}
use Rattle.behaviour_tree.specs.declared.words.Outcome.{Outcome}
use Rattle.behaviour_tree.specs.declared.words.Outcome.TheVariants as outcome
use Rattle.office_core.specs.declared.history.Placed.{Placed}
use Rattle.office_core.specs.declared.history.Placed.TheVariants as at
use Rattle.office_core.specs.declared.history.Act.TheVariants as act
use Rattle.office_core.specs.declared.history.Entry.{Entry}
pub use Rattle.office_core.specs.declared.message.Call.{Call}
use Rattle.office_core.specs.declared.outgoing.OutKind.{OutKind}
use Rattle.office_core.specs.declared.outgoing.OutKind.TheVariants as kind
use Rattle.office_core.specs.Limits.{Setting}
use Rattle.office_core.specs.Past.{Past, some_entry}
use Rattle.office_core.specs.Keys.{first}
use Rattle.office_core.specs.Accepted.{port_of}
use Rattle.office_core.specs.Answers.{answers}

-- the call that an entry sends
abbrev pub sent_in : Entry → Option Call
sent_in e = elim e.act [
  | act.Send k port op v wants r ↦
      Some (record { session = e.actor; number = k; port = port; op = op; value = v; wants = wants; placed = r })
  | _ ↦ None
]

-- the calls of all sessions, in order
abbrev pub calls : Past → List Call
calls past = filter_map sent_in past.entries

-- whether it is call k of session s
abbrev pub is_call : ℕ → ℕ → Call → Bool
is_call s k c = nat_eq s c.session && nat_eq k c.number

-- call k of session s
abbrev pub call : Past → ℕ → ℕ → Option Call
call past s k = first (filter (is_call s k) (calls past))

-- the number of the next call of session s
abbrev pub next_call : Past → ℕ → ℕ
next_call past s = length (filter (λ c. nat_eq s c.session) (calls past))

-- ---- outcomes

-- the outcome that an entry brings a call from outside
abbrev pub brought_in : Call → Entry → Option Outcome
brought_in c e = elim e.act [ act.Answered s k o ↦ (if is_call s k c then Some o else None) | _ ↦ None ]

-- the outcome of a call by where it went: what was brought from outside, its refusal, or the answer of its message
abbrev pub outcome_by : Setting → Past → Call → Placed → Option Outcome
outcome_by w past c at.Out = first (filter_map (brought_in c) past.entries)
outcome_by w past c (at.Refused why) = Some (outcome.Refused why)
outcome_by w past c (at.At n) = first (answers w past n)

-- the outcome of call k of session s, once it has one
abbrev pub result : Setting → Past → ℕ → ℕ → Option Outcome
result w past s k = option_and_then (λ c. outcome_by w past c c.placed) (call past s k)

-- ---- what goes out

-- a call that goes out
abbrev pub goes_out : Call → Bool
goes_out c = elim c.placed [ at.Out ↦ true | at.At n ↦ false | at.Refused why ↦ false ]

-- an entry by which a call was fetched
abbrev pub fetches : Call → Entry → Bool
fetches c e = elim e.act [ act.Fetch s k ↦ is_call s k c | _ ↦ false ]

-- an entry that brings the outcome of a call
abbrev pub brings : Call → Entry → Bool
brings c e = is_some (brought_in c e)

-- a call goes to the console where its port is after those of its service, else elsewhere
abbrev pub kind_of : Setting → Past → Call → OutKind
kind_of w past c = if is_some (port_of w past c.session c.port) then kind.Remote else kind.Console

-- the same kind
abbrev pub same_kind : OutKind → OutKind → Bool
same_kind kind.Console kind.Console = true
same_kind kind.Remote kind.Remote = true
same_kind a b = false

-- a call that goes out and that nobody fetched yet
abbrev pub is_waiting : Past → Call → Bool
is_waiting past c = goes_out c && not (some_entry past (fetches c))

-- the calls of a kind that go out and that nobody fetched yet, in order
abbrev pub outgoing : Setting → Past → OutKind → List Call
outgoing w past k = filter (λ c. is_waiting past c && same_kind k (kind_of w past c)) (calls past)
