-- How it stands with the calls that went out, while a run goes on: those that were fetched have their outcomes, and
-- what was noted is the front of what is to be noted.
use Rattle.std.specs.Prelude.{◌≡◌, ℕ, Bool, true, false, ◌&&◌, List, [], ◌∷◌, ◌++◌, nat_lt, Option, Some, slice_get}
use Rattle.outside_links.specs.Trips.{LinkTold}
use Rattle.std.specs.Prelude.{flat_map}
use Rattle.std.specs.List.{filter_map}
use Rattle.jolie_trees.specs.Trees.{void_tree}
use Rattle.behaviour_tree.specs.Data.{ProgramParts}
use Rattle.behaviour_tree.specs.declared.words.Outcome.{Outcome}
use Rattle.behaviour_tree.specs.declared.words.Outcome.TheVariants as outcome
use Rattle.office_core.specs.declared.history.Act.TheVariants as act
use Rattle.office_core.specs.declared.history.Entry.{Entry}
use Rattle.office_core.specs.declared.history.Placed.TheVariants as at
use Rattle.office_core.specs.declared.message.Call.{Call}
use Rattle.office_core.specs.declared.outgoing.Outgoing.{Outgoing}
use Rattle.office_core.specs.declared.outgoing.OutKind.{OutKind}
use Rattle.office_core.specs.declared.outgoing.OutKind.TheVariants as kind
use Rattle.office_core.specs.Limits.{Setting, first_worker}
use Rattle.office_core.specs.Past.{Past, some_entry}
use Rattle.office_core.specs.Keys.{first}
use Rattle.office_core.specs.Accepted.{past_of}
use Rattle.office_core.specs.Sessions.{service_of}
use Rattle.office_core.specs.Calls.{calls, call, goes_out, fetches, brings, brought_in, kind_of, same_kind, outgoing}
use Rattle.office_plain.specs.Entries.{entry}
use Rattle.run_record.specs.Outside.{note_of, console_calls, Trip, trips}
use Rattle.outside_traits.specs.Told.{Lists}
use Rattle.outside_links.specs.Trips.{Made}
use Rattle.jsonrpc_calls.specs.CallTexts.{location_called, call as call_text}
use Rattle.jsonrpc_calls.specs.Heard.{heard}
use Rattle.run_theorem.specs.Trips.{outgoing as out_of, HasCounted}

-- ---- entries

-- an entry that fetches no call that went out, and brings no outcome of one
abbrev pub is_inward : Entry → Bool
is_inward e = elim e.act [ act.Fetch s k ↦ false | act.Answered s k o ↦ false | _ ↦ true ]

-- an entry that has nothing to do with calls: none is sent or fetched, and no outcome is received
abbrev pub is_silent : Entry → Bool
is_silent e = elim e.act [
  | act.Send k port op v wants r ↦ false
  | act.Fetch s k ↦ false
  | act.Answered s k o ↦ false
  | _ ↦ true
]

-- the entry by which an actor fetches a call that goes out
abbrev pub fetch_of : ℕ → Outgoing → Entry
fetch_of actor out = entry actor (act.Fetch out.session out.call)

-- the entry by which an actor brings the outcome of a call that went out
abbrev pub answer_of : ℕ → Outgoing → Outcome → Entry
answer_of actor out o = entry actor (act.Answered out.session out.call o)

-- a history once both stand
abbrev pub went_out : List Entry → ℕ → Outgoing → Outcome → List Entry
went_out h actor out o = (h ++ fetch_of actor out ∷ []) ++ answer_of actor out o ∷ []

-- an entry of a session
abbrev pub is_of_session : Entry → Bool
is_of_session e = nat_lt e.actor first_worker

-- ---- calls

-- a call goes out, and is of a kind
abbrev pub goes_to : Setting → Past → OutKind → Call → Bool
goes_to w past k c = goes_out c && same_kind k (kind_of w past c)

-- the outcome of a call is there exactly where it was fetched
abbrev pub AllReceived : Past → Type 0
AllReceived past = (c : Call) → some_entry past (fetches c) ≡ some_entry past (brings c)

-- what was received for calls to the console is void
abbrev pub ReceivedVoid : Setting → Past → Type 0
ReceivedVoid w past =
    (i : ℕ) (c : Call) (o : Outcome) → slice_get (calls past) i ≡ Some c → goes_to w past kind.Console c ≡ true
    → first (filter_map (brought_in c) past.entries) ≡ Some o → o ≡ outcome.Value void_tree

-- Of the calls that went out, those that were fetched have their outcomes, and that of a call to the console is void.
pub record AreSettled (w : Setting) (h : List Entry) : Type 0 where
  pub received : AllReceived (past_of w h)
  pub void : ReceivedVoid w (past_of w h)

-- ---- notes

-- what was noted, with the notes of the calls that wait, is what the history notes
abbrev pub NotedSoFar : Setting → List Entry → List ℕ → Type 0
NotedSoFar w h noted =
    flat_map note_of (console_calls w (past_of w h))
    ≡ noted ++ flat_map note_of (outgoing w (past_of w h) kind.Console)

-- ---- trips

-- A trip of a call that went out was made, and its outcome was received.
pub record IsCompletedCall (w : Setting) (past : Past) (t : Trip) (m : Made) : Type 0 where
  pub service : ℕ
  pub born : service_of w past t.made.session ≡ Some service
  pub location : m.location ≡ t.location
  pub text : m.text ≡ call_text w.parts (out_of service t.made)
  pub sent : call past t.made.session t.made.number ≡ Some t.made
  pub out : t.made.placed ≡ at.Out
  pub outcome : first (filter_map (brought_in t.made) past.entries) ≡ Some (heard (out_of service t.made) m.came)

-- trips and what was made of them, one for one
abbrev pub AreCompletedCalls : Setting → Past → List Trip → List Made → Type 0
AreCompletedCalls w past [] [] = Unit {0}
AreCompletedCalls w past (t ∷ ts) (m ∷ ms) = IsCompletedCall w past t m × AreCompletedCalls w past ts ms
AreCompletedCalls w past ts ms = ⊥

-- The link made the trips of the calls that were fetched, each once, and counted those that failed.
pub record Completed (w : Setting) (h : List Entry) (before now : LinkTold) : Type 0 where
  pub made : List Made
  pub are : AreCompletedCalls w (past_of w h) (trips w h first_worker) made
  pub told : Lists before.trips now.trips made
  pub counts : HasCounted before.faults now.faults made

-- The trip of a call was made, and this outcome was heard of it.
pub record IsHeard (parts : ProgramParts) (out : Outgoing) (m : Made) (o : Outcome) : Type 0 where
  pub location : m.location ≡ location_called parts out
  pub text : m.text ≡ call_text parts out
  pub outcome : o ≡ heard out m.came
