-- What calls that went out came to: the trips of a link, and the calls to the console.
use Rattle.std.specs.Prelude.{◌≡◌, ℕ, Bool, if◌then◌else◌, List, fold, Some, Contains}
use Rattle.std.specs.List.{AllZip}
use Rattle.std.specs.Option.{is_none}
use Rattle.jolie_trees.specs.Trees.{void_tree}
use Rattle.behaviour_tree.specs.declared.words.Outcome.{Outcome}
use Rattle.behaviour_tree.specs.declared.words.Outcome.TheVariants as outcome
use Rattle.office_core.specs.declared.history.Entry.{Entry}
use Rattle.office_core.specs.declared.message.Call.{Call}
use Rattle.office_core.specs.declared.outgoing.Outgoing.{Outgoing}
use Rattle.office_core.specs.Limits.{Setting, first_worker}
use Rattle.office_core.specs.Past.{Past}
use Rattle.office_core.specs.Accepted.{past_of}
use Rattle.office_core.specs.Sessions.{service_of}
use Rattle.office_core.specs.Calls.{result}
use Rattle.run_record.specs.Outside.{console_calls, Trip, trips}
use Rattle.outside_traits.specs.Told.{Lists}
use Rattle.outside_links.specs.Trips.{Made, LinkTold, one_more}
use Rattle.jsonrpc_calls.specs.CallTexts.{call as call_text}
use Rattle.jsonrpc_calls.specs.Heard.{heard}

-- ---- what a link tells

-- a trip from which nothing came back
abbrev pub has_failed : Made → Bool
has_failed m = is_none m.came

-- how often a link has failed after a trip, where it had failed so often: one more where the trip failed
abbrev pub faults_after_trip : ℕ → Made → ℕ
faults_after_trip before m = if has_failed m then one_more before else before

-- These trips were made between two counts of failures: it rose by one for each that failed and for no other, up to the
-- last value of its type.
abbrev pub HasCounted : ℕ → ℕ → List Made → Type 0
HasCounted before now made = now ≡ fold faults_after_trip before made

-- ---- trips

-- a call as it goes out, from a session of a service
abbrev pub outgoing : ℕ → Call → Outgoing
outgoing service c = record {
  session = c.session;
  service = service;
  call = c.number;
  port = c.port;
  op = c.op;
  value = c.value;
  wants = c.wants;
}

-- A trip is the one that its call asks for: to the location of its port, with its text; and what was heard of it is the
-- outcome of the call.
pub record IsTrip (w : Setting) (past : Past) (t : Trip) (m : Made) : Type 0 where
  pub service : ℕ
  pub born : service_of w past t.made.session ≡ Some service
  pub location : m.location ≡ t.location
  pub text : m.text ≡ call_text w.parts (outgoing service t.made)
  pub outcome : result w past t.made.session t.made.number ≡ Some (heard (outgoing service t.made) m.came)

-- The link of a run of this history made the trips that its calls to services elsewhere ask for, one for one and in
-- order; and it counted those that failed.
pub record Travelled (w : Setting) (h : List Entry) (before now : LinkTold) : Type 0 where
  pub made : List Made
  pub are : AllZip (IsTrip w (past_of w h)) (trips w h first_worker) made
  pub told : Lists before.trips now.trips made
  pub counts : HasCounted before.faults now.faults made

-- ---- the console

-- the outcome of a call to the console is void
abbrev pub AreVoid : Setting → Past → Type 0
AreVoid w past =
    (c : Call) (o : Outcome) → Contains (console_calls w past) c → result w past c.session c.number ≡ Some o
    → o ≡ outcome.Value void_tree
