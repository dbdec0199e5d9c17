-- When nothing is left to do in a record, and when each posting may begin.
use Rattle.std.specs.Prelude.{◌≡◌, ℕ, zero, suc, Bool, true, false, not, ◌&&◌, List, [], ◌∷◌}
use Rattle.std.specs.Prelude.{◌++◌, length, nat_eq, Some, is_some, slice_get}
use Rattle.std.specs.List.{list_any, filter}
use Rattle.behaviour_tree.specs.declared.words.Event.{Event}
use Rattle.behaviour_tree.specs.declared.words.Need.{Need}
use Rattle.behaviour_tree.specs.declared.words.Need.TheVariants as need
use Rattle.behaviour_tree.specs.declared.words.Given.{Given}
use Rattle.session_calculus.specs.After.{Config, Done, after}
use Rattle.office_core.specs.declared.history.Act.TheVariants as act
use Rattle.office_core.specs.declared.history.Entry.{Entry}
use Rattle.office_core.specs.Limits.{Setting}
use Rattle.office_core.specs.Past.{Past, some_entry, stops}
use Rattle.office_core.specs.Sessions.{service_of, is_live, was_adopted}
use Rattle.office_core.specs.Boxes.{queue}
use Rattle.office_core.specs.Keys.{first}
use Rattle.office_core.specs.Accepted.{past_of}
use Rattle.office_core.specs.declared.message.Call.{Call}
use Rattle.office_core.specs.Calls.{calls, goes_out, brings, result}
use Rattle.run_record.specs.Steps.{calls_of, makes_call}
use Rattle.run_record.specs.Agrees.{Agrees}
use Rattle.run_record.specs.Order.{before_first}

-- ---- a session

-- the history has what an event of session s asks for: a message that waits, the outcome of a call; all else always
abbrev pub is_given : Setting → Past → ℕ → Need → Bool
is_given w past s (need.Take ops) = is_some (first (queue past s ops))
is_given w past s (need.Answer k) = is_some (result w past s k)
is_given w past s n = true

-- What a session can do at a configuration: it lives, and one of its strands has an event there for which the history
-- has what it asks for.
pub record CanActAt (w : Setting) (h : List Entry) (s service : ℕ) (config : Config) : Type 0 where
  pub live : is_live w (past_of w h) s ≡ true
  pub strand : ℕ
  pub gift : Given
  pub done : Done
  pub event : after w.parts service config strand gift ≡ Some done
  pub given : is_given w (past_of w h) s done.need ≡ true

-- A session can act after its events, which agree with the history: where these end.
pub record CanAct (w : Setting) (h : List Entry) (s : ℕ) (events : List Event) : Type 0 where
  pub last : Config
  pub agrees : Agrees w h s events last
  pub acts : CanActAt w h s agrees.service last

-- ---- a record

-- the calls that went out and whose outcome nobody received
abbrev pub outstanding : Past → List Call
outstanding past = filter (λ c. goes_out c && not (some_entry past (brings c))) (calls past)

-- Nothing is left to do, after the entries of h and these events: each session that was born was adopted, each call
-- that went out has its outcome, and a session that can still act where its events end used its whole budget.
pub record IsQuiet (w : Setting) (budget : ℕ) (h : List Entry) (sessions : List (List Event)) : Type 0 where
  pub adopted : (s service : ℕ) → service_of w (past_of w h) s ≡ Some service → was_adopted (past_of w h) s ≡ true
  pub received : outstanding (past_of w h) ≡ []
  pub idle : (s : ℕ) (events : List Event) (last : Config) → slice_get sessions s ≡ Some events
      → (agrees : Agrees w h s events last) → CanActAt w h s agrees.service last → length events ≡ budget

-- the entries before the stop
abbrev pub before_stop : List Entry → List Entry
before_stop es = before_first stops es

-- ---- before a posting

-- the events before the one that makes the call after so many others
abbrev pub events_for : ℕ → List Event → List Event
events_for calls [] = []
events_for calls (e ∷ es) = elim (makes_call e.kind) [
  | false ↦ e ∷ events_for calls es
  | true ↦ elim calls [ zero ↦ [] | suc n ↦ e ∷ events_for n es ]
]

-- the events that sessions, the first of which has the number s, had when the history was h: those before the first
-- event whose call came later
abbrev pub sessions_at : Setting → List Entry → ℕ → List (List Event) → List (List Event)
sessions_at w h s [] = []
sessions_at w h s (events ∷ sessions) =
    events_for (length (calls_of w h s)) events ∷ sessions_at w h (suc s) sessions

-- a post by an actor for its posting j
abbrev pub posts_for : ℕ → ℕ → Entry → Bool
posts_for actor j e = elim e.act [ act.Post posting i q r ↦ nat_eq actor e.actor && nat_eq j posting | _ ↦ false ]

-- a post
abbrev pub posts : Entry → Bool
posts e = elim e.act [ act.Post posting i q r ↦ true | _ ↦ false ]

-- an entry after others begins posting j
abbrev pub begins_posting : ℕ → List Entry → Entry → Bool
begins_posting j before e = posts_for e.actor j e && not (list_any (posts_for e.actor j) before)

-- Posting j may begin: the first where nothing happened yet, each later one where nothing is left to do.
abbrev pub MayBegin : Setting → ℕ → ℕ → List Entry → List (List Event) → Type 0
MayBegin w budget zero h sessions = h ≡ []
MayBegin w budget (suc j) h sessions = IsQuiet w budget h sessions

-- Each posting began where it may.
abbrev pub IsStill : Setting → ℕ → List Entry → List (List Event) → Type 0
IsStill w budget h sessions =
    (j : ℕ) (before later : List Entry) (e : Entry) → h ≡ before ++ e ∷ later → begins_posting j before e ≡ true
    → MayBegin w budget j before (sessions_at w before 0 sessions)
