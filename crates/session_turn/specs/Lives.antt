-- A session lives: its events are a run of its service, and their calls are its entries in the history that it saw.
use Rattle.std.specs.Prelude.{◌≡◌, ℕ, true, false, List, [], ◌∷◌, ◌++◌, nat_eq, Option, Some}
use Rattle.behaviour_tree.specs.declared.words.Event.{Event}
use Rattle.behaviour_tree.specs.declared.words.Need.{Need}
use Rattle.behaviour_tree.specs.declared.words.Need.TheVariants as need
use Rattle.behaviour_tree.specs.declared.words.Given.{Given}
use Rattle.behaviour_tree.specs.declared.words.Given.TheVariants as given
use Rattle.session_calculus.specs.After.{Config, Done, after}
use Rattle.session_calculus.specs.Runs.{start_of}
use Rattle.office_core.specs.declared.history.Act.{Act}
use Rattle.office_core.specs.declared.history.Entry.{Entry}
use Rattle.office_core.specs.Sessions.{service_of, was_adopted}
use Rattle.office_core.specs.Legal.{replied}
use Rattle.run_record.specs.Steps.{calls_of, gift_of}
use Rattle.run_record.specs.Agrees.{IsCall}
use Rattle.session_turn.specs.Seen.{Seat, past_at, by_session}

-- A call is the one that an event asks for, its reply is what the office gives on the entries before it, and the event
-- has the gift that follows from it.
pub record IsGiven (a : Seat) (h : List Entry) (asked : Need) (gift : Given) (call : Act) : Type 0 where
  pub is_call : IsCall a.session asked (past_at a h) call
  pub reply : replied a.setting (past_at a h) a.session call ≡ Some call
  pub gives : gift_of (record { before = past_at a h; act = call }) ≡ gift

-- what the office gives for what an event asks, and the entry that this makes: none where nothing is asked
pub data Gives (a : Seat) (h : List Entry) : Need → Given → List Entry → Type 0 where
  nothing : Gives a h need.Nothing given.Nothing []
  by_call : (n : Need) (g : Given) (call : Act) → IsGiven a h n g call → Gives a h n g (by_session a call ∷ [])

-- The session was born as one of the service and adopted, and made no call yet.
pub record IsFresh (a : Seat) (service : ℕ) (h : List Entry) : Type 0 where
  pub born : service_of a.setting (past_at a h) a.session ≡ Some service
  pub adopted : was_adopted (past_at a h) a.session ≡ true
  pub quiet : calls_of a.setting h a.session ≡ []

-- A session that began at a configuration: first it is fresh; then others make entries, or it has an event, which makes
-- its entry.
pub data Lives (a : Seat) (service : ℕ) (from : Config) : List Entry → List Event → Config → Type 0 where
  fresh : (h : List Entry) → IsFresh a service h → Lives a service from h [] from
  by_other : (h : List Entry) (es : List Event) (c : Config) (e : Entry) → Lives a service from h es c
      → nat_eq a.session e.actor ≡ false → Lives a service from (h ++ e ∷ []) es c
  by_event : (h : List Entry) (es : List Event) (c : Config) (g : Given) (d : Done) (own : List Entry)
      → Lives a service from h es c → after a.setting.parts service c d.event.strand g ≡ Some d → Gives a h d.need g own
      → Lives a service from (h ++ own) (es ++ d.event ∷ []) d.config

-- where a session of a service stands: its configuration, none once memory ran out in it, and what it has seen
pub record Moment : Type 0 where
  pub service : ℕ
  pub config : Option Config
  pub seen : List Entry

-- a moment by its parts
abbrev pub moment : ℕ → Option Config → List Entry → Moment
moment service c h = record { service = service; config = c; seen = h }

-- The session is where its events led it from the start of its service.
pub record Kept (a : Seat) (es : List Event) (now : Moment) : Type 0 where
  pub from : Config
  pub start : start_of a.setting.parts now.service ≡ Some from
  pub here : Config
  pub at : now.config ≡ Some here
  pub lives : Lives a now.service from now.seen es here
