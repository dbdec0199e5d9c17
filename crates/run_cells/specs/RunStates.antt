-- The sessions of a run on one thread: where each stands, the state of a run, and what holds of it between two calls.
use Rattle.std.specs.Prelude.{◌≡◌, ℕ, ◌≤◌, ◌<◌, true, false, List, [], ◌∷◌, ◌++◌, length, map, nat_lt, Option, None, Some}
use Rattle.std.specs.Prelude.{drop, if◌then◌else◌, slice_get, take}
use Rattle.behaviour_tree.specs.declared.program.Program.{Program}
use Rattle.behaviour_tree.specs.declared.words.Event.{Event}
use Rattle.behaviour_tree.specs.PartsView.{parts_of}
use Rattle.session_calculus.specs.After.{Config}
use Rattle.office_core.specs.declared.history.Act.TheVariants as act
use Rattle.office_core.specs.declared.history.Entry.{Entry}
use Rattle.office_core.specs.Limits.{Setting, first_worker, run_limits, run_of}
use Rattle.office_core.specs.Past.{Past, closes, is_running, some_entry}
use Rattle.office_core.specs.Sessions.{was_adopted}
use Rattle.office_core.specs.Accepted.{past_of}
use Rattle.office_core.specs.Legal.{IsLegal}
use Rattle.session_turn.specs.Passes.{IsReady}
use Rattle.office_plain.specs.declared.office.Office.{Office}
use Rattle.office_plain.specs.View.{entries_of}
use Rattle.session_turn.specs.Seen.{AreForeign, Seat}
use Rattle.session_turn.specs.Lives.{Kept, Moment, moment}
use Rattle.session_turn.specs.Turns.{AreEnabled, NoneAllowed, from_pick}
use Rattle.run_cells.specs.Awake.{IsOn}
use Rattle.run_cells.specs.News.{KnowSenders, Told, told_nothing}

-- where a session stands: its service, its configuration, none once memory ran out in it, and its events
pub record Stand : Type 0 where
  pub service : ℕ
  pub config : Option Config
  pub events : List Event

-- a stand by its parts
abbrev pub stand_by : ℕ → Option Config → List Event → Stand
stand_by service config events = record { service = service; config = config; events = events }

-- the state of a run: what its office works by, the budget of a session, the history, the sessions by number as far as
-- they were adopted, and the picks that are left
pub record State : Type 0 where
  pub setting : Setting
  pub budget : ℕ
  pub history : List Entry
  pub stands : List Stand
  pub picks : List ℕ

-- what happened so far
abbrev pub past_in : State → Past
past_in s = past_of s.setting s.history

-- the seat of a session at an office that nobody else calls
abbrev pub seat_at : Setting → ℕ → Seat
seat_at w n = record { setting = w; alone = true; session = n }

-- where a session that stands so is after the entries of a history
abbrev pub moment_at : Stand → List Entry → Moment
moment_at st h = moment st.service st.config h

-- the events of each session
abbrev pub events_of : List Stand → List (List Event)
events_of stands = map (λ (st : Stand). st.events) stands

-- A run has its limits. The history is legal and did not stop, those that were adopted are the sessions at hand, each
-- is where its events led it, and none has more of them than the budget.
pub record Team (s : State) : Type 0 where
  pub limits : s.setting.limits ≡ run_limits
  pub legal : IsLegal s.setting s.history
  pub running : is_running (past_in s) ≡ true
  pub adopted : (n : ℕ) → was_adopted (past_in s) n ≡ nat_lt n (length s.stands)
  pub each : (n : ℕ) (st : Stand) → slice_get s.stands n ≡ Some st
      → Kept (seat_at s.setting n) st.events (moment_at st s.history)
  pub within : (n : ℕ) (st : Stand) → slice_get s.stands n ≡ Some st → length st.events ≤ s.budget

-- A session that stands so has ended.
pub record HasEnded (st : Stand) : Type 0 where
  pub config : Config
  pub at : st.config ≡ Some config
  pub ended : config.ended ≡ true

-- A session that stands so has not ended.
pub record HasNotEnded (st : Stand) : Type 0 where
  pub config : Config
  pub at : st.config ≡ Some config
  pub going : config.ended ≡ false

-- why a session does nothing: it has ended; or else it used its whole budget; or else none of its events is allowed
pub data Rests (s : State) (n : ℕ) (st : Stand) (seen : List Entry) : Type 0 where
  ended : HasEnded st → Rests s n st seen
  spent : HasNotEnded st → s.budget ≤ length st.events → Rests s n st seen
  idle : HasNotEnded st → length st.events < s.budget
      → (strands : List ℕ) (pick : ℕ) → AreEnabled (seat_at s.setting n) (moment_at st seen) strands
      → NoneAllowed (seat_at s.setting n) (from_pick strands pick) (moment_at st seen) (moment_at st seen)
      → Rests s n st seen

-- Entries came, and nothing else changed.
pub record Stays (old new : State) (more : List Entry) : Type 0 where
  pub setting : new.setting ≡ old.setting
  pub budget : new.budget ≡ old.budget
  pub history : new.history ≡ old.history ++ more
  pub stands : new.stands ≡ old.stands
  pub picks : new.picks ≡ old.picks

-- ---- a run state, of which the contracts of `Cells` and of what stands on it speak, and no promise of the program

-- the sessions of a run by number, as far as they were adopted, with their office, the picks that are left, what was
-- told of who is awake, and how many entries were looked at for that
pub record RunState : Type 0 where
  pub program : Program
  pub office : Office
  pub budget : ℕ
  pub stands : List Stand
  pub picks : List ℕ
  pub told : Told
  pub heard : ℕ

-- a run state by its parts, of which nobody was told anything
abbrev pub run_state_by : Program → Office → ℕ → List Stand → List ℕ → RunState
run_state_by program office budget stands picks = record {
  program = program;
  office = office;
  budget = budget;
  stands = stands;
  picks = picks;
  told = told_nothing;
  heard = 0;
}

-- a run state in which this was told, by so many entries
abbrev pub with_told : Told → ℕ → RunState → RunState
with_told told heard c = record {
  program = c.program;
  office = c.office;
  budget = c.budget;
  stands = c.stands;
  picks = c.picks;
  told = told;
  heard = heard;
}

-- the state of the run of a run state
abbrev pub state_of : RunState → State
state_of c = record {
  setting = run_of (parts_of c.program);
  budget = c.budget;
  history = entries_of c.office;
  stands = c.stands;
  picks = c.picks;
}

-- the office is of the program of the run
abbrev pub IsOurs : RunState → Type 0
IsOurs c = parts_of c.office.program ≡ parts_of c.program

-- A session sleeps: it did nothing after so many entries, and made no call since.
pub record Sleeps (s : State) (heard n : ℕ) (st : Stand) : Type 0 where
  pub rests : Rests s n st (take heard s.history)
  pub others : AreForeign n (drop heard s.history)

-- a session is awake, or it sleeps
pub data IsSeenTo (s : State) (told : Told) (heard n : ℕ) (st : Stand) : Type 0 where
  up : IsOn told.awake n → IsSeenTo s told heard n st
  asleep : Sleeps s heard n st → IsSeenTo s told heard n st

-- What was told is so after so many entries: those that are awake are at hand, all others sleep, and who sent messages
-- to whom is noted.
pub record IsTold (s : State) (told : Told) (heard : ℕ) : Type 0 where
  pub within : heard ≤ length s.history
  pub there : (n : ℕ) → IsOn told.awake n → n < length s.stands
  pub each : (n : ℕ) (st : Stand) → slice_get s.stands n ≡ Some st → IsSeenTo s told heard n st
  pub senders : KnowSenders (past_of s.setting (take heard s.history)) told.senders

-- The office is at work at the program of the run, its sessions are a team, and those that are not awake sleep.
pub record AtWork (c : RunState) : Type 0 where
  pub desk : IsReady (parts_of c.program) c.office
  pub team : Team (state_of c)
  pub told : IsTold (state_of c) c.told c.heard

-- all entries were looked at
abbrev pub HasHeardAll : RunState → Type 0
HasHeardAll c = c.heard ≡ length (entries_of c.office)

-- an entry that may be there as a list
abbrev pub list_of : Option Entry → List Entry
list_of None = []
list_of (Some e) = e ∷ []

-- what the end of input adds: the entry that notes it, unless there is one
abbrev pub closing : Past → List Entry
closing past = if some_entry past closes then [] else record { actor = first_worker; act = act.Close } ∷ []
