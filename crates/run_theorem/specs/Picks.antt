-- Which picks a run took: each turn of a session the next.
use Rattle.std.specs.Prelude.{◌≡◌, ◌⊎◌, ◌↔◌, ℕ, suc, ◌+◌, ◌-◌, ◌%◌, ◌≤◌, ◌<◌, Bool, true, false, ◌&&◌, ◌||◌, List}
use Rattle.std.specs.Prelude.{[], length, take, drop, nat_eq, None, Some, Contains, slice_get, slice_index, unwrap_or}
use Rattle.std.specs.Prelude.{count_by}
use Rattle.std.specs.List.{list_all}
use Rattle.std.specs.List.Sorted.{IsStrictlyIncreasing}
use Rattle.behaviour_tree.specs.declared.words.Event.{Event}
use Rattle.session_calculus.specs.After.{Config, HasEvent}
use Rattle.office_core.specs.declared.history.Entry.{Entry}
use Rattle.office_core.specs.Limits.{Setting}
use Rattle.office_core.specs.Sessions.{service_of, was_adopted}
use Rattle.office_core.specs.Accepted.{past_of}
use Rattle.run_record.specs.declared.record.Record.{Record}
use Rattle.run_record.specs.Agrees.{Agrees, IsSession}
use Rattle.run_record.specs.Quiet.{CanAct, before_stop, outstanding}

-- what a run is under: what it works by, and how many events a session may have
pub record Rules : Type 0 where
  pub setting : Setting
  pub budget : ℕ

-- ---- a turn

-- a turn that a session took: with a pick, after so many entries of the history; and whether an event came of it
pub record TakenTurn : Type 0 where
  pub session : ℕ
  pub pick : ℕ
  pub entries : ℕ
  pub did : Bool

-- how many events came of the turns of session s
abbrev pub events_by : ℕ → List TakenTurn → ℕ
events_by s turns = count_by (λ (t : TakenTurn). nat_eq s t.session && t.did) turns

-- the strand at a place among strands, cyclically
abbrev pub strand_at : List ℕ → ℕ → ℕ
strand_at strands place = slice_index strands (place % length strands)

-- The strands of a session that have an event where its events led it, in rising order, whatever the office has for
-- them.
pub record HasStrands (w : Setting) (h : List Entry) (s : ℕ) (events : List Event) (strands : List ℕ) : Type 0 where
  pub last : Config
  pub agrees : Agrees w h s events last
  pub exact : (n : ℕ) → Contains strands n ↔ HasEvent w.parts agrees.service last n
  pub rising : IsStrictlyIncreasing strands

-- a session can act by strand n
abbrev pub CanActBy : Setting → List Entry → ℕ → List Event → ℕ → Type 0
CanActBy w h s events n = (can : CanAct w h s events) × (can.acts.strand ≡ n)

-- The event that came of a turn of a session that had had these: of its strands, in their order from the pick on,
-- cyclically, it is that of the first by which the session can act.
pub record Chose (w : Setting) (h : List Entry) (t : TakenTurn) (events : List Event) (event : Event) : Type 0 where
  pub strands : List ℕ
  pub enabled : HasStrands w h t.session events strands
  pub passed : ℕ
  pub within : passed < length strands
  pub each : (k : ℕ) → k < passed → CanActBy w h t.session events (strand_at strands (t.pick + k)) → ⊥
  pub is : event.strand ≡ strand_at strands (t.pick + passed)

-- A turn of a session that had had so many of its events: it was adopted, and these events agree with the history
-- before the turn. Its next event came of the turn; or none did, since the session had used its budget, or could not
-- act.
pub record WasHad (r : Rules) (h : List Entry) (sessions : List (List Event)) (t : TakenTurn) (had : ℕ) : Type 0 where
  pub events : List Event
  pub there : slice_get sessions t.session ≡ Some events
  pub adopted : was_adopted (past_of r.setting (take t.entries h)) t.session ≡ true
  pub agrees : IsSession r.setting (take t.entries h) t.session (take had events)
  pub chose : t.did ≡ true → (event : Event) × (slice_get events had ≡ Some event)
      × Chose r.setting (take t.entries h) t (take had events) event
  pub rested : t.did ≡ false → (r.budget ≤ had) ⊎ (CanAct r.setting (take t.entries h) t.session (take had events) → ⊥)

-- ---- one turn after the other

-- between two turns stand entries of their sessions alone
abbrev pub AreTheirs : List Entry → TakenTurn → TakenTurn → Type 0
AreTheirs h a b =
    list_all (λ (e : Entry). nat_eq a.session e.actor || nat_eq b.session e.actor) (drop a.entries (take b.entries h))
    ≡ true

-- A turn ends a round: nothing came of it, and the session after its own was not born before it.
pub record EndsRound (w : Setting) (before : List Entry) (t : TakenTurn) : Type 0 where
  pub rested : t.did ≡ false
  pub last : service_of w (past_of w before) (suc t.session) ≡ None

-- How turn b comes after turn a: it is of the same session, where an event came of a; else of the next one, in the
-- same round; or where a ends its round a new one begins, with session 0, once each call that went out has its outcome.
pub data Follows (w : Setting) (h : List Entry) (a b : TakenTurn) : Type 0 where
  again : a.did ≡ true → b.session ≡ a.session → AreTheirs h a b → Follows w h a b
  next : a.did ≡ false → b.session ≡ suc a.session → AreTheirs h a b → Follows w h a b
  anew : EndsRound w (take a.entries h) a → b.session ≡ 0 → outstanding (past_of w (take b.entries h)) ≡ []
      → Follows w h a b

-- ---- a run

-- Sessions took turns of which these events came, in this history: each turn with the next pick, or 0 after the last;
-- in rounds, one after the other and each to its end.
pub record TookTurns (r : Rules) (picks : List ℕ) (h : List Entry) (sessions : List (List Event)) : Type 0 where
  pub turns : List TakenTurn
  pub had : (i : ℕ) (t : TakenTurn) → slice_get turns i ≡ Some t
      → WasHad r h sessions t (events_by t.session (take i turns))
  pub picked : (i : ℕ) (t : TakenTurn) → slice_get turns i ≡ Some t → t.pick ≡ unwrap_or (slice_get picks i) 0
  pub rising : (i : ℕ) (a b : TakenTurn) → slice_get turns i ≡ Some a → slice_get turns (suc i) ≡ Some b
      → a.entries ≤ b.entries
  pub follows : (i : ℕ) (a b : TakenTurn) → slice_get turns i ≡ Some a → slice_get turns (suc i) ≡ Some b
      → Follows r.setting h a b
  pub first : (t : TakenTurn) → slice_get turns 0 ≡ Some t → t.session ≡ 0
  pub ends : (t : TakenTurn) → slice_get turns (length turns - 1) ≡ Some t → EndsRound r.setting (take t.entries h) t
  pub all : (s : ℕ) (events : List Event) → slice_get sessions s ≡ Some events → events_by s turns ≡ length events

-- a run took these picks: its sessions took turns with them, and all of their events came of these before the stop
abbrev pub TookPicks : Rules → List ℕ → Record → Type 0
TookPicks r picks run = TookTurns r picks (before_stop run.history.entries.items) run.sessions
