-- What adoptions, turns and rounds of turns do.
use Rattle.std.specs.Prelude.{◌≡◌, ℕ, suc, ◌≤◌, ◌<◌, Bool, true, false, ◌||◌, List, [], ◌∷◌, ◌++◌, length, drop}
use Rattle.std.specs.Prelude.{None, Some, slice_get, slice_set, unwrap_or}
use Rattle.behaviour_tree.specs.declared.words.Event.{Event}
use Rattle.session_calculus.specs.After.{Config}
use Rattle.session_calculus.specs.Runs.{start_of}
use Rattle.office_core.specs.declared.history.Act.TheVariants as act
use Rattle.office_core.specs.declared.history.Entry.{Entry}
use Rattle.office_core.specs.Limits.{Setting}
use Rattle.office_core.specs.Sessions.{service_of}
use Rattle.session_turn.specs.Seen.{Seat}
use Rattle.session_turn.specs.Turns.{AreEnabled, FirstDone, NoneAllowed, from_pick}
use Rattle.session_turn.specs.declared.turn.Turn.{Turn}
use Rattle.session_turn.specs.declared.turn.Turn.TheVariants as turn
use Rattle.run_cells.specs.RunStates.{HasNotEnded, Stand, State, Team, moment_at, past_in, seat_at}

-- ---- adoptions

-- the entry by which a session of a service is adopted
abbrev pub adoption : ℕ → ℕ → Entry
adoption n service = record { actor = n; act = act.Adopt service }

-- a session of a service at its start
abbrev pub fresh : Setting → ℕ → Stand
fresh w service = record { service = service; config = start_of w.parts service; events = [] }

-- The next session was born, and was adopted at its start.
pub record IsAdoption (old new : State) : Type 0 where
  pub service : ℕ
  pub born : service_of old.setting (past_in old) (length old.stands) ≡ Some service
  pub setting : new.setting ≡ old.setting
  pub budget : new.budget ≡ old.budget
  pub history : new.history ≡ old.history ++ adoption (length old.stands) service ∷ []
  pub stands : new.stands ≡ old.stands ++ fresh old.setting service ∷ []
  pub picks : new.picks ≡ old.picks

-- sessions that were born were adopted, one after the other
pub data Adoptions (old : State) : State → Type 0 where
  nobody_yet : Adoptions old old
  and_next : (mid new : State) → Adoptions old mid → IsAdoption mid new → Adoptions old new

-- The next session was not born, and nothing changed.
pub record IsNoBirth (old new : State) : Type 0 where
  pub unborn : service_of old.setting (past_in old) (length old.stands) ≡ None
  pub same : new ≡ old

-- ---- a turn

-- a turn: of a session of a run under a setting and a budget, with a pick
pub record Play : Type 0 where
  pub setting : Setting
  pub budget : ℕ
  pub session : ℕ
  pub pick : ℕ

-- the next turn of session n, with the next pick, which is 0 after the last
abbrev pub play : State → ℕ → Play
play s n = record {
  setting = s.setting;
  budget = s.budget;
  session = n;
  pick = unwrap_or (slice_get s.picks 0) 0;
}

-- the seat of the session whose turn it is
abbrev pub seat_of : Play → Seat
seat_of p = seat_at p.setting p.session

-- where a session stands, and the history
pub record Position : Type 0 where
  pub stand : Stand
  pub history : List Entry

-- a position by its parts
abbrev pub position : Stand → List Entry → Position
position st h = record { stand = st; history = h }

-- what a turn came to: the first event that is allowed from the pick on was done; or the session has not ended and not
-- used its budget, and none is allowed; or it has ended; or it has not, and has used its budget. Where no event was
-- done it stands where it stood
pub data Turned (p : Play) (old new : Position) : Turn → Type 0 where
  did : (event : Event) (strands : List ℕ) → AreEnabled (seat_of p) (moment_at old.stand old.history) strands
      → FirstDone (seat_of p) (from_pick strands p.pick) (moment_at old.stand old.history)
      (moment_at new.stand new.history) event
      → new.stand.events ≡ old.stand.events ++ event ∷ [] → length old.stand.events < p.budget
      → Turned p old new (turn.Did event)
  idle : HasNotEnded old.stand → length old.stand.events < p.budget
      → (strands : List ℕ) → AreEnabled (seat_of p) (moment_at old.stand old.history) strands
      → NoneAllowed (seat_of p) (from_pick strands p.pick) (moment_at old.stand old.history)
      (moment_at old.stand old.history)
      → new ≡ old
      → Turned p old new turn.Idle
  ended : (c : Config) → old.stand.config ≡ Some c → c.ended ≡ true → new ≡ old → Turned p old new turn.Ended
  spent : HasNotEnded old.stand → p.budget ≤ length old.stand.events → new ≡ old → Turned p old new turn.Spent

-- Session n had a turn, which took the next pick.
pub record IsTurn (n : ℕ) (old new : State) (t : Turn) : Type 0 where
  pub was : Stand
  pub there : slice_get old.stands n ≡ Some was
  pub now : Stand
  pub setting : new.setting ≡ old.setting
  pub budget : new.budget ≡ old.budget
  pub stands : new.stands ≡ slice_set old.stands n now
  pub picks : new.picks ≡ drop 1 old.picks
  pub turned : Turned (play old n) (position was old.history) (position now new.history) t

-- a turn did something
abbrev pub is_did : Turn → Bool
is_did (turn.Did event) = true
is_did turn.Idle = false
is_did turn.Ended = false
is_did turn.Spent = false

-- ---- rounds

-- session n has turns until one does nothing; whether one did something
pub data TurnsOf (n : ℕ) : State → State → Bool → Type 0 where
  last : (old new : State) (t : Turn) → is_did t ≡ false → IsTurn n old new t → TurnsOf n old new false
  more : (old mid new : State) (t : Turn) (b : Bool) → is_did t ≡ true → IsTurn n old mid t → Team mid
      → TurnsOf n mid new b
      → TurnsOf n old new true

-- session n is at hand, or is adopted
pub data Comes (n : ℕ) (old new : State) : Type 0 where
  there : n < length old.stands → new ≡ old → Comes n old new
  now : n ≡ length old.stands → IsAdoption old new → Team new → Comes n old new

-- the sessions from n on come and have their turns, one after the other, until one was not born; whether one did
-- something
pub data RoundFrom : ℕ → State → State → Bool → Type 0 where
  over : (n : ℕ) (old new : State) → n ≡ length old.stands → IsNoBirth old new → RoundFrom n old new false
  next : (n : ℕ) (old here mid new : State) (a b : Bool) → Comes n old here → TurnsOf n here mid a
      → RoundFrom (suc n) mid new b
      → RoundFrom n old new (a || b)

-- ---- these definitions serve the proofs alone: no promise speaks of them

-- whether the next session was adopted
pub data Adopts (old new : State) : Bool → Type 0 where
  one : IsAdoption old new → Adopts old new true
  none : IsNoBirth old new → Adopts old new false

-- whether there is a session n
pub data CameTo (n : ℕ) (old new : State) : Bool → Type 0 where
  here : Comes n old new → CameTo n old new true
  nobody : n ≡ length old.stands → IsNoBirth old new → CameTo n old new false
