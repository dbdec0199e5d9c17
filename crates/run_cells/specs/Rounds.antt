-- What a round of turns leaves: whether something was done, and when nothing is left to do for the sessions.
use Rattle.std.specs.Prelude.{◌≡◌, ℕ, ◌+◌, ◌-◌, ◌*◌, ◌≤◌, ◌<◌, Bool, true, false, List, [], ◌∷◌, ◌++◌, length}
use Rattle.std.specs.Prelude.{nat_lt, Some, slice_get}
use Rattle.std.specs.List.{list_all}
use Rattle.office_core.specs.declared.history.Act.TheVariants as act
use Rattle.office_core.specs.declared.history.Entry.{Entry}
use Rattle.office_core.specs.Limits.{first_worker}
use Rattle.office_core.specs.Sessions.{births}
use Rattle.run_record.specs.Quiet.{CanAct, IsQuiet, IsStill}
use Rattle.run_cells.specs.RunStates.{Rests, Stand, State, events_of, past_in}
use Rattle.run_cells.specs.Turns.{Adoptions, RoundFrom}

-- an entry of a session
abbrev pub is_by_session : Entry → Bool
is_by_session e = nat_lt e.actor first_worker

-- the events that sessions may still have
abbrev pub events_left : ℕ → List Stand → ℕ
events_left budget [] = 0
events_left budget (st ∷ sts) = (budget - length st.events) + events_left budget sts

-- the same, with those of the sessions that may still be adopted
abbrev pub left : State → ℕ
left s = (first_worker - length s.stands) * s.budget + events_left s.budget s.stands

-- an entry by which a session was adopted
abbrev pub is_adoption : Entry → Bool
is_adoption e = elim e.act [ act.Adopt service ↦ true | _ ↦ false ]

-- Adoptions alone came.
pub record OnlyAdoptions (old new : List Entry) : Type 0 where
  pub adoptions : List Entry
  pub is : new ≡ old ++ adoptions
  pub only : list_all is_adoption adoptions ≡ true

-- A session rests since it was looked at: after that there are adoptions alone.
pub record IsResting (s : State) (n : ℕ) (st : Stand) : Type 0 where
  pub seen : List Entry
  pub since : OnlyAdoptions seen s.history
  pub rests : Rests s n st seen

-- Each session rests, and each that was born was adopted.
pub record IsAtRest (s : State) : Type 0 where
  pub each : (n : ℕ) (st : Stand) → slice_get s.stands n ≡ Some st → IsResting s n st
  pub born : length (births s.setting (past_in s)) ≤ length s.stands

-- nothing is left to do
abbrev pub IsQuietAt : State → Type 0
IsQuietAt s = IsQuiet s.setting s.budget s.history (events_of s.stands)

-- each posting began where nothing was left to do, the first where nothing had happened
abbrev pub IsStillAt : State → Type 0
IsStillAt s = IsStill s.setting s.budget s.history (events_of s.stands)

-- The sessions from the first on had their turns.
pub record Went (old new : State) (moved : Bool) : Type 0 where
  pub round : RoundFrom 0 old new moved
  pub setting : new.setting ≡ old.setting
  pub budget : new.budget ≡ old.budget
  pub more : List Entry
  pub history : new.history ≡ old.history ++ more
  pub sessions : list_all is_by_session more ≡ true
  pub less : moved ≡ true → left new < left old
  pub no_more : left new ≤ left old
  pub idle : moved ≡ false → OnlyAdoptions old.history new.history
  pub rest : moved ≡ false → IsAtRest new
  pub still : IsStillAt old → IsStillAt new
  pub quiet : IsQuietAt old → (moved ≡ false) × (new.history ≡ old.history) × (new.stands ≡ old.stands)

-- All sessions that were born were adopted, one after the other, and nothing else changed.
pub record Adopted (old new : State) : Type 0 where
  pub one_by_one : Adoptions old new
  pub setting : new.setting ≡ old.setting
  pub budget : new.budget ≡ old.budget
  pub adoptions : OnlyAdoptions old.history new.history
  pub more : List Stand
  pub stands : new.stands ≡ old.stands ++ more
  pub unmoved : (n : ℕ) (st : Stand) → slice_get more n ≡ Some st → st.events ≡ []
  pub born : length (births new.setting (past_in new)) ≤ length new.stands
  pub still : IsStillAt old → IsStillAt new
  pub none : length (births old.setting (past_in old)) ≤ length old.stands → new.history ≡ old.history

-- Session n used its whole budget and could act all the same.
pub record CouldAct (s : State) (n : ℕ) : Type 0 where
  pub stand : Stand
  pub there : slice_get s.stands n ≡ Some stand
  pub used : length stand.events ≡ s.budget
  pub more : CanAct s.setting s.history n stand.events

-- A session did so.
pub record HasSpent (s : State) : Type 0 where
  pub session : ℕ
  pub could : CouldAct s session
