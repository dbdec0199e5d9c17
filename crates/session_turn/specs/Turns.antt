-- What one turn of a session does.
use Rattle.std.specs.Prelude.{◌≡◌, ◌↔◌, ℕ, ◌+◌, ◌%◌, ◌<◌, List, [], ◌++◌, None, Some, Contains, length, slice_index}
use Rattle.std.specs.List.Sorted.{IsStrictlyIncreasing}
use Rattle.behaviour_tree.specs.declared.words.Event.{Event}
use Rattle.behaviour_tree.specs.declared.words.Need.{Need}
use Rattle.behaviour_tree.specs.declared.words.Need.TheVariants as need
use Rattle.behaviour_tree.specs.declared.words.Given.{Given}
use Rattle.session_calculus.specs.After.{Config, Done, after, HasEvent}
use Rattle.office_core.specs.declared.history.Entry.{Entry}
use Rattle.office_core.specs.Boxes.{queue}
use Rattle.office_core.specs.Calls.{result}
use Rattle.session_turn.specs.Seen.{Seat, past_at, Grew}
use Rattle.session_turn.specs.Lives.{Gives, Moment}

-- the strands are those with an event, in rising order
pub record AreEnabled (a : Seat) (now : Moment) (strands : List ℕ) : Type 0 where
  pub config : Config
  pub at : now.config ≡ Some config
  pub exact : (n : ℕ) → Contains strands n ↔ HasEvent a.setting.parts now.service config n
  pub rising : IsStrictlyIncreasing strands

-- what is asked for is not there: no message of these operations waits, or the call has no outcome. All else is there
abbrev pub IsAbsent : Seat → List Entry → Need → Type 0
IsAbsent a h (need.Take ops) = queue (past_at a h) a.session ops ≡ []
IsAbsent a h (need.Answer k) = result a.setting (past_at a h) a.session k ≡ None
IsAbsent a h n = ⊥

-- Strand n was looked at between two moments, and what its event asks for was not there in what the look saw.
pub record Passed (a : Seat) (n : ℕ) (old new : Moment) : Type 0 where
  pub config : Config
  pub at : old.config ≡ Some config
  pub asked : Need
  pub asks : (g : Given) (d : Done) → after a.setting.parts old.service config n g ≡ Some d → d.need ≡ asked
  pub saw : List Entry
  pub grew : Grew a old.seen saw
  pub absent : IsAbsent a saw asked
  pub more : List Entry
  pub is : new.seen ≡ saw ++ more

-- The event of strand n was done between two moments, for what the office gave then.
pub record Happened (a : Seat) (n : ℕ) (old new : Moment) (event : Event) : Type 0 where
  pub config : Config
  pub at : old.config ≡ Some config
  pub gift : Given
  pub done : Done
  pub after_is : after a.setting.parts old.service config n gift ≡ Some done
  pub before : List Entry
  pub grew : Grew a old.seen before
  pub own : List Entry
  pub given : Gives a before done.need gift own
  pub seen : new.seen ≡ before ++ own
  pub now_at : new.config ≡ Some done.config
  pub service : new.service ≡ old.service
  pub event_is : event ≡ done.event

-- strands, and the position from which on they are looked at
pub record Order : Type 0 where
  pub strands : List ℕ
  pub pick : ℕ

-- the strands from a position on
abbrev pub from_pick : List ℕ → ℕ → Order
from_pick strands pick = record { strands = strands; pick = pick }

-- the strand that is looked at after k others, cyclically
abbrev pub strand_after : Order → ℕ → ℕ
strand_after o k = slice_index o.strands ((o.pick + k) % length o.strands)

-- The event is that of the first strand which the office allows; those before it were looked at.
pub record FirstDone (a : Seat) (o : Order) (old new : Moment) (event : Event) : Type 0 where
  pub skipped : ℕ
  pub within : skipped < length o.strands
  pub passed : (k : ℕ) → k < skipped → Passed a (strand_after o k) old new
  pub happened : Happened a (strand_after o skipped) old new event

-- Each strand was looked at, and the office allows none.
pub record NoneAllowed (a : Seat) (o : Order) (old new : Moment) : Type 0 where
  pub passed : (k : ℕ) → k < length o.strands → Passed a (strand_after o k) old new
  pub grew : Grew a old.seen new.seen
  pub config : new.config ≡ old.config
  pub service : new.service ≡ old.service
