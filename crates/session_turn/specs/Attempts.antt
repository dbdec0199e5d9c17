-- These definitions serve the proofs alone: no promise speaks of them.
-- What the parts of a turn do.
use Rattle.std.specs.Prelude.{◌≡◌, ℕ, Bool, true, false, List, ◌++◌, Option, Some}
use Rattle.behaviour_tree.specs.declared.words.Event.{Event}
use Rattle.behaviour_tree.specs.declared.words.Need.{Need}
use Rattle.behaviour_tree.specs.declared.words.Given.{Given}
use Rattle.behaviour_tree.specs.Data.{ProgramParts}
use Rattle.session_calculus.specs.After.{Config, Done, after, HasEvent}
use Rattle.office_core.specs.declared.history.Entry.{Entry}
use Rattle.session_turn.specs.Seen.{Seat, Grew}
use Rattle.session_turn.specs.Lives.{Gives, Moment}
use Rattle.session_turn.specs.Turns.{IsAbsent, Passed}
use Rattle.session_turn.specs.Looks.{IsAllowed}

-- a session of a service, and where it is
pub record Standing : Type 0 where
  pub parts : ProgramParts
  pub service : ℕ
  pub config : Option Config

-- the same by its parts
abbrev pub standing : ProgramParts → ℕ → Option Config → Standing
standing parts service c = record { parts = parts; service = service; config = c }

-- Strand n has an event, and whatever the gift, it asks for this.
pub record Asks (now : Standing) (n : ℕ) (asked : Need) : Type 0 where
  pub config : Config
  pub at : now.config ≡ Some config
  pub enabled : HasEvent now.parts now.service config n
  pub each : (g : Given) (d : Done) → after now.parts now.service config n g ≡ Some d → d.need ≡ asked

-- The event of strand n was done for the gift.
pub record WentOn (old new : Standing) (n : ℕ) (gift : Given) (event : Event) : Type 0 where
  pub config : Config
  pub at : old.config ≡ Some config
  pub done : Done
  pub after_is : after old.parts old.service config n gift ≡ Some done
  pub event_is : event ≡ done.event
  pub now_at : new.config ≡ Some done.config

-- The office gave the gift for what was asked, by the entry that goes with it.
pub record Gave (a : Seat) (asked : Need) (old new : List Entry) (gift : Given) : Type 0 where
  pub before : List Entry
  pub grew : Grew a old before
  pub own : List Entry
  pub given : Gives a before asked gift own
  pub is : new ≡ before ++ own

-- The office had nothing of what was asked.
pub record GaveNone (a : Seat) (asked : Need) (old new : List Entry) : Type 0 where
  pub grew : Grew a old new
  pub absent : IsAbsent a new asked

-- Strand n was passed, and the session stands where it stood.
pub record StoodStill (a : Seat) (n : ℕ) (old new : Moment) : Type 0 where
  pub passed : Passed a n old new
  pub grew : Grew a old.seen new.seen
  pub config : new.config ≡ old.config
  pub service : new.service ≡ old.service

-- Strand n was looked at between two moments: its event is allowed, or what it asks for was not there.
pub data LookedAt (a : Seat) (n : ℕ) (old new : Moment) : Bool → Type 0 where
  allowed : IsAllowed a n new → LookedAt a n old new true
  passed : Passed a n old new → LookedAt a n old new false
