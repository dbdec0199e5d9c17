-- Whether an event of a session is allowed, without one being done.
use Rattle.std.specs.Prelude.{◌≡◌, ℕ, ◌<◌, Bool, true, false, List, Contains, Some, is_some, length, slice_index}
use Rattle.behaviour_tree.specs.declared.words.Need.{Need}
use Rattle.behaviour_tree.specs.declared.words.Need.TheVariants as need
use Rattle.behaviour_tree.specs.declared.words.Given.{Given}
use Rattle.session_calculus.specs.After.{Config, Done, after}
use Rattle.office_core.specs.declared.history.Entry.{Entry}
use Rattle.office_core.specs.Boxes.{queue}
use Rattle.office_core.specs.Calls.{result}
use Rattle.office_core.specs.Keys.{first}
use Rattle.session_turn.specs.Seen.{Seat, past_at}
use Rattle.session_turn.specs.Lives.{Moment}
use Rattle.session_turn.specs.Turns.{AreEnabled, Passed}

-- whether what is asked for is there: a message of these operations waits, or the call has an outcome. All else is
-- there
abbrev pub is_there : Seat → List Entry → Need → Bool
is_there a h (need.Take ops) = is_some (first (queue (past_at a h) a.session ops))
is_there a h (need.Answer k) = is_some (result a.setting (past_at a h) a.session k)
is_there a h n = true

-- What the event of strand n asks for is there in what the session has seen.
pub record IsAllowed (a : Seat) (n : ℕ) (now : Moment) : Type 0 where
  pub config : Config
  pub at : now.config ≡ Some config
  pub asked : Need
  pub asks : (g : Given) (d : Done) → after a.setting.parts now.service config n g ≡ Some d → d.need ≡ asked
  pub there : is_there a now.seen asked ≡ true

-- The strands were looked at: the event of one is allowed, or what each asks for was not there.
pub data LookedAtAll (a : Seat) (strands : List ℕ) (old new : Moment) : Bool → Type 0 where
  one : (n : ℕ) → Contains strands n → IsAllowed a n new → LookedAtAll a strands old new true
  none : ((k : ℕ) → k < length strands → Passed a (slice_index strands k) old new)
      → LookedAtAll a strands old new false

-- The session has ended, and no event is allowed; or its enabled strands were looked at.
pub data MayAct (a : Seat) (old new : Moment) : Bool → Type 0 where
  ended : (c : Config) → old.config ≡ Some c → c.ended ≡ true → MayAct a old new false
  looked : (strands : List ℕ) (b : Bool) → AreEnabled a old strands → LookedAtAll a strands old new b
      → MayAct a old new b
