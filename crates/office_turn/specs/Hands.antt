-- The office in the hand of a seat that has the turn, and what a call on it makes of that.
use Rattle.std.specs.Prelude.{◌≡◌, ℕ, List, [], ◌∷◌, ◌++◌, Option, None, Some, IfSome}
use Rattle.atomic_table.specs.Table.{Me}
use Rattle.behaviour_tree.specs.Data.{ProgramParts}
use Rattle.office_core.specs.declared.history.Entry.{Entry}
use Rattle.office_core.specs.Past.{Past}
use Rattle.office_plain.specs.declared.office.Office.{Office}
use Rattle.office_plain.specs.View.{with_entry}
use Rattle.office_sharing.specs.declared.view.View.{View}
use Rattle.office_sharing.specs.Views.{committed, off_turn}
use Rattle.office_sharing.specs.Rule.{HasHistory}
use Rattle.office_sharing.specs.Plays.{InHand, in_hand}
use Rattle.office_sharing.specs.Steps.{IsCall}
use Rattle.office_turn.specs.Calls.{past_at}

-- the seat has an office of the program in its hand
abbrev pub HasOffice : ProgramParts → Me Office View → Type 0
HasOffice parts m = InHand parts (in_hand m.1) m

-- what happened so far, by the office in the hand
abbrev pub past_in_hand : ProgramParts → Me Office View → Past
past_in_hand parts m = past_at parts (in_hand m.1)

-- a call was made on the office in the hand, which has an entry more, where the call makes one
pub record Did (parts : ProgramParts) (more : Option Entry) (m w : Me Office View) : Type 0 where
  pub view : w.0 ≡ m.0
  pub hand : InHand parts (with_entry (in_hand m.1) more) w

-- the office in the hand has what the seat has seen, with one call of the seat more
pub record HasCall (parts : ProgramParts) (m : Me Office View) : Type 0 where
  pub call : Entry
  pub own : IsCall m.0 call
  pub hand : InHand parts (m.0.seen ++ call ∷ []) m

-- the office in the hand has what the seat has seen, with at most one call of the seat more
pub record HasMade (parts : ProgramParts) (m : Me Office View) : Type 0 where
  pub more : Option Entry
  pub own : IfSome more (IsCall m.0)
  pub hand : InHand parts (with_entry m.0.seen more) m

-- the seat has seen the history of the office that was in its hand, and the turn is free
abbrev pub settled : View → List Entry → View
settled v log = off_turn (committed v log)
