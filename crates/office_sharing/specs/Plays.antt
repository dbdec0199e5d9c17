-- What each step of a seat tells it.
use Rattle.std.specs.Prelude.{◌≡◌, ℕ, ◌==◌, Bool, true, false, List, [], ◌∷◌, ◌++◌, length, MatchBool}
use mathlib.Core.List.{IsPrefix}
use Rattle.atomic_table.specs.Table.{Me, Step}
use Rattle.behaviour_tree.specs.Data.{ProgramParts}
use Rattle.office_core.specs.declared.history.Entry.{Entry}
use Rattle.office_core.specs.Past.{stops}
use Rattle.office_plain.specs.declared.office.Office.{Office}
use Rattle.office_plain.specs.View.{entries_of}
use Rattle.office_sharing.specs.declared.view.View.{View}
use Rattle.office_sharing.specs.Numbers.{entries_by, numbers, IsAmong, KeepsCalls}
use Rattle.office_sharing.specs.Rule.{HasHistory, IsHistory}
use Rattle.office_sharing.specs.Views.{committed, in_turn, looked, off_turn}

-- the history of the office in the hand
abbrev pub in_hand : List (ℕ × Office) → List Entry
in_hand [] = []
in_hand (x ∷ xs) = entries_of x.1

-- the seat has the office of the program in its hand, with this history
pub record InHand (parts : ProgramParts) (log : List Entry) (m : Me Office View) : Type 0 where
  pub office : Office
  pub hand : m.1 ≡ (0, office) ∷ []
  pub has : HasHistory parts log office

-- The seat has the turn from now on, and the office with all its history, which begins with what the seat had seen and
-- has of the seat's number just the calls that it made.
pub record HasTaken (parts : ProgramParts) (m w : Me Office View) : Type 0 where
  pub log : List Entry
  pub history : IsHistory parts log
  pub begins : IsPrefix m.0.seen log
  pub own : entries_by m.0.number log ≡ m.0.mine
  pub view : w.0 ≡ in_turn m.0 log
  pub hand : InHand parts log w

-- the turn is taken where it was free, and else all stays
abbrev pub TakesTurn : ProgramParts → Step Office → Me Office View → ℕ → Me Office View → Type 0
TakesTurn parts s m n w = MatchBool (n == 0) (HasTaken parts m w) (w ≡ m)

-- the call that was made on the office in the hand is the seat's
abbrev pub Commits : Step Office → Me Office View → ℕ → Me Office View → Type 0
Commits s m n w = w ≡ (committed m.0 (in_hand m.1), m.1)

-- the turn is free again, and the office at home
abbrev pub GivesBack : Step Office → Me Office View → ℕ → Me Office View → Type 0
GivesBack s m n w = w ≡ (off_turn m.0, [])

-- The seat has seen the whole history, which begins with what it had seen and with what it was told, and its length.
pub record HasLooked (parts : ProgramParts) (v : View) (n : ℕ) (w : View) : Type 0 where
  pub log : List Entry
  pub history : IsHistory parts log
  pub begins : IsPrefix v.seen log
  pub told : IsPrefix v.told log
  pub own : v.may_call ≡ true → entries_by v.number log ≡ v.mine
  pub count : length log ≡ n
  pub view : w ≡ looked v log

-- a look at the count
abbrev pub Looks : ProgramParts → Step Office → Me Office View → ℕ → Me Office View → Type 0
Looks parts s m n w = HasLooked parts m.0 n w.0 × (w.1 ≡ [])

-- every other seat that was made was joined into this one
abbrev pub HasAll : View → Type 0
HasAll v = (v.makes ≡ true) × (length (numbers v) ≡ v.given)

-- What the office comes back with: a history that begins with what the last seat has seen, in which each number that
-- was given has just the calls of its seat, and no other has an entry.
pub record Ended (parts : ProgramParts) (v : View) (log : List Entry) : Type 0 where
  pub history : IsHistory parts log
  pub begins : IsPrefix v.seen log
  pub mine : v.may_call ≡ true → entries_by v.number log ≡ v.mine
  pub kept : KeepsCalls log v.kept
  pub others : (n : ℕ) → (IsAmong n (numbers v) → ⊥) → entries_by n log ≡ []
