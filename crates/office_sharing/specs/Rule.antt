-- The rule of the shared office: one legal history, a turn, and seats that have seen beginnings of the history.
use Rattle.std.specs.Prelude.{◌≡◌, ℕ, ◌<◌, ◌≤◌, Bool, true, false, List, [], ◌∷◌, length}
use mathlib.Core.Option.{Option, some, none}
use mathlib.Core.List.{IsPrefix}
use lib.ListN.{get_elem?}
use Rattle.atomic_table.specs.Table.{State}
use Rattle.behaviour_tree.specs.Data.{ProgramParts}
use Rattle.behaviour_tree.specs.PartsView.{parts_of}
use Rattle.office_core.specs.declared.history.Entry.{Entry}
use Rattle.office_core.specs.Limits.{run_of}
use Rattle.office_core.specs.Past.{is_running}
use Rattle.office_core.specs.Accepted.{past_of}
use Rattle.office_core.specs.Legal.{IsLegal}
use Rattle.office_plain.specs.declared.office.Office.{Office}
use Rattle.office_plain.specs.View.{entries_of}
use Rattle.office_sharing.specs.declared.view.View.{View}
use Rattle.office_sharing.specs.Numbers.{entries_by, IsAmong, AreApart, numbers, KeepsCalls}

-- the history of a shared office: it is legal, and the run did not stop
pub record IsHistory (parts : ProgramParts) (log : List Entry) : Type 0 where
  pub legal : IsLegal (run_of parts) log
  pub running : is_running (past_of (run_of parts) log) ≡ true

-- an office of the program with this history
pub record HasHistory (parts : ProgramParts) (log : List Entry) (o : Office) : Type 0 where
  pub program : parts_of o.program ≡ parts
  pub entries : entries_of o ≡ log

-- who has which number, who makes seats, how many numbers were given, who had the turn last, and whether it has it
-- still
pub record Deal : Type 0 where
  pub owner : ℕ → ℕ
  pub maker : ℕ
  pub given : ℕ
  pub holder : ℕ
  pub away : Bool

-- what a seat knows fits the history: it has seen a beginning of it, and was told one; the entries by its number are
-- its calls, and those by numbers of seats that were joined are theirs; its numbers were given to it, each once; where
-- it has the turn, it may call and has seen all; where it makes seats, it alone does, and knows how many numbers were
-- given
pub record Fits (log : List Entry) (d : Deal) (seat : ℕ) (v : View) : Type 0 where
  pub seen : IsPrefix v.seen log
  pub told : IsPrefix v.told log
  pub mine : v.may_call ≡ true → entries_by v.number log ≡ v.mine
  pub kept : KeepsCalls log v.kept
  pub own : (n : ℕ) → IsAmong n (numbers v) → (d.owner n ≡ seat) × (n < d.given)
  pub apart : AreApart (numbers v)
  pub turn : v.turn ≡ true → (v.may_call ≡ true) × (d.away ≡ true) × (d.holder ≡ seat) × (v.seen ≡ log)
  pub makes : v.makes ≡ true → (d.maker ≡ seat) × (v.given ≡ d.given)

-- what each seat knows fits
abbrev pub FitAll : List Entry → Deal → List View → Type 0
FitAll log d views = (seat : ℕ) (v : View) → get_elem? views seat ≡ some v → Fits log d seat v

-- a seat has the turn
abbrev pub HasTurn : List View → ℕ → Type 0
HasTurn views seat = (v : View) × (get_elem? views seat ≡ some v) × (v.turn ≡ true)

-- the turn word: 1 while a seat has the turn
abbrev pub word_of : Bool → ℕ
word_of false = 0
word_of true = 1

-- the office is out while a seat has the turn, else at home with the history
abbrev pub IsPlaced : ProgramParts → List Entry → Bool → List (Option Office) → Type 0
IsPlaced parts log true homes = homes ≡ none ∷ []
IsPlaced parts log false homes = (o : Office) × (homes ≡ some o ∷ []) × HasHistory parts log o

-- The rule: there is one history, of as many entries as the count word says; the office has it, or the seat that has
-- the turn; what each seat knows fits it; and it has no entry by a number that was not given.
pub record IsShared (parts : ProgramParts) (s : State Office View) : Type 0 where
  pub log : List Entry
  pub deal : Deal
  pub history : IsHistory parts log
  pub size : length log < 9223372036854775808
  pub words : s.words ≡ word_of deal.away ∷ length log ∷ []
  pub home : IsPlaced parts log deal.away s.homes
  pub held : deal.away ≡ true → HasTurn s.views deal.holder
  pub fits : FitAll log deal s.views
  pub fresh : (n : ℕ) → deal.given ≤ n → entries_by n log ≡ []
