-- What each kind of step of a seat owes the rule, and that it keeps it.
use Rattle.std.specs.Prelude.{◌≡◌, ℕ, ◌+◌, ◌%◌, ◌^◌, ◌<◌, ◌==◌, true, false, List, [], ◌∷◌, ◌++◌, length}
use mathlib.Core.Option.{some, none}
use lib.ListN.{get_elem?}
use prog.Atomic.{either}
use Rattle.atomic_table.specs.Table.{Allows, Final, Joins, Seen, Splits, opening, step}
use Rattle.behaviour_tree.specs.Data.{ProgramParts}
use Rattle.behaviour_tree.specs.PartsView.{parts_of}
use Rattle.office_core.specs.declared.history.Entry.{Entry}
use Rattle.office_core.specs.Past.{stops}
use Rattle.office_plain.specs.declared.office.Office.{Office}
use Rattle.office_plain.specs.View.{entries_of}
use Rattle.office_sharing.specs.declared.view.View.{View}
use Rattle.office_sharing.specs.Views.{copied, founder, merged, next_seat, nobody, one_more}
use Rattle.office_sharing.specs.Rule.{HasHistory, IsShared}
use Rattle.office_sharing.specs.Plays.{Commits, Ended, GivesBack, HasAll, Looks, TakesTurn}

-- 1. A seat that may call takes the turn, and the office out of its slot; where the turn is taken, nothing moves.
abbrev pub TakesKeep : Type 0
TakesKeep =
    (parts : ProgramParts) (id : ℕ) (v : View) → v.may_call ≡ true
    → Allows (IsShared parts) 1 id (v, []) 0 (λ n. either (n == 0) 1 n) (TakesTurn parts (step 1 0 0 1 none) (v, []))

-- a call that a seat may commit: it is by the seat's number, and stops nothing
pub record IsCall (v : View) (e : Entry) : Type 0 where
  pub by : e.actor ≡ v.number
  pub goes : stops e ≡ false

-- 2. A seat that has the turn adds one to the count word, where the office in its hand has one call of its own more
-- than it has seen.
abbrev pub CommitsKeep : Type 0
CommitsKeep =
    (parts : ProgramParts) (id : ℕ) (v : View) (o : Office) (e : Entry) → v.turn ≡ true → IsCall v e
    → HasHistory parts (v.seen ++ e ∷ []) o → length (entries_of o) < 9223372036854775808
    → Allows (IsShared parts) 1 id (v, (0, o) ∷ []) 1 (λ n. (n + 1) % 2 ^ 64)
    (Commits (step 1 1 1 0 none) (v, (0, o) ∷ []))

-- 3. A seat that has the turn, and has seen all that the office in its hand has, puts it into its slot and frees the
-- turn.
abbrev pub GivingKeeps : Type 0
GivingKeeps =
    (parts : ProgramParts) (id : ℕ) (v : View) (o : Office) → v.turn ≡ true → HasHistory parts v.seen o
    → Allows (IsShared parts) 1 id (v, (0, o) ∷ []) 0 (λ _. 0) (λ _. GivesBack (step 1 0 0 0 none) (v, (0, o) ∷ []) 0)

-- 4. A seat without the turn reads the count word.
abbrev pub LooksKeep : Type 0
LooksKeep =
    (parts : ProgramParts) (id : ℕ) (v : View) → v.turn ≡ false
    → Allows (IsShared parts) 1 id (v, []) 1 (λ n. n) (Looks parts (step 1 1 0 0 none) (v, []))

-- 5. A seat is copied.
abbrev pub CopiesKeep : Type 0
CopiesKeep = (parts : ProgramParts) (id : ℕ) (v : View) → Splits (IsShared parts) id v v (copied v)

-- 6. A seat is joined into another, neither of which has the turn.
abbrev pub JoinsKeep : Type 0
JoinsKeep =
    (parts : ProgramParts) (id other : ℕ) (v w : View) → v.turn ≡ false → w.turn ≡ false
    → Joins (IsShared parts) id v other w (merged v w) nobody

-- 7. After all joins the last seat takes the office, with all its history.
abbrev pub EndKeeps : Type 0
EndKeeps =
    (parts : ProgramParts) (id : ℕ) (v : View) (ws : List ℕ) (xs : List Office) (o : Office) → HasAll v → v.turn ≡ false
    → Final (Seen (IsShared parts) id v) ws xs → get_elem? xs 0 ≡ some o
    → (parts_of o.program ≡ parts) × Ended parts v (entries_of o)

-- 8. The seat that makes others gives the next number to a new one.
abbrev pub MakingKeeps : Type 0
MakingKeeps =
    (parts : ProgramParts) (id : ℕ) (v : View) → v.makes ≡ true
    → Splits (IsShared parts) id v (one_more v) (next_seat v)

-- At first the office has no entry, and is at home.
abbrev pub BeginsSo : Type 0
BeginsSo =
    (parts : ProgramParts) (o : Office) → parts_of o.program ≡ parts → entries_of o ≡ []
    → IsShared parts (opening (0 ∷ 0 ∷ []) (o ∷ []) founder)
