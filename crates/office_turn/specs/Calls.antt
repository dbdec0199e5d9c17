-- What a call through a pass tells: the reply of the one-thread office at one point of the one history.
use Rattle.std.specs.Prelude.{◌≡◌, ℕ, Bool, true, List, [], ◌∷◌, Option, None, Some, if◌then◌else◌}
use mathlib.Core.List.{IsPrefix}
use Rattle.behaviour_tree.specs.Data.{ProgramParts}
use Rattle.office_core.specs.declared.history.Act.TheVariants as act
use Rattle.office_core.specs.declared.history.Entry.{Entry}
use Rattle.office_core.specs.Limits.{Setting, run_of}
use Rattle.office_core.specs.Past.{Past, closes, some_entry}
use Rattle.office_core.specs.Accepted.{past_of}
use Rattle.office_plain.specs.Entries.{entry}
use Rattle.office_plain.specs.View.{with_entry}
use Rattle.office_sharing.specs.declared.view.View.{View}
use Rattle.office_sharing.specs.Numbers.{entries_by}
use Rattle.office_sharing.specs.Rule.{IsHistory}
use Rattle.office_sharing.specs.Views.{merged}

-- what happened in a history of the run's office
abbrev pub past_at : ProgramParts → List Entry → Past
past_at parts log = past_of (run_of parts) log

-- the end of input, which is noted once
abbrev pub closing_entry : Past → ℕ → Option Entry
closing_entry past n = if some_entry past closes then None else Some (entry n act.Close)

-- A history at which the pass may be given the turn: it is legal and the run did not stop, it begins with what the pass
-- has seen, and has of the pass's number just the calls that the pass made.
pub record Follows (parts : ProgramParts) (v : View) (log : List Entry) : Type 0 where
  pub history : IsHistory parts log
  pub begins : IsPrefix v.seen log
  pub own : entries_by v.number log ≡ v.mine

-- whatever others do meanwhile, the condition holds when the pass is given the turn
abbrev pub Stays : ProgramParts → View → (Setting → Past → Bool) → Type 0
Stays parts v condition =
    (log : List Entry) → Follows parts v log → condition (run_of parts) (past_at parts log) ≡ true

-- a fact holds of what the pass has seen
abbrev pub HoldsSeen : ProgramParts → View → (Setting → Past → Type 0) → Type 0
HoldsSeen parts v fact = fact (run_of parts) (past_at parts v.seen)

-- The pass was given the turn at one point of the one history, and its call's entry stands after that, where the call
-- makes one. What it has seen is legal then, and the entries by its number are just its calls.
pub record Made (parts : ProgramParts) (v w : View) (more : Setting → Past → Option Entry) : Type 0 where
  pub before : List Entry
  pub follows : Follows parts v before
  pub seen : w.seen ≡ with_entry before (more (run_of parts) (past_at parts before))
  pub mine : w.mine ≡ with_entry v.mine (more (run_of parts) (past_at parts before))
  pub history : IsHistory parts w.seen
  pub own : entries_by w.number w.seen ≡ w.mine
  pub same : w ≡ record v { seen = w.seen; mine = w.mine }

-- The same, and the reply of the call is the one that the office of one thread gives at that point.
pub record Called (parts : ProgramParts) (v w : View) (answer : Setting → Past → Type 0)
    (more : Setting → Past → Option Entry) : Type 0 where
  pub made : Made parts v w more
  pub reply : answer (run_of parts) (past_at parts made.before)

-- The pass has seen more, and made no call.
pub record Saw (parts : ProgramParts) (v w : View) : Type 0 where
  pub begins : IsPrefix v.seen w.seen
  pub history : IsHistory parts w.seen
  pub own : v.may_call ≡ true → entries_by w.number w.seen ≡ w.mine
  pub same : w ≡ record v { seen = w.seen }

-- The pass took another in: what it has seen begins with what each of the two had seen, and the calls of the other, with
-- those that it kept, are kept after its own.
pub record TookIn (parts : ProgramParts) (v other w : View) : Type 0 where
  pub begins : IsPrefix v.seen w.seen
  pub told : IsPrefix other.seen w.seen
  pub history : IsHistory parts w.seen
  pub own : v.may_call ≡ true → entries_by w.number w.seen ≡ w.mine
  pub same : w ≡ record (merged v other) { seen = w.seen; told = [] }
