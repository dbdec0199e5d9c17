-- The office that threads share at its desk: what it works by there, and when a session may call it by a pass.
use Rattle.std.specs.Prelude.{◌≡◌, ℕ, true, false}
use Rattle.behaviour_tree.specs.Data.{ProgramParts}
use Rattle.office_core.specs.Limits.{run_of}
use Rattle.office_sharing.specs.declared.view.View.{View}
use Rattle.office_sharing.specs.Numbers.{entries_by}
use Rattle.session_turn.specs.Seen as seen

-- the office of a run of a program that others call too
abbrev pub office_shared : ProgramParts → seen.Office
office_shared parts = record { setting = run_of parts; alone = false }

-- The pass is of the session's number and may call, and what it has seen has just the calls that it made by its number.
pub record IsPass (v : View) (s : ℕ) : Type 0 where
  pub number : v.number ≡ s
  pub calls : v.may_call ≡ true
  pub own : entries_by v.number v.seen ≡ v.mine
