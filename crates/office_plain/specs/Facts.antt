-- What the type of an office keeps: of its program, its history, and what it keeps beside that.
use Rattle.std.specs.Prelude.{◌≡◌, Bool, false}
use Rattle.behaviour_tree.specs.declared.program.Program.{Program}
use Rattle.behaviour_tree.specs.PartsView.{parts_of}
use Rattle.office_core.specs.Limits.{Setting, run_of}
use Rattle.office_core.specs.Past.{Past}
use Rattle.office_core.specs.Accepted.{past_of}
use Rattle.office_core.specs.Legal.{IsLegal}
use Rattle.office_core.specs.OneProof.{IsLegal-prop}
use Rattle.office_plain.specs.declared.log.Log.{Log}
use Rattle.office_plain.specs.declared.kept.Kept.{Kept}
use Rattle.office_plain.specs.Logs.{entries_of}
use Rattle.office_plain.specs.Ties.{Ties, Ties-prop}

-- what an office of a program works by
abbrev pub setting_by : Program → Setting
setting_by program = run_of (parts_of program)

-- what happened so far
abbrev pub past_by : Program → Log → Past
past_by program log = past_of (setting_by program) (entries_of log)

-- the history is legal
abbrev pub KeepsLegal : Program → Log → Type 0
KeepsLegal program log = IsLegal (setting_by program) (entries_of log)

pub KeepsLegal-prop : (program : Program) (log : Log) → IsProp (KeepsLegal program log)
KeepsLegal-prop program log = IsLegal-prop (setting_by program) (entries_of log)

-- what is kept is tied to the history, unless memory was wanting inside a call
abbrev pub StaysTied : Program → Log → Kept → Bool → Type 0
StaysTied program log kept spent = spent ≡ false → Ties (setting_by program) (past_by program log) kept

pub StaysTied-prop : (program : Program) (log : Log) (kept : Kept) (spent : Bool)
    → IsProp (StaysTied program log kept spent)
StaysTied-prop program log kept spent = Ties-prop (setting_by program) (entries_of log) kept spent
