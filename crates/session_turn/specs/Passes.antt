-- The office of one thread at its desk: what it works by there, and when sessions may call it.
use Rattle.std.specs.Prelude.{◌≡◌, true, false}
use Rattle.behaviour_tree.specs.Data.{ProgramParts}
use Rattle.behaviour_tree.specs.PartsView.{parts_of}
use Rattle.office_core.specs.Limits.{run_of}
use Rattle.office_core.specs.Past.{is_running}
use Rattle.office_plain.specs.declared.office.Office.{Office}
use Rattle.office_plain.specs.View.{past_in}
use Rattle.session_turn.specs.Seen as seen

-- the office of a run of a program that nobody else calls
abbrev pub office_alone : ProgramParts → seen.Office
office_alone parts = record { setting = run_of parts; alone = true }

-- The office is of the program, memory was never wanting inside one of its calls, and the run did not stop.
pub record IsReady (parts : ProgramParts) (office : Office) : Type 0 where
  pub program : parts_of office.program ≡ parts
  pub ready : office.spent ≡ false
  pub running : is_running (past_in office) ≡ true
