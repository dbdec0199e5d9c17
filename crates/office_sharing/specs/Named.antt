-- What the name of a run says: of which table and of which program it is.
use Rattle.std.specs.Prelude.{◌≡◌, [], Option, None, Some}
use Rattle.std.proofs.Props.{props}
use Rattle.std.specs.Coded.{Coded-set, coded_option}
use Rattle.atomic_table.specs.Seated.{TableId}
use Rattle.behaviour_tree.specs.contracts.program.Program as program_row
use Rattle.behaviour_tree.specs.declared.program.Program.{Program}
use Rattle.behaviour_tree.specs.Data.{ProgramParts}
use Rattle.behaviour_tree.specs.PartsView.{parts_of}

-- the name of no table
abbrev pub no_table : TableId
no_table = record { words = 0; slots = 0; views_name = 0; atom = 0; block = 0; offset = 0; slot_names = [] }

-- what the program of a run consists of; nothing where the run has none
abbrev pub parts_by : Option Program → ProgramParts
parts_by None = record { types = []; interfaces = []; services = []; names = [] }
parts_by (Some program) = parts_of program

-- a program is that of the run
abbrev pub IsProgramOf : Option Program → Program → Type 0
IsProgramOf run program = Some program ≡ run

pub IsProgramOf-prop : (run : Option Program) (program : Program) → IsProp (IsProgramOf run program)
IsProgramOf-prop run program = Prim.hlevel (props, Coded-set (coded_option program_row.the_row.coded))
