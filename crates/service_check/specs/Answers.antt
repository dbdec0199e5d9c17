-- What the checker answers.
use Rattle.std.specs.Prelude.{◌≡◌, List, None, Some, Result, Ok, Err}
use Rattle.jolie_ast.specs.declared.tree.Definition.{Definition}
use Rattle.behaviour_tree.specs.declared.program.Program.{Program}
use Rattle.behaviour_tree.specs.PartsView.{parts_of}
use Rattle.check_base.specs.declared.refusal.CheckError.{CheckError}
use Rattle.check_base.specs.declared.refusal.CheckError.TheVariants as error
use Rattle.check_base.specs.Least.{refusal}
use Rattle.service_check.specs.Refusals.{refusal_of}
use Rattle.service_check.specs.Programs.{program_of}

-- The program of the file exactly where nothing is refused of it, else the refusal that comes first; want of memory is
-- free.
abbrev pub Checks : List Definition → Result Program CheckError → Type 0
Checks file (Ok program) = (refusal_of file ≡ None) × (parts_of program ≡ program_of file)
Checks file (Err (error.Refused name at)) = refusal_of file ≡ Some (refusal name at)
Checks file (Err (error.Memory cause)) = Unit {0}
