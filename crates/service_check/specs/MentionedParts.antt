-- These definitions serve the proofs alone: no promise speaks of them.
-- What parts of a file name.
use Rattle.std.specs.Prelude.{ℕ, List, [], Option, unwrap_or}
use Rattle.jolie_ast.specs.declared.interface.Fault.{Fault}
use Rattle.check_base.specs.Repeated.{Texts}

-- the texts of a part that may be there
abbrev pub maybe : Option Texts → Texts
maybe part = unwrap_or part []

-- the name of a fault
abbrev pub fault_text : Fault → List ℕ
fault_text f = f.name.text
