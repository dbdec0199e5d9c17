-- These definitions serve the proofs alone: `check` does not speak of them, the clauses of calls of this crate do.
-- The first input of a process.
use Rattle.std.specs.Prelude.{List, [], ◌∷◌, map, Option}
use Rattle.jolie_ast.specs.declared.name.Name.{Name}
use Rattle.jolie_ast.specs.declared.process.Process.{Process}
use Rattle.jolie_ast.specs.declared.process.Input.{out-Input}
use Rattle.jolie_ast.specs.declared.process.Otherwise.TheOpen.{Branch-F, Input-F}
use Rattle.jolie_ast.specs.declared.process.Otherwise.TheFolds.{fold-Process}
use Rattle.check_processes.specs.declared.first_inputs.FirstInput.{FirstInput}
use Rattle.check_processes.specs.declared.first_inputs.Form.{Form}
use Rattle.check_processes.specs.declared.first_inputs.Form.TheVariants as forms
use Rattle.check_processes.specs.ProcessParts.{branch_operation}
use Rattle.check_processes.specs.FirstInputs.{Beginning, process_level, block_level}

-- the operations of an input that stands alone, and of a choice
abbrev pub operations_in : Form → List Name
operations_in (forms.Alone input) = (out-Input input.now).operation ∷ []
operations_in (forms.Choice branches) = map branch_operation branches.now

-- the operations of a first input
abbrev pub operations_of : FirstInput → List Name
operations_of f = operations_in f.form

-- one level of an input: its operation
abbrev pub input_level : Input-F (Unit {0}) Beginning (Unit {0}) (Option (List Name)) Name (Unit {0}) (Unit {0}) Name
    (Unit {0}) → Name
input_level i = i.operation

-- one level of a branch: its operation
abbrev pub branch_level : Branch-F (Unit {0}) Beginning (Unit {0}) (Option (List Name)) Name (Unit {0}) (Unit {0}) Name
    (Unit {0}) → Name
branch_level b = b.input

-- what a process begins with
unfoldable pub beginning : Process → Beginning
beginning = fold-Process (Unit {0}) Beginning (Unit {0}) (Option (List Name)) Name (Unit {0}) (Unit {0}) Name (Unit {0})
    (λ o. tt) process_level (λ a. tt) block_level branch_level (λ h. tt) (λ i. tt) input_level (λ r. tt)
