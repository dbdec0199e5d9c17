-- The first input of a block.
use Rattle.std.specs.Prelude.{Bool, true, false, List, [], ◌∷◌, if◌then◌else◌, Option, None, Some, option_and_then}
use Rattle.jolie_ast.specs.declared.name.Name.{Name}
use Rattle.jolie_ast.specs.declared.process.Otherwise.TheOpen.{Block-F, Process-F}
use Rattle.jolie_ast.specs.declared.process.Otherwise.TheFolds.{fold-Block}
use Rattle.jolie_ast.specs.declared.process.Block.{Block}

-- what a process begins with: whether it is an install, and the operations of its first input
pub record Beginning : Type 0 where
  pub installs : Bool
  pub operations : Option (List Name)

-- a process whose first input, if it has one, has these operations
abbrev pub begins_with : Option (List Name) → Beginning
begins_with operations = record { installs = false; operations = operations }

-- the first input of a sequence: that of its first member that is no install
abbrev pub of_sequence : List Beginning → Option (List Name)
of_sequence [] = None
of_sequence (b ∷ bs) = if b.installs then of_sequence bs else b.operations

-- one level of a process: any other form begins with no input
abbrev pub process_level : Process-F (Unit {0}) Beginning (Unit {0}) (Option (List Name)) Name (Unit {0}) (Unit {0})
    Name (Unit {0}) → Beginning
process_level (Process-F.Input operation) = begins_with (Some (operation ∷ []))
process_level (Process-F.Choice at operations) = begins_with (Some operations)
process_level (Process-F.Sequence statements) = begins_with (of_sequence statements)
process_level (Process-F.Scope at name body) = begins_with body
process_level (Process-F.Block body) = begins_with body
process_level (Process-F.Install at handlers) = record { installs = true; operations = None }
process_level _ = begins_with None

-- one level of a block: the first input of what stands in it
abbrev pub block_level : Block-F (Unit {0}) Beginning (Unit {0}) (Option (List Name)) Name (Unit {0}) (Unit {0}) Name
    (Unit {0}) → Option (List Name)
block_level b = option_and_then (λ (p : Beginning). p.operations) b.body

-- the operations of the first input of a block, where it has one; an input and a branch have their operation
unfoldable pub first_input : Block → Option (List Name)
first_input = fold-Block (Unit {0}) Beginning (Unit {0}) (Option (List Name)) Name (Unit {0}) (Unit {0}) Name (Unit {0})
    (λ o. tt) process_level (λ a. tt) block_level (λ b. b.input) (λ h. tt) (λ i. tt) (λ i. i.operation) (λ r. tt)
