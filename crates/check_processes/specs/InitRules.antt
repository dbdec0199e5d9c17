-- What is refused of an init because it is one.
use Rattle.std.specs.Prelude.{ℕ, Bool, true, false, not, List, [], ◌∷◌, flat_map, None, Some}
use Rattle.jolie_ast.specs.declared.expression.Path.{Path, out-Path}
use Rattle.jolie_ast.specs.declared.expression.Step.{out-Step}
use Rattle.jolie_ast.specs.declared.process.Otherwise.TheOpen.{Process-F}
use Rattle.jolie_ast.specs.declared.process.Otherwise.TheFolds.{fold-Process}
use Rattle.jolie_ast.specs.declared.process.Process.{Process, out-Process}
use Rattle.jolie_ast.specs.declared.process.Block.{Block, out-Block}
use Rattle.check_base.specs.declared.refusal.CheckName.TheVariants.{InitNotAssignment}
use Rattle.check_base.specs.declared.refusal.Refusal.{Refusal}
use Rattle.check_base.specs.Least.{refused_if}

-- the place of a path
abbrev pub path_place : Path → ℕ
path_place p = (out-Step (out-Path p).first).name.at

-- the first of places
abbrev pub first_place : List ℕ → ℕ
first_place [] = 0
first_place (at ∷ places) = at

-- one level of a process: its place
abbrev pub place_level : Process-F ℕ ℕ ℕ ℕ ℕ ℕ ℕ ℕ ℕ → ℕ
place_level (Process-F.«Process::Nothing» at) = at
place_level (Process-F.Assign path assignment) = path_place path
place_level (Process-F.Undef at path) = at
place_level (Process-F.Correlate at variable value) = at
place_level (Process-F.If at) = at
place_level (Process-F.While at test body) = at
place_level (Process-F.For at path first test stepped step body) = at
place_level (Process-F.Input at) = at
place_level (Process-F.Choice at branches) = at
place_level (Process-F.Output operation port value answer) = operation.at
place_level (Process-F.Scope at name body) = at
place_level (Process-F.Install at handlers) = at
place_level (Process-F.Throw at fault value) = at
place_level (Process-F.Compensate at scope) = at
place_level (Process-F.InnerHandler at) = at
place_level (Process-F.Block at) = at
place_level (Process-F.Sequence places) = first_place places
place_level (Process-F.Parallel places) = first_place places

-- the place of a process: that of its first token
unfoldable pub process_place : Process → ℕ
process_place =
    fold-Process ℕ ℕ ℕ ℕ ℕ ℕ ℕ ℕ ℕ (λ o. 0) place_level (λ a. 0) (λ b. b.at) (λ b. b.at) (λ h. 0) (λ i. i.at)
    (λ i. i.operation.at) (λ r. 0)

-- whether a process is an assignment
abbrev pub assigns : Process → Bool
assigns p = elim (out-Process p) [ Process-F.Assign path assignment ↦ true | _ ↦ false ]

-- the statements of a process: a sequence is its members, anything else is one
abbrev pub statements_of : Process → List Process
statements_of p = elim (out-Process p) [ Process-F.Sequence statements ↦ statements | _ ↦ p ∷ [] ]

-- the statements of a block
abbrev pub statements_in : Block → List Process
statements_in b = elim (out-Block b).body [ None ↦ [] | Some p ↦ statements_of p ]

-- what is refused of an init because it is one: each statement but an assignment, at its place
abbrev pub init_refused : Block → List Refusal
init_refused b = flat_map (λ p. refused_if (not (assigns p)) InitNotAssignment (process_place p)) (statements_in b)
