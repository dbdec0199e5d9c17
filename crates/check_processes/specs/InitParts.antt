-- These definitions serve the proofs alone: no promise speaks of them.
-- What is refused of the statements of an init, one by one.
use Rattle.std.specs.Prelude.{not, List, flat_map}
use Rattle.jolie_ast.specs.declared.process.Process.{Process}
use Rattle.check_base.specs.declared.refusal.CheckName.TheVariants.{InitNotAssignment}
use Rattle.check_base.specs.declared.refusal.Refusal.{Refusal}
use Rattle.check_base.specs.Least.{refused_if}
use Rattle.check_processes.specs.InitRules.{assigns, process_place}

-- a statement of init that is no assignment
abbrev pub no_assignment : Process → List Refusal
no_assignment p = refused_if (not (assigns p)) InitNotAssignment (process_place p)

-- what is refused of statements of init
abbrev pub no_assignments : List Process → List Refusal
no_assignments statements = flat_map no_assignment statements
