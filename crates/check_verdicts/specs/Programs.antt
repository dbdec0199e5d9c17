-- Which texts are programs.
use Rattle.std.specs.Prelude.{◌≡◌, ℕ, List, None, Some}
use Rattle.behaviour_tree.specs.Data.{ProgramParts}
use Rattle.jolie_ast.specs.declared.tree.Definition.{Definition}
use Rattle.check_base.specs.declared.refusal.CheckName.{CheckName}
use Rattle.check_base.specs.Least.{refusal as refused_for}
use Rattle.service_check.specs.Refusals.{refusal_of}
use Rattle.service_check.specs.Programs.{program_of}
use Rattle.check_verdicts.specs.Verdicts.{check_line, IsAccepted, IsRefusedBy}

-- The text has definitions of which no check refuses any, and this is the program that they mean.
pub record IsChecked (text : List ℕ) (parts : ProgramParts) : Type 0 where
  pub file : List Definition
  pub accepted : IsAccepted text file
  pub passes : refusal_of file ≡ None
  pub means : parts ≡ program_of file

-- These are definitions that the text has, and no check refuses any of them.
pub record IsFileOf (text : List ℕ) (file : List Definition) : Type 0 where
  pub accepted : IsAccepted text file
  pub passes : refusal_of file ≡ None

-- The text is a program.
pub record IsProgram (text : List ℕ) : Type 0 where
  pub parts : ProgramParts
  pub checked : IsChecked text parts

-- The text is no program, for the reason that the line gives.
pub data IsUncheckedBy (text : List ℕ) : List ℕ → Type 0 where
  no_file : (line : List ℕ) → IsRefusedBy text line → IsUncheckedBy text line
  no_program : (file : List Definition) (name : CheckName) (at : ℕ) → IsAccepted text file
      → refusal_of file ≡ Some (refused_for name at) → IsUncheckedBy text (check_line name at)
