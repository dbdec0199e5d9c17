-- These definitions serve the proofs alone: no promise speaks of them.
-- What is said of what the parser gives.
use Rattle.std.specs.Prelude.{◌≡◌, ◌≢◌, ◌⊎◌, ℕ, Option, Some, None}
use Rattle.clap.specs.declared.error.kind.ErrorKind.{ErrorKind}
use Rattle.clap.specs.declared.error.kind.ErrorKind.TheVariants as kind
use Rattle.main_commands.specs.declared.words.Command.{Command}
use Rattle.main_commands.specs.declared.words.Words.{Words}
use Rattle.main_commands.specs.declared.words.Words.TheVariants as words
use Rattle.main_commands.specs.Usage.{Asked, said_by}

-- the command that was understood
abbrev pub command_in : Words → Option Command
command_in (words.Command c) = Some c
command_in _ = None

-- the lines of the load that was understood
abbrev pub load_in : Words → Option ℕ
load_in (words.Load n) = Some n
load_in _ = None

-- what is said of an error of that kind
abbrev pub IsToldOf : ErrorKind → Words → Type 0
IsToldOf k (words.Command c) = ⊥
IsToldOf k (words.Load n) = ⊥
IsToldOf k (words.Help text) = (k ≢ kind.OutOfMemory) × ((k ≡ kind.DisplayHelp) ⊎ (k ≡ kind.DisplayVersion))
IsToldOf k (words.UsageError text) = (k ≢ kind.OutOfMemory) × (k ≢ kind.DisplayHelp) × (k ≢ kind.DisplayVersion)

-- what is said of what was asked for
abbrev pub IsFound : Option Asked → Words → Type 0
IsFound None said = ⊥
IsFound (Some a) said = said ≡ said_by a
