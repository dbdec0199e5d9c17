-- The commands of the program, as a table.
use Rattle.std.specs.Prelude.{ℕ, List, [], ◌∷◌, codes}
use Rattle.main_commands.specs.Numbers.{most_connections, most_events, most_lines}
use Rattle.main_commands.specs.declared.table.Verb.{Verb}
use Rattle.main_commands.specs.declared.table.Verb.TheVariants as verb
use Rattle.main_commands.specs.declared.table.Takes.{Takes}
use Rattle.main_commands.specs.declared.table.Takes.TheVariants as takes

-- an option `--NAME N`, where N is a number from a least to a most, or `--NAME LIST`
pub record OptionWords : Type 0 where
  pub name : List ℕ
  pub takes : Takes

-- a command: what it asks for, how it is called, what its operand is, and its options
pub record CommandWords : Type 0 where
  pub verb : Verb
  pub name : List ℕ
  pub operands : List Takes
  pub options : List OptionWords

-- how many events a session may have
abbrev pub budget_option : OptionWords
budget_option = record { name = codes "budget"; takes = takes.Number 1 most_events }

-- the options of a run
abbrev pub run_options : List OptionWords
run_options = budget_option ∷ record { name = codes "picks"; takes = takes.Text } ∷ []

-- the options of a service that is served
abbrev pub serve_options : List OptionWords
serve_options = budget_option ∷ record { name = codes "connections"; takes = takes.Number 1 most_connections } ∷ []

-- the operand of each command that has to do with a file
abbrev pub file_operand : List Takes
file_operand = takes.Text ∷ []

-- the commands
abbrev pub commands : List CommandWords
commands =
    record { verb = verb.Check; name = codes "check"; operands = file_operand; options = [] }
    ∷ record { verb = verb.Explain; name = codes "explain"; operands = file_operand; options = [] }
    ∷ record { verb = verb.Print; name = codes "print"; operands = file_operand; options = [] }
    ∷ record { verb = verb.Run; name = codes "run"; operands = file_operand; options = run_options }
    ∷ record { verb = verb.Serve; name = codes "serve"; operands = file_operand; options = serve_options }
    ∷ record { verb = verb.Load; name = codes "load"; operands = takes.Number 0 most_lines ∷ []; options = [] }
    ∷ []
