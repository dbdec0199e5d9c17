-- What is understood of the words of the command line.
use Rattle.std.specs.Prelude.{◌≡◌, ◌≢◌, ◌≤◌, List, [], ◌∷◌, ℕ, Bool, true, false, not, ◌&&◌, ◌==◌, Option, Some, None}
use Rattle.std.specs.Prelude.{is_some, codes, find, map, option_map, option_and_then, Contains, String, string_bytes}
use Rattle.std.specs.Prelude.{if◌then◌else◌}
use Rattle.std.specs.Option.{option_map_or}
use Rattle.std.specs.Str.{bytes_eq}
use Rattle.std.specs.declared.alloc.Global.{Global}
use Rattle.clap.specs.ValueTests.{is_unsigned_in}
use Rattle.clap.specs.Words.{IsAmong, Row, fault_of, first_of, subcommand_of}
use Rattle.clap.specs.declared.error.kind.ErrorKind.{ErrorKind}
use Rattle.clap.specs.declared.error.kind.ErrorKind.TheVariants as kind
use Rattle.main_commands.specs.Grammar.{program}
use Rattle.main_commands.specs.Numbers.{most_connections, most_events, most_lines, number_of, picks_of}
use Rattle.main_commands.specs.Table.{CommandWords, commands}
use Rattle.main_commands.specs.declared.table.Action.{Action}
use Rattle.main_commands.specs.declared.table.Action.TheVariants as action
use Rattle.main_commands.specs.declared.table.Verb.{Verb}
use Rattle.main_commands.specs.declared.table.Verb.TheVariants as verb
use Rattle.main_commands.specs.declared.words.Command.{Command}
use Rattle.main_commands.specs.declared.words.Words.{Words}
use Rattle.main_commands.specs.declared.words.Words.TheVariants as words

-- words as bytes
abbrev pub spelled : List (String Global) → List (List ℕ)
spelled words = map (λ word. string_bytes word) words

-- ---- a command

-- how a command is called
abbrev pub name_of : Verb → List ℕ
name_of verb.Check = codes "check"
name_of verb.Explain = codes "explain"
name_of verb.Print = codes "print"
name_of verb.Run = codes "run"
name_of verb.Serve = codes "serve"
name_of verb.Load = codes "load"

-- what it does with a file, none where it asks for no file
abbrev pub action_of : Verb → Option Action
action_of verb.Check = Some action.Check
action_of verb.Explain = Some action.Explain
action_of verb.Print = Some action.Print
action_of verb.Run = Some action.Run
action_of verb.Serve = Some action.Serve
action_of verb.Load = None

-- the name of a command over a file
abbrev pub file_verb : Action → Verb
file_verb action.Check = verb.Check
file_verb action.Explain = verb.Explain
file_verb action.Print = verb.Print
file_verb action.Run = verb.Run
file_verb action.Serve = verb.Serve

-- what that name asks for in a table
abbrev pub verb_in : List CommandWords → List ℕ → Option Verb
verb_in table word = option_map (λ command. command.verb) (find (λ command. bytes_eq command.name word) table)

-- what that name asks for
abbrev pub verb_of : List ℕ → Option Verb
verb_of = verb_in commands

-- the operand among what was found: the FILE of a command, or the N of a load
abbrev pub operand_in : List Row → Option (List ℕ)
operand_in = first_of (codes "operand")

-- what the options of a command were given, as texts
pub record Values : Type 0 where
  pub budget : Option (List ℕ)
  pub list : Option (List ℕ)
  pub connections : Option (List ℕ)

-- the values of options among what was found
abbrev pub values_in : List Row → Values
values_in rows = record {
  budget = first_of (codes "budget") rows;
  list = first_of (codes "picks") rows;
  connections = first_of (codes "connections") rows;
}

-- what was asked for: a command with its operand, and with what its options were given
pub record Asked : Type 0 where
  pub verb : Verb
  pub operand : List ℕ
  pub values : Values

-- a command with its operand, where both are there
abbrev pub with_operand : Option Verb → Option (List ℕ) → Values → Option Asked
with_operand asked operand values =
    option_and_then
    (λ verb. option_map (λ operand. record { verb = verb; operand = operand; values = values }) operand) asked

-- what the command asks for that a parse entered, by its name and what was found
abbrev pub asked_in : Option (List ℕ × List Row) → Option Asked
asked_in = option_and_then (λ entered. with_operand (verb_of entered.0) (operand_in entered.1) (values_in entered.1))

-- the number that an option was given, or the most where it was given none
abbrev pub number_by : ℕ → Option (List ℕ) → ℕ
number_by most given = option_map_or (number_of 1 most) given most

-- how many events a session may have: the budget that was given, or the most
abbrev pub budget_by : Option (List ℕ) → ℕ
budget_by = number_by most_events

-- how many connections are accepted: the number that was given, or the most
abbrev pub connections_by : Option (List ℕ) → ℕ
connections_by = number_by most_connections

-- the picks, where the LIST that was given is one; none where none was given
abbrev pub picks_by : Option (List ℕ) → Option (List ℕ)
picks_by given = elim given [ None ↦ Some [] | Some list ↦ picks_of list ]

-- the command over a file that was asked for, with these picks
abbrev pub command_with : Action → List ℕ → Values → List ℕ → Command
command_with asked file values picks = record {
  action = asked;
  file = file;
  budget = budget_by values.budget;
  picks = picks;
  connections = connections_by values.connections;
}

-- what is said of a LIST that is none
abbrev pub list_words : List ℕ
list_words = codes "error: --picks takes numbers from 0 to 4294967295 with commas between\n"

-- what is said of a command over a file: the command, or that its LIST is none
abbrev pub file_words : Action → List ℕ → Values → Words
file_words asked file values = elim (picks_by values.list) [
  | None ↦ words.UsageError list_words
  | Some picks ↦ words.Command (command_with asked file values picks)
]

-- what is said of what was asked for: a load has as many lines as its operand says
abbrev pub said_by : Asked → Words
said_by a = elim (action_of a.verb) [
  | None ↦ words.Load (number_of 0 most_lines a.operand)
  | Some asked ↦ file_words asked a.operand a.values
]

-- ---- words in their plain form

-- the word begins with `-`, as options do
abbrev pub is_option : List ℕ → Bool
is_option [] = false
is_option (b ∷ bs) = b == 45

-- the word is this option, and the one after it is no option and one of the values that it takes
abbrev pub is_with_value : List ℕ → (List ℕ → Bool) → List ℕ → List ℕ → Bool
is_with_value option takes word value = bytes_eq word option && (not (is_option value) && takes value)

-- the word begins a budget, and the one after it is its number
abbrev pub is_budget : List ℕ → List ℕ → Bool
is_budget = is_with_value (codes "--budget") (is_unsigned_in 1 most_events)

-- the word begins picks, and the one after it is their LIST
abbrev pub are_picks : List ℕ → List ℕ → Bool
are_picks = is_with_value (codes "--picks") (λ list. is_some (picks_of list))

-- the word begins a number of connections, and the one after it is that number
abbrev pub are_connections : List ℕ → List ℕ → Bool
are_connections = is_with_value (codes "--connections") (is_unsigned_in 1 most_connections)

-- the values of two options in their plain form, each at most once and in any order, by what each looks like
abbrev pub plain_pair : (List ℕ → List ℕ → Bool) → (List ℕ → List ℕ → Bool) → List (List ℕ)
    → Option (Option (List ℕ) × Option (List ℕ))
plain_pair is_first is_second [] = Some (None, None)
plain_pair is_first is_second (word ∷ []) = None
plain_pair is_first is_second (word ∷ value ∷ []) =
    if is_first word value then Some (Some value, None)
    else if is_second word value then Some (None, Some value)
    else None
plain_pair is_first is_second (word ∷ value ∷ other ∷ []) = None
plain_pair is_first is_second (word ∷ value ∷ other ∷ last ∷ []) =
    if is_first word value && is_second other last then Some (Some value, Some last)
    else if is_second word value && is_first other last then Some (Some last, Some value)
    else None
plain_pair is_first is_second (word ∷ value ∷ other ∷ last ∷ more ∷ rest) = None

-- no option was given
abbrev pub no_values : Values
no_values = record { budget = None; list = None; connections = None }

-- the values of options of a command: of a run and of a service that is served there are some
abbrev pub plain_of : Verb → List (List ℕ) → Option Values
plain_of verb.Run options =
    option_map (λ given. record no_values { budget = given.0; list = given.1 }) (plain_pair is_budget are_picks options)
plain_of verb.Serve options =
    option_map (λ given. record no_values { budget = given.0; connections = given.1 })
    (plain_pair is_budget are_connections options)
plain_of other [] = Some no_values
plain_of other (word ∷ rest) = None

-- the word is an operand of the command: any FILE, or the number of the lines of a load
abbrev pub takes_operand : Verb → List ℕ → Bool
takes_operand verb.Load word = is_unsigned_in 0 most_lines word
takes_operand other word = true

-- what words in their plain form ask for: a command by its name, its operand, which is no option, and its options
abbrev pub plain_asked : List (List ℕ) → Option Asked
plain_asked [] = None
plain_asked (name ∷ []) = None
plain_asked (name ∷ operand ∷ options) =
    if is_option operand then None
    else option_and_then
    (λ asked. if takes_operand asked operand
    then option_and_then (λ values. with_operand (Some asked) (Some operand) values) (plain_of asked options) else None)
    (verb_of name)

-- what is said of words in their plain form
abbrev pub plain : List (List ℕ) → Option Words
plain line = option_map said_by (plain_asked line)

-- ---- what was understood

-- Why that is said of the words, by the kinds of fault that `clap` finds in them: the command or the load that they
-- enter where it finds none, or that its LIST is no list; help where help or the version is asked for; and a usage
-- error where it finds another kind. The texts of these two are those of `clap`.
pub data IsCaused (line : List (List ℕ)) : Words → Type 0 where
  entered : (a : Asked) → fault_of program line ≡ [] → asked_in (subcommand_of program line) ≡ Some a
      → IsCaused line (said_by a)
  help : (text : List ℕ) → IsAmong kind.DisplayHelp (fault_of program line) → IsCaused line (words.Help text)
  version : (text : List ℕ) → IsAmong kind.DisplayVersion (fault_of program line) → IsCaused line (words.Help text)
  fault : (text : List ℕ) (k : ErrorKind) → IsAmong k (fault_of program line)
      → k ≢ kind.DisplayHelp → k ≢ kind.DisplayVersion → IsCaused line (words.UsageError text)

-- What was understood of the words: what is said has its cause; a command has its name and its file from the words, a
-- session of it may have from one event to the most, and from one connection to the most are accepted; a load has its
-- name from the words, and at most the most lines.
pub record IsUnderstood (line : List (List ℕ)) (said : Words) : Type 0 where
  pub cause : IsCaused line said
  pub by_name : (c : Command) → said ≡ words.Command c → Contains line (name_of (file_verb c.action))
  pub of_file : (c : Command) → said ≡ words.Command c → Contains line c.file
  pub budget : (c : Command) → said ≡ words.Command c → (1 ≤ c.budget) × (c.budget ≤ most_events)
  pub connections : (c : Command) → said ≡ words.Command c → (1 ≤ c.connections) × (c.connections ≤ most_connections)
  pub load : (n : ℕ) → said ≡ words.Load n → Contains line (name_of verb.Load) × (n ≤ most_lines)

-- The law of plain words: what they ask for is said.
abbrev pub IsPlainly : List (List ℕ) → Words → Type 0
IsPlainly line said = (w : Words) → plain line ≡ Some w → said ≡ w
