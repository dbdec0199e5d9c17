-- What a call of the program promises, over its record and over what the outside tells.
use Rattle.std.specs.Prelude.{◌≡◌, ℕ, List, [], ◌++◌, Option, codes}
use Rattle.outside_traits.specs.Causes.{Rose}
use Rattle.jolie_ast.specs.declared.tree.Definition.{Definition}
use Rattle.jolie_ast.specs.Printed.{printed_text}
use Rattle.behaviour_tree.specs.Data.{ProgramParts}
use Rattle.run_record.specs.declared.record.Record.{Record}
use Rattle.outside_traits.specs.Told.{SinkTold, WireTold}
use Rattle.run_theorem.specs.declared.ended.Ended.{Ended}
use Rattle.run_theorem.specs.Theorem.{IsLined, IsDoored}
use Rattle.main_commands.specs.declared.table.Action.TheVariants as action
use Rattle.main_commands.specs.declared.words.Command.{Command}
use Rattle.main_commands.specs.declared.words.Words.{Words}
use Rattle.main_commands.specs.declared.words.Words.TheVariants as words
use Rattle.check_verdicts.specs.Verdicts.{IsAccepted, IsRefusedBy}
use Rattle.check_verdicts.specs.Programs.{IsChecked, IsUncheckedBy}
use Rattle.check_verdicts.specs.declared.refusal.Refusal.{Refusal}
use Rattle.check_verdicts.specs.RefusalLines.{refusal_line}
use Rattle.load_maker.specs.Loaded.{IsLoaded}
use Rattle.load_maker.specs.OrderService.{order_service}
use Rattle.load_maker.specs.Summary.{summary}
use Rattle.explain_places.specs.Places.{line_at, column_at}
use Rattle.explain_text.specs.Explained.{head_line, unreadable_line}
use Rattle.jolie_main.specs.Outside.{Around, ByFirst, HasAskedFor, IsReadOf, IsWhole, IsCut, IsWritten}

-- nothing was recorded
pub record IsEmptyRecord (run : Record) : Type 0 where
  pub program : run.program ≡ []
  pub history : run.history.entries.items ≡ []
  pub sessions : run.sessions ≡ []
  pub traffic : run.traffic ≡ []

-- ---- a text

-- the text is the answer: all of it at the status of what was done, a part of it at status 5, where the output failed
pub data SaysAt (done : ℕ) (text : List ℕ) (status : ℕ) (before now : SinkTold) : Type 0 where
  whole : status ≡ done → IsWhole text before now → SaysAt done text status before now
  cut : status ≡ 5 → IsCut text before now → SaysAt done text status before now

-- the same of what was done at status 0
abbrev pub Says : List ℕ → ℕ → SinkTold → SinkTold → Type 0
Says = SaysAt 0

-- What `check` does with a text: it says `ok` of a program, or refuses the text by its line at status 3.
pub data Checks (text : List ℕ) (status : ℕ) (before now : SinkTold) : Type 0 where
  passed : (parts : ProgramParts) → IsChecked text parts → Says (codes "ok\n") status before now
      → Checks text status before now
  unchecked : (line : List ℕ) → IsUncheckedBy text line → status ≡ 3 → IsWritten line before now
      → Checks text status before now

-- What `explain` does with the text of a file: it says `ok` of a program, and then what is noted of it; or it explains
-- why the text is refused, at status 3: first where, by the file, the line and the column, and then in words.
pub data Explains (file text : List ℕ) (status : ℕ) (before now : SinkTold) : Type 0 where
  passed : (parts : ProgramParts) (notes : List ℕ) → IsChecked text parts → Says (codes "ok\n" ++ notes) status before now
      → Explains file text status before now
  unchecked : (r : Refusal) (words more : List ℕ) → IsUncheckedBy text (refusal_line r) → status ≡ 3
      → IsWritten (head_line file (line_at text r.at) (column_at text r.at) words ++ more) before now
      → Explains file text status before now

-- What `print` does with a text: it prints the definitions, or refuses the text by its line at status 3.
pub data Prints (text : List ℕ) (status : ℕ) (before now : SinkTold) : Type 0 where
  accepted : (file : List Definition) → IsAccepted text file → Says (printed_text file) status before now
      → Prints text status before now
  refused : (line : List ℕ) → IsRefusedBy text line → status ≡ 3 → IsWritten line before now
      → Prints text status before now

-- Nothing is recorded, read of the input, noted or sent, and no door is opened.
pub record ShowsAlone (ended : Ended) (a : Around) : Type 0 where
  pub empty : IsEmptyRecord ended.report
  pub input : a.now.input ≡ a.before.input
  pub notes : a.now.notes ≡ a.before.notes
  pub doors : a.now.doors ≡ a.before.doors
  pub links : a.now.links ≡ a.before.links

-- The text is refused by its line at status 3, and nothing else is done.
pub record IsTurnedDown (text : List ℕ) (ended : Ended) (a : Around) : Type 0 where
  pub line : List ℕ
  pub why : IsUncheckedBy text line
  pub status : ended.status ≡ 3
  pub written : IsWritten line a.before.output a.now.output
  pub alone : ShowsAlone ended a

-- What `run` does with a text: it runs the program that it is over the lines of the input, by the budget and the picks
-- of the command, and its calls to services elsewhere go by the first link; or it turns the text down.
pub data Runs (c : Command) (text : List ℕ) (ended : Ended) (a : Around) : Type 0 where
  ran : (parts : ProgramParts) → IsChecked text parts
      → ByFirst (λ run. IsLined (record { parts = parts; text = text; budget = c.budget; picks = c.picks }) run ended) a
      → Runs c text ended a
  refused : IsTurnedDown text ended a → Runs c text ended a

-- What `serve` does with a text: it runs the program that it is over its doors, the wires of which are made so, by the
-- budget and the number of connections of the command, and its calls to services elsewhere go by the first link; or it
-- turns the text down.
pub data Serves (IsMade : WireTold → Type 0) (c : Command) (text : List ℕ) (ended : Ended) (a : Around) : Type 0 where
  served : (parts : ProgramParts) → IsChecked text parts
      → ByFirst (λ run. IsDoored IsMade c.connections (record { parts = parts; text = text; budget = c.budget; picks = [] }) run ended) a
      → Serves IsMade c text ended a
  refused : IsTurnedDown text ended a → Serves IsMade c text ended a

-- ---- a load

-- What `load` does with so many lines: it runs the order service over the lines of the load, in memory, and says how
-- the orders went, by the answers in the record; or, were the order service no program, it would refuse that by its
-- line at status 3.
pub data Loads (lines : ℕ) (ended : Ended) (before now : SinkTold) : Type 0 where
  loaded : (parts : ProgramParts) (status : ℕ) → IsChecked order_service parts
      → IsLoaded parts order_service lines (record { status = status; report = ended.report })
      → SaysAt status (summary lines ended.report.history.entries.items) ended.status before now
      → Loads lines ended before now
  refused : (line : List ℕ) → IsUncheckedBy order_service line → ended.status ≡ 3 → IsWritten line before now
      → IsEmptyRecord ended.report → Loads lines ended before now

-- Of the outside nothing is met but the output.
pub record MeetsOutput (a : Around) : Type 0 where
  pub files : a.now.files ≡ a.before.files
  pub input : a.now.input ≡ a.before.input
  pub notes : a.now.notes ≡ a.before.notes
  pub doors : a.now.doors ≡ a.before.doors
  pub links : a.now.links ≡ a.before.links

-- ---- a command

-- what a command does with the text of its file
abbrev pub Does : (WireTold → Type 0) → Command → List ℕ → Ended → Around → Type 0
Does IsMade c text ended a = elim c.action [
  | action.Check ↦
      Checks text ended.status a.before.output a.now.output × ShowsAlone ended a
  | action.Explain ↦
      Explains c.file text ended.status a.before.output a.now.output × ShowsAlone ended a
  | action.Print ↦ Prints text ended.status a.before.output a.now.output × ShowsAlone ended a
  | action.Run ↦ Runs c text ended a
  | action.Serve ↦ Serves IsMade c text ended a
]

-- what a command writes of a file that can't be read: `explain` says so, and the others write nothing
abbrev pub TellsOfFile : Command → SinkTold → SinkTold → Type 0
TellsOfFile c before now = elim c.action [
  | action.Explain ↦ IsWritten (unreadable_line c.file) before now
  | _ ↦ now ≡ before
]

-- A command over a file, which alone is asked for: it does so with the text that is read of it, or the file failed,
-- and then the status is 2, nothing is read, noted, sent or recorded, and what is said of the file is all that is
-- written.
pub data Obeys (IsMade : WireTold → Type 0) (c : Command) (told : Option (List ℕ)) (ended : Ended) (a : Around)
    : Type 0 where
  read : (text : List ℕ) → HasAskedFor c.file a.before.files a.now.files → IsReadOf told text
      → a.now.files.faults ≡ a.before.files.faults → Does IsMade c text ended a → Obeys IsMade c told ended a
  failed : ended.status ≡ 2 → HasAskedFor c.file a.before.files a.now.files
      → Rose a.before.files.faults a.now.files.faults → TellsOfFile c a.before.output a.now.output
      → ShowsAlone ended a → Obeys IsMade c told ended a

-- ---- the words

-- A text of help or of the version goes to the output, and that is all: no file is asked for.
pub record ShowsHelp (text : List ℕ) (ended : Ended) (a : Around) : Type 0 where
  pub said : Says text ended.status a.before.output a.now.output
  pub files : a.now.files ≡ a.before.files
  pub alone : ShowsAlone ended a

-- A usage error has status 1: its text goes to the standard error, which the notes are, and that is all. No file is
-- asked for.
pub record ShowsUsageError (text : List ℕ) (ended : Ended) (a : Around) : Type 0 where
  pub status : ended.status ≡ 1
  pub noted : IsWritten text a.before.notes a.now.notes
  pub empty : IsEmptyRecord ended.report
  pub files : a.now.files ≡ a.before.files
  pub input : a.now.input ≡ a.before.input
  pub output : a.now.output ≡ a.before.output
  pub doors : a.now.doors ≡ a.before.doors
  pub links : a.now.links ≡ a.before.links

-- What was understood of the words decides what is promised; `held` is what the files hold, as far as the outside
-- tells, and the wires of its doors are made so.
abbrev pub Promises : (WireTold → Type 0) → Words → (List ℕ → Option (List ℕ)) → Ended → Around → Type 0
Promises IsMade (words.Command c) held ended a = Obeys IsMade c (held c.file) ended a
Promises IsMade (words.Load n) held ended a = Loads n ended a.before.output a.now.output × MeetsOutput a
Promises IsMade (words.Help text) held ended a = ShowsHelp text ended a
Promises IsMade (words.UsageError text) held ended a = ShowsUsageError text ended a
