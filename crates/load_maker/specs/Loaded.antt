-- What the run of a load leaves.
use Rattle.std.specs.Prelude.{◌≡◌, ℕ, false, List, [], map, Some}
use Rattle.behaviour_tree.specs.Data.{ProgramParts}
use Rattle.office_core.specs.Limits.{first_worker}
use Rattle.run_record.specs.Postings.{posts_by, posts_of}
use Rattle.run_theorem.specs.declared.ended.Ended.{Ended}
use Rattle.run_theorem.specs.Lines.{line_in}
use Rattle.run_theorem.specs.Texts.{posting_of}
use Rattle.run_theorem.specs.Theorem.{Around, IsLined, Task, history_of}
use Rattle.load_maker.specs.Lines.{lines, with_ends}

-- what is run of a load: the program, with the most events of a session and without picks
abbrev pub task : ProgramParts → List ℕ → Task
task parts text = record { parts = parts; text = text; budget = 10000; picks = [] }

-- It is a run over the lines of a load of so many, which met no failure outside: it read these lines, and posted what
-- they ask, one after the other.
pub record IsLoaded (parts : ProgramParts) (text : List ℕ) (count : ℕ) (ended : Ended) : Type 0 where
  pub around : Around
  pub lined : IsLined (task parts text) around ended
  pub given : around.before.source.unread ≡ Some (with_ends (lines count))
  pub source : lined.ran.status.causes.source ≡ false
  pub output : lined.ran.status.causes.output ≡ false
  pub notes : lined.ran.status.causes.notes ≡ false
  pub read : lined.traffic.read ≡ with_ends (lines count)
  pub posted : posts_by first_worker (history_of ended) ≡ posts_of 0 (map posting_of (map line_in (lines count)))
