-- That strands differ in every run.
use Rattle.std.specs.Prelude.{ℕ, List}
use Rattle.behaviour_tree.specs.Data.{ProgramParts}
use Rattle.session_calculus.specs.After.{Config}
use Rattle.session_calculus.specs.Runs.{TakenStep, RunsTo}
use Rattle.session_calculus.specs.Compensations.{StrandsDiffer}

-- In every run the strands differ, and are below the next. So what is claimed where strands differ holds at each event
-- of a run.
abbrev pub StrandsDifferInRuns : Type 0
StrandsDifferInRuns =
    (parts : ProgramParts) (service : ℕ) (steps : List TakenStep) (last : Config)
    → RunsTo parts service steps last → StrandsDiffer last
