-- How much a run takes, and what the office works by.
use Rattle.std.specs.Prelude.{ℕ}
use Rattle.behaviour_tree.specs.Data.{ProgramParts}

-- how much a run takes: sessions, messages, the weight of values in all, and messages that wait for one session
pub record Limits : Type 0 where
  pub sessions : ℕ
  pub messages : ℕ
  pub weight : ℕ
  pub box : ℕ

-- the limits of every run
abbrev pub run_limits : Limits
run_limits = record { sessions = 4096; messages = 65536; weight = 67108864; box = 256 }

-- what the office works by: a program and the limits
pub record Setting : Type 0 where
  pub parts : ProgramParts
  pub limits : Limits

-- what the office of a run of the program works by
abbrev pub run_of : ProgramParts → Setting
run_of parts = record { parts = parts; limits = run_limits }

-- the actors below this number are sessions, the others workers
abbrev pub first_worker : ℕ
first_worker = 4096
