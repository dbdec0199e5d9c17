-- These definitions serve the proofs alone: no promise speaks of them.
-- How the record and the status of a run over lines are made.
use Rattle.std.specs.Prelude.{ℕ, Bool, [], ◌∷◌, if◌then◌else◌}
use Rattle.run_record.specs.declared.record.Record.{Record}
use Rattle.run_record.specs.declared.record.Traffic.{Traffic}

-- the record of a run with the bytes of its lines as its traffic
abbrev pub with_traffic : Record → Traffic → Record
with_traffic run traffic = record {
  program = run.program;
  history = run.history;
  sessions = run.sessions;
  traffic = traffic ∷ [];
}

-- the least status of what became of a run: whether its source failed, its front halted, and a session could still act
-- with its whole budget used
abbrev pub status_of : Bool → Bool → Bool → ℕ
status_of failed halted spent = if failed then 4 else (if halted then 5 else (if spent then 6 else 0))
