use Rattle.run_quiet_laws.proofs.Finished.{is_run}
use Rattle.run_quiet_laws.proofs.laws.runs_that_ended_are_runs.Goals as goal

pub returns : goal.returns
returns c = record {
  ended = λ w budget notes_failed h run came end legal hands together collected.
      is_run {h = h} came end legal hands together collected;
}
