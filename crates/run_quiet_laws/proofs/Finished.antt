-- A run of one worker that came to its end is a run.
use Rattle.std.proofs.Common.{◌≡◌, ℕ, Bool, true, List}
use Rattle.std.specs.List.{list_all}
use Rattle.office_core.specs.declared.history.Entry.{Entry}
use Rattle.office_core.specs.Limits.{Setting}
use Rattle.office_core.specs.Legal.{IsLegal}
use Rattle.office_core.proofs.OneAnswer.{answers_once}
use Rattle.run_record.specs.declared.record.Record.{Record}
use Rattle.run_record.specs.Answered.{stand_together}
use Rattle.run_record.specs.Collected.{AreCollected}
use Rattle.run_record.specs.Run.{IsRun, alone, is_of_hand}
pub use Rattle.run_quiet_laws.specs.Ends.{CameThrough}
use Rattle.run_quiet_laws.proofs.Ending.{Ended, quiet_ended, sessions_ended, still_ended, was_closed, was_stopped}

-- with the end of input, the stop and collects it is a run
pub is_run : {w : Setting} {budget : ℕ} {notes_failed : Bool} {h : List Entry} {run : Record}
    → CameThrough w budget notes_failed h run.sessions → Ended h run.history.entries.items
    → IsLegal w run.history.entries.items → list_all (is_of_hand alone) run.history.entries.items ≡ true
    → stand_together run.history.entries.items ≡ true → AreCollected w run.history.entries.items
    → IsRun w budget alone notes_failed run
is_run {w} {budget} {notes_failed} {h} {run} came end legal hands together collected = record {
  legal = legal;
  stopped = was_stopped end w;
  closed = λ one. was_closed end;
  actors = hands;
  posted = together;
  sessions = sessions_ended end w run.sessions came.few came.sessions;
  within = came.within;
  answered = λ n m there. answers_once w run.history.entries.items n m legal (was_stopped end w) there;
  quiet = λ on. quiet_ended end w budget run.sessions came.few (came.quiet on);
  still = λ one. still_ended end w budget run.sessions came.still;
  collected = λ one. collected;
}
