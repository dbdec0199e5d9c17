use Rattle.std.proofs.Common.{take}
use Rattle.run_cells.specs.News.{Widens}
use Rattle.run_cells.proofs.Hearing.{AreWoken}
use Rattle.run_cells.proofs.news.wake_all.Given as goal

abbrev pub invariant-loop-session : goal.invariant-loop-session
invariant-loop-session l = record {
  awake : Widens l.count l.initial.awake l.awake;
  woken : AreWoken l.count l.awake (take l.session-index l.sessions);
}
