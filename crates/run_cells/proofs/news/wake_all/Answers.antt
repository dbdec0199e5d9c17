-- One session after the other is woken.
use Rattle.run_cells.proofs.Hearing.{widens_not, widens_on, woken_all, woken_none, woken_step}
use Rattle.run_cells.proofs.news.wake_all.Goals as goal

pub loop-session-init : goal.loop-session-init
loop-session-init c = record { awake = widens_not _ _; woken = woken_none _ _ }

pub loop-session-preserved : goal.loop-session-preserved
loop-session-preserved c = record {
  awake = widens_on c.loop-session.invariant.awake c.in_ok-wake_one.ensures.awake;
  woken = woken_step c.args.sessions.now c.loop-session.session-index c.loop-session-test.true
      c.in_ok-wake_one.ensures.awake c.in_ok-wake_one.ensures.woken c.loop-session.invariant.woken;
}

pub returns-clause-awake : goal.returns-clause-awake
returns-clause-awake c = c.loop-session.invariant.awake

pub returns-clause-woken : goal.returns-clause-woken
returns-clause-woken c =
    woken_all c.args.sessions.now c.loop-session.session-index c.loop-session-test.false c.loop-session.invariant.woken
