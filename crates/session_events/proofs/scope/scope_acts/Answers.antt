-- A live scope whose body is done ends.
use Rattle.std.proofs.Common.{Some, ap}
use Rattle.session_events.proofs.scope.scope_acts.Goals as goal

pub returns-in_ok-ended-in-Live-clause-event : goal.returns-in_ok-ended-in-Live-clause-event
returns-in_ok-ended-in-Live-clause-event c = rw c.in-Live.is (ap Some (c.in_ok-ended-in-Live.ensures.event c.args.memory.now))
