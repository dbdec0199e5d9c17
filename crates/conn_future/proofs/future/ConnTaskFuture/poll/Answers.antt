-- The poll is that of the connection.
use Rattle.std.proofs.Common.{sym, ap}
use Rattle.conn_future.specs.Talking.{seen}
use Rattle.conn_future.proofs.Turning.{why_pending}
use Rattle.conn_future.proofs.future.ConnTaskFuture.poll.Goals as goal

pub returns-in-Pending-clause-pending : goal.returns-in-Pending-clause-pending
returns-in-Pending-clause-pending g c = rw c.yield_now.ensures.pending (why_pending _ _ _ c.in-Pending.ensures.ends)

pub returns-in-Pending-clause-talks : goal.returns-in-Pending-clause-talks
returns-in-Pending-clause-talks g c = rw c.yield_now.ensures.pending c.in-Pending.ensures.talks

pub returns-in-Ready-Ok-clause-traffic : goal.returns-in-Ready-Ok-clause-traffic
returns-in-Ready-Ok-clause-traffic g c = λ first bodies texts h.
    let over = rw c.in-Ready-Ok.field-0-is at c.in-Ready-Ok.ensures.ends in (
      seen c.poll.new.self.kept (g.W.PollWire.told c.poll.new.self.wire),
      over.1,
      c.in-Ready-Ok.ensures.talks first bodies texts h,
      ap (λ w. (g.W.PollWire.told w).wire) (sym c.take_traffic.ensures.wire),
      sym c.take_traffic.ensures.read,
      sym c.take_traffic.ensures.written,
    )
