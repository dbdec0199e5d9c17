use Rattle.outside_dials.specs.Dials.{traffic}
use Rattle.http_link.specs.Trips.{telling}
use Rattle.http_link.proofs.Trips.{visited}
use Rattle.http_link.proofs.exchange.visit.Goals as goal

pub returns-clause-visited : goal.returns-clause-visited
returns-clause-visited g c =
    visited c.exchange-found.result g.D.Dial.blank (traffic (g.D.W.Wire.told c.in-Ok.wire)) (traffic (g.D.W.Wire.told c.exchange-found.new.wire))
    c.args.request.now c.exchange-found.new.inbox
    (telling g.D.Dial.blank (g.D.Dial.told c.args.dial.now))
    (g.D.Dial.told c.back.new.self).dialled (g.D.Dial.told c.back.new.self).last (g.D.Dial.told c.dial.new.self).faults (g.D.Dial.told c.back.new.self).faults
    c.in-Ok.ensures.fresh c.in-Ok.ensures.blank c.exchange-found.ensures c.back.ensures.last c.back.ensures.counts c.in-Ok.ensures.cause.unfailed
