use Rattle.std.proofs.Common.{subst}
use Rattle.outside_dials.specs.Dials.{traffic}
use Rattle.http_link.specs.declared.announced.Extent.TheVariants.{Sized, ToEnd}
use Rattle.http_link.specs.Steps.{Heard}
use Rattle.http_link.proofs.Heads.{known_head, known_none, not_refused, open_not_refused}
use Rattle.http_link.proofs.Trips.{found_on}
use Rattle.http_link.proofs.receiving.read_response.Goals as goal

pub read_sized-requires-clause-head : goal.read_sized-requires-clause-head
read_sized-requires-clause-head g c =
    let k = c.in-Ok.ensures.heard in
    (known_head c.read_head.new.inbox k.0 c.in-Ok.announced (Sized c.in-Sized.size) c.in-Sized.is (not_refused c.in-Sized.size) k.1).1

pub read_to_end-requires-clause-head : goal.read_to_end-requires-clause-head
read_to_end-requires-clause-head g c =
    let k = c.in-Ok.ensures.heard in
    (known_head c.read_head.new.inbox k.0 c.in-Ok.announced ToEnd c.in-ToEnd.is open_not_refused k.1).1

pub returns-in-Refused : goal.returns-in-Refused
returns-in-Refused g c =
    let k = c.in-Ok.ensures.heard in
    (k.0, known_none c.read_head.new.inbox k.0 c.in-Ok.announced c.in-Refused.is k.1, k.2)

pub returns-in-Sized : goal.returns-in-Sized
returns-in-Sized g c =
    let k = c.in-Ok.ensures.heard in
    let known = known_head c.read_head.new.inbox k.0 c.in-Ok.announced (Sized c.in-Sized.size) c.in-Sized.is (not_refused c.in-Sized.size) k.1 in
    found_on c.read_sized.result (traffic (g.W.Wire.told c.args.wire.now)) (traffic (g.W.Wire.told c.read_head.new.wire)) (traffic (g.W.Wire.told c.read_sized.new.wire))
    c.args.inbox.now c.read_head.new.inbox c.read_sized.new.inbox
    (subst (λ e. Heard (traffic (g.W.Wire.told c.args.wire.now)) (traffic (g.W.Wire.told c.read_head.new.wire)) c.args.inbox.now c.read_head.new.inbox e) known.0 k.2) c.read_sized.ensures

pub returns-in-ToEnd : goal.returns-in-ToEnd
returns-in-ToEnd g c =
    let k = c.in-Ok.ensures.heard in
    let known = known_head c.read_head.new.inbox k.0 c.in-Ok.announced ToEnd c.in-ToEnd.is open_not_refused k.1 in
    found_on c.read_to_end.result (traffic (g.W.Wire.told c.args.wire.now)) (traffic (g.W.Wire.told c.read_head.new.wire)) (traffic (g.W.Wire.told c.read_to_end.new.wire))
    c.args.inbox.now c.read_head.new.inbox c.read_to_end.new.inbox
    (subst (λ e. Heard (traffic (g.W.Wire.told c.args.wire.now)) (traffic (g.W.Wire.told c.read_head.new.wire)) c.args.inbox.now c.read_head.new.inbox e) known.0 k.2) c.read_to_end.ensures
