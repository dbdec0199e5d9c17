use Rattle.outside_dials.specs.Dials.{traffic}
use Rattle.http_link.proofs.Heard.{unmoved, cuts}
use Rattle.http_link.proofs.Trips.{exchanged_or_cut, cut_in_writing}
use Rattle.http_link.proofs.exchange.exchange.Goals as goal

pub returns-in-Ok : goal.returns-in-Ok
returns-in-Ok g c =
    exchanged_or_cut c.read_response.result (traffic (g.W.Wire.told c.args.wire.now)) (traffic (g.W.Wire.told c.write_all.new.wire)) (traffic (g.W.Wire.told c.read_response.new.wire))
    c.args.request.now c.args.inbox.now c.read_response.new.inbox c.requires.empty
    c.in-Ok.ensures.writes.0 c.in-Ok.ensures.writes.1 c.in-Ok.ensures.given
    (unmoved (traffic (g.W.Wire.told c.args.wire.now)) (traffic (g.W.Wire.told c.write_all.new.wire))
    c.in-Ok.ensures.lost c.in-Ok.ensures.cut c.in-Ok.ensures.ended)
    c.read_response.ensures

pub returns-in-Err : goal.returns-in-Err
returns-in-Err g c =
    let writes = c.in-Err.ensures.writes in
    cut_in_writing (traffic (g.W.Wire.told c.args.wire.now)) (traffic (g.W.Wire.told c.write_all.new.wire)) c.args.request.now writes.0 writes.1 writes.2 writes.3 c.in-Err.ensures.given
    (cuts (traffic (g.W.Wire.told c.args.wire.now)) (traffic (g.W.Wire.told c.write_all.new.wire))
    (g.W.Wire.told c.args.wire.now).closed c.in-Err.ensures.lost c.in-Err.ensures.cut c.in-Err.ensures.ended c.requires.open)
