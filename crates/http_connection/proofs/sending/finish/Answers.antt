use Rattle.std.proofs.Common.{ap}
use Rattle.outside_traits.specs.Told.{WireTold}
use Rattle.http_connection.specs.Seen.{failures_of}
use Rattle.http_connection.proofs.Calls.{writes_nothing}
use Rattle.http_connection.proofs.sending.finish.Goals as goal

pub returns-clause-finishes : goal.returns-clause-finishes
returns-clause-finishes g c = record {
  next = c.stand.ensures.next;
  closed = ap (λ (w : WireTold). w.closed) c.close.ensures.closed;
  door = ap (λ (w : WireTold). w.door) c.close.ensures.closed;
  given = ap (λ (w : WireTold). w.read) c.close.ensures.closed;
  taken = ap (λ (w : WireTold). w.written) c.close.ensures.closed;
  failures = ap failures_of c.close.ensures.closed;
  read = c.stand.ensures.read;
  written = c.stand.ensures.written;
  reader = c.stand.ensures.reader;
}

pub returns-clause-wrote : goal.returns-clause-wrote
returns-clause-wrote g c =
    writes_nothing (g.W.Wire.told c.args.wire.now).calls (g.W.Wire.told c.close.new.self).calls c.args.kept.now.written.items c.stand.new.self.written.items (ap (λ (w : WireTold). w.calls) c.close.ensures.closed) c.stand.ensures.written

pub returns-clause-ended : goal.returns-clause-ended
returns-clause-ended g c = ap (λ (w : WireTold). w.ended) c.close.ensures.closed
