-- What the wire took is kept.
use Rattle.std.proofs.Common.{rules, refl, false, take}
use Rattle.http_connection.specs.Seen.{seen}
use Rattle.http_connection.proofs.Passing.{sends}
use Rattle.http_connection.proofs.Calls.{writes_nothing, writes_so}
use Rattle.http_connection.proofs.sending.send.Goals as goal

pub returns-clause-sends : goal.returns-clause-sends
returns-clause-sends g c =
    sends c.args.bytes.now c.write_all-count.result (seen c.args.kept.now (g.W.Wire.told c.args.wire.now))
    (seen (record c.args.kept.now { written = c.extend_from_slice.new.self }) (g.W.Wire.told c.write_all-count.new.wire))
    c.write_all-count.ensures.takes (search rules) refl refl refl

pub returns-in_err-reserve-clause-wrote : goal.returns-in_err-reserve-clause-wrote
returns-in_err-reserve-clause-wrote g c =
    writes_nothing (g.W.Wire.told c.args.wire.now).calls (g.W.Wire.told c.args.wire.now).calls c.args.kept.now.written.items c.reserve.new.self.items refl c.in_err-reserve.ensures.items

pub returns-clause-wrote : goal.returns-clause-wrote
returns-clause-wrote g c =
    writes_so (g.W.Wire.told c.args.wire.now).calls (g.W.Wire.told c.write_all-count.new.wire).calls c.args.kept.now.written.items c.extend_from_slice.new.self.items (take c.write_all-count.result c.args.bytes.now) false c.write_all-count.ensures.calls (search rules)
