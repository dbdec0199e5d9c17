-- A read into some room.
use Rattle.std.proofs.Common.{length}
use Rattle.outside_dials.specs.Dials.{traffic}
use Rattle.http_link.proofs.Heard.{read_unfailingly}
use Rattle.http_link.proofs.inbox.read_some.Goals as goal

pub returns-clause-told : goal.returns-clause-told
returns-clause-told g c =
    read_unfailingly c.read.result
    (traffic (g.W.Wire.told c.args.wire.now))
    (traffic (g.W.Wire.told c.read.new.self))
    (g.W.Wire.told c.args.wire.now).closed (length c.args.into.now)
    c.read.ensures.read_failed c.read.ensures.write_failed c.read.ensures.ended c.requires.open c.requires.some
