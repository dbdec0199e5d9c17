-- Nothing passed yet.
use Rattle.std.proofs.Common.{refl}
use Rattle.http_connection.specs.Seen.{seen}
use Rattle.http_connection.proofs.Passing.{talks_first}
use Rattle.http_connection.proofs.connection.Connection.new.Goals as goal

pub returns-clause-talks : goal.returns-clause-talks
returns-clause-talks g c =
    talks_first (g.W.Wire.told c.args.wire) (seen c.new.result (g.W.Wire.told c.args.wire)) refl c.new.ensures.read c.new.ensures.written c.new.ensures.reader c.new.ensures.next
