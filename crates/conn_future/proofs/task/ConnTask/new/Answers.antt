-- Nothing passed yet.
use Rattle.std.proofs.Common.{refl}
use Rattle.conn_future.specs.Talking.{seen}
use Rattle.conn_future.proofs.Standing.{first_now}
use Rattle.conn_future.proofs.task.ConnTask.new.Goals as goal

pub returns-clause-talks : goal.returns-clause-talks
returns-clause-talks g c =
    first_now (g.W.PollWire.told c.args.wire).wire (seen c.new.result (g.W.PollWire.told c.args.wire)) refl c.new.ensures.read c.new.ensures.written c.new.ensures.reader c.new.ensures.next
