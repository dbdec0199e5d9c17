-- What is said goes out next.
use Rattle.std.proofs.Common.{refl, ap}
use Rattle.conn_future.specs.Stages.{stage_of}
use Rattle.conn_future.specs.Talking.{seen}
use Rattle.conn_future.proofs.Writing.{says}
use Rattle.conn_future.proofs.task.ConnTask.give.Goals as goal

pub returns-clause-talks : goal.returns-clause-talks
returns-clause-talks g c = λ first bodies texts h.
    says first (seen c.args.self.now.kept (g.W.PollWire.told c.args.self.now.wire)) (seen c.say.new.self (g.W.PollWire.told c.args.self.now.wire)) c.say.ensures.next.0 bodies texts
    c.args.said h c.say.ensures.next.1 c.say.ensures.same refl c.say.ensures.said c.say.ensures.next.2

pub returns-clause-stage : goal.returns-clause-stage
returns-clause-stage g c = ap stage_of c.say.ensures.next.2
