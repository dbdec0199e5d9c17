-- What is held is handed out.
use Rattle.std.proofs.Common.{refl}
use Rattle.conn_future.specs.Talking.{seen}
use Rattle.conn_future.proofs.Writing.{hands_out, stage_handed}
use Rattle.conn_future.proofs.task.ConnTask.asked.Goals as goal

pub returns-clause-talks : goal.returns-clause-talks
returns-clause-talks g c = λ first bodies texts h.
    hands_out first (seen c.args.self.now.kept (g.W.PollWire.told c.args.self.now.wire)) (seen c.hand_out.new.self (g.W.PollWire.told c.args.self.now.wire)) bodies texts
    c.hand_out.result h c.hand_out.ensures.handed c.hand_out.ensures.same c.hand_out.ensures.said c.hand_out.ensures.due refl

pub returns-clause-stage : goal.returns-clause-stage
returns-clause-stage g c = stage_handed c.args.self.now.kept.next c.hand_out.result c.hand_out.new.self.next c.hand_out.ensures.handed
