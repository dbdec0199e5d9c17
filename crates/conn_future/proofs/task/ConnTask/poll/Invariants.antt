use Rattle.std.proofs.Common.{◌≡◌, ◌⊎◌, ◌<◌}
use Rattle.conn_future.specs.declared.stage.Stage.TheVariants as Stages
use Rattle.conn_future.specs.Stages.{stage_of, IsAtRest}
use Rattle.conn_future.specs.Talking.{seen, TalksOn}
use Rattle.conn_future.specs.Steps.{CallsOn, HoldsLongest, left_to_do, passed_on}
use Rattle.conn_future.proofs.task.ConnTask.poll.Given as goal

abbrev pub invariant-loop : goal.invariant-loop
invariant-loop g l = record {
  talks : TalksOn (seen l.fn.self.kept (g.W.PollWire.told l.fn.self.wire)) (seen l.self.kept (g.W.PollWire.told l.self.wire));
  called : CallsOn (seen l.fn.self.kept (g.W.PollWire.told l.fn.self.wire)) (seen l.self.kept (g.W.PollWire.told l.self.wire));
  waits : (g.W.PollWire.told l.self.wire).waits ≡ (g.W.PollWire.told l.fn.self.wire).waits;
  rests : IsAtRest (stage_of l.fn.self.kept.next) → (l.self.kept ≡ l.fn.self.kept) × (l.self.wire ≡ l.fn.self.wire);
  owes : stage_of l.self.kept.next ≡ Stages.Owes → stage_of l.fn.self.kept.next ≡ Stages.Owes;
  row : (((g.W.PollWire.told l.self.wire).in_a_row ≡ (g.W.PollWire.told l.fn.self.wire).in_a_row) × (passed_on l.self.kept ≡ passed_on l.fn.self.kept))
      ⊎ (passed_on l.fn.self.kept < passed_on l.self.kept);
  longest : HoldsLongest (stage_of l.fn.self.kept.next) (stage_of l.self.kept.next) (g.W.PollWire.told l.fn.self.wire) (g.W.PollWire.told l.self.wire);
}

-- each turn that goes on moves bytes or makes a response
abbrev pub decreases-loop : goal.decreases-loop
decreases-loop g l = left_to_do l.self.kept
