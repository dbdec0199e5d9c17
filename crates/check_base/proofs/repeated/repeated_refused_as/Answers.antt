use Rattle.std.proofs.Common.{rules}
use Rattle.check_base.proofs.Repetitions.{repeated_turn, texts_turn}
use Rattle.check_base.proofs.repeated.repeated_refused_as.Goals as goal

pub loop-mention-preserved : goal.loop-mention-preserved
loop-mention-preserved c = (
  texts_turn c.loop-mention.names c.add.new.self c.args.mentions.now c.loop-mention.mention-index c.mention-item.result c.loop-mention-test.true c.mention-item.is c.loop-mention.invariant.0 (search rules),
  repeated_turn c.args.cause c.args.least.now c.loop-mention.least c.offer_if.new.self c.args.mentions.now c.loop-mention.mention-index c.mention-item.result c.in_ok-known.known c.loop-mention-test.true c.mention-item.is (search rules) c.loop-mention.invariant.1 (search rules),
)
