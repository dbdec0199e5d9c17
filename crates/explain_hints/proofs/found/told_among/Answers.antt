-- Nothing is told before the first hint.
use Rattle.explain_hints.specs.MayStand.{IsTold}
use Rattle.explain_hints.proofs.Kept.{none_kept}
use Rattle.explain_hints.proofs.found.told_among.Goals as goal

pub loop-hint-init : goal.loop-hint-init
loop-hint-init c = none_kept (IsTold c.args.prefix.now.text c.args.prefix.now.at) c.args.hints.now c.new-told.result.items c.new-told.ensures.items
