-- Nothing passed yet.
use Rattle.run_door_front.proofs.Saying.{nothing_exchanged}
use Rattle.run_door_front.proofs.front.DoorFront.new.Goals as goal

pub returns-clause-begun : goal.returns-clause-begun
returns-clause-begun g c = λ parts within.
    nothing_exchanged _ parts c.args.kept.now (g.N.Sink.told c.args.notes.now) c.requires.empty within
