-- What is asked of a front is what its call on what it keeps came to.
use Rattle.behaviour_tree.specs.PartsView.{parts_of}
use Rattle.run_door_front.proofs.Asking.{next-so}
use Rattle.run_door_front.proofs.Telling.{memory-asked}
use Rattle.run_door_front.proofs.front.DoorFrontFront.next.Goals as goal

pub returns-clause-came : goal.returns-clause-came
returns-clause-came g c = λ first before h yet running quiet.
    next-so _ (parts_of c.args._program.now) _ _ h.0 h.1 _ (g.N.Sink.told c.args.self.now.notes.now)
    c.args.self.now.kept.now c.next_posting.new.self before c.next_posting.ensures.most c.next_posting.ensures.halted running quiet h.2 c.next_posting.result c.next_posting.ensures.looks

pub returns-clause-memory : goal.returns-clause-memory
returns-clause-memory g c = memory-asked c.next_posting.result c.args.self.now.kept.now.spent c.next_posting.new.self.spent _ c.next_posting.ensures.looks
