-- What a look came to is what the call came to.
use Rattle.run_door_front.specs.NextSteps.{going}
use Rattle.run_door_front.proofs.Lent.{written_all, looks-kept, rounds-kept}
use Rattle.run_door_front.proofs.Looking.{looks-ordered}
use Rattle.run_door_front.proofs.kept.Kept.next_posting.Goals as goal

pub look-requires : goal.look-requires
look-requires g c = c.self.invariant c.if-self.false

pub returns-clause-looks : goal.returns-clause-looks
returns-clause-looks g c =
    looks-kept _ c.in_ok-next.next _ c.args.self.now c.deref_mut.result.now c.look.new.doors _ c.look.new.connections.items c.look.new.opened.items
    c.look.new.queue.items c.look.new.traffics.items
    c.self.view_is c.if-self.false c.deref_mut.ensures.value
    (written_all c.self.inside.doors.len c.look.new.doors c.self.inside.doors.items c.deref_mut.result.now c.self.inside.doors.ok.0 c.deref_mut.ensures.value
    c.look.auto.doors)
    c.in_ok-next.ensures.looks

pub returns-clause-rounds : goal.returns-clause-rounds
returns-clause-rounds g c =
    rounds-kept _ c.in_ok-next.next _ c.args.self.now c.deref_mut.result.now c.look.new.doors _ c.look.new.connections.items c.look.new.opened.items
    c.look.new.queue.items c.look.new.traffics.items
    c.self.view_is c.deref_mut.ensures.value
    (written_all c.self.inside.doors.len c.look.new.doors c.self.inside.doors.items c.deref_mut.result.now c.self.inside.doors.ok.0 c.deref_mut.ensures.value
    c.look.auto.doors)
    c.in_ok-next.ensures.rounds

pub returns-clause-ordered : goal.returns-clause-ordered
returns-clause-ordered g c =
    let x = c.self.inside in
    looks-ordered _ x.most c.in_ok-next.next
    (going c.deref_mut.result.now x.connections.items x.opened.items x.queue.items x.traffics.items)
    (going c.look.new.doors c.look.new.connections.items c.look.new.opened.items c.look.new.queue.items c.look.new.traffics.items)
    c.in_ok-next.ensures.looks (c.self.invariant c.if-self.false)

pub invariant_of-self-2 : goal.invariant_of-self-2
invariant_of-self-2 g c = λ _.
    let x = c.self.inside in
    looks-ordered _ x.most c.in_ok-next.next
    (going c.deref_mut.result.now x.connections.items x.opened.items x.queue.items x.traffics.items)
    (going c.look.new.doors c.look.new.connections.items c.look.new.opened.items c.look.new.queue.items c.look.new.traffics.items)
    c.in_ok-next.ensures.looks (c.self.invariant c.if-self.false)
