use Rattle.frame_arena.proofs.Reading.{rising_in, next_in, none_next_in}
use Rattle.frame_arena.proofs.arena.Arena.next_live.Goals as goal

pub next_row-requires : goal.next_row-requires
next_row-requires g c = rising_in c.self.inside.rows.items c.deref.result.now c.self.inside.next c.self.invariant c.deref.ensures.value

pub returns-in-Some : goal.returns-in-Some
returns-in-Some g c =
    let i = c.self.inside in
    next_in i.rows.items c.deref.result.now c.args.self.now i.next c.args.from.number c.in-Some.place c.index.result.now c.self.invariant c.self.view_is
    c.deref.ensures.value c.in-Some.ensures.row c.index.ensures

pub returns-in-None : goal.returns-in-None
returns-in-None g c =
    let i = c.self.inside in
    none_next_in i.rows.items c.deref.result.now c.args.self.now i.next c.args.from.number c.self.invariant c.self.view_is c.deref.ensures.value
    c.in-None.ensures.row
