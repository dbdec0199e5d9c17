use Rattle.frame_arena.proofs.Reading.{rising_in, read_in, none_in, live_of}
use Rattle.frame_arena.proofs.arena.Arena.row.Goals as goal

pub row_of-requires : goal.row_of-requires
row_of-requires g c = rising_in c.self.inside.rows.items c.deref.result.now c.self.inside.next c.self.invariant c.deref.ensures.value

pub returns-in-Some-clause-row : goal.returns-in-Some-clause-row
returns-in-Some-clause-row g c =
    let i = c.self.inside in
    read_in i.rows.items c.deref.result.now c.args.self.now i.next c.args.strand.number c.in-Some.place c.index.result.now c.self.invariant c.self.view_is
    c.deref.ensures.value c.in-Some.ensures.row c.index.ensures

pub returns-in-Some-clause-live : goal.returns-in-Some-clause-live
returns-in-Some-clause-live g c =
    live_of c.self.inside.rows.items c.deref.result.now c.self.inside.next c.args.strand.number c.in-Some.place c.index.result.now c.self.invariant
    c.deref.ensures.value c.in-Some.ensures.row c.index.ensures

pub returns-in-None-clause-row : goal.returns-in-None-clause-row
returns-in-None-clause-row g c =
    let i = c.self.inside in
    none_in i.rows.items c.deref.result.now c.args.self.now i.next c.args.strand.number c.self.invariant c.self.view_is c.deref.ensures.value c.in-None.ensures.row
