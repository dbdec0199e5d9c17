use Rattle.std.proofs.Common.{refl, take, [], arith}
use Rattle.std.proofs.lemmas.List.{take_all}
use Rattle.frame_arena.proofs.Reading.{rising_in, none_in, no_frames, frames_sound, frames_lines}
use Rattle.frame_arena.proofs.arena.Arena.cut.Goals as goal

pub row_of-requires : goal.row_of-requires
row_of-requires g c = rising_in c.self.inside.rows.items c.deref.result.now c.self.inside.next c.self.invariant c.deref.ensures.value

pub returns-in_default : goal.returns-in_default
returns-in_default g c =
    let i = c.self.inside in
    no_frames c.args.self.now c.args.strand.number (take c.args.depth)
    (none_in i.rows.items c.deref.result.now c.args.self.now i.next c.args.strand.number c.self.invariant c.self.view_is c.deref.ensures.value c.in_default.ensures.row)
    (take_all c.args.depth [] (omega arith))

pub invariant_of-self : goal.invariant_of-self
invariant_of-self g c =
    let i = c.self.inside in
    frames_sound i.rows.items c.deref.result.now c.args.self.now i.next c.args.strand.number c.in-Some.row c.index_mut.result.now _ (take c.args.depth)
    c.self.invariant c.self.view_is c.deref.ensures.value c.in-Some.ensures.row c.index_mut.ensures.value
    refl refl refl refl refl refl refl c.truncate.ensures.items

pub returns : goal.returns
returns g c =
    let i = c.self.inside in
    frames_lines i.rows.items c.deref.result.now c.args.self.now i.next c.args.strand.number c.in-Some.row c.index_mut.result.now _ (take c.args.depth)
    c.self.invariant c.self.view_is c.deref.ensures.value c.in-Some.ensures.row c.index_mut.ensures.value
    refl refl refl refl refl refl refl c.truncate.ensures.items
