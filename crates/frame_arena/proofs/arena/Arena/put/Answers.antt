use Rattle.std.proofs.Common.{◌<◌, length, refl, set, subst, [], arith}
use Rattle.std.proofs.lemmas.List.{set_past}
use Rattle.frame_arena.specs.Line.{Line}
use Rattle.frame_arena.proofs.Reading.{rising_in, none_in, read_in, no_frames, frames_sound, frames_lines}
use Rattle.frame_arena.proofs.arena.Arena.put.Goals as goal

pub row_of-requires : goal.row_of-requires
row_of-requires g c = rising_in c.self.inside.rows.items c.deref.result.now c.self.inside.next c.self.invariant c.deref.ensures.value

pub returns-in_default : goal.returns-in_default
returns-in_default g c =
    let i = c.self.inside in
    no_frames c.args.self.now c.args.strand.number (λ fs. set fs c.args.place c.args.frame)
    (none_in i.rows.items c.deref.result.now c.args.self.now i.next c.args.strand.number c.self.invariant c.self.view_is c.deref.ensures.value c.in_default.ensures.row)
    (set_past [] c.args.place c.args.frame (omega arith))

pub index_mut-requires-2 : goal.index_mut-requires-2
index_mut-requires-2 g c =
    let i = c.self.inside in
    let x = c.index_mut.result.now in
    let below : c.args.place < length x.frames.items =
    subst (λ (l : Line g.row.F.Denot g.row.K.Denot). c.args.place < length l.frames)
    (read_in i.rows.items c.deref.result.now c.args.self.now i.next c.args.strand.number c.in-Some.row x c.self.invariant c.self.view_is
    c.deref.ensures.value c.in-Some.ensures.row c.index_mut.ensures.value) c.requires in
    omega (arith, below, x.frames.ok.0)

pub invariant_of-self : goal.invariant_of-self
invariant_of-self g c =
    let i = c.self.inside in
    frames_sound i.rows.items c.deref.result.now c.args.self.now i.next c.args.strand.number c.in-Some.row c.index_mut.result.now _ (λ fs. set fs c.args.place c.args.frame)
    c.self.invariant c.self.view_is c.deref.ensures.value c.in-Some.ensures.row c.index_mut.ensures.value
    refl refl refl refl refl refl refl refl

pub returns : goal.returns
returns g c =
    let i = c.self.inside in
    frames_lines i.rows.items c.deref.result.now c.args.self.now i.next c.args.strand.number c.in-Some.row c.index_mut.result.now _ (λ fs. set fs c.args.place c.args.frame)
    c.self.invariant c.self.view_is c.deref.ensures.value c.in-Some.ensures.row c.index_mut.ensures.value
    refl refl refl refl refl refl refl refl
