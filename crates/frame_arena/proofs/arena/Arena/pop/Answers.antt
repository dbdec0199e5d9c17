use Rattle.std.proofs.Common.{◌-◌, [], length, take, slice_get, refl, sym, ap, ◌∙◌, arith}
use Rattle.std.proofs.lemmas.List.{take_all}
use Rattle.frame_arena.specs.Line.{Line}
use Rattle.frame_arena.proofs.Reading.{rising_in, none_in, read_in, no_frames, frames_sound, frames_lines}
use Rattle.frame_arena.proofs.Taking.{popped}
use Rattle.frame_arena.proofs.arena.Arena.pop.Goals as goal

pub row_of-requires : goal.row_of-requires
row_of-requires g c = rising_in c.self.inside.rows.items c.deref.result.now c.self.inside.next c.self.invariant c.deref.ensures.value

pub returns-in-None-clause-top : goal.returns-in-None-clause-top
returns-in-None-clause-top g c =
    let i = c.self.inside in
    sym (ap (λ (l : Line g.row.F.Denot g.row.K.Denot). slice_get l.frames (length l.frames - 1))
    (none_in i.rows.items c.deref.result.now c.args.self.now i.next c.args.strand.number c.self.invariant c.self.view_is c.deref.ensures.value c.in-None.ensures.row))

pub returns-in-None-clause-rest : goal.returns-in-None-clause-rest
returns-in-None-clause-rest g c =
    let i = c.self.inside in
    no_frames c.args.self.now c.args.strand.number (λ fs. take (length fs - 1) fs)
    (none_in i.rows.items c.deref.result.now c.args.self.now i.next c.args.strand.number c.self.invariant c.self.view_is c.deref.ensures.value c.in-None.ensures.row) (take_all 0 [] (omega arith))

pub invariant_of-self : goal.invariant_of-self
invariant_of-self g c =
    let i = c.self.inside in
    let x = c.index_mut.result.now in
    frames_sound i.rows.items c.deref.result.now c.args.self.now i.next c.args.strand.number c.in-Some.row x _ (λ fs. take (length fs - 1) fs)
    c.self.invariant c.self.view_is c.deref.ensures.value c.in-Some.ensures.row c.index_mut.ensures.value
    refl refl refl refl refl refl refl (c.pop.ensures.rest ∙ ap (λ k. take (k - 1) x.frames.items) x.frames.ok.0)

pub returns-in-Some-clause-top : goal.returns-in-Some-clause-top
returns-in-Some-clause-top g c =
    let i = c.self.inside in
    let x = c.index_mut.result.now in
    popped x.frames.items c.pop.new.self.items c.pop.result x.frames.len c.pop.new.self.len x.frames.ok.0 c.pop.ensures.items c.pop.ensures.cases
    ∙ sym (ap (λ (l : Line g.row.F.Denot g.row.K.Denot). slice_get l.frames (length l.frames - 1))
    (read_in i.rows.items c.deref.result.now c.args.self.now i.next c.args.strand.number c.in-Some.row x c.self.invariant c.self.view_is
    c.deref.ensures.value c.in-Some.ensures.row c.index_mut.ensures.value))

pub returns-in-Some-clause-rest : goal.returns-in-Some-clause-rest
returns-in-Some-clause-rest g c =
    let i = c.self.inside in
    let x = c.index_mut.result.now in
    frames_lines i.rows.items c.deref.result.now c.args.self.now i.next c.args.strand.number c.in-Some.row x _ (λ fs. take (length fs - 1) fs)
    c.self.invariant c.self.view_is c.deref.ensures.value c.in-Some.ensures.row c.index_mut.ensures.value
    refl refl refl refl refl refl refl (c.pop.ensures.rest ∙ ap (λ k. take (k - 1) x.frames.items) x.frames.ok.0)
