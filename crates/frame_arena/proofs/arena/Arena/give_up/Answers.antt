use Rattle.std.proofs.Common.{refl}
use Rattle.frame_arena.specs.Line.{Line}
use Rattle.frame_arena.specs.Lines.{no_line}
use Rattle.frame_arena.proofs.Reading.{rising_in, none_in, unchanged, freed_sound, freed_lines}
use Rattle.frame_arena.proofs.arena.Arena.give_up.Goals as goal

pub row_of-requires : goal.row_of-requires
row_of-requires g c = rising_in c.self.inside.rows.items c.deref.result.now c.self.inside.next c.self.invariant c.deref.ensures.value

pub returns-in_default : goal.returns-in_default
returns-in_default g c =
    let i = c.self.inside in
    unchanged c.args.self.now c.args.strand.number (λ (l : Line g.row.F.Denot g.row.K.Denot). no_line)
    (none_in i.rows.items c.deref.result.now c.args.self.now i.next c.args.strand.number c.self.invariant c.self.view_is c.deref.ensures.value c.in_default.ensures.row) refl

pub invariant_of-self : goal.invariant_of-self
invariant_of-self g c =
    let i = c.self.inside in
    freed_sound i.rows.items c.deref.result.now c.args.self.now i.next c.args.strand.number c.in-Some.place c.index_mut-row.result.now _
    c.self.invariant c.self.view_is c.deref.ensures.value c.in-Some.ensures.row c.index_mut-row.ensures.value refl refl

pub returns : goal.returns
returns g c =
    let i = c.self.inside in
    freed_lines i.rows.items c.deref.result.now c.args.self.now i.next c.args.strand.number c.in-Some.place c.index_mut-row.result.now _
    c.self.invariant c.self.view_is c.deref.ensures.value c.in-Some.ensures.row c.index_mut-row.ensures.value refl refl
