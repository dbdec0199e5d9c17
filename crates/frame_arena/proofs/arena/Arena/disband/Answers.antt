use Rattle.std.proofs.Common.{refl, arith}
use Rattle.frame_arena.specs.Line.{Line}
use Rattle.frame_arena.proofs.Reading.{rising_in, none_in, unchanged, members_sound, members_lines}
use Rattle.frame_arena.proofs.arena.Arena.disband.Goals as goal

pub row_of-requires : goal.row_of-requires
row_of-requires g c = rising_in c.self.inside.rows.items c.deref.result.now c.self.inside.next c.self.invariant c.deref.ensures.value

pub returns-in_default : goal.returns-in_default
returns-in_default g c =
    let i = c.self.inside in
    unchanged c.args.self.now c.args.strand.number (λ (l : Line g.row.F.Denot g.row.K.Denot). record l { first = 0; count = 0; undone = 0 })
    (none_in i.rows.items c.deref.result.now c.args.self.now i.next c.args.strand.number c.self.invariant c.self.view_is c.deref.ensures.value c.in_default.ensures.row) refl

pub invariant_of-self : goal.invariant_of-self
invariant_of-self g c =
    let i = c.self.inside in
    members_sound i.rows.items c.deref.result.now c.args.self.now i.next c.args.strand.number c.in-Some.place 0 0 c.index_mut-row.result.now _
    (λ some. absurd (omega (arith, some)))
    c.self.invariant c.self.view_is c.deref.ensures.value c.in-Some.ensures.row c.index_mut-row.ensures.value refl

pub returns : goal.returns
returns g c =
    let i = c.self.inside in
    members_lines i.rows.items c.deref.result.now c.args.self.now i.next c.args.strand.number c.in-Some.place 0 0 c.index_mut-row.result.now _
    (λ some. absurd (omega (arith, some)))
    c.self.invariant c.self.view_is c.deref.ensures.value c.in-Some.ensures.row c.index_mut-row.ensures.value refl
