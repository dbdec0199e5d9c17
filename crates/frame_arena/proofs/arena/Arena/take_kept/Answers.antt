use Rattle.std.proofs.Common.{[], refl, sym, ap, ◌∙◌}
use Rattle.frame_arena.specs.Line.{Line}
use Rattle.frame_arena.proofs.Reading.{rising_in, none_in, read_in, unchanged}
use Rattle.frame_arena.proofs.Taking.{keeping_sound, keeping_lines}
use Rattle.frame_arena.proofs.arena.Arena.take_kept.Goals as goal

pub row_of-requires : goal.row_of-requires
row_of-requires g c = rising_in c.self.inside.rows.items c.deref.result.now c.self.inside.next c.self.invariant c.deref.ensures.value

pub invariant_of-self : goal.invariant_of-self
invariant_of-self g c =
    let i = c.self.inside in
    keeping_sound i.rows.items c.deref.result.now c.args.self.now i.next c.args.strand.number c.in-Some.row c.index_mut.result.now _ []
    c.self.invariant c.self.view_is c.deref.ensures.value c.in-Some.ensures.row c.index_mut.ensures.value
    refl refl refl refl refl refl refl (ap (λ v. v.items) c.replace.ensures.after ∙ c.new.ensures.items)

pub returns-in-Some-clause-kept : goal.returns-in-Some-clause-kept
returns-in-Some-clause-kept g c =
    let i = c.self.inside in
    ap (λ v. v.items) c.replace.ensures.value
    ∙ sym (ap (λ (l : Line g.row.F.Denot g.row.K.Denot). l.kept)
    (read_in i.rows.items c.deref.result.now c.args.self.now i.next c.args.strand.number c.in-Some.row c.index_mut.result.now c.self.invariant c.self.view_is
    c.deref.ensures.value c.in-Some.ensures.row c.index_mut.ensures.value))

pub returns-in-Some-clause-rest : goal.returns-in-Some-clause-rest
returns-in-Some-clause-rest g c =
    let i = c.self.inside in
    keeping_lines i.rows.items c.deref.result.now c.args.self.now i.next c.args.strand.number c.in-Some.row c.index_mut.result.now _ []
    c.self.invariant c.self.view_is c.deref.ensures.value c.in-Some.ensures.row c.index_mut.ensures.value
    refl refl refl refl refl refl refl (ap (λ v. v.items) c.replace.ensures.after ∙ c.new.ensures.items)

pub returns-in-None-clause-kept : goal.returns-in-None-clause-kept
returns-in-None-clause-kept g c =
    let i = c.self.inside in
    c.new-in-None.ensures.items
    ∙ sym (ap (λ (l : Line g.row.F.Denot g.row.K.Denot). l.kept)
    (none_in i.rows.items c.deref.result.now c.args.self.now i.next c.args.strand.number c.self.invariant c.self.view_is c.deref.ensures.value c.in-None.ensures.row))

pub returns-in-None-clause-rest : goal.returns-in-None-clause-rest
returns-in-None-clause-rest g c =
    let i = c.self.inside in
    unchanged c.args.self.now c.args.strand.number (λ (l : Line g.row.F.Denot g.row.K.Denot). record l { kept = [] })
    (none_in i.rows.items c.deref.result.now c.args.self.now i.next c.args.strand.number c.self.invariant c.self.view_is c.deref.ensures.value c.in-None.ensures.row) refl
