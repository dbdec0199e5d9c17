use Rattle.std.proofs.Common.{refl}
use Rattle.frame_arena.specs.Line.{Line}
use Rattle.frame_arena.proofs.Reading.{rising_in, live_in, kept_sound, kept_lines}
use Rattle.frame_arena.proofs.arena.Arena.set_undone.Goals as goal

pub live_row-place-requires-clause-rising : goal.live_row-place-requires-clause-rising
live_row-place-requires-clause-rising g c =
    rising_in c.self.inside.rows.items c.deref.result.now c.self.inside.next c.self.invariant c.deref.ensures.value

pub live_row-place-requires-clause-live : goal.live_row-place-requires-clause-live
live_row-place-requires-clause-live g c =
    let i = c.self.inside in
    live_in i.rows.items c.deref.result.now c.args.self.now i.next c.args.strand.number c.self.invariant c.self.view_is
    c.deref.ensures.value c.requires

pub invariant_of-self : goal.invariant_of-self
invariant_of-self g c =
    let i = c.self.inside in
    kept_sound i.rows.items c.deref.result.now c.args.self.now i.next c.args.strand.number c.live_row-place.result c.index_mut.result.now _
    (λ (l : Line g.row.F.Denot g.row.K.Denot). record l { undone = c.args.undone }) (λ l. record { live = refl; parent = refl; first = refl; count = refl })
    c.self.invariant c.self.view_is c.deref.ensures.value c.live_row-place.ensures.row c.index_mut.ensures.value refl

pub returns : goal.returns
returns g c =
    let i = c.self.inside in
    kept_lines i.rows.items c.deref.result.now c.args.self.now i.next c.args.strand.number c.live_row-place.result c.index_mut.result.now _
    (λ (l : Line g.row.F.Denot g.row.K.Denot). record l { undone = c.args.undone }) (λ l. record { live = refl; parent = refl; first = refl; count = refl })
    c.self.invariant c.self.view_is c.deref.ensures.value c.live_row-place.ensures.row c.index_mut.ensures.value refl
