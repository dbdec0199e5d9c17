use Rattle.std.proofs.Common.{rules, ◌≡◌, false, [], ◌∷◌, ◌++◌, is_ok, sym, ◌∙◌, refl}
use Rattle.std.proofs.lemmas.Bool.{cond-false}
use Rattle.frame_arena.proofs.Lines.{stays}
use Rattle.frame_arena.proofs.Reading.{rising_in, live_in, frames_sound, frames_lines}
use Rattle.frame_arena.proofs.arena.Arena.push.Goals as goal

pub live_row-row-requires-clause-rising : goal.live_row-row-requires-clause-rising
live_row-row-requires-clause-rising g c =
    rising_in c.self.inside.rows.items c.deref.result.now c.self.inside.next c.self.invariant c.deref.ensures.value

pub live_row-row-requires-clause-live : goal.live_row-row-requires-clause-live
live_row-row-requires-clause-live g c =
    let i = c.self.inside in
    live_in i.rows.items c.deref.result.now c.args.self.now i.next c.args.strand.number c.self.invariant c.self.view_is
    c.deref.ensures.value c.requires

pub invariant_of-self : goal.invariant_of-self
invariant_of-self g c =
    let i = c.self.inside in
    frames_sound i.rows.items c.deref.result.now c.args.self.now i.next c.args.strand.number c.live_row-row.result c.index_mut.result.now _ (λ fs. fs)
    c.self.invariant c.self.view_is c.deref.ensures.value c.live_row-row.ensures.row c.index_mut.ensures.value
    refl refl refl refl refl refl refl c.in_err-push.ensures.items

pub returns-in_err-push : goal.returns-in_err-push
returns-in_err-push g c =
    let i = c.self.inside in
    let failed : is_ok c.from_residual.result ≡ false = search rules in
    frames_lines i.rows.items c.deref.result.now c.args.self.now i.next c.args.strand.number c.live_row-row.result c.index_mut.result.now _ (λ fs. fs)
    c.self.invariant c.self.view_is c.deref.ensures.value c.live_row-row.ensures.row c.index_mut.ensures.value
    refl refl refl refl refl refl refl c.in_err-push.ensures.items
    ∙ stays c.args.self.now c.args.strand.number _ refl
    ∙ sym (cond-false (is_ok c.from_residual.result) _ _ failed)

pub invariant_of-self-2 : goal.invariant_of-self-2
invariant_of-self-2 g c =
    let i = c.self.inside in
    frames_sound i.rows.items c.deref.result.now c.args.self.now i.next c.args.strand.number c.live_row-row.result c.index_mut.result.now _
    (λ fs. fs ++ c.args.frame ∷ [])
    c.self.invariant c.self.view_is c.deref.ensures.value c.live_row-row.ensures.row c.index_mut.ensures.value
    refl refl refl refl refl refl refl c.in_ok-push.ensures.items

pub returns : goal.returns
returns g c =
    let i = c.self.inside in
    frames_lines i.rows.items c.deref.result.now c.args.self.now i.next c.args.strand.number c.live_row-row.result c.index_mut.result.now _
    (λ fs. fs ++ c.args.frame ∷ [])
    c.self.invariant c.self.view_is c.deref.ensures.value c.live_row-row.ensures.row c.index_mut.ensures.value
    refl refl refl refl refl refl refl c.in_ok-push.ensures.items
