-- The connection that owes the answer of a place is told it where it stands.
use Rattle.std.proofs.Common.{◌≡◌, ◌<◌, ap, ap₂, refl, sym, ◌∙◌, arith, length, Some}
use Rattle.std.specs.Prelude.{slice_get, slice_set}
use Rattle.std.proofs.lemmas.Option.{none-some, slice_get_within}
use Rattle.behaviour_tree.specs.PartsView.{parts_of}
use Rattle.run_door_front.specs.Keeping.{Keeping}
use Rattle.run_door_front.specs.AnswerSteps.{awaited, told_of}
use Rattle.run_door_front.proofs.Telling.{answered_so}
use Rattle.run_door_front.proofs.Owing.{awaited_there, awaited_is}
use Rattle.run_door_front.proofs.Lining.{ordered-told}
use Rattle.run_door_front.proofs.kept.Kept.answer.Goals as goal

pub index_mut-requires : goal.index_mut-requires
index_mut-requires g c =
    let links = c.self.inside.connections.items in
    let traffics = c.self.inside.traffics.items in
    let found : awaited c.args.place links traffics ≡ Some c.in-Some.number =
    ap₂ (awaited c.args.place) (sym c.deref-2.ensures.value) (sym c.deref.ensures.value) ∙ sym c.awaited.ensures ∙ c.in-Some.is in
    let at = awaited_there c.args.place c.in-Some.number links traffics found in
    let within : c.in-Some.number < length links = slice_get_within links c.in-Some.number at.1 at.2 in
    omega (arith, within, c.self.inside.connections.ok.0)

pub answer-requires : goal.answer-requires
answer-requires g c =
    let links = c.self.inside.connections.items in
    let traffics = c.self.inside.traffics.items in
    let found : awaited c.args.place links traffics ≡ Some c.in-Some.number =
    ap₂ (awaited c.args.place) (sym c.deref-2.ensures.value) (sym c.deref.ensures.value) ∙ sym c.awaited.ensures ∙ c.in-Some.is in
    (c.args.place, (awaited_is c.args.place c.in-Some.number links traffics c.index_mut.result.now found c.index_mut.ensures.value).1)

pub returns-clause-answered : goal.returns-clause-answered
returns-clause-answered g c = λ n h.
    let same = c.self.view_is in
    let place = c.args.place in
    let number = c.in-Some.number in
    let links = c.self.inside.connections.items in
    let traffics = c.self.inside.traffics.items in
    let link = c.index_mut.result.now in
    let found : awaited place links traffics ≡ Some number =
    ap₂ (awaited place) (sym c.deref-2.ensures.value) (sym c.deref.ensures.value) ∙ sym c.awaited.ensures ∙ c.in-Some.is in
    let is = awaited_is place number links traffics link found c.index_mut.ensures.value in
    answered_so (parts_of c.args.program.now) (told_of place c.args.outcomes.now) c.args.self.now _ number link c.answer.new.self
    (ap (λ (k : Keeping). slice_get k.traffics place) (sym same) ∙ (awaited_there place number links traffics found).0)
    (ap (λ (k : Keeping). slice_get k.connections number) (sym same) ∙ is.0)
    (ap (λ (k : Keeping). slice_set k.connections number c.answer.new.self) same)
    (c.in_ok-answer.ensures place is.1) (ap (λ (k : Keeping). k.doors) same) (ap (λ (k : Keeping). k.opened) same)
    (ap (λ (k : Keeping). k.queue) same) (ap (λ (k : Keeping). k.traffics) same) (ap (λ (k : Keeping). k.most) same)
    (ap (λ (k : Keeping). k.halted) same) (ap (λ (k : Keeping). k.spent) same)

pub returns-clause-nobody : goal.returns-clause-nobody
returns-clause-nobody g c = λ none.
    let found = ap₂ (awaited c.args.place) (sym c.deref-2.ensures.value) (sym c.deref.ensures.value) ∙ sym c.awaited.ensures ∙ c.in-Some.is in
    absurd (none-some c.in-Some.number (sym none ∙ ap (λ (k : Keeping). awaited c.args.place k.connections k.traffics) (sym c.self.view_is) ∙ found))

pub returns-in_err-answer-clause-nobody : goal.returns-in_err-answer-clause-nobody
returns-in_err-answer-clause-nobody g c = λ none.
    let found = ap₂ (awaited c.args.place) (sym c.deref-2.ensures.value) (sym c.deref.ensures.value) ∙ sym c.awaited.ensures ∙ c.in-Some.is in
    absurd (none-some c.in-Some.number (sym none ∙ ap (λ (k : Keeping). awaited c.args.place k.connections k.traffics) (sym c.self.view_is) ∙ found))

pub returns-in_default-clause-answered : goal.returns-in_default-clause-answered
returns-in_default-clause-answered g c = λ n h.
    let none = ap₂ (awaited c.args.place) (sym c.deref-2.ensures.value) (sym c.deref.ensures.value) ∙ sym c.awaited.ensures ∙ c.in_default.is in
    absurd (none-some n (sym none ∙ ap (λ (k : Keeping). awaited c.args.place k.connections k.traffics) c.self.view_is ∙ h))

pub returns-in_default-clause-nobody : goal.returns-in_default-clause-nobody
returns-in_default-clause-nobody g c = λ none. (refl, refl)

pub invariant_of-self-2 : goal.invariant_of-self-2
invariant_of-self-2 g c = λ unspent.
    let x = c.self.inside in
    let place = c.args.place in
    let number = c.in-Some.number in
    let link = c.index_mut.result.now in
    let found : awaited place x.connections.items x.traffics.items ≡ Some number =
    ap₂ (awaited place) (sym c.deref-2.ensures.value) (sym c.deref.ensures.value) ∙ sym c.awaited.ensures ∙ c.in-Some.is in
    let is = awaited_is place number x.connections.items x.traffics.items link found c.index_mut.ensures.value in
    let told = c.in_ok-answer.ensures place is.1 in
    ordered-told x.connections.items x.opened.items x.queue.items number link c.answer.new.self is.0 told.tells.owing told.tells.writes (c.self.invariant unspent)
