use Rattle.std.proofs.Common.{◌≡◌, ap, refl, sym, true, ◌∙◌, Some}
use Rattle.office_core.specs.declared.history.Act.TheVariants as act
use Rattle.office_core.specs.Answers.{answers}
use Rattle.office_core.specs.Keys.{first}
use Rattle.office_core.specs.Legal.{is_collectable}
use Rattle.office_plain.specs.Entries.{entry}
use Rattle.office_plain.specs.View.{setting_of, past_in}
use Rattle.office_plain.proofs.Collecting.{collected_answer, legal_collect, ties_collect}
use Rattle.office_plain.proofs.Whole.{whole_after, still}
use Rattle.office_plain.proofs.office.Office.collect.Goals as goal

pub invariant_of-self-2 : goal.invariant_of-self-2
invariant_of-self-2 c =
    let o = c.begin.new.self in
    let w = setting_of o in
    let past = past_in o in
    let n = c.args.message in
    let answer = c.in_ok-outcome.outcome in
    let tied = o.tied c.in_ok-begin.ensures.ready in
    let collectable : is_collectable past c.args.actor n ≡ true =
    still (λ v p. is_collectable p c.args.actor n ≡ true) c.args.self.now o c.begin.ensures.same c.requires.collectable in
    let has : first (answers w past n) ≡ Some answer =
    sym (collected_answer w past c.args.actor n o.kept tied collectable) ∙ sym c.in-Some.ensures ∙ ap Some (sym c.in_ok-outcome.ensures) in
    let whole = whole_after o c.put.new.self (entry c.args.actor (act.Collect n answer)) (record o.kept { book = c.collect-answer.new.self })
    c.put.ensures.entries c.put.ensures.kept refl refl
    (legal_collect w past c.args.actor n answer c.requires.worker collectable has)
    (ties_collect w past c.args.actor n answer o.kept c.collect-answer.new.self _ collectable tied c.collect-answer.ensures.origins c.collect-answer.ensures.standing) in
    record { legal = whole.legal; places = whole.places; closing = whole.closing; tied = λ h. whole.tied }
