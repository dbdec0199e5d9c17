use Rattle.std.proofs.Common.{◌≡◌, ◌++◌, [], ◌∷◌, ◌+◌, true, ap, refl, ◌∙◌}
use Rattle.jolie_trees.specs.Limits.{in_u64}
use Rattle.office_core.specs.declared.history.Act.TheVariants as act
use Rattle.office_core.specs.Boxes.{took}
use Rattle.office_core.specs.Answers.{is_open}
use Rattle.office_core.specs.Legal.{is_acting}
use Rattle.office_plain.specs.Entries.{entry}
use Rattle.office_plain.specs.Endings.{answered_at}
use Rattle.reqresp_book.specs.View.{standing_of}
use Rattle.office_plain.specs.View.{setting_of, past_in}
use Rattle.office_plain.proofs.Replying.{legal_reply, ties_reply}
use Rattle.office_plain.proofs.Whole.{whole_after, still}
use Rattle.office_plain.proofs.office.Office.reply.Goals as goal

pub invariant_of-self : goal.invariant_of-self
invariant_of-self c =
    let old = c.args.self.now in
    let o = c.begin.new.self in
    let w = setting_of o in
    let past = past_in o in
    let s = c.args.session in
    let n = c.args.message in
    let outcome = c.args.outcome in
    let same = c.begin.ensures.same in
    let book = c.answer_if_open.new.book in
    let acts = still (λ v p. is_acting v p s ≡ true) old o same c.requires.acts in
    let took_it = still (λ v p. took p s n ≡ true) old o same c.requires.took in
    let opened = still (λ v p. is_open v p n ≡ true) old o same c.requires.open in
    let heavier = c.saturating_add-self.ensures ∙ ap (λ x. in_u64 (o.kept.weight + x)) c.outcome_weight-weight.ensures in
    let whole = whole_after o c.put.new.self (entry s (act.Reply n outcome)) (record o.kept { weight = c.saturating_add-self.result; book = book })
    c.put.ensures.entries c.put.ensures.kept refl refl
    (legal_reply w past s n outcome acts took_it opened)
    (ties_reply w past s n outcome o.kept c.saturating_add-self.result book opened heavier (o.tied c.in_ok-begin.ensures.ready) c.answer_if_open.ensures.origins
    (λ j. c.answer_if_open.ensures.standings j ∙ ap (λ a. answered_at n a j (standing_of o.kept.book j)) c.in_ok-copy.ensures)) in
    record { legal = whole.legal; places = whole.places; closing = whole.closing; tied = λ h. whole.tied }

pub returns-clause-added : goal.returns-clause-added
returns-clause-added c =
    let same = c.begin.ensures.same in
    record {
      program = same.program;
      entries = c.put.ensures.entries ∙ ap (λ es. es ++ entry c.args.session (act.Reply c.args.message c.args.outcome) ∷ []) same.entries;
    }
