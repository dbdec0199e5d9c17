use Rattle.std.proofs.Common.{◌≡◌, ◌++◌, [], ◌∷◌, true, None, Some, ap, refl, sym, subst, ◌∙◌}
use Rattle.office_core.specs.declared.history.Act.TheVariants as act
use Rattle.office_core.specs.Calls.{result}
use Rattle.office_core.specs.Accepted.{then_one}
use Rattle.office_core.specs.Legal.{is_acting, is_wanted}
use Rattle.office_core.proofs.Numbers.{calls_rise}
use Rattle.office_core.proofs.Sent.{calls_are_messages}
use Rattle.office_plain.specs.Entries.{entry}
use Rattle.office_plain.specs.Rows.{message_of}
use Rattle.office_plain.specs.Ties.{Ties}
use Rattle.office_plain.specs.View.{setting_of, past_in, entries_of}
use Rattle.office_plain.proofs.AnswerTaken.{outcome_kept, message_sent, legal_answer, ties_answer}
use Rattle.office_plain.proofs.Whole.{whole_after, still, before}
use Rattle.office_plain.proofs.office.Office.take_answer.Goals as goal

pub returns-in_default-clause-answer : goal.returns-in_default-clause-answer
returns-in_default-clause-answer c =
    let old = c.args.self.now in
    let o = c.begin.new.self in
    let w = setting_of o in
    let s = c.args.session in
    let k = c.args.call in
    let same = c.begin.ensures.same in
    let acts = still (λ v p. is_acting v p s ≡ true) old o same c.requires.acts in
    let wants = still (λ v p. is_wanted p s k ≡ true) old o same c.requires.wanted in
    before (λ v p. None ≡ result v p s k) old o same
    (sym c.in_default.is ∙ c.in_ok-outcome.ensures
    ∙ outcome_kept w (past_in o) s k o.kept acts wants (calls_rise w (entries_of o) s o.legal) (calls_are_messages w (entries_of o) o.legal) (o.tied c.in_ok-begin.ensures.ready))

pub invariant_of-self-2 : goal.invariant_of-self-2
invariant_of-self-2 c =
    let old = c.args.self.now in
    let o = c.begin.new.self in
    let w = setting_of o in
    let past = past_in o in
    let s = c.args.session in
    let k = c.args.call in
    let outcome = c.in-Some.outcome in
    let same = c.begin.ensures.same in
    let t = o.tied c.in_ok-begin.ensures.ready in
    let acts = still (λ v p. is_acting v p s ≡ true) old o same c.requires.acts in
    let wants = still (λ v p. is_wanted p s k ≡ true) old o same c.requires.wanted in
    let numbered = calls_rise w (entries_of o) s o.legal in
    let sent = calls_are_messages w (entries_of o) o.legal in
    let has = sym (sym c.in-Some.is ∙ c.in_ok-outcome.ensures ∙ outcome_kept w past s k o.kept acts wants numbered sent t) in
    let e = entry s (act.Answer k outcome) in
    let tied = ties_answer w past s k outcome o.kept c.take_out.new.kept.book (message_of o.kept s k)
    (message_sent w past s k o.kept acts wants numbered sent t) t c.take_out.ensures.origins c.take_out.ensures.standings in
    let whole = whole_after o c.put.new.self e c.take_out.new.kept c.put.ensures.entries c.put.ensures.kept refl refl
    (legal_answer w past s k outcome acts wants has)
    (subst (Ties w (then_one w past e)) (sym c.take_out.ensures.others) tied) in
    record { legal = whole.legal; places = whole.places; closing = whole.closing; tied = λ h. whole.tied }

pub returns-clause-answer : goal.returns-clause-answer
returns-clause-answer c =
    let old = c.args.self.now in
    let o = c.begin.new.self in
    let w = setting_of o in
    let s = c.args.session in
    let k = c.args.call in
    let same = c.begin.ensures.same in
    let acts = still (λ v p. is_acting v p s ≡ true) old o same c.requires.acts in
    let wants = still (λ v p. is_wanted p s k ≡ true) old o same c.requires.wanted in
    before (λ v p. Some c.in_ok-answer.answer ≡ result v p s k) old o same
    (ap Some c.in_ok-answer.ensures ∙ sym c.in-Some.is ∙ c.in_ok-outcome.ensures
    ∙ outcome_kept w (past_in o) s k o.kept acts wants (calls_rise w (entries_of o) s o.legal) (calls_are_messages w (entries_of o) o.legal) (o.tied c.in_ok-begin.ensures.ready))

pub returns-clause-added : goal.returns-clause-added
returns-clause-added c =
    let s = c.args.session in
    let k = c.args.call in
    let same = c.begin.ensures.same in
    record {
      program = same.program;
      entries = c.put.ensures.entries ∙ ap (λ es. es ++ entry s (act.Answer k c.in-Some.outcome) ∷ []) same.entries
          ∙ ap (λ a. entries_of c.args.self.now ++ entry s (act.Answer k a) ∷ []) (sym c.in_ok-answer.ensures);
    }
