use Rattle.std.proofs.Common.{◌≡◌, ◌++◌, [], ◌∷◌, true, None, Some, ap, refl, sym, ◌∙◌, option_map}
use Rattle.std.specs.Prelude.{slice_get}
use Rattle.office_core.specs.declared.history.Act.TheVariants as act
use Rattle.office_core.specs.Legal.{is_acting}
use Rattle.office_plain.specs.Entries.{entry}
use Rattle.office_plain.specs.Replies.{mail_of, next_mail}
use Rattle.office_plain.proofs.Acting.{acting_lives}
use Rattle.office_plain.specs.View.{setting_of, past_in, entries_of, with_entry}
use Rattle.office_plain.proofs.Taking.{box_oldest, legal_take, ties_take, take_is, mail_taken, no_mail}
use Rattle.office_plain.proofs.Whole.{whole_after, still, before}
use Rattle.office_plain.proofs.office.Office.take.Goals as goal

pub returns-in_default-clause-mail : goal.returns-in_default-clause-mail
returns-in_default-clause-mail c =
    let o = c.begin.new.self in
    let s = c.args.session in
    let ops = c.args.ops.now in
    let acts = still (λ w p. is_acting w p s ≡ true) c.args.self.now o c.begin.ensures.same c.requires in
    let none = box_oldest (setting_of o) (past_in o) s ops o.kept None (o.tied c.in_ok-begin.ensures.ready) acts (sym c.in_default.is ∙ c.first.ensures) in
    before (λ w p. None ≡ next_mail p s ops) c.args.self.now o c.begin.ensures.same (sym (no_mail (past_in o) s ops none))

pub invariant_of-self-2 : goal.invariant_of-self-2
invariant_of-self-2 c =
    let o = c.begin.new.self in
    let w = setting_of o in
    let s = c.args.session in
    let ops = c.args.ops.now in
    let n = c.in-Some.message in
    let boxes = c.take.new.self in
    let t = o.tied c.in_ok-begin.ensures.ready in
    let acts = still (λ v p. is_acting v p s ≡ true) c.args.self.now o c.begin.ensures.same c.requires in
    let is_oldest = box_oldest w (past_in o) s ops o.kept (Some n) t acts (sym c.in-Some.is ∙ c.first.ensures) in
    let whole = whole_after o c.put.new.self (entry s (act.Take n)) (record o.kept { boxes = boxes })
    c.put.ensures.entries c.put.ensures.kept refl refl
    (legal_take w (past_in o) s ops n acts is_oldest)
    (ties_take w (past_in o) s ops n o.kept boxes t (acting_lives w (past_in o) s acts) is_oldest c.take.ensures.rest) in
    record { legal = whole.legal; places = whole.places; closing = whole.closing; tied = λ h. whole.tied }

pub returns-clause-mail : goal.returns-clause-mail
returns-clause-mail c =
    let o = c.begin.new.self in
    let s = c.args.session in
    let ops = c.args.ops.now in
    let n = c.in-Some.message in
    let t = o.tied c.in_ok-begin.ensures.ready in
    let acts = still (λ v p. is_acting v p s ≡ true) c.args.self.now o c.begin.ensures.same c.requires in
    let is_oldest = box_oldest (setting_of o) (past_in o) s ops o.kept (Some n) t acts (sym c.in-Some.is ∙ c.first.ensures) in
    before (λ w p. c.in_ok-mail.mail ≡ next_mail p s ops) c.args.self.now o c.begin.ensures.same
    (c.in_ok-mail.ensures ∙ ap (λ ms. option_map (mail_of n) (slice_get ms n)) t.messages ∙ mail_taken (past_in o) s ops n is_oldest)

pub returns-clause-added : goal.returns-clause-added
returns-clause-added c =
    let o = c.begin.new.self in
    let s = c.args.session in
    let ops = c.args.ops.now in
    let n = c.in-Some.message in
    let same = c.begin.ensures.same in
    let t = o.tied c.in_ok-begin.ensures.ready in
    let acts = still (λ v p. is_acting v p s ≡ true) c.args.self.now o same c.requires in
    let is_oldest = box_oldest (setting_of o) (past_in o) s ops o.kept (Some n) t acts (sym c.in-Some.is ∙ c.first.ensures) in
    let given = c.in_ok-mail.ensures ∙ ap (λ ms. option_map (mail_of n) (slice_get ms n)) t.messages in
    record {
      program = same.program;
      entries = c.put.ensures.entries ∙ ap (λ es. es ++ entry s (act.Take n) ∷ []) same.entries
          ∙ sym (ap (with_entry (entries_of c.args.self.now)) (take_is (past_in o) s ops n c.in_ok-mail.mail is_oldest given));
    }
