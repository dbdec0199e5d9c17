use Rattle.std.proofs.Common.{◌≡◌, ap, refl, subst, sym, true, ◌∙◌, Some}
use Rattle.std.specs.Prelude.{slice_set}
use Rattle.office_core.specs.declared.history.Act.TheVariants as act
use Rattle.office_core.specs.Accepted.{then_one}
use Rattle.office_core.specs.Legal.{is_at_work, is_fetched}
use Rattle.office_core.proofs.Numbers.{calls_rise}
use Rattle.office_core.proofs.Unborn.{unborn_idle}
use Rattle.office_plain.specs.Entries.{entry}
use Rattle.office_plain.specs.Ties.{Ties}
use Rattle.office_plain.proofs.Lists.{none_not_some}
use Rattle.office_plain.specs.View.{setting_of, past_in, entries_of}
use Rattle.office_plain.proofs.Bringing.{is_placed, brought_is}
use Rattle.office_plain.proofs.Whole.{whole_after, still}
use Rattle.office_plain.proofs.office.Office.answered.Goals as goal

pub unreachable-requires : goal.unreachable-requires
unreachable-requires c =
    let o = c.begin.new.self in
    let s = c.args.session in
    let fetched : is_fetched (past_in o) c.args.actor s c.args.call ≡ true =
    still (λ w p. is_fetched p c.args.actor s c.args.call ≡ true) c.args.self.now o c.begin.ensures.same c.requires.fetched in
    let at_place = is_placed (setting_of o) (past_in o) c.args.actor s c.args.call o.kept fetched
    (unborn_idle (setting_of o) (entries_of o) s o.legal) (calls_rise (setting_of o) (entries_of o) s o.legal) (o.tied c.in_ok-begin.ensures.ready) in
    none_not_some at_place.place (c.in_default.ensures ∙ at_place.kept_at)

pub set-requires : goal.set-requires
set-requires c =
    let o = c.begin.new.self in
    let s = c.args.session in
    let works : is_at_work (past_in o) c.args.actor ≡ true =
    still (λ w p. is_at_work p c.args.actor ≡ true) c.args.self.now o c.begin.ensures.same c.requires.works in
    let fetched : is_fetched (past_in o) c.args.actor s c.args.call ≡ true =
    still (λ w p. is_fetched p c.args.actor s c.args.call ≡ true) c.args.self.now o c.begin.ensures.same c.requires.fetched in
    (brought_is (setting_of o) (past_in o) c.args.actor s c.args.call c.in-Some.place c.args.outcome o.kept works fetched
    (unborn_idle (setting_of o) (entries_of o) s o.legal) (calls_rise (setting_of o) (entries_of o) s o.legal) (o.tied c.in_ok-begin.ensures.ready)
    (sym c.in-Some.ensures)).within

pub invariant_of-self : goal.invariant_of-self
invariant_of-self c =
    let o = c.begin.new.self in
    let s = c.args.session in
    let works : is_at_work (past_in o) c.args.actor ≡ true =
    still (λ w p. is_at_work p c.args.actor ≡ true) c.args.self.now o c.begin.ensures.same c.requires.works in
    let fetched : is_fetched (past_in o) c.args.actor s c.args.call ≡ true =
    still (λ w p. is_fetched p c.args.actor s c.args.call ≡ true) c.args.self.now o c.begin.ensures.same c.requires.fetched in
    let brought = brought_is (setting_of o) (past_in o) c.args.actor s c.args.call c.in-Some.place c.args.outcome o.kept works fetched
    (unborn_idle (setting_of o) (entries_of o) s o.legal) (calls_rise (setting_of o) (entries_of o) s o.legal) (o.tied c.in_ok-begin.ensures.ready)
    (sym c.in-Some.ensures) in
    let e = entry c.args.actor (act.Answered s c.args.call c.args.outcome) in
    let tied : Ties (setting_of o) (then_one (setting_of o) (past_in o) e) (record o.kept { outcomes = c.set.new.self }) =
    subst (λ os. Ties (setting_of o) (then_one (setting_of o) (past_in o) e) (record o.kept { outcomes = os }))
    (sym (c.set.ensures ∙ ap (λ x. slice_set o.kept.outcomes c.in-Some.place (Some x)) c.in_ok-copy.ensures)) brought.tied in
    let whole = whole_after o c.put.new.self e (record o.kept { outcomes = c.set.new.self }) c.put.ensures.entries c.put.ensures.kept refl refl brought.legal tied in
    record { legal = whole.legal; places = whole.places; closing = whole.closing; tied = λ h. whole.tied }
