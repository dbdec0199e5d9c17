use Rattle.std.proofs.Common.{◌≡◌, refl, subst, sym, true, ◌∙◌, None, Some}
use Rattle.office_core.specs.declared.history.Act.TheVariants as act
use Rattle.office_core.specs.Accepted.{then_one}
use Rattle.office_core.specs.Keys.{first}
use Rattle.office_core.specs.Legal.{is_at_work}
use Rattle.office_core.proofs.Numbers.{calls_rise}
use Rattle.office_plain.specs.Entries.{entry}
use Rattle.office_plain.specs.Kept.{unfetched}
use Rattle.office_plain.specs.Replies.{next_outgoing}
use Rattle.office_plain.specs.Ties.{Ties}
use Rattle.office_plain.specs.View.{setting_of, past_in, entries_of}
use Rattle.office_plain.proofs.Fetching.{waiting_first, queue_kept, going_kept, none_going, fetch_is}
use Rattle.office_plain.proofs.Whole.{whole_after, still, before}
use Rattle.office_plain.proofs.office.Office.fetch.Goals as goal

pub returns-in_default-clause-call : goal.returns-in_default-clause-call
returns-in_default-clause-call c =
    let o = c.begin.new.self in
    let k = c.args.kind in
    sym (before (λ w p. next_outgoing w p k ≡ None) c.args.self.now o c.begin.ensures.same
    (none_going (setting_of o) (past_in o) k
    (sym (queue_kept (setting_of o) (past_in o) k o.kept (o.tied c.in_ok-begin.ensures.ready)) ∙ sym c.in_default.ensures)))

pub returns-in_default-2-clause-call : goal.returns-in_default-2-clause-call
returns-in_default-2-clause-call c =
    let o = c.begin.new.self in
    let k = c.args.kind in
    let tied = o.tied c.in_ok-begin.ensures.ready in
    let leads : first (unfetched (setting_of o) (past_in o) k) ≡ Some c.in-Some.place =
    sym (queue_kept (setting_of o) (past_in o) k o.kept tied) ∙ sym c.in-Some.ensures in
    sym (before (λ w p. next_outgoing w p k ≡ None) c.args.self.now o c.begin.ensures.same
    (sym (going_kept (setting_of o) (past_in o) c.in-Some.place k o.kept (waiting_first (setting_of o) (past_in o) k c.in-Some.place leads) tied)
    ∙ sym c.in_ok-outgoing.ensures ∙ c.in_default-2.is))

pub invariant_of-self-2 : goal.invariant_of-self-2
invariant_of-self-2 c =
    let o = c.begin.new.self in
    let k = c.args.kind in
    let out = c.in-Some-2.outgoing in
    let works : is_at_work (past_in o) c.args.actor ≡ true =
    still (λ w p. is_at_work p c.args.actor ≡ true) c.args.self.now o c.begin.ensures.same c.requires in
    let fetched = fetch_is (setting_of o) (past_in o) c.args.actor c.in-Some.place k o.kept out works
    (λ s. calls_rise (setting_of o) (entries_of o) s o.legal) (o.tied c.in_ok-begin.ensures.ready)
    (sym c.in-Some.ensures) (sym c.in_ok-outgoing.ensures ∙ c.in-Some-2.is) in
    let e = entry c.args.actor (act.Fetch out.session out.call) in
    let whole = whole_after o c.put.new.self e c.pass.new.kept c.put.ensures.entries c.put.ensures.kept refl refl fetched.legal
    (subst (Ties (setting_of o) (then_one (setting_of o) (past_in o) e)) (sym c.pass.ensures) fetched.tied) in
    record { legal = whole.legal; places = whole.places; closing = whole.closing; tied = λ h. whole.tied }

pub returns-clause-call : goal.returns-clause-call
returns-clause-call c =
    let o = c.begin.new.self in
    let k = c.args.kind in
    let tied = o.tied c.in_ok-begin.ensures.ready in
    let leads : first (unfetched (setting_of o) (past_in o) k) ≡ Some c.in-Some.place =
    sym (queue_kept (setting_of o) (past_in o) k o.kept tied) ∙ sym c.in-Some.ensures in
    sym (before (λ w p. next_outgoing w p k ≡ Some c.in-Some-2.outgoing) c.args.self.now o c.begin.ensures.same
    (sym (going_kept (setting_of o) (past_in o) c.in-Some.place k o.kept (waiting_first (setting_of o) (past_in o) k c.in-Some.place leads) tied)
    ∙ sym c.in_ok-outgoing.ensures ∙ c.in-Some-2.is))
