use Rattle.std.proofs.Common.{◌≡◌, ◌<◌, ◌^◌, ap, subst, sym, ◌∙◌, Some}
use Rattle.behaviour_tree.specs.Operations.{operation_at}
use Rattle.behaviour_tree.specs.PartsView.{parts_of}
use Rattle.correlation.specs.View.{sessions_of}
use Rattle.office_core.specs.Accepted.{message_of, message_to}
use Rattle.office_core.specs.Past.{some_entry, stops}
use Rattle.office_core.specs.declared.message.Message.{Message}
use Rattle.office_plain.specs.Accepting.{with_accepted}
use Rattle.office_plain.specs.Ties.{Ties}
use Rattle.office_plain.proofs.Accepted.{ties_accepted, fresh_number, unborn_session}
use Rattle.office_plain.proofs.Acting.{not_true}
use Rattle.office_plain.proofs.Born.{finds_room}
use Rattle.office_plain.proofs.FirstValues.{can_start}
use Rattle.office_plain.proofs.Few.{few_messages}
use Rattle.office_plain.specs.Views.{asked_view}
use Rattle.office_plain.specs.View.{setting_of, past_in, entries_of}
use Rattle.office_plain.proofs.Posting.{leads, leads_to, asks, conforming, message_goes}
use Rattle.office_plain.proofs.Routing.{is_asked}
use Rattle.office_plain.proofs.office.Office.accept.Goals as goal

pub unreachable-requires : goal.unreachable-requires
unreachable-requires c =
    let o = c.args.self.now in
    asks (setting_of o) (past_in o) c.args.posted.now (ap leads c.requires.way ∙ leads_to c.args.session c.args.starts) (sym c.in_default.ensures)

pub message_to-requires : goal.message_to-requires
message_to-requires c =
    let o = c.args.self.now in
    conforming (setting_of o) (past_in o) c.args.posted.now (asked_view c.in-Some.asked)
    (ap leads c.requires.way ∙ leads_to c.args.session c.args.starts) (sym c.in-Some.ensures)

pub numbered-number-requires : goal.numbered-number-requires
numbered-number-requires c =
    let o = c.args.self.now in
    let t = o.tied c.requires.ready in
    subst (λ n. n < 2 ^ 32) (sym c.len.ensures) (few_messages o.kept.messages (past_in o).messages t.messages t.few)

pub accept-requires : goal.accept-requires
accept-requires c =
    let o = c.args.self.now in
    let m = c.in_ok-message.message in
    let becomes : message_of (setting_of o) (past_in o) c.args.origin c.args.posted.now ≡ Some m =
    message_goes (setting_of o) (past_in o) c.args.origin c.args.posted.now (asked_view c.in-Some.asked) c.args.session c.args.starts
    c.requires.way c.requires.next (sym c.in-Some.ensures) ∙ ap Some (sym c.in_ok-message.ensures) in
    let t = o.tied c.requires.ready in
    record {
      few = few_messages o.kept.messages (past_in o).messages t.messages t.few;
      fresh = fresh_number (setting_of o) (past_in o) o.kept t;
      unborn = unborn_session (setting_of o) (past_in o) c.args.origin c.args.posted.now m o.kept t becomes;
      free = can_start (setting_of o) (past_in o) c.args.origin c.args.posted.now (asked_view c.in-Some.asked) c.args.session
          c.args.starts m (sessions_of o.kept.rows) c.requires.way c.requires.next (sym c.in-Some.ensures)
          c.in_ok-message.ensures t.keys;
      room = finds_room (parts_of o.program) (entries_of o) o.kept c.args.origin c.args.posted.now m o.legal t becomes;
    }

pub returns-clause-kept : goal.returns-clause-kept
returns-clause-kept c =
    let o = c.args.self.now in
    let w = setting_of o in
    let m = c.in_ok-message.message in
    let a = asked_view c.in-Some.asked in
    let made : m ≡ message_to w c.args.origin c.args.session c.args.starts a = c.in_ok-message.ensures in
    let becomes : message_of w (past_in o) c.args.origin c.args.posted.now ≡ Some m =
    message_goes w (past_in o) c.args.origin c.args.posted.now a c.args.session c.args.starts
    c.requires.way c.requires.next (sym c.in-Some.ensures) ∙ ap Some (sym made) in
    subst (λ g. Ties w (with_accepted (past_in o) g) c.accept.new.self) (sym becomes)
    (ties_accepted w (entries_of o) c.args.posted.now m a.operation o.kept c.accept.new.self o.legal
    (not_true (some_entry (past_in o) stops) c.requires.running)
    (ap (λ (x : Message). message_of w (past_in o) x.origin c.args.posted.now) made ∙ becomes)
    (ap (λ (x : Message). operation_at w.parts x.service x.op) made ∙ (is_asked w c.args.posted.now a (sym c.in-Some.ensures)).operation)
    (o.tied c.requires.ready) c.in_ok-accept.ensures)
