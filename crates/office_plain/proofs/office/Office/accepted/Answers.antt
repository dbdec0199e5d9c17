use Rattle.std.proofs.Common.{◌<◌, ◌^◌, ap, subst, sym, true≢false, ◌∙◌}
use Rattle.behaviour_tree.specs.PartsView.{parts_of}
use Rattle.office_core.specs.declared.history.Placed.TheVariants as at
use Rattle.office_core.specs.Route.{send_reply}
use Rattle.office_plain.specs.Accepting.{with_accepted}
use Rattle.office_plain.specs.Ties.{Ties}
use Rattle.office_plain.specs.View.{setting_of, past_in}
use Rattle.office_plain.specs.Ways.{way_view}
use Rattle.office_plain.proofs.Posting.{refused_none}
use Rattle.office_plain.proofs.Few.{few_sessions}
use Rattle.office_plain.proofs.Routing.{sessions_born}
use Rattle.office_plain.proofs.office.Office.accepted.Goals as goal

pub accept-requires-clause-way : goal.accept-requires-clause-way
accept-requires-clause-way c = sym c.requires.way ∙ ap way_view c.in-Session.is

pub accept-requires-clause-next : goal.accept-requires-clause-next
accept-requires-clause-next c = λ h. absurd (true≢false (sym h))

pub returns-in_ok-accept-in-Session-clause-placed : goal.returns-in_ok-accept-in-Session-clause-placed
returns-in_ok-accept-in-Session-clause-placed c =
    ap at.At c.in_ok-accept-in-Session.ensures.number
    ∙ sym (ap (λ way. send_reply (past_in c.args.self.now) (way_view way)) c.in-Session.is)

pub numbered-session-requires : goal.numbered-session-requires
numbered-session-requires c =
    let o = c.args.self.now in
    let t = o.tied c.requires.ready in
    subst (λ n. n < 2 ^ 32) (sym c.len.ensures)
    (few_sessions (parts_of o.program) (past_in o) o.kept.sessions t.sessions t.few)

pub accept-requires-in-New-clause-way : goal.accept-requires-in-New-clause-way
accept-requires-in-New-clause-way c = sym c.requires.way ∙ ap way_view c.in-New.is

pub accept-requires-in-New-clause-next : goal.accept-requires-in-New-clause-next
accept-requires-in-New-clause-next c =
    let o = c.args.self.now in
    λ h. c.numbered-session.ensures ∙ c.len.ensures ∙ sessions_born (setting_of o) (past_in o) o.kept.sessions (o.tied c.requires.ready).sessions

pub returns-in_ok-accept-in-New-clause-placed : goal.returns-in_ok-accept-in-New-clause-placed
returns-in_ok-accept-in-New-clause-placed c =
    ap at.At c.in_ok-accept-in-New.ensures.number
    ∙ sym (ap (λ way. send_reply (past_in c.args.self.now) (way_view way)) c.in-New.is)

pub returns-in-Refused-clause-placed : goal.returns-in-Refused-clause-placed
returns-in-Refused-clause-placed c = sym (ap (λ way. send_reply (past_in c.args.self.now) (way_view way)) c.in-Refused.is)

pub returns-in-Refused-clause-kept : goal.returns-in-Refused-clause-kept
returns-in-Refused-clause-kept c =
    let o = c.args.self.now in
    subst (λ g. Ties (setting_of o) (with_accepted (past_in o) g) o.kept)
    (sym (refused_none (setting_of o) (past_in o) c.args.origin c.args.posted.now c.in-Refused.reason (sym c.requires.way ∙ ap way_view c.in-Refused.is)))
    (o.tied c.requires.ready)
