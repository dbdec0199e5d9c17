use Rattle.std.proofs.Common.{◌≡◌, true, sym, ◌∙◌}
use Rattle.office_core.specs.Route.{is_starting}
use Rattle.office_plain.specs.Views.{asked_view}
use Rattle.office_plain.specs.View.{setting_of, past_in}
use Rattle.office_plain.proofs.Routing.{sessions_born, run_full, run_free, named_starts}
use Rattle.office_plain.proofs.office.Office.to_new.Goals as goal

pub returns-then-len-ge-MOST_SESSIONS : goal.returns-then-len-ge-MOST_SESSIONS
returns-then-len-ge-MOST_SESSIONS c =
    let o = c.args.self.now in
    let starts : is_starting (asked_view c.args.asked) ≡ true = sym c.begins_with.ensures ∙ c.if-not-begins_with.false in
    run_full (setting_of o) (past_in o) c.len.result
    (c.len.ensures ∙ sessions_born (setting_of o) (past_in o) o.kept.sessions (o.tied c.requires).sessions)
    c.if-len-ge-MOST_SESSIONS.true
    ∙ named_starts (setting_of o) (past_in o) (asked_view c.args.asked) starts

pub returns : goal.returns
returns c =
    let o = c.args.self.now in
    let starts : is_starting (asked_view c.args.asked) ≡ true = sym c.begins_with.ensures ∙ c.if-not-begins_with.false in
    run_free (setting_of o) (past_in o) c.len.result
    (c.len.ensures ∙ sessions_born (setting_of o) (past_in o) o.kept.sessions (o.tied c.requires).sessions)
    c.if-len-ge-MOST_SESSIONS.false
    ∙ named_starts (setting_of o) (past_in o) (asked_view c.args.asked) starts
