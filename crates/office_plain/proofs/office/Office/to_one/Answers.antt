use Rattle.std.proofs.Common.{◌≡◌, ap, sym, subst, None, Some, IfSome, false, ◌∙◌}
use Rattle.behaviour_tree.specs.FormedSets.{is_concurrent}
use Rattle.office_core.specs.Route.{named_session}
use Rattle.office_core.specs.Sessions.{has_ended}
use Rattle.office_plain.specs.Views.{asked_view}
use Rattle.office_plain.specs.View.{setting_of, past_in}
use Rattle.office_plain.proofs.Routing.{one_single, one_named}
use Rattle.office_plain.proofs.office.Office.to_one.Goals as goal

pub returns-in-Single : goal.returns-in-Single
returns-in-Single c =
    let o = c.args.self.now in
    c.to_single.ensures
    ∙ one_single (setting_of o) (past_in o) (asked_view c.args.asked) (ap is_concurrent c.in-Single.is)

pub into_box-requires-clause-lives : goal.into_box-requires-clause-lives
into_box-requires-clause-lives c =
    subst (λ s. IfSome s (λ n. has_ended (past_in c.args.self.now) n ≡ false)) c.in-Some.is c.in_ok-session-in-Concurrent.ensures.lives

pub returns-in-Some : goal.returns-in-Some
returns-in-Some c =
    let o = c.args.self.now in
    let named : named_session (setting_of o) (past_in o) (asked_view c.args.asked) ≡ Some c.in-Some.session =
    sym c.in_ok-session-in-Concurrent.ensures.named ∙ c.in-Some.is in
    c.into_box.ensures
    ∙ one_named (setting_of o) (past_in o) (asked_view c.args.asked) (Some c.in-Some.session) (ap is_concurrent c.in-Concurrent.is) named

pub returns-in-None : goal.returns-in-None
returns-in-None c =
    let o = c.args.self.now in
    let named : named_session (setting_of o) (past_in o) (asked_view c.args.asked) ≡ None =
    sym c.in_ok-session-in-Concurrent.ensures.named ∙ c.in-None.is in
    c.to_new.ensures
    ∙ one_named (setting_of o) (past_in o) (asked_view c.args.asked) None (ap is_concurrent c.in-Concurrent.is) named
