use Rattle.std.proofs.Common.{◌≡◌, sym, subst, ◌∙◌, IfOk}
use Rattle.office_plain.specs.Views.{asked_view}
use Rattle.office_plain.specs.View.{setting_of, past_in}
use Rattle.office_plain.specs.Ways.{way_view}
use Rattle.office_plain.proofs.Routing.{is_asked, route_full, route_unknown, route_misfit, route_fit}
use Rattle.office_plain.proofs.office.Office.route.Goals as goal

pub returns-then-is_full : goal.returns-then-is_full
returns-then-is_full c =
    let o = c.args.self.now in
    route_full (setting_of o) (past_in o) c.args.posted.now (sym c.is_full.ensures ∙ c.if-is_full.true)

pub returns-in_default : goal.returns-in_default
returns-in_default c =
    let o = c.args.self.now in
    route_unknown (setting_of o) (past_in o) c.args.posted.now (sym c.is_full.ensures ∙ c.if-is_full.false) (sym c.in_default.ensures)

pub returns-then-not-conforms : goal.returns-then-not-conforms
returns-then-not-conforms c =
    let o = c.args.self.now in
    route_misfit (setting_of o) (past_in o) c.args.posted.now (asked_view c.in-Some.asked) (sym c.is_full.ensures ∙ c.if-is_full.false) (sym c.in-Some.ensures) (sym c.conforms.ensures ∙ c.if-not-conforms.true)

pub to_one-requires-clause-asked : goal.to_one-requires-clause-asked
to_one-requires-clause-asked c =
    let o = c.args.self.now in
    is_asked (setting_of o) c.args.posted.now (asked_view c.in-Some.asked) (sym c.in-Some.ensures)

pub returns : goal.returns
returns c =
    let o = c.args.self.now in
    subst (λ r. IfOk c.to_one.result (λ way. way_view way ≡ r))
    (route_fit (setting_of o) (past_in o) c.args.posted.now (asked_view c.in-Some.asked) (sym c.is_full.ensures ∙ c.if-is_full.false) (sym c.in-Some.ensures) (sym c.conforms.ensures ∙ c.if-not-conforms.false))
    c.to_one.ensures
