use Rattle.std.proofs.Common.{sym, ◌∙◌}
use Rattle.office_core.specs.declared.history.Placed.TheVariants as at
use Rattle.office_plain.specs.View.{setting_of, past_in}
use Rattle.office_plain.specs.Ways.{way_view}
use Rattle.office_plain.proofs.Sending.{placed_out, kept_out, placed_in, kept_in}
use Rattle.office_plain.proofs.office.Office.place.Goals as goal

pub returns-in_default-clause-placed : goal.returns-in_default-clause-placed
returns-in_default-clause-placed c =
    let o = c.args.self.now in
    λ wants. placed_out (setting_of o) (past_in o) c.args.session c.args.call c.args.port c.args.op c.args.value.now wants at.Out
    (sym (c.in_ok-posted.ensures c.args.call wants) ∙ c.in_default.is)

pub returns-in_default-clause-kept : goal.returns-in_default-clause-kept
returns-in_default-clause-kept c =
    let o = c.args.self.now in
    λ wants. kept_out (setting_of o) (past_in o) c.args.session c.args.call c.args.port c.args.op c.args.value.now wants at.Out o.kept
    (sym (c.in_ok-posted.ensures c.args.call wants) ∙ c.in_default.is) (o.tied c.requires.ready)

pub returns-clause-placed : goal.returns-clause-placed
returns-clause-placed c =
    let o = c.args.self.now in
    λ wants. placed_in (setting_of o) (past_in o) c.args.session c.args.call c.args.port c.args.op c.args.value.now wants at.Out
    c.placed_of.result c.in-Some.posted (way_view c.in_ok-way.way)
    (sym (c.in_ok-posted.ensures c.args.call wants) ∙ c.in-Some.is) c.in_ok-way.ensures (c.placed_of.ensures ∙ c.in_ok-accepted.ensures.placed)

pub returns-clause-kept : goal.returns-clause-kept
returns-clause-kept c =
    let o = c.args.self.now in
    λ wants. kept_in (setting_of o) (past_in o) c.args.session c.args.call c.args.port c.args.op c.args.value.now wants c.placed_of.result
    c.in-Some.posted c.accepted.new.self.kept
    (sym (c.in_ok-posted.ensures c.args.call wants) ∙ c.in-Some.is) c.in_ok-accepted.ensures.kept
