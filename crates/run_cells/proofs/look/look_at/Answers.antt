-- A look sees all that happened, and tells whether the session can act.
use Rattle.std.proofs.Common.{refl}
use Rattle.std.proofs.lemmas.Result.{IfOk-weaker}
use Rattle.session_turn.proofs.Growing.{grew_alone}
use Rattle.run_cells.proofs.Seeing.{may_exact, on_any}
use Rattle.run_cells.proofs.look.look_at.Goals as goal

pub may_act-requires-clause-kept : goal.may_act-requires-clause-kept
may_act-requires-clause-kept g c = ∣ (c.args.cell.now.events, c.requires.kept) ∣₁

pub returns-clause-ready : goal.returns-clause-ready
returns-clause-ready g c = on_any c.may_act.result c.may_act.ensures.pass

pub returns-clause-same : goal.returns-clause-same
returns-clause-same g c = on_any c.may_act.result (grew_alone refl c.may_act.ensures.grew)

pub returns-clause-exact : goal.returns-clause-exact
returns-clause-exact g c =
    IfOk-weaker c.may_act.result _ _
    (λ b m. may_exact refl c.requires.kept (grew_alone refl c.may_act.ensures.grew) refl refl m)
    c.may_act.ensures.exact
