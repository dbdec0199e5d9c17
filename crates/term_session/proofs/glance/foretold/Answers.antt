use Rattle.std.proofs.Common.{sym, subst, ◌∙◌}
use Rattle.session_calculus.specs.Names.{expr_fault, store_too_large}
use Rattle.session_forms.specs.View.{term_view}
use Rattle.term_session.specs.Configs.{config_view}
use Rattle.term_session.specs.Foretold.{Foresees, IsRaised}
use Rattle.term_session.proofs.Foretelling.{told_asks, told_stores}
use Rattle.term_session.proofs.glance.foretold.Goals as goal

pub returns-then-is_raised-2 : goal.returns-then-is_raised-2
returns-then-is_raised-2 c =
    let g = c.glance_in.result in
    let n = c.args.strand in
    let now = config_view c.args.config.now in
    let seen : Foresees g n 0 now.form = subst (λ v. Foresees g n 0 (term_view v)) c.deref-form.ensures c.glance_in.ensures in
    let faulty : IsRaised n expr_fault now.form = subst (λ v. IsRaised n expr_fault (term_view v)) c.deref-form.ensures (c.is_raised.ensures c.if-is_raised.true) in
    let full : IsRaised n store_too_large now.form = subst (λ v. IsRaised n store_too_large (term_view v)) c.deref-form.ensures (c.is_raised-then-is_raised.ensures c.if-is_raised-2.true) in
    told_stores g now n c.in-Stores.is c.if-config.false (sym c.is_finished.ensures ∙ c.if-is_finished.false) seen faulty full

pub returns-in-Asks : goal.returns-in-Asks
returns-in-Asks c =
    let g = c.glance_in.result in
    let n = c.args.strand in
    let now = config_view c.args.config.now in
    let seen : Foresees g n 0 now.form = subst (λ v. Foresees g n 0 (term_view v)) c.deref-form.ensures c.glance_in.ensures in
    told_asks g now n c.in-Asks.is c.if-config.false (sym c.is_finished.ensures ∙ c.if-is_finished.false) seen
