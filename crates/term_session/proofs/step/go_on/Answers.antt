use Rattle.std.proofs.Common.{◌≡◌, ap, sym, ◌∙◌}
use Rattle.std.specs.Arc.{arc_value}
use Rattle.behaviour_tree.specs.PartsView.{parts_of}
use Rattle.session_calculus.specs.After.{seen_by}
use Rattle.session_forms.specs.View.{fault_view, term_view}
use Rattle.term_session.specs.Configs.{config_view}
use Rattle.term_session.specs.Turns.{seen_at, walked_view}
use Rattle.term_session.specs.Walks.{stuck, faulted, acted_in}
use Rattle.term_session.proofs.Going.{seen_outermost, step_stuck, step_faulted}
use Rattle.term_session.proofs.step.go_on.Goals as goal

pub returns-in-Stuck : goal.returns-in-Stuck
returns-in-Stuck c =
    let t = c.args.turn in
    let here = config_view c.args.config.now in
    let parts = parts_of t.actor.program.now in
    let s = seen_by parts t.actor.service here t.actor.strand t.given.now in
    let around = c.outermost-around in
    let seen =
    seen_outermost t.actor t.given.now around.result c.args.config.now around.ensures.scope around.ensures.table in
    let x = term_view c.act.new.form.value in
    let h = c.act.new.installed in
    let m = c.act.new.memory in
    let came : stuck x (seen_at t h m) ≡ acted_in s 0 here.form =
    ap (λ w. walked_view t w x h m) (sym c.in-Stuck.is)
    ∙ c.in_ok-walked.ensures.event
    ∙ ap (λ s. acted_in s 0 here.form) seen in
    step_stuck parts t.actor.service here t.actor.strand t.given.now x (seen_at t h m) came

pub returns-in-Faulted : goal.returns-in-Faulted
returns-in-Faulted c =
    let t = c.args.turn in
    let here = config_view c.args.config.now in
    let parts = parts_of t.actor.program.now in
    let s = seen_by parts t.actor.service here t.actor.strand t.given.now in
    let around = c.outermost-around in
    let seen =
    seen_outermost t.actor t.given.now around.result c.args.config.now around.ensures.scope around.ensures.table in
    let x = term_view c.act.new.form.value in
    let h = c.act.new.installed in
    let m = c.act.new.memory in
    let f = fault_view (arc_value c.in-Faulted.fault) in
    let came : faulted f x (seen_at t h m) ≡ acted_in s 0 here.form =
    ap (λ w. walked_view t w x h m) (sym c.in-Faulted.is)
    ∙ c.in_ok-walked.ensures.event
    ∙ ap (λ s. acted_in s 0 here.form) seen in
    c.in_ok-raised-in-Faulted.ensures
    ∙ step_faulted parts t.actor.service here t.actor.strand t.given.now f x (seen_at t h m) came
