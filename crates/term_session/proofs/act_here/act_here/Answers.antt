use Rattle.std.proofs.Common.{◌≡◌, ◌∙◌, rules}
use Rattle.behaviour_tree.specs.View.{behaviour_view}
use Rattle.session_calculus.specs.Terms.{place}
use Rattle.session_forms.specs.View.{dead_call_view, term_view}
use Rattle.session_forms.specs.declared.term.Term as term
use Rattle.term_session.specs.Turns.{seen_at, came_to, event_at}
use Rattle.term_session.proofs.Between.{through}
use Rattle.term_session.proofs.Here.{at_place, killed_call_acts}
use Rattle.term_session.proofs.act_here.act_here.Goals as goal

pub returns-in_ok-acted-in-Place-clause-event : goal.returns-in_ok-acted-in-Place-clause-event
returns-in_ok-acted-in-Place-clause-event c =
    let t = c.args.turn in
    let h = c.acted.new.installed in
    let k = c.acted.new.memory in
    let s = seen_at t c.args.installed.now c.args.memory.now in
    let p = behaviour_view c.deref.result.now in
    let x = term_view c.args.form.now.value in
    let seen : x ≡ place p = search (rules, term.the_lemmas) in
    through (came_to t c.in_ok-acted-in-Place.acted x h k)
    (at_place t c.in_ok-acted-in-Place.acted x h k s p seen c.in_ok-acted-in-Place.ensures.event)
    (search (rules, term.the_lemmas))

pub returns-in_ok-moved-in-DeadWait-clause-event : goal.returns-in_ok-moved-in-DeadWait-clause-event
returns-in_ok-moved-in-DeadWait-clause-event c =
    let t = c.args.turn in
    let h = c.killed_answer.new.installed in
    let k = c.args.memory.now in
    let e = c.in_ok-moved-in-DeadWait.moved in
    let n = c.deref-in-DeadWait.result.now in
    let x = term_view c.args.form.now.value in
    let seen : x ≡ dead_call_view n = search (rules, term.the_lemmas) in
    let came = c.in_ok-moved-in-DeadWait.ensures.event k in
    through (event_at t e x h k)
    (killed_call_acts t e x h c.args.installed.now k n seen came c.in_ok-moved-in-DeadWait.ensures.installed)
    (search (rules, term.the_lemmas))
