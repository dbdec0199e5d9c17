use Rattle.std.proofs.Common.{◌≡◌, ◌∙◌, map, option_map, ap, sym, rules}
use Rattle.std.proofs.lemmas.Bool.{false≢true}
use Rattle.behaviour_tree.specs.View.{behaviour_view, path_view, procs_of}
use Rattle.session_calculus.specs.Terms.{done, seq, in_scope, exec, prot}
use Rattle.handler_table.specs.View.{table_view}
use Rattle.session_forms.specs.Rests.{rest_items}
use Rattle.session_forms.specs.View.{state_view, term_view}
use Rattle.session_forms.specs.declared.term.Term as term
use Rattle.term_session.specs.Turns.{seen_at, walked_view}
use Rattle.term_session.specs.Walks.{acted_in}
use Rattle.term_session.proofs.Between.{through}
use Rattle.term_session.proofs.Acting.{not_done}
use Rattle.term_session.proofs.Viewed.{in_sequence, in_protection, in_body, in_request}
use Rattle.term_session.proofs.act.+act.Goals as goal

pub act-returns-in_ok-walked-in-Seq-clause-event : goal.act-returns-in_ok-walked-in-Seq-clause-event
act-returns-in_ok-walked-in-Seq-clause-event t c =
    let turn = c.args.turn in
    let h = c.act.new.installed in
    let i = c.args.installed.now in
    let m = c.act.new.memory in
    let k = c.args.memory.now in
    let r = c.in_ok-walked-in-Seq.walked in
    let rest = procs_of (map behaviour_view (rest_items c.in-Seq.rest)) in
    let x = term_view c.act.new.form.value in
    let y = term_view c.in-Seq.head.value in
    let seen : term_view c.args.form.now.value ≡ seq y rest = search (rules, term.the_lemmas) in
    let did : walked_view turn r x h m ≡ acted_in (seen_at turn i k) c.args.own y =
    cc (c.in_ok-walked-in-Seq.ensures.event, c.in-Seq.head-is) in
    through (walked_view turn r (seq x rest) h m)
    (in_sequence turn r h i m k c.args.own x y rest did ∙ ap (acted_in (seen_at turn i k) c.args.own) (sym seen))
    (search (rules, term.the_lemmas))

pub act-returns-in_ok-walked-in-Prot-clause-event : goal.act-returns-in_ok-walked-in-Prot-clause-event
act-returns-in_ok-walked-in-Prot-clause-event t c =
    let turn = c.args.turn in
    let h = c.act-in-Prot.new.installed in
    let i = c.args.installed.now in
    let m = c.act-in-Prot.new.memory in
    let k = c.args.memory.now in
    let r = c.in_ok-walked-in-Prot.walked in
    let x = term_view c.act-in-Prot.new.form.value in
    let y = term_view c.in-Prot.body.value in
    let seen : term_view c.args.form.now.value ≡ prot y = search (rules, term.the_lemmas) in
    let did : walked_view turn r x h m ≡ acted_in (seen_at turn i k) c.args.own y =
    cc (c.in_ok-walked-in-Prot.ensures.event, c.in-Prot.body-is) in
    through (walked_view turn r (prot x) h m)
    (in_protection turn r h i m k c.args.own x y did ∙ ap (acted_in (seen_at turn i k) c.args.own) (sym seen))
    (search (rules, term.the_lemmas))

pub act-returns-in_ok-walked-in-Scope-clause-event : goal.act-returns-in_ok-walked-in-Scope-clause-event
act-returns-in_ok-walked-in-Scope-clause-event t c =
    let turn = c.args.turn in
    let h = c.act-in-Scope.new.installed in
    let i = c.in-Scope.scope.value in
    let o = c.args.installed.now in
    let m = c.act-in-Scope.new.memory in
    let k = c.args.memory.now in
    let r = c.in_ok-walked-in-Scope.walked in
    let x = term_view c.act-in-Scope.new.form.value in
    let y = term_view c.in-Scope.body.value in
    let u = state_view c.in-Scope.state in
    let seen : term_view c.args.form.now.value ≡ in_scope i.scope y (table_view i.table) u = search (rules, term.the_lemmas) in
    let same : term_view c.deref.result.now ≡ y = cc (c.deref.ensures, c.in-Scope.body-is) in
    let going : y ≡ done → ⊥ = λ h. false≢true (c.if-is_done.ensures.1 (same ∙ h)) in
    let did : walked_view turn r x h m ≡ acted_in (seen_at turn i k) c.args.own y =
    cc (c.in_ok-walked-in-Scope.ensures.event, c.in-Scope.body-is, c.in-Scope.scope-is) in
    let named : h.scope ≡ i.scope = cc (c.in_ok-walked-in-Scope.ensures.name, c.in-Scope.scope-is) in
    through (walked_view turn r (in_scope h.scope x (table_view h.table) u) o m)
    (in_body turn r h i o m k c.args.own x y u named (not_done y going) did
    ∙ ap (acted_in (seen_at turn o k) c.args.own) (sym seen))
    (search (rules, term.the_lemmas))

pub act-returns-in_ok-walked-in-Exec-clause-event : goal.act-returns-in_ok-walked-in-Exec-clause-event
act-returns-in_ok-walked-in-Exec-clause-event t c =
    let turn = c.args.turn in
    let h = c.act-in-Exec.new.installed in
    let i = c.args.installed.now in
    let m = c.act-in-Exec.new.memory in
    let k = c.args.memory.now in
    let r = c.in_ok-walked-in-Exec.walked in
    let n = c.in-Exec.message in
    let p = option_map path_view c.in-Exec.path in
    let x = term_view c.act-in-Exec.new.form.value in
    let y = term_view c.in-Exec.body.value in
    let seen : term_view c.args.form.now.value ≡ exec n c.in-Exec.op p y = search (rules, term.the_lemmas) in
    let same : term_view c.deref-in-Exec.result.now ≡ y = cc (c.deref-in-Exec.ensures, c.in-Exec.body-is) in
    let going : y ≡ done → ⊥ = λ h. false≢true (c.if-is_done-2.ensures.1 (same ∙ h)) in
    let did : walked_view turn r x h m ≡ acted_in (seen_at turn i k) c.args.own y =
    cc (c.in_ok-walked-in-Exec.ensures.event, c.in-Exec.body-is) in
    through (walked_view turn r (exec n c.in-Exec.op p x) h m)
    (in_request turn r h i m k c.args.own x y n c.in-Exec.op p (not_done y going) did
    ∙ ap (acted_in (seen_at turn i k) c.args.own) (sym seen))
    (search (rules, term.the_lemmas))
