use Rattle.std.proofs.Common.{◌≡◌, sym, subst, option_map, rules}
use Rattle.behaviour_tree.specs.View.{path_view}
use Rattle.session_calculus.specs.Terms.{in_scope, exec}
use Rattle.handler_table.specs.View.{table_view}
use Rattle.session_forms.specs.View.{state_view, term_view}
use Rattle.session_forms.specs.declared.term.Term as term
use Rattle.term_session.specs.Foretold.{Foresees}
use Rattle.term_session.proofs.Foretelling.{in_body, in_request}
use Rattle.term_session.proofs.glance.+glance_in.Goals as goal

pub returns-in-Scope : goal.returns-in-Scope
returns-in-Scope t c =
    let g = c.glance_in-in-Scope.result in
    let n = c.args.strand in
    let k = c.args.own in
    let m = c.in-Scope.installed.value in
    let y = term_view c.in-Scope.body.value in
    let u = state_view c.in-Scope.state in
    let seen : term_view c.args.term.now ≡ in_scope m.scope y (table_view m.table) u = search (rules, term.the_lemmas) in
    let body : Foresees g n k y = subst (λ v. Foresees g n k (term_view v)) c.deref-in-Scope.ensures c.glance_in-in-Scope.ensures in
    subst (λ v. Foresees g n k v) (sym seen) (in_body g n k m.scope y (table_view m.table) u body)

pub returns-else-is_done : goal.returns-else-is_done
returns-else-is_done t c =
    let g = c.glance_in-in-Exec.result in
    let n = c.args.strand in
    let k = c.args.own in
    let p = option_map path_view c.in-Exec.path in
    let y = term_view c.in-Exec.body.value in
    let seen : term_view c.args.term.now ≡ exec c.in-Exec.message c.in-Exec.op p y = search (rules, term.the_lemmas) in
    let body : Foresees g n k y = subst (λ v. Foresees g n k (term_view v)) c.deref-in-Exec-2.ensures c.glance_in-in-Exec.ensures in
    subst (λ v. Foresees g n k v) (sym seen) (in_request g n k c.in-Exec.message c.in-Exec.op p y body)
