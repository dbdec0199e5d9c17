use Rattle.std.proofs.Common.{◌≡◌, ◌∙◌, option_map, ap, sym, rules}
use Rattle.std.proofs.lemmas.Bool.{false≢true}
use Rattle.behaviour_tree.specs.View.{path_view}
use Rattle.behaviour_tree.specs.declared.words.Given.TheVariants as given
use Rattle.session_calculus.specs.Moves.{inside}
use Rattle.session_calculus.specs.Terms.{done, in_scope, exec}
use Rattle.handler_table.specs.View.{table_view}
use Rattle.session_events.specs.Seen.{seen_in}
use Rattle.session_forms.specs.View.{state_view, term_view}
use Rattle.session_forms.specs.declared.installed.Installed.{Installed}
use Rattle.session_forms.specs.declared.term.Term as term
use Rattle.term_session.specs.Walks.{looked_in}
use Rattle.term_session.proofs.Acting.{looked_scope, looked_exec, not_done}
use Rattle.term_session.proofs.Viewed.{first_looked}
use Rattle.term_session.proofs.look.+look.Goals as goal

pub look-returns-in_ok-looked-in-Scope : goal.look-returns-in_ok-looked-in-Scope
look-returns-in_ok-looked-in-Scope t c =
    let s = seen_in c.args.scene given.Nothing c.args.memory.now in
    let k = c.args.own in
    let m = c.in-Scope.installed.value in
    let y = term_view c.in-Scope.body.value in
    let u = state_view c.in-Scope.state in
    let seen : term_view c.args.term.now ≡ in_scope m.scope y (table_view m.table) u = search (rules, term.the_lemmas) in
    let going : y ≡ done → ⊥ = λ h. false≢true (c.if-is_done.ensures.1 (ap term_view c.deref-in-Scope.ensures ∙ h)) in
    c.in_ok-looked-in-Scope.ensures
    ∙ ap (λ (i : Installed). looked_in (inside s i.scope (table_view i.table)) k (term_view c.deref-in-Scope-2.result.now)) c.deref-in-Scope-3.ensures
    ∙ ap (λ v. looked_in (inside s m.scope (table_view m.table)) k (term_view v)) c.deref-in-Scope-2.ensures
    ∙ sym (looked_scope s k m.scope y (table_view m.table) u (not_done y going))
    ∙ ap (looked_in s k) (sym seen)

pub look-returns-in_ok-looked-in-Exec : goal.look-returns-in_ok-looked-in-Exec
look-returns-in_ok-looked-in-Exec t c =
    let s = seen_in c.args.scene given.Nothing c.args.memory.now in
    let k = c.args.own in
    let n = c.in-Exec.message in
    let p = option_map path_view c.in-Exec.path in
    let y = term_view c.in-Exec.body.value in
    let seen : term_view c.args.term.now ≡ exec n c.in-Exec.op p y = search (rules, term.the_lemmas) in
    let going : y ≡ done → ⊥ = λ h. false≢true (c.if-is_done-2.ensures.1 (ap term_view c.deref-in-Exec.ensures ∙ h)) in
    c.in_ok-looked-in-Exec.ensures
    ∙ ap (λ v. looked_in s k (term_view v)) c.deref-in-Exec-2.ensures
    ∙ sym (looked_exec s k n c.in-Exec.op p y (not_done y going))
    ∙ ap (looked_in s k) (sym seen)

pub look_among-returns : goal.look_among-returns
look_among-returns t c =
    let s = seen_in c.args.scene given.Nothing c.args.memory.now in
    let x = c.index-strands-place.result in
    c.in_ok-looked.ensures
    ∙ ap (λ v. looked_in s x.number (term_view v)) c.deref.ensures
    ∙ first_looked s c.args.strands.now c.in-Some.place x c.in-Some.ensures c.index-strands-place.is
