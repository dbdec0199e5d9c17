use Rattle.std.proofs.Common.{◌≡◌, ◌+◌, ◌∙◌, option_map, map, take, drop, ap, sym, rules}
use Rattle.behaviour_tree.specs.View.{behaviour_view, path_view, procs_of}
use Rattle.session_calculus.specs.Kill.{kill_members}
use Rattle.session_calculus.specs.Ready.{ready}
use Rattle.session_calculus.specs.Terms.{Fault, Term, Strands, seq, par, in_scope, exec, fail, prot, strand}
use Rattle.session_calculus.specs.Throw.{throw, throw_among, at_scope}
use Rattle.handler_table.specs.View.{table_view}
use Rattle.session_forms.specs.Rests.{rest_items}
use Rattle.session_forms.specs.View.{members_view, state_view, term_view}
use Rattle.session_forms.specs.declared.installed.Installed.{Installed}
use Rattle.session_forms.specs.declared.term.Term as term
use Rattle.session_faults.specs.Decisions.{decided, decision_view}
use Rattle.session_faults.specs.Least.{first}
use Rattle.session_faults.specs.Places.{joined}
use Rattle.session_faults.proofs.Carried.{decided-surrounded, decided-kept, decided-blocked, decided-arrived, throw_among-none, throw_among-at}
use Rattle.session_faults.proofs.Positions.{members-split}
use Rattle.session_faults.proofs.throws.+decided.Goals as goal

pub decided-returns-in-Seq : goal.decided-returns-in-Seq
decided-returns-in-Seq t c = λ value.
    let f : Fault = record { name = c.args.fault; value = value } in
    let rest = procs_of (map behaviour_view (rest_items c.in-Seq.rest)) in
    let seen : term_view c.args.term.now ≡ seq (term_view c.in-Seq.head.value) rest = search (rules, term.the_lemmas) in
    c.decided.ensures value
    ∙ ap (λ u. decided (throw c.args.strand f c.args.own (term_view u))) c.deref.ensures
    ∙ decided-surrounded (λ (u : Term). u) (λ u. seq u rest) (throw c.args.strand f c.args.own (term_view c.in-Seq.head.value))
    ∙ ap (λ u. decided (throw c.args.strand f c.args.own u)) (sym seen)

pub decided-returns-in-Exec : goal.decided-returns-in-Exec
decided-returns-in-Exec t c = λ value.
    let f : Fault = record { name = c.args.fault; value = value } in
    let y = option_map path_view c.in-Exec.path in
    let seen : term_view c.args.term.now ≡ exec c.in-Exec.message c.in-Exec.op y (term_view c.in-Exec.body.value) = search (rules, term.the_lemmas) in
    c.decided-in-Exec.ensures value
    ∙ ap (λ u. decided (throw c.args.strand f c.args.own (term_view u))) c.deref-in-Exec.ensures
    ∙ decided-surrounded (λ u. prot (fail c.in-Exec.message f u)) (exec c.in-Exec.message c.in-Exec.op y) (throw c.args.strand f c.args.own (term_view c.in-Exec.body.value))
    ∙ ap (λ u. decided (throw c.args.strand f c.args.own u)) (sym seen)

pub decided-returns-in-Prot : goal.decided-returns-in-Prot
decided-returns-in-Prot t c = λ value.
    let f : Fault = record { name = c.args.fault; value = value } in
    let around : Term → Term = prot in
    let seen : term_view c.args.term.now ≡ prot (term_view c.in-Prot.body.value) = search (rules, term.the_lemmas) in
    c.decided-in-Prot.ensures value
    ∙ ap (λ u. decided (throw c.args.strand f c.args.own (term_view u))) c.deref-in-Prot.ensures
    ∙ decided-surrounded around around (throw c.args.strand f c.args.own (term_view c.in-Prot.body.value))
    ∙ ap (λ u. decided (throw c.args.strand f c.args.own u)) (sym seen)

pub decided-returns-in-Par : goal.decided-returns-in-Par
decided-returns-in-Par t c = λ value.
    let f : Fault = record { name = c.args.fault; value = value } in
    let around : Strands → Term = par in
    let seen : term_view c.args.term.now ≡ par (members_view c.in-Par.strands.items) = search (rules, term.the_lemmas) in
    c.decided_among.ensures value
    ∙ ap (λ ts. decided (throw_among c.args.strand f (members_view ts))) c.deref-in-Par.ensures.value
    ∙ decided-surrounded around around (throw_among c.args.strand f (members_view c.in-Par.strands.items))
    ∙ ap (λ u. decided (throw c.args.strand f c.args.own u)) (sym seen)

pub decided-returns-then-not-is_up : goal.decided-returns-then-not-is_up
decided-returns-then-not-is_up t c = λ value.
    let f : Fault = record { name = c.args.fault; value = value } in
    let q = c.in-Scope.installed.value.scope in
    let h = table_view c.in-Scope.installed.value.table in
    let u = state_view c.in-Scope.state in
    let body = term_view c.in-Scope.body.value in
    let seen : term_view c.args.term.now ≡ in_scope q body h u = search (rules, term.the_lemmas) in
    let inner = c.decided-decision.ensures value ∙ ap (λ b. decided (throw c.args.strand f c.args.own (term_view b))) c.deref-in-Scope.ensures in
    let kept = sym c.is_up.ensures ∙ c.if-not-is_up.true in
    decided-kept (ready q h c.args.own body) (at_scope q h u f) (λ b. in_scope q b h u) c.decided-decision.result (throw c.args.strand f c.args.own body) inner kept
    ∙ ap (λ b. decided (throw c.args.strand f c.args.own b)) (sym seen)

pub decided-returns-in-Some : goal.decided-returns-in-Some
decided-returns-in-Some t c = λ value.
    let f : Fault = record { name = c.args.fault; value = value } in
    let q = c.in-Scope.installed.value.scope in
    let h = table_view c.in-Scope.installed.value.table in
    let u = state_view c.in-Scope.state in
    let body = term_view c.in-Scope.body.value in
    let seen : term_view c.args.term.now ≡ in_scope q body h u = search (rules, term.the_lemmas) in
    let inner = c.decided-decision.ensures value ∙ ap (λ b. decided (throw c.args.strand f c.args.own (term_view b))) c.deref-in-Scope.ensures in
    let goes = sym c.is_up.ensures ∙ c.if-not-is_up.false in
    let least =
    ap (λ (m : Installed). first (ready m.scope (table_view m.table) c.args.own (term_view c.deref-in-Scope-2.result.now))) c.deref-in-Scope-3.ensures
    ∙ ap (λ b. first (ready q h c.args.own (term_view b))) c.deref-in-Scope-2.ensures in
    decided-blocked (ready q h c.args.own body) (at_scope q h u f) (λ b. in_scope q b h u) c.decided-decision.result (throw c.args.strand f c.args.own body) c.in-Some.ready inner goes (c.in-Some.ensures ∙ least)
    ∙ ap (λ b. decided (throw c.args.strand f c.args.own b)) (sym seen)

pub decided-returns-in_default : goal.decided-returns-in_default
decided-returns-in_default t c = λ value.
    let f : Fault = record { name = c.args.fault; value = value } in
    let q = c.in-Scope.installed.value.scope in
    let h = table_view c.in-Scope.installed.value.table in
    let u = state_view c.in-Scope.state in
    let body = term_view c.in-Scope.body.value in
    let seen : term_view c.args.term.now ≡ in_scope q body h u = search (rules, term.the_lemmas) in
    let there = decided (throw c.args.strand f c.args.own (term_view c.deref-in-Scope.result.now)) in
    let inner = ◌∙◌ {b = there} (c.decided-decision.ensures value) (ap (λ b. decided (throw c.args.strand f c.args.own (term_view b))) c.deref-in-Scope.ensures) in
    let goes = sym c.is_up.ensures ∙ c.if-not-is_up.false in
    let least =
    ap (λ (m : Installed). first (ready m.scope (table_view m.table) c.args.own (term_view c.deref-in-Scope-2.result.now))) c.deref-in-Scope-3.ensures
    ∙ ap (λ b. first (ready q h c.args.own (term_view b))) c.deref-in-Scope-2.ensures in
    let comes : (b : Term) → decision_view c.at_scope.result ≡ decided (at_scope q h u f b) = λ b.
    c.at_scope.ensures value b ∙ ap (λ (m : Installed). decided (at_scope m.scope (table_view m.table) u f b)) c.deref-in-Scope-4.ensures in
    decided-arrived (ready q h c.args.own body) (at_scope q h u f) (λ b. in_scope q b h u) c.decided-decision.result (throw c.args.strand f c.args.own body) (decision_view c.at_scope.result) inner goes (c.in_default.ensures ∙ least) comes
    ∙ ap (λ b. decided (throw c.args.strand f c.args.own b)) (sym seen)

pub decided_among-returns-in-None : goal.decided_among-returns-in-None
decided_among-returns-in-None t c = λ value.
    let f : Fault = record { name = c.args.fault; value = value } in
    ap (λ r. decided r) (sym (throw_among-none c.args.strand f (members_view c.args.strands.now) c.in-None.ensures))

pub decided_among-returns-in-Some : goal.decided_among-returns-in-Some
decided_among-returns-in-Some t c = λ value.
    let f : Fault = record { name = c.args.fault; value = value } in
    let n = c.args.strand in
    let xs = c.args.strands.now in
    let i = c.in-Some.place in
    let x = c.index-strands-place.result in
    let first = c.in-Some.ensures in
    let form = term_view x.form.value in
    let others = members_view (drop (i + 1) xs) in
    let earlier = members_view (take i xs) in
    let passed : Term → Strands = λ u. joined (kill_members f earlier) (strand x.number u (kill_members f others)) in
    let kept : Term → Strands = λ u. joined earlier (strand x.number u others) in
    c.decided.ensures value
    ∙ ap (λ u. decided (throw n f x.number (term_view u))) c.deref.ensures
    ∙ decided-surrounded passed kept (throw n f x.number form)
    ∙ ap (λ r. decided r) (sym (throw_among-at n f earlier x.number form others first.not_before (first.here x c.index-strands-place.is)))
    ∙ ap (λ ts. decided (throw_among n f ts)) (sym (members-split xs i x first.within c.index-strands-place.is))
