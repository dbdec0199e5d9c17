use Rattle.std.proofs.Common.{◌≡◌, ◌∙◌, get_or, ap, sym, rules}
use Rattle.std.specs.Arc.{arc_value}
use Rattle.session_calculus.specs.Ready.{ready}
use Rattle.session_calculus.specs.Terms.{in_scope}
use Rattle.session_calculus.specs.Throw.{throw, at_scope}
use Rattle.handler_table.specs.View.{table_view}
use Rattle.session_forms.specs.View.{fault_view, members_view, state_view, term_view}
use Rattle.session_forms.specs.declared.term.Strand.{Strand}
use Rattle.session_forms.specs.declared.term.Strand as strand
use Rattle.session_forms.specs.declared.term.Term as term
use Rattle.session_faults.specs.Decisions.{carried_by}
use Rattle.session_faults.proofs.Among.{kept_among, passed_among}
use Rattle.session_faults.proofs.Carried.{kept_in_scope, throw_among-none}
use Rattle.session_faults.proofs.Positions.{same_there}
use Rattle.session_faults.proofs.throws.+carry.Goals as goal

-- by way of a value in between
through : {A : Type 0} {x z : A} (y : A) → y ≡ z → x ≡ y → x ≡ z
through y e h = h ∙ e

pub carry-returns-then-not-is_up : goal.carry-returns-then-not-is_up
carry-returns-then-not-is_up t c =
    let f = fault_view (arc_value c.args.fault.now) in
    let q = c.in-Scope.installed.value.scope in
    let h = table_view c.in-Scope.installed.value.table in
    let u = state_view c.in-Scope.state in
    let body = term_view c.in-Scope.body.value in
    let left = term_view c.carry-in-Scope.new.form.value in
    let d = c.in_ok-decision-in-Scope.decision in
    let seen : term_view c.args.form.now.value ≡ in_scope q body h u = search (rules, term.the_lemmas) in
    let did : carried_by d left ≡ throw c.args.strand f c.args.own body = cc (c.in_ok-decision-in-Scope.ensures, c.in-Scope.body-is) in
    let kept = sym c.is_up-in-Scope.ensures ∙ c.if-not-is_up.true in
    through (carried_by d (in_scope q left h u))
    (kept_in_scope (ready q h c.args.own body) (at_scope q h u f) (λ b. in_scope q b h u) d left (throw c.args.strand f c.args.own body) did kept
    ∙ ap (throw c.args.strand f c.args.own) (sym seen))
    (search (rules, term.the_lemmas))

pub carry_among-returns-in_default : goal.carry_among-returns-in_default
carry_among-returns-in_default t c =
    sym (throw_among-none c.args.strand (fault_view (arc_value c.args.fault.now)) (members_view c.args.strands.now) c.in_default.ensures)

pub carry_among-returns-then-is_up : goal.carry_among-returns-then-is_up
carry_among-returns-then-is_up t c =
    let f = fault_view (arc_value c.args.fault.now) in
    let n = c.args.strand in
    let xs = c.args.strands.now in
    let i = c.in-Some.place in
    let x = c.index-strands-place.result in
    let first = c.in-Some.ensures in
    let y = strand.roll-Strand (record { number = (get_or xs i c.index-strands-place-2.result).number; form = c.carry.new.form }) in
    let there = sym c.index-strands-place-2.is ∙ same_there xs i c.index-strands-place-2.result x first.within c.index-strands-place-2.is c.index-strands-place.is in
    let same = ap (λ (s : Strand). s.number) there in
    let did =
    c.in_ok-decision.ensures
    ∙ ap (λ (s : Strand). throw n f s.number (term_view (get_or xs i c.index-strands-place-2.result).form.value)) (sym c.index-strands-place.is)
    ∙ ap (λ (s : Strand). throw n f x.number (term_view s.form.value)) there in
    passed_among n f xs c.kill_others.new.strands i x y c.in_ok-decision.decision first c.index-strands-place.is same did (sym c.is_up.ensures ∙ c.if-is_up.true) c.in_ok-kill_others.ensures

pub carry_among-returns : goal.carry_among-returns
carry_among-returns t c =
    let f = fault_view (arc_value c.args.fault.now) in
    let n = c.args.strand in
    let xs = c.args.strands.now in
    let i = c.in-Some.place in
    let x = c.index-strands-place.result in
    let first = c.in-Some.ensures in
    let y = strand.roll-Strand (record { number = (get_or xs i c.index-strands-place-2.result).number; form = c.carry.new.form }) in
    let there = sym c.index-strands-place-2.is ∙ same_there xs i c.index-strands-place-2.result x first.within c.index-strands-place-2.is c.index-strands-place.is in
    let same = ap (λ (s : Strand). s.number) there in
    let did =
    c.in_ok-decision.ensures
    ∙ ap (λ (s : Strand). throw n f s.number (term_view (get_or xs i c.index-strands-place-2.result).form.value)) (sym c.index-strands-place.is)
    ∙ ap (λ (s : Strand). throw n f x.number (term_view s.form.value)) there in
    kept_among n f xs i x y c.in_ok-decision.decision first c.index-strands-place.is same did (sym c.is_up.ensures ∙ c.if-is_up.false)
