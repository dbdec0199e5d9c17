use Rattle.std.proofs.Common.{◌≡◌, ◌<◌, length, get_or, map, ap, sym, subst, ◌∙◌, arith, rules}
use Rattle.std.proofs.lemmas.Bool.{false≢true}
use Rattle.behaviour_tree.specs.View.{behaviour_view, procs_of}
use Rattle.session_calculus.specs.Start as spec
use Rattle.session_calculus.specs.Terms.{done, seq}
use Rattle.session_forms.specs.Normal.{tidied}
use Rattle.session_forms.specs.Rests.{rest_items}
use Rattle.session_forms.specs.View.{StrandView, strand_view, term_view}
use Rattle.session_forms.specs.declared.term.Strand.{Strand}
use Rattle.session_forms.specs.declared.term.Strand as strand
use Rattle.session_forms.specs.declared.term.Term as term
use Rattle.session_forms.proofs.Lists.{unvisited-more}
use Rattle.session_forms.proofs.Members.{members_go_on, members_through}
use Rattle.session_forms.proofs.NormalForms.{seq_stops}
use Rattle.session_forms.proofs.Settled.{begin-normal}
use Rattle.session_forms.proofs.Weights.{hefts, weight, weight-start, weight-member, heft-member}
use Rattle.session_forms.proofs.normal.+normal.Goals as goal

pub begin-normalize-requires : goal.begin-normalize-requires
begin-normalize-requires t c =
    let fits = weight-start (behaviour_view c.args.behaviour.now) c.args.next in
    let same = ap (λ b. weight b.form) c.in_ok-form.ensures in
    (omega (arith, fits, same), tt)

pub begin-returns : goal.begin-returns
begin-returns t c =
    c.in_ok-next.ensures
    ∙ ap (λ b. spec.normal b.form b.next) c.in_ok-form.ensures
    ∙ begin-normal (behaviour_view c.args.behaviour.now) c.args.next

pub begin_rest-begin-requires : goal.begin_rest-begin-requires
begin_rest-begin-requires t c =
    let list = c.as_slice-list.result.now in
    let below = subst (λ xs. c.loop-i.i < length xs) (c.as_slice-i-end.ensures ∙ sym c.as_slice-list.ensures) c.loop-i-test.true in
    let less = heft-member list c.loop-i.i c.index-list-i.result below c.index-list-i.is in
    let same = ap (λ xs. hefts (procs_of (map behaviour_view xs))) c.as_slice-list.ensures in
    (omega (arith, less, same), tt)

pub normalize-returns-then-not-is_done : goal.normalize-returns-then-not-is_done
normalize-returns-then-not-is_done t c =
    let rest = procs_of (map behaviour_view (rest_items c.in-Seq.rest)) in
    let head = term_view c.normalize.new.form.value in
    let seen : term_view c.args.form.now.value ≡ seq (term_view c.in-Seq.head.value) rest = search (rules, term.the_lemmas) in
    let laid : term_view c.tidy.new.form.value ≡ tidied (seq head rest) = search (rules, term.the_lemmas) in
    let did : spec.begun head c.in_ok-next-in-Seq.next ≡ spec.normal (term_view c.in-Seq.head.value) c.args.next = cc (c.in_ok-next-in-Seq.ensures, c.in-Seq.head-is) in
    let going : head ≡ done → ⊥ = λ h. false≢true (c.if-not-is_done.ensures.1 (ap term_view c.deref.ensures ∙ h)) in
    ap (λ u. spec.begun u c.in_ok-next-in-Seq.next) laid
    ∙ seq_stops (term_view c.in-Seq.head.value) head rest c.args.next c.in_ok-next-in-Seq.next did going
    ∙ ap (λ u. spec.normal u c.args.next) (sym seen)

pub normalize_members-normalize-requires : goal.normalize_members-normalize-requires
normalize_members-normalize-requires t c =
    let x = c.strand-item.result in
    let below : c.loop-strand.strand-index < length c.loop-strand.strands = omega arith in
    let seen : (strand_view x).form ≡ term_view x.form.value = search (rules, strand.the_lemmas) in
    let less = weight-member c.args.strands.now c.loop-strand.strands c.loop-strand.strand-index x below c.loop-strand.invariant.unvisited c.strand-item.is in
    let same = ap weight seen in
    let there = ap (λ (s : Strand). weight (term_view s.form.value)) c.strand-item.is in
    (omega (arith, less, same, there), tt)

pub normalize_members-loop-strand-preserved : goal.normalize_members-loop-strand-preserved
normalize_members-loop-strand-preserved t c =
    let xs = c.args.strands.now in
    let ys = c.loop-strand.strands in
    let i = c.loop-strand.strand-index in
    let x = c.strand-item.result in
    let form = term_view c.normalize.new.form.value in
    let kept = c.loop-strand.invariant.unvisited in
    let below : i < length ys = omega arith in
    let y = strand.roll-Strand (record { number = (get_or ys i x).number; form = c.normalize.new.form }) in
    let viewed : strand_view x ≡ record { number = x.number; form = term_view x.form.value } = search (rules, strand.the_lemmas) in
    let rolled : strand_view y ≡ record { number = (get_or ys i x).number; form = form } = search (rules, strand.the_lemmas) in
    let named = ap (λ (s : Strand). s.number) (sym c.strand-item.is) ∙ ap (λ (v : StrandView). v.number) (sym viewed) in
    let seen : strand_view y ≡ record { number = (strand_view x).number; form = form } = rolled ∙ ap (λ n. record { number = n; form = form }) named in
    let does : spec.begun form c.in_ok-after.after ≡ spec.normal (strand_view x).form c.loop-strand.after =
    c.in_ok-after.ensures
    ∙ ap (λ (s : Strand). spec.normal (term_view s.form.value) c.loop-strand.after) (sym c.strand-item.is)
    ∙ ap (λ (v : StrandView). spec.normal v.form c.loop-strand.after) (sym viewed) in
    record {
      unvisited = unvisited-more xs ys i y kept;
      normal = members_go_on xs ys i c.loop-strand.after x y form c.in_ok-after.after below kept c.strand-item.is seen does ∙ c.loop-strand.invariant.normal;
    }

pub normalize_members-returns : goal.normalize_members-returns
normalize_members-returns t c =
    members_through c.args.strands.now c.loop-strand.strands c.loop-strand.strand-index c.loop-strand.after _ (omega arith) (omega arith) c.loop-strand.invariant.normal
