use Rattle.std.proofs.Common.{◌≡◌, ◌+◌, ◌++◌, [], ◌∷◌, map, drop, ap, sym, ◌∙◌, arith, rules}
use Rattle.std.proofs.lemmas.List.{map-append}
use Rattle.behaviour_tree.specs.View.{behaviour_view, procs_of}
use Rattle.session_calculus.specs.Start as spec
use Rattle.session_calculus.specs.Terms.{par}
use Rattle.session_forms.specs.View.{StrandView, strand_view, strands_of, term_view}
use Rattle.session_forms.specs.declared.term.Strand as strand
use Rattle.session_forms.specs.declared.term.Term as term
use Rattle.session_forms.proofs.Begins.{before, count_of-procs_of, members_go_on, members_started}
use Rattle.session_forms.proofs.start.+start.Goals as goal

pub started_parallel-loop-behaviour-preserved : goal.started_parallel-loop-behaviour-preserved
started_parallel-loop-behaviour-preserved t c =
    let xs = c.args.list.now in
    let i = c.loop-behaviour.behaviour-index in
    let k = c.loop-behaviour.number in
    let ss = map strand_view c.loop-behaviour.strands.items in
    let b = spec.begun (term_view c.in_ok-form.field-0.form.value) c.in_ok-form.field-0.next in
    let s : StrandView = record { number = k; form = b.form } in
    let grown : map strand_view c.push.new.self.items ≡ ss ++ (s ∷ []) =
    let member = strand.roll-Strand (record { number = k; form = c.in_ok-form.field-0.form }) in
    let seen : strand_view member ≡ s = search (rules, strand.the_lemmas) in
    ap (map strand_view) c.in_ok-push.ensures.items
    ∙ map-append strand_view c.loop-behaviour.strands.items (member ∷ [])
    ∙ ap (λ r. ss ++ (r ∷ [])) seen in
    record {
      number = omega arith;
      started =
          ap (λ rs. spec.around (before rs) (spec.start_members (procs_of (map behaviour_view (drop (i + 1) xs))) (k + 1) b.next)) grown
          ∙ members_go_on xs i c.behaviour-item.result ss k c.loop-behaviour.after b c.loop-behaviour-test.true c.behaviour-item.is c.in_ok-form.ensures
          ∙ c.loop-behaviour.invariant.started;
    }

pub started_parallel-returns : goal.started_parallel-returns
started_parallel-returns t c =
    let xs = c.args.list.now in
    let ss = map strand_view c.loop-behaviour.strands.items in
    let rolled : term_view (term.Par c.loop-behaviour.strands) ≡ par (strands_of ss) = search (rules, term.the_lemmas) in
    let seen : term_view c.in_ok-boxed.field-0.value ≡ par (strands_of ss) = ap term_view c.in_ok-boxed.ensures ∙ rolled in
    let n = c.args.next in
    ap (λ u. spec.begun u c.loop-behaviour.after) seen
    ∙ ap (spec.around par) (members_started xs c.loop-behaviour.behaviour-index ss c.loop-behaviour.number c.loop-behaviour.after _ c.loop-behaviour-test.false c.loop-behaviour.invariant.started)
    ∙ ap (λ m. spec.around par (spec.start_members (procs_of (map behaviour_view xs)) n (n + m))) (sym (count_of-procs_of xs))
