use Rattle.std.proofs.Common.{◌≡◌, ◌<◌, length, get_or, ap, sym, ◌∙◌, arith, rules}
use Rattle.std.specs.Arc.{arc_value}
use Rattle.session_calculus.specs.Kill.{kill}
use Rattle.session_forms.specs.View.{StrandView, fault_view, strand_view, term_view}
use Rattle.session_forms.specs.declared.term.Strand.{Strand}
use Rattle.session_forms.specs.declared.term.Strand as strand
use Rattle.session_forms.proofs.Held.{viewed}
use Rattle.session_forms.proofs.Lists.{unvisited-more}
use Rattle.session_forms.proofs.Weights.{weight, weight-member}
use Rattle.session_faults.proofs.Killed.{kill-goes_on, kill-through}
use Rattle.session_faults.proofs.kills.+kill.Goals as goal

pub kill_members-kill-requires : goal.kill_members-kill-requires
kill_members-kill-requires t c =
    let x = c.strand-item.result in
    let below : c.loop-strand.strand-index < length c.loop-strand.strands = omega arith in
    let less = weight-member c.args.strands.now c.loop-strand.strands c.loop-strand.strand-index x below c.loop-strand.invariant.unvisited c.strand-item.is in
    let same = ap (λ (v : StrandView). weight v.form) (viewed x) in
    let there = ap (λ (s : Strand). weight (term_view s.form.value)) c.strand-item.is in
    (omega (arith, less, same, there), tt)

pub kill_members-loop-strand-preserved : goal.kill_members-loop-strand-preserved
kill_members-loop-strand-preserved t c =
    let f = fault_view (arc_value c.args.fault.now) in
    let xs = c.args.strands.now in
    let ys = c.loop-strand.strands in
    let i = c.loop-strand.strand-index in
    let x = c.strand-item.result in
    let kept = c.loop-strand.invariant.unvisited in
    let below : i < length ys = omega arith in
    let y = strand.roll-Strand (record { number = (get_or ys i x).number; form = c.kill.new.form }) in
    let rolled : strand_view y ≡ record { number = (get_or ys i x).number; form = term_view c.kill.new.form.value } = search (rules, strand.the_lemmas) in
    let killed : StrandView → StrandView = λ v. record { number = v.number; form = kill f v.form } in
    let does = ap (λ u. record { number = (get_or ys i x).number; form = u }) c.in_ok-kill.ensures in
    let there : record { number = (get_or ys i x).number; form = kill f (term_view (get_or ys i x).form.value) } ≡ killed (strand_view x) =
    ap (λ (s : Strand). killed (record { number = s.number; form = term_view s.form.value })) (sym c.strand-item.is) ∙ ap killed (sym (viewed x)) in
    record {
      unvisited = unvisited-more xs ys i y kept;
      killed = kill-goes_on f xs ys i x y below kept c.strand-item.is (rolled ∙ does ∙ there) ∙ c.loop-strand.invariant.killed;
    }

pub kill_members-returns : goal.kill_members-returns
kill_members-returns t c =
    kill-through (fault_view (arc_value c.args.fault.now)) c.args.strands.now c.loop-strand.strands c.loop-strand.strand-index _ (omega arith) (omega arith) c.loop-strand.invariant.killed
