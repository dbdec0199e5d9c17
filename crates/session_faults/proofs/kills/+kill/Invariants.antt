use Rattle.std.proofs.Common.{◌≡◌, ◌+◌, ◌*◌, map, take, drop}
use Rattle.std.specs.Arc.{arc_value}
use Rattle.session_calculus.specs.Kill as spec
use Rattle.session_forms.specs.View.{fault_view, members_view, strand_view, term_view}
use Rattle.session_forms.proofs.Begins.{before}
use Rattle.session_forms.proofs.Weights.{weight, weights}
use Rattle.session_faults.proofs.kills.+kill.Given as goal

abbrev pub decreases-kill : goal.decreases-kill
decreases-kill l = 3 * weight (term_view l.form.now.value) + 2

abbrev pub decreases-kill_strands : goal.decreases-kill_strands
decreases-kill_strands l = 3 * weights (members_view l.strands.now.items) + 1

abbrev pub decreases-kill_members : goal.decreases-kill_members
decreases-kill_members l = 3 * weights (members_view l.strands.now)

abbrev pub invariant-kill_members-loop-strand : goal.invariant-kill_members-loop-strand
invariant-kill_members-loop-strand l =
    let f = fault_view (arc_value l.fault) in
    record {
      unvisited : drop l.strand-index l.strands ≡ drop l.strand-index l.fn.strands;
      killed : before (map strand_view (take l.strand-index l.strands)) (spec.kill_members f (members_view (drop l.strand-index l.fn.strands))) ≡ spec.kill_members f (members_view l.fn.strands);
    }
