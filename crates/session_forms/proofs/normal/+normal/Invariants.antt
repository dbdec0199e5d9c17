use Rattle.std.proofs.Common.{◌≡◌, ◌+◌, ◌*◌, map, take, drop}
use Rattle.behaviour_tree.specs.View.{behaviour_view, procs_of}
use Rattle.session_calculus.specs.Start as spec
use Rattle.session_forms.specs.Rests.{rest_items}
use Rattle.session_forms.specs.View.{members_view, strand_view, term_view}
use Rattle.session_forms.proofs.Begins.{before}
use Rattle.session_forms.proofs.Weights.{heft, hefts, weight, weights}
use Rattle.session_forms.proofs.normal.+normal.Given as goal

abbrev pub decreases-normalize : goal.decreases-normalize
decreases-normalize l = 3 * weight (term_view l.form.now.value) + 2

abbrev pub decreases-normalize_strands : goal.decreases-normalize_strands
decreases-normalize_strands l = 3 * weights (members_view l.strands.now.items) + 1

abbrev pub decreases-normalize_members : goal.decreases-normalize_members
decreases-normalize_members l = 3 * weights (members_view l.strands.now)

abbrev pub decreases-begin : goal.decreases-begin
decreases-begin l = 3 * heft (behaviour_view l.behaviour.now) + 3

abbrev pub decreases-begin_rest : goal.decreases-begin_rest
decreases-begin_rest l = 3 * hefts (procs_of (map behaviour_view (rest_items l.rest)))

abbrev pub invariant-normalize_members-loop-strand : goal.invariant-normalize_members-loop-strand
invariant-normalize_members-loop-strand l = record {
  unvisited : drop l.strand-index l.strands ≡ drop l.strand-index l.fn.strands;
  normal : spec.around (before (map strand_view (take l.strand-index l.strands))) (spec.normal_members (members_view (drop l.strand-index l.fn.strands)) l.after) ≡ spec.normal_members (members_view l.fn.strands) l.next;
}

abbrev pub invariant-begin_rest-loop-i : goal.invariant-begin_rest-loop-i
invariant-begin_rest-loop-i l = spec.begin_rest (procs_of (map behaviour_view (drop l.i (rest_items l.rest)))) l.after ≡ spec.begin_rest (procs_of (map behaviour_view (rest_items l.rest))) l.next
