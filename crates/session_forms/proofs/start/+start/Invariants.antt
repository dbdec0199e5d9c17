use Rattle.std.proofs.Common.{◌≡◌, ◌+◌, length, map, drop}
use Rattle.behaviour_tree.specs.View.{behaviour_view, procs_of}
use Rattle.session_calculus.specs.Start as spec
use Rattle.session_forms.specs.View.{strand_view}
use Rattle.session_forms.proofs.Begins.{before}
use Rattle.session_forms.proofs.start.+start.Given as goal

abbrev pub invariant-started_parallel-loop-behaviour : goal.invariant-started_parallel-loop-behaviour
invariant-started_parallel-loop-behaviour l = record {
  number : l.number ≡ l.next + l.behaviour-index;
  started : spec.around (before (map strand_view l.strands.items)) (spec.start_members (procs_of (map behaviour_view (drop l.behaviour-index l.list))) l.number l.after) ≡ spec.start_members (procs_of (map behaviour_view l.list)) l.next (l.next + length l.list);
}
