-- The outcomes before the next, and those of the others, are all.
use Rattle.std.proofs.Common.{◌≡◌, length, ◌++◌}
use Rattle.std.specs.Vec.Iter.{into_iter_items, into_iter_len}
use Rattle.run_posts.specs.CallStates.{outcomes_in}
use Rattle.run_posts.proofs.telling.outcomes_of.Given as goal

abbrev pub invariant-loop-call_state : goal.invariant-loop-call_state
invariant-loop-call_state l = record {
  outcomes : l.outcomes.items ++ outcomes_in (into_iter_items l.call_state-iterator) ≡ outcomes_in l.fn.call_states.items;
  left : into_iter_len l.call_state-iterator ≡ length (into_iter_items l.call_state-iterator);
}
