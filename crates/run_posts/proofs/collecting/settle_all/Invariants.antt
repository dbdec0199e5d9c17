-- The answers of the calls before the next were collected.
use Rattle.std.proofs.Common.{◌≡◌, length}
use Rattle.std.specs.Vec.Iter.{into_iter_items, into_iter_len}
use Rattle.run_cells.specs.RunStates.{AtWork, IsOurs}
use Rattle.run_cells.specs.View.{run_state, state}
use Rattle.run_posts.proofs.Settling.{IsSettling}
use Rattle.run_posts.proofs.collecting.settle_all.Given as goal

abbrev pub invariant-loop-call_state : goal.invariant-loop-call_state
invariant-loop-call_state g l = record {
  program : l.cells.program ≡ l.initial.cells.program;
  ours : IsOurs (run_state g.S.Session l.cells);
  work : AtWork (run_state g.S.Session l.initial.cells) → AtWork (run_state g.S.Session l.cells);
  settling : IsSettling (state g.S.Session l.initial.cells) (state g.S.Session l.cells)
      l.fn.call_states.items (into_iter_items l.call_state-iterator) l.all.items;
  left : into_iter_len l.call_state-iterator ≡ length (into_iter_items l.call_state-iterator);
}
