-- The answers of the postings before the next were collected.
use Rattle.std.proofs.Common.{◌≡◌, length, map}
use Rattle.std.specs.Vec.Iter.{into_iter_items, into_iter_len}
use Rattle.run_cells.specs.RunStates.{AtWork, IsOurs}
use Rattle.run_cells.specs.View.{run_state, state}
use Rattle.run_posts.specs.CallStates.{wait_of}
use Rattle.run_posts.proofs.Settling.{IsGathering}
use Rattle.run_posts.proofs.collecting.gather.Given as goal

abbrev pub invariant-loop-pending : goal.invariant-loop-pending
invariant-loop-pending g l = record {
  program : l.cells.program ≡ l.initial.cells.program;
  ours : IsOurs (run_state g.S.Session l.cells);
  work : AtWork (run_state g.S.Session l.initial.cells) → AtWork (run_state g.S.Session l.cells);
  gathering : IsGathering (state g.S.Session l.initial.cells) (state g.S.Session l.cells)
      (map wait_of l.fn.waiting.items) (map wait_of (into_iter_items l.pending-iterator)) (map wait_of l.all.items);
  left : into_iter_len l.pending-iterator ≡ length (into_iter_items l.pending-iterator);
}
