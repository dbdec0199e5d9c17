-- The events of the sessions so far, and those of the others.
use Rattle.std.proofs.Common.{◌≡◌, ◌++◌, length, map}
use Rattle.std.specs.Vec.Iter.{into_iter_items, into_iter_len}
use Rattle.run_cells.proofs.parts.events_in.Given as goal

abbrev pub invariant-loop-cell : goal.invariant-loop-cell
invariant-loop-cell g l = record {
  same : l.sessions ++ map (λ d. d.events) (into_iter_items l.cell-iterator) ≡ map (λ d. d.events) l.fn.cells.items;
  left : into_iter_len l.cell-iterator ≡ length (into_iter_items l.cell-iterator);
}
