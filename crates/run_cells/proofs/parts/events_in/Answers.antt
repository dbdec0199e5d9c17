-- Behind the last session all events are there.
use Rattle.std.proofs.Common.{sym, ◌∙◌}
use Rattle.std.proofs.lemmas.List.{nil_from_length}
use Rattle.std.specs.Vec.Iter.{into_iter_items}
use Rattle.run_cells.proofs.Looping.{events_end}
use Rattle.run_cells.proofs.parts.events_in.Goals as goal

pub returns : goal.returns
returns g c =
    let at = c.loop-cell in
    events_end (λ d. d.events) at.sessions c.args.cells.items (into_iter_items at.cell-iterator) at.invariant.same
    (nil_from_length (into_iter_items at.cell-iterator) (sym at.invariant.left ∙ c.in-None.ensures.steps.0))
