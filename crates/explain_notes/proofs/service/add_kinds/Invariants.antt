use Rattle.std.proofs.Common.{◌≡◌, ◌++◌, take, flat_map}
use Rattle.explain_notes.specs.Notes.{notes_for}
use Rattle.explain_notes.proofs.service.add_kinds.Given as goal

abbrev pub invariant-loop-kind : goal.invariant-loop-kind
invariant-loop-kind l =
    l.notes.items ≡ l.initial.notes.items ++ flat_map (notes_for l.facts l.seen) (take l.kind-index l.kinds)
