use Rattle.std.proofs.Common.{◌≡◌, map, length}
use Rattle.behaviour_tree.specs.Conforms.{shape}
use Rattle.behaviour_tree.specs.View.{type_view}
use Rattle.behaviour_tree.proofs.shape.behind_names.Given as goal

abbrev pub invariant-loop-found : goal.invariant-loop-found
invariant-loop-found l = shape (map type_view l.types) l.left (type_view l.found) ≡ shape (map type_view l.types) (length l.types) (type_view l.fn.ty)

abbrev pub decreases-loop-found : goal.decreases-loop-found
decreases-loop-found l = l.left
