-- Whether a node fits, and the node widened, by the shape that its type has once its names are looked up.
use Rattle.std.proofs.Common.{List, Option, None, Some, Bool, true, false}
use Rattle.std.specs.Prelude.{◌&&◌}
use Rattle.jolie_trees.specs.Data.{Tree, node, Fields}
use Rattle.jolie_trees.specs.declared.root.Root.{Root}
use Rattle.behaviour_tree.specs.Data.{TypeTree, plain, named, undefined}
use Rattle.behaviour_tree.specs.Conforms.{has_kind, counts_fit, children_fit, wide_root, wide_children}

-- whether a node fits, by the type behind its names
abbrev pub fits_at : List TypeTree → Root → Fields → Option TypeTree → Bool
fits_at types r children o =
    elim o [
      | None ↦ false
      | Some s ↦ elim s [
        | plain k fields ↦ has_kind k r && counts_fit children fields && children_fit types children fields
        | named i ↦ false
        | undefined ↦ true
      ]
    ]

-- a node widened, by the type behind its names
abbrev pub wide_at : List TypeTree → Root → Fields → Option TypeTree → Tree
wide_at types r children o =
    elim o [
      | None ↦ node r children
      | Some s ↦ elim s [
        | plain k fields ↦ node (wide_root k r) (wide_children types children fields)
        | named i ↦ node r children
        | undefined ↦ node r children
      ]
    ]
