-- The node of an index among those under a name.
use Rattle.std.proofs.Common.{◌≡◌, ℕ, List, Option, refl, sym, ap, ◌∙◌, slice_get}
use Rattle.std.specs.Prelude.{unwrap_or}
use Rattle.jolie_trees.specs.Data.{Tree, node}
use Rattle.jolie_trees.specs.Trees.{child, children_of, index_of, nth, under}
use Rattle.jolie_trees.specs.TreeView.{trees_of}
use Rattle.jolie_trees.specs.declared.path.Step.{Step}
use Rattle.jolie_trees.proofs.Entries.{nth-get}
use Rattle.behaviour_tree.specs.Values.{stepped}

child-nth : (s : Step) (t : Tree) → child s t ≡ nth (index_of s) (under s.name (children_of t))
child-nth s (node r fs) = refl

-- what is lent under the name has it at its place
pub below_there : (name : List ℕ) (index : Option ℕ) (t : Tree) (xs : List Tree) (place : ℕ) (found : Option Tree)
    → trees_of xs ≡ under name (children_of t) → place ≡ unwrap_or index 0 → found ≡ slice_get xs place → found ≡ child (stepped name index) t
below_there name index t xs place found lent is at =
    at ∙ sym (nth-get place xs) ∙ ap (nth place) lent ∙ ap (λ n. nth n (under name (children_of t))) is ∙ sym (child-nth (stepped name index) t)
