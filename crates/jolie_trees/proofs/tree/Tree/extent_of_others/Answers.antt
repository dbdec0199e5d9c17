use Rattle.std.proofs.Common.{◌∙◌, ap, subst, nat_cmp}
use Rattle.std.specs.Cmp.Lexicographic.{slice_cmp}
use Rattle.std.specs.List.Sorted.{IsStrictlySortedBy}
use Rattle.jolie_trees.specs.Trees.{names_of, children_of}
use Rattle.jolie_trees.proofs.Entries.{keys_of-names}
use Rattle.jolie_trees.proofs.tree.Tree.extent_of_others.Goals as goal

pub returns-clause-ordered : goal.returns-clause-ordered
returns-clause-ordered c =
    subst (λ ks. IsStrictlySortedBy (slice_cmp nat_cmp) ks)
    (keys_of-names c.self.inside.children.entries ∙ ap (λ t. names_of (children_of t)) c.self.view_is) c.iter-key-items.ensures.ordered
