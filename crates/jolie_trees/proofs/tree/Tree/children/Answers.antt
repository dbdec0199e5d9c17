use Rattle.std.proofs.Common.{◌∙◌, ap, subst, nat_cmp, length}
use Rattle.std.specs.Cmp.Lexicographic.{slice_cmp}
use Rattle.std.specs.List.Sorted.{IsStrictlySortedBy}
use Rattle.jolie_trees.specs.Trees.{names_of, children_of}
use Rattle.std.specs.Map.Iter.{TakesFirst}
use Rattle.std.proofs.iter.runs.Sources.{from_front}
use Rattle.jolie_trees.specs.Children.{named_trees}
use Rattle.jolie_trees.proofs.Entries.{keys_of-names}
use Rattle.jolie_trees.proofs.tree.Tree.children.Goals as goal

pub returns-clause-ordered : goal.returns-clause-ordered
returns-clause-ordered c =
    subst (λ ks. IsStrictlySortedBy (slice_cmp nat_cmp) ks)
    (keys_of-names c.self.inside.children.entries ∙ ap (λ t. names_of (children_of t)) c.self.view_is) c.iter.ensures.ordered

pub returns-clause-runs : goal.returns-clause-runs
returns-clause-runs c = from_front (TakesFirst named_trees) named_trees (λ es. es) (λ s t h. ap length h.0) (λ s x t h. h)
