use Rattle.std.proofs.Common.{◌≡◌, Some, None, ap, sym, ◌∙◌}
use Rattle.std.specs.Prelude.{option_map, unwrap_or}
use Rattle.jolie_trees.specs.declared.extent.Extent.{Extent}
use Rattle.jolie_trees.specs.Trees.{size, nth}
use Rattle.jolie_trees.specs.Limits.{in_u64}
use Rattle.jolie_trees.specs.Counts.{taken_of}
use Rattle.jolie_trees.specs.TreeView.{trees_of}
use Rattle.jolie_trees.proofs.Entries.{nth-get}
use Rattle.jolie_trees.proofs.tree.counted.taken_of.Goals as goal

pub returns-in-Some-at : goal.returns-in-Some-at
returns-in-Some-at c =
    let xs = c.args.members.now in
    let there : Some c.in-Some-at.node.now ≡ nth c.in-Some.index (trees_of xs) =
    c.in-Some-at.ensures ∙ sym (nth-get c.in-Some.index xs) in
    ap (λ (e : Extent). e.nodes) c.extent.ensures
    ∙ ap (λ o. in_u64 (unwrap_or (option_map size o) 0)) there
    ∙ ap (λ o. in_u64 (taken_of o (trees_of xs))) (sym c.in-Some.is)

pub returns-in-None-at : goal.returns-in-None-at
returns-in-None-at c =
    let xs = c.args.members.now in
    let missing : None ≡ nth c.in-Some.index (trees_of xs) = c.in-None-at.ensures ∙ sym (nth-get c.in-Some.index xs) in
    ap (λ o. in_u64 (unwrap_or (option_map size o) 0)) missing
    ∙ ap (λ o. in_u64 (taken_of o (trees_of xs))) (sym c.in-Some.is)
