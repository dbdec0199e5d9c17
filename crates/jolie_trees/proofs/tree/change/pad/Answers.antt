use Rattle.std.proofs.Common.{[], ◌∷◌, ◌++◌, ◌∙◌, ap, sym, take, vec_len, arith}
use Rattle.std.proofs.lemmas.List.{take-append-le}
use Rattle.jolie_trees.specs.Trees.{void_tree, change_nth}
use Rattle.jolie_trees.specs.TreeView.{trees_of}
use Rattle.jolie_trees.proofs.Vectors.{change_nth-there, change_nth-padded}
use Rattle.jolie_trees.proofs.tree.change.pad.Goals as goal

pub loop-alloc-preserved : goal.loop-alloc-preserved
loop-alloc-preserved c =
    let n = c.args.place in
    let xs = c.loop-alloc.nodes.items in
    let count = vec_len c.args.nodes.now in
    let grown = c.in_ok-push.ensures.items ∙ ap (λ t. xs ++ t ∷ []) c.void.ensures in
    record {
      padded = ap (λ ys. change_nth n (λ t. t) (trees_of ys)) grown ∙ change_nth-padded n xs (omega arith) ∙ c.loop-alloc.invariant.padded;
      kept = ap (take count) grown ∙ take-append-le count xs (void_tree ∷ []) (omega (arith, c.loop-alloc.invariant.longer)) ∙ c.loop-alloc.invariant.kept;
      longer = omega arith;
    }

pub returns : goal.returns
returns c = record {
  there = omega arith;
  padded = sym (change_nth-there c.args.place c.loop-alloc.nodes.items (omega arith)) ∙ c.loop-alloc.invariant.padded;
  kept = c.loop-alloc.invariant.kept;
}
