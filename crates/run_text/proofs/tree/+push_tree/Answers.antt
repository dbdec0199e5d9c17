use Rattle.std.proofs.Common.{◌≡◌, ◌∷◌, ◌++◌, ◌-◌, ap, sym, ◌∙◌, arith, length, take, drop}
use Rattle.jolie_trees.specs.TreeView.{trees_of}
use Rattle.jolie_trees.proofs.Vectors.{levels-member}
use Rattle.run_text.specs.Strings.{text_string}
use Rattle.run_text.specs.Nodes.{trees_text}
use Rattle.run_text.proofs.TreeTexts.{node_written, no_children, children_begun, children_turn, lower_step, lower_first, lower_rest, named_written, levels_split}
use Rattle.run_text.proofs.tree.+push_tree.Goals as goal

pub push_tree-returns : goal.push_tree-returns
push_tree-returns t c =
    node_written c.push_children.result c.args.tree.now c.root.result.now c.args.writer.now c.push_root.new.writer c.push_children.new.writer c.root.ensures c.in_ok-push_root.ensures c.push_children.ensures

pub push_children-returns-in-None : goal.push_children-returns-in-None
push_children-returns-in-None t c = no_children c.args.tree.now c.children-children.result c.args.writer.now c.children-children.ensures.all c.in-None.ensures.steps.0

pub push_children-loop-other-init : goal.push_children-loop-other-init
push_children-loop-other-init t c =
    let others = c.into_iter-other-iterator.result in
    let it : c.into_iter-other-iterator.result ≡ c.next.new.self = cc (c.into_iter-other-iterator.ensures.into_iter_gives) in
    let split : c.children-children.result ≡ (c.in-Some.name.now, trees_of c.in-Some.trees.now) ∷ c.into_iter-other-iterator.result =
    c.in-Some.ensures.steps ∙ ap (λ es. (c.in-Some.name.now, trees_of c.in-Some.trees.now) ∷ es) (sym it) in
    record {
      same = children_begun c.args.tree.now c.children-children.result others c.in-Some.name.now (trees_of c.in-Some.trees.now) c.args.writer.now c.push.new.self c.push_named.new.writer
          c.children-children.ensures.all split c.in_ok-push-in-Some.ensures c.in_ok-push_named-in-Some.ensures;
      lower = lower_rest c.args.tree.now c.children-children.result others (c.in-Some.name.now, trees_of c.in-Some.trees.now) c.children-children.ensures.all split;
    }

pub push_children-push_named-requires : goal.push_children-push_named-requires
push_children-push_named-requires t c =
    let low = lower_first c.args.tree.now c.children-children.result c.next.new.self c.in-Some.name.now (trees_of c.in-Some.trees.now) c.children-children.ensures.all c.in-Some.ensures.steps in
    (omega (arith, low), tt)

pub push_children-loop-other-preserved : goal.push_children-loop-other-preserved
push_children-loop-other-preserved t c = record {
  same = children_turn c.loop-other.other-iterator c.next-in-loop-other.new.self c.in-Some-2.other.now (trees_of c.in-Some-2.members.now) c.loop-other.writer c.push-in-loop-other.new.self
      c.push_named-in-loop-other.new.writer _ c.in-Some-2.ensures.steps c.in_ok-push-in-Some-2.ensures c.in_ok-push_named-in-Some-2.ensures c.loop-other.invariant.same;
  lower = lower_step c.loop-other.other-iterator c.next-in-loop-other.new.self (c.in-Some-2.other.now, trees_of c.in-Some-2.members.now) _ c.in-Some-2.ensures.steps c.loop-other.invariant.lower;
}

pub push_named-returns : goal.push_named-returns
push_named-returns t c =
    named_written c.push-2.result c.args.name.now (trees_text (trees_of c.args.trees.now)) c.args.writer.now c.push_string.new.self c.push.new.self c.push_trees.new.writer c.push-2.new.self
    (c.in_ok-push_string.ensures ∙ ap (λ n. c.args.writer.now ++ text_string n) c.as_str.ensures) c.in_ok-push.ensures c.in_ok-push_trees.ensures c.push-2.ensures

pub push_trees-push_tree-requires-in-loop-tree : goal.push_trees-push_tree-requires-in-loop-tree
push_trees-push_tree-requires-in-loop-tree t c =
    let ts = c.args.trees.now in
    let low = levels-member (take (length ts - 1) (drop 1 ts)) c.loop-tree.tree-index c.tree-item.result c.loop-tree-test.true c.tree-item.is in
    let split = levels_split ts c.first-item.result c.in-len1-up.len_at_least c.first-item.is in
    (omega (arith, low, split.1), tt)
