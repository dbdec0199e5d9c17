use Rattle.std.proofs.Common.{◌≡◌, ◌∷◌, ◌+◌, ◌-◌, take, drop, length, ap, sym, ◌∙◌}
use Rattle.jolie_trees.specs.Trees.{void_tree, change, size}
use Rattle.jolie_trees.specs.Limits.{in_u64}
use Rattle.jolie_trees.proofs.Entries.{steps-split}
use Rattle.jolie_trees.proofs.Counted.{anew-size, anew-sum}
use Rattle.jolie_trees.proofs.tree.counted.+made_anew.Goals as goal

pub returns-in-len1-up : goal.returns-in-len1-up
returns-in-len1-up t c = λ f.
    let s = c.step-item.result in
    let rest = take (length c.args.steps.now - 1) (drop 1 c.args.steps.now) in
    let steps : s ∷ rest ≡ c.args.steps.now = steps-split c.args.steps.now s c.in-len1-up.len_at_least c.step-item.is in
    let grown = anew-size s rest f in
    let more = c.made_anew.ensures f in
    ap (λ p. in_u64 (size (change p f void_tree) + 1)) (sym steps)
    ∙ anew-sum _ _ _ _ _ _ _ _ grown more c.place.ensures c.saturating_add.ensures c.saturating_add-in-len1-up.ensures
