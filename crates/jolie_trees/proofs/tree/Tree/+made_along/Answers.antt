use Rattle.std.proofs.Common.{◌≡◌, ◌-◌, Some, None, ◌∷◌, take, drop, length, subst}
use Rattle.jolie_trees.specs.Trees.{child}
use Rattle.jolie_trees.proofs.Entries.{steps-split}
use Rattle.jolie_trees.proofs.Counted.{child-member, Makes, Reaches, makes-there, makes-missing, reaches-there, reaches-missing}
use Rattle.jolie_trees.proofs.tree.Tree.+made_along.Goals as goal

pub returns-in-Some-clause-nodes : goal.returns-in-Some-clause-nodes
returns-in-Some-clause-nodes t c = λ f.
    let s = c.step-item.result in
    let tree = c.args.self.now in
    let rest = take (length c.args.steps.now - 1) (drop 1 c.args.steps.now) in
    let steps : s ∷ rest ≡ c.args.steps.now = steps-split c.args.steps.now s c.in-len1-up.len_at_least c.step-item.is in
    let there : Some c.in-Some.node.now ≡ child s tree =
    child-member s tree _ _ _ c.members_in_order-members.ensures.members c.place.ensures c.in-Some.ensures in
    subst (λ p. Makes p f tree c.made_along.result) steps
    (makes-there s rest f tree c.in-Some.node.now c.made_along.result c.members_in_order-members.ensures.ordered there
    (c.made_along.ensures.nodes f))

pub returns-in-Some-clause-levels : goal.returns-in-Some-clause-levels
returns-in-Some-clause-levels t c = λ f k within.
    let s = c.step-item.result in
    let tree = c.args.self.now in
    let rest = take (length c.args.steps.now - 1) (drop 1 c.args.steps.now) in
    let steps : s ∷ rest ≡ c.args.steps.now = steps-split c.args.steps.now s c.in-len1-up.len_at_least c.step-item.is in
    let there : Some c.in-Some.node.now ≡ child s tree =
    child-member s tree _ _ _ c.members_in_order-members.ensures.members c.place.ensures c.in-Some.ensures in
    subst (λ p. Reaches p f tree k) steps
    (reaches-there s rest f tree c.in-Some.node.now k c.members_in_order-members.ensures.ordered there
    (c.made_along.ensures.levels f) within)

pub returns-in-None-clause-nodes : goal.returns-in-None-clause-nodes
returns-in-None-clause-nodes t c = λ f.
    let s = c.step-item.result in
    let tree = c.args.self.now in
    let rest = take (length c.args.steps.now - 1) (drop 1 c.args.steps.now) in
    let steps : s ∷ rest ≡ c.args.steps.now = steps-split c.args.steps.now s c.in-len1-up.len_at_least c.step-item.is in
    let missing : None ≡ child s tree =
    child-member s tree _ _ _ c.members_in_order-members.ensures.members c.place.ensures c.in-None.ensures in
    subst (λ p. Makes p f tree c.saturating_add.result) steps
    (makes-missing s rest f tree c.members_in_order-members.result.now _ _ _ c.members_in_order-members.ensures.ordered missing
    c.members_in_order-members.ensures.members c.place-in-None.ensures (c.made_anew.ensures f) c.saturating_add.ensures)

pub returns-in-None-clause-levels : goal.returns-in-None-clause-levels
returns-in-None-clause-levels t c = λ f k within.
    let s = c.step-item.result in
    let tree = c.args.self.now in
    let rest = take (length c.args.steps.now - 1) (drop 1 c.args.steps.now) in
    let steps : s ∷ rest ≡ c.args.steps.now = steps-split c.args.steps.now s c.in-len1-up.len_at_least c.step-item.is in
    let missing : None ≡ child s tree =
    child-member s tree _ _ _ c.members_in_order-members.ensures.members c.place.ensures c.in-None.ensures in
    subst (λ p. Reaches p f tree k) steps
    (reaches-missing s rest f tree k c.members_in_order-members.ensures.ordered missing within)
