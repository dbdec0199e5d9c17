use Rattle.std.proofs.Common.{◌≡◌, Some, None, ◌∷◌, ◌-◌, take, drop, length, ap, sym, ◌∙◌, arith}
use Rattle.std.specs.Prelude.{option_map, unwrap_or}
use Rattle.jolie_trees.specs.Trees.{child}
use Rattle.jolie_trees.specs.Limits.{in_u64}
use Rattle.jolie_trees.specs.Counts.{taken}
use Rattle.jolie_trees.proofs.Entries.{steps-split}
use Rattle.jolie_trees.proofs.Taken.{taken-more}
use Rattle.jolie_trees.proofs.Counted.{child-member}
use Rattle.jolie_trees.proofs.tree.Tree.+taken_along.Goals as goal

pub returns-in-Some : goal.returns-in-Some
returns-in-Some t c =
    let s = c.step-item.result in
    let tree = c.args.self.now in
    let rest = take (length c.args.steps.now - 1) (drop 1 c.args.steps.now) in
    let steps : s ∷ rest ≡ c.args.steps.now =
    steps-split c.args.steps.now s (omega (arith, c.in-len1-up.len_at_least)) c.step-item.is in
    let all = ap length steps in
    let there : Some c.in-Some.node.now ≡ child s tree =
    child-member s tree _ _ _ c.members-in-len1-up.ensures c.place.ensures c.in-Some.ensures in
    c.taken_along.ensures
    ∙ ap (λ o. in_u64 (unwrap_or (option_map (taken rest) o) 0)) there
    ∙ ap in_u64 (sym (taken-more s rest tree (omega (arith, all, c.in-len1-up.len_at_least))))
    ∙ ap (λ p. in_u64 (taken p tree)) steps

pub returns-in-None : goal.returns-in-None
returns-in-None t c =
    let s = c.step-item.result in
    let tree = c.args.self.now in
    let rest = take (length c.args.steps.now - 1) (drop 1 c.args.steps.now) in
    let steps : s ∷ rest ≡ c.args.steps.now =
    steps-split c.args.steps.now s (omega (arith, c.in-len1-up.len_at_least)) c.step-item.is in
    let all = ap length steps in
    let missing : None ≡ child s tree =
    child-member s tree _ _ _ c.members-in-len1-up.ensures c.place.ensures c.in-None.ensures in
    ap (λ o. in_u64 (unwrap_or (option_map (taken rest) o) 0)) missing
    ∙ ap in_u64 (sym (taken-more s rest tree (omega (arith, all, c.in-len1-up.len_at_least))))
    ∙ ap (λ p. in_u64 (taken p tree)) steps
