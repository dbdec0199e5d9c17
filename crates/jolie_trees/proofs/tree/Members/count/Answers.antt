use Rattle.std.proofs.Common.{◌≡◌, ap, arith, length, ◌∙◌, sym, cond, ltb}
use Rattle.std.proofs.lemmas.Bool.Decides.{nat_tests}
use Rattle.std.specs.Option.{option_len}
use Rattle.jolie_trees.specs.Limits.{in_u32}
use Rattle.jolie_trees.specs.Trees.{count_of, nth}
use Rattle.jolie_trees.specs.Changes.{count_in}
use Rattle.jolie_trees.proofs.Vectors.{count_of-length, option_len-nth, bool_byte-cond}
use Rattle.jolie_trees.proofs.tree.Members.count.Goals as goal

pub returns-in-None : goal.returns-in-None
returns-in-None c =
    let xs = c.self.inside.list.items in
    let all : count_of c.args.self.now ≡ length xs = ap count_of (sym c.self.view_is) ∙ count_of-length xs in
    let same : c.min.result ≡ in_u32 (count_of c.args.self.now) = omega (arith, all) in
    same ∙ ap (λ o. in_u32 (count_in o c.args.self.now)) (sym c.in-None.is)

pub returns-in-Some : goal.returns-in-Some
returns-in-Some c =
    let xs = c.self.inside.list.items in
    let n = c.in-Some.index in
    let one : option_len (nth n c.args.self.now) ≡ cond (ltb n (length xs)) 1 0 = ap (λ ts. option_len (nth n ts)) (sym c.self.view_is) ∙ option_len-nth n xs in
    let len : c.len-in-Some.result ≡ length xs = omega arith in
    let from : c.from.result ≡ cond (ltb n (length xs)) 1 0 =
    c.from.ensures ∙ bool_byte-cond (ltb n c.len-in-Some.result) ∙ ap (λ m. cond (ltb n m) 1 0) len in
    let same : c.from.result ≡ in_u32 (option_len (nth n c.args.self.now)) = grind (arith, nat_tests, one, from) in
    same ∙ ap (λ o. in_u32 (count_in o c.args.self.now)) (sym c.in-Some.is)
