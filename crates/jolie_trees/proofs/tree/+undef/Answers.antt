use Rattle.std.proofs.Common.{◌≡◌, ◌∷◌, ◌-◌, take, drop, length, ap, sym, ◌∙◌, arith, refl}
use Rattle.std.specs.Map.{remove_entry}
use Rattle.std.proofs.lemmas.Bool.{false≢true}
use Rattle.std.proofs.lemmas.Bool.Decides.{nat_tests}
use Rattle.jolie_trees.specs.Data.{node}
use Rattle.jolie_trees.specs.Trees.{undef, index_of, change_nth_if_there}
use Rattle.jolie_trees.specs.Changes.{undef_below}
use Rattle.jolie_trees.specs.TreeView.{trees_of, fields_of}
use Rattle.jolie_trees.proofs.Entries.{steps-split, is_name}
use Rattle.jolie_trees.proofs.Names.{change_if_there-missing, change_if_there-filled, change_if_there-emptied, remove_entry-set}
use Rattle.jolie_trees.proofs.Vectors.{IsFilled-unless, change_nth_if_there-set, change_nth_if_there-beyond, undef_below-more, undef-first}
use Rattle.jolie_trees.proofs.tree.+undef.Goals as goal

pub Members::undef_below-returns-in-Some : goal.Members::undef_below-returns-in-Some
Members::undef_below-returns-in-Some t c =
    let s = c.args.step.now in
    let f = undef c.args.rest.now in
    let xs = c.self.inside.list.items in
    change_nth_if_there-set c.place.result xs f c.undef_along.new.self c.in-Some.node.now (grind (arith, c.in-Some.ensures.item.0))
    (c.undef_along.ensures ∙ ap f c.in-Some.ensures.value)
    ∙ ap (λ n. change_nth_if_there n f (trees_of xs)) c.place.ensures
    ∙ ap (change_nth_if_there (index_of s) f) c.self.view_is
    ∙ sym (undef_below-more s c.args.rest.now c.args.self.now c.in_default.len_at_least)

pub Members::undef_below-returns-in-None : goal.Members::undef_below-returns-in-None
Members::undef_below-returns-in-None t c =
    let s = c.args.step.now in
    let f = undef c.args.rest.now in
    let xs = c.self.inside.list.items in
    sym (change_nth_if_there-beyond c.place.result xs f (let it = c.in-None.ensures.item in grind (arith, nat_tests, it.0)))
    ∙ ap (λ n. change_nth_if_there n f (trees_of xs)) c.place.ensures
    ∙ ap (change_nth_if_there (index_of s) f) c.self.view_is
    ∙ sym (undef_below-more s c.args.rest.now c.args.self.now c.in_default.len_at_least)

pub Tree::undef_along-returns-in_default-get_mut : goal.Tree::undef_along-returns-in_default-get_mut
Tree::undef_along-returns-in_default-get_mut t c =
    let s = c.step-item.result in
    let rest = take (length c.args.steps.now - 1) (drop 1 c.args.steps.now) in
    let steps : s ∷ rest ≡ c.args.steps.now = steps-split c.args.steps.now s c.in-len1-up.len_at_least c.step-item.is in
    let es = c.self.inside.children.entries in
    let r = c.self.inside.root in
    ap (λ m. node r (fields_of m.entries)) c.get_mut.follows.holds-at-none
    ∙ ap (node r) (sym (change_if_there-missing s.name (undef_below s rest) es (sym c.in_default-get_mut.ensures.value)))
    ∙ sym (undef-first s rest r (fields_of es))
    ∙ ap (undef (s ∷ rest)) c.self.view_is
    ∙ ap (λ p. undef p c.args.self.now) steps

pub Tree::undef_along-returns-then-is_empty : goal.Tree::undef_along-returns-then-is_empty
Tree::undef_along-returns-then-is_empty t c =
    let s = c.step-item.result in
    let rest = take (length c.args.steps.now - 1) (drop 1 c.args.steps.now) in
    let steps : s ∷ rest ≡ c.args.steps.now = steps-split c.args.steps.now s c.in-len1-up.len_at_least c.step-item.is in
    let es = c.self.inside.children.entries in
    let r = c.self.inside.root in
    let w = c.undef_below.new.self in
    let test = is_name s.name in
    ap (λ xs. node r (fields_of xs)) (c.remove.ensures.entries ∙ ap (remove_entry test) (c.get_mut.follows.holds w).0 ∙ remove_entry-set test es w)
    ∙ ap (node r) (change_if_there-emptied s.name (undef_below s rest) es c.in-Some.members.now (sym c.in-Some.ensures.value) (sym c.undef_below.ensures ∙ c.if-is_empty.ensures.0 refl))
    ∙ sym (undef-first s rest r (fields_of es))
    ∙ ap (undef (s ∷ rest)) c.self.view_is
    ∙ ap (λ p. undef p c.args.self.now) steps

pub Tree::undef_along-returns-else-is_empty : goal.Tree::undef_along-returns-else-is_empty
Tree::undef_along-returns-else-is_empty t c =
    let s = c.step-item.result in
    let rest = take (length c.args.steps.now - 1) (drop 1 c.args.steps.now) in
    let steps : s ∷ rest ≡ c.args.steps.now = steps-split c.args.steps.now s c.in-len1-up.len_at_least c.step-item.is in
    let es = c.self.inside.children.entries in
    let r = c.self.inside.root in
    let w = c.undef_below.new.self in
    ap (node r) (ap fields_of (c.get_mut.follows.holds w).0
    ∙ change_if_there-filled s.name (undef_below s rest) es c.in-Some.members.now w (sym c.in-Some.ensures.value) c.undef_below.ensures (IsFilled-unless w (λ e. false≢true (c.if-is_empty.ensures.1 e))))
    ∙ sym (undef-first s rest r (fields_of es))
    ∙ ap (undef (s ∷ rest)) c.self.view_is
    ∙ ap (λ p. undef p c.args.self.now) steps
