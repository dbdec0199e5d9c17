use Rattle.std.proofs.Common.{[], ◌∷◌, ◌++◌, ◌∙◌, ap, sym, Some}
use Rattle.std.proofs.lemmas.Result.{on_ok_weaker, on_err_weaker}
use Rattle.std.proofs.lemmas.Map.Steps.{set_value_same}
use Rattle.jolie_trees.specs.Data.{node}
use Rattle.jolie_trees.specs.Trees.{push, with_last}
use Rattle.jolie_trees.specs.Changes.{with_vector}
use Rattle.jolie_trees.specs.TreeView.{trees_of, fields_of}
use Rattle.jolie_trees.proofs.Entries.{is_name}
use Rattle.jolie_trees.proofs.Names.{change_under-set, change_under-new}
use Rattle.jolie_trees.proofs.tree.Tree.push.Goals as goal

pub returns-in-Some-clause-ok : goal.returns-in-Some-clause-ok
returns-in-Some-clause-ok c =
    let name = c.args.name.now in
    let g = with_last c.args.child in
    let es = c.self.inside.children.entries in
    let w = c.push.new.self in
    on_ok_weaker c.push.result
    (λ pushed. ap (node c.self.inside.root)
    (ap fields_of (c.get_mut.follows.holds w).0
    ∙ change_under-set name g es c.in-Some.members.now w c.get_mut.ensures.ordered (sym c.in-Some.ensures.value) pushed)
    ∙ ap (push name c.args.child) c.self.view_is)
    c.push.ensures.ok

pub returns-in-Some-clause-err : goal.returns-in-Some-clause-err
returns-in-Some-clause-err c =
    let test = is_name c.args.name.now in
    let es = c.self.inside.children.entries in
    let w = c.push.new.self in
    on_err_weaker c.push.result
    (λ same. ap (λ xs. node c.self.inside.root (fields_of xs))
    ((c.get_mut.follows.holds w).0 ∙ set_value_same test es w (sym c.in-Some.ensures.value ∙ ap Some (sym same)))
    ∙ c.self.view_is)
    c.push.ensures.err

pub returns-in_ok-push-in-None-clause-ok : goal.returns-in_ok-push-in-None-clause-ok
returns-in_ok-push-in-None-clause-ok c =
    let name = c.args.name.now in
    let g = with_last c.args.child in
    let es = c.self.inside.children.entries in
    let r = c.self.inside.root in
    let items = c.in_ok-push-in-None.ensures.items ∙ ap (λ xs. xs ++ c.args.child ∷ []) c.new-list.ensures.items in
    on_ok_weaker c.add.result
    (λ added. added
    ∙ ap (λ m. with_vector name (trees_of c.push-in-None.new.self.items) (node r (fields_of m.entries))) c.get_mut.follows.holds-at-none
    ∙ ap (λ xs. with_vector name (trees_of xs) (node r (fields_of es))) items
    ∙ ap (node r) (change_under-new name g es (sym c.in-None.ensures.value))
    ∙ ap (push name c.args.child) c.self.view_is)
    c.add.ensures.ok
