use Rattle.std.proofs.Common.{◌≡◌, ◌∷◌, ◌-◌, Some, take, drop, length, ap, sym, ◌∙◌, arith}
use Rattle.std.proofs.lemmas.Map.Steps.{set_value_same}
use Rattle.std.proofs.lemmas.Result.{on_ok_weaker, on_err_weaker}
use Rattle.jolie_trees.specs.Data.{node}
use Rattle.jolie_trees.specs.Trees.{change, change_nth, index_of}
use Rattle.jolie_trees.specs.Changes.{applied, with_vector}
use Rattle.jolie_trees.specs.TreeView.{trees_of, fields_of}
use Rattle.jolie_trees.proofs.Entries.{is_name, steps-split}
use Rattle.jolie_trees.proofs.Names.{change_under-set, change_under-new}
use Rattle.jolie_trees.proofs.Vectors.{change_nth-set, change_nth-again}
use Rattle.jolie_trees.proofs.tree.+change.Goals as goal

pub change::change_padded-returns-clause-ok : goal.change::change_padded-returns-clause-ok
change::change_padded-returns-clause-ok t c =
    let n = c.args.place in
    let f = change c.args.steps.now (applied c.args.change) in
    on_ok_weaker c.change-2.result
    (λ changed. change_nth-set n c.pad.new.nodes.items f c.change-2.new.self c.index_mut.result.now (omega (arith, c.in_ok-pad.ensures.there))
    (changed ∙ ap f c.index_mut.ensures.value)
    ∙ ap (change_nth n f) c.in_ok-pad.ensures.padded
    ∙ change_nth-again n f (trees_of c.args.nodes.now.items))
    c.change-2.ensures.ok

pub Members::change-returns-else-is_err-clause-ok : goal.Members::change-returns-else-is_err-clause-ok
Members::change-returns-else-is_err-clause-ok t c =
    let n = c.args.place in
    let f = change c.args.steps.now (applied c.args.change) in
    on_ok_weaker c.change_padded-changed.result (λ changed. changed ∙ ap (change_nth n f) c.self.view_is) c.change_padded-changed.ensures.ok

pub Members::change-returns-then-is_err-clause-err : goal.Members::change-returns-then-is_err-clause-err
Members::change-returns-then-is_err-clause-err t c =
    let left = c.change_padded-changed.new.nodes.items in
    on_err_weaker c.change_padded-changed.result
    (λ kept. ap trees_of (c.truncate.ensures.items ∙ ap (λ n. take n left) c.len-count.ensures ∙ kept) ∙ c.self.view_is)
    c.change_padded-changed.ensures.err

pub Tree::change-returns-in-Some-clause-ok : goal.Tree::change-returns-in-Some-clause-ok
Tree::change-returns-in-Some-clause-ok t c =
    let s = c.step-item.result in
    let rest = take (length c.args.steps.now - 1) (drop 1 c.args.steps.now) in
    let h = applied c.args.change in
    let g = change_nth (index_of s) (change rest h) in
    let steps : s ∷ rest ≡ c.args.steps.now = steps-split c.args.steps.now s c.in-len1-up.len_at_least c.step-item.is in
    let es = c.self.inside.children.entries in
    let w = c.change.new.self in
    let old = c.in-Some.members.now in
    on_ok_weaker c.change.result
    (λ changed. ap (node c.self.inside.root)
    (ap fields_of (c.get_mut.follows.holds w).0
    ∙ change_under-set s.name g es old w c.get_mut.ensures.ordered (sym c.in-Some.ensures.value)
    (changed ∙ ap (λ n. change_nth n (change rest h) old) c.place.ensures))
    ∙ ap (change (s ∷ rest) h) c.self.view_is
    ∙ ap (λ p. change p h c.args.self.now) steps)
    c.change.ensures.ok

pub Tree::change-returns-in-Some-clause-err : goal.Tree::change-returns-in-Some-clause-err
Tree::change-returns-in-Some-clause-err t c =
    let test = is_name c.step-item.result.name in
    let es = c.self.inside.children.entries in
    let w = c.change.new.self in
    on_err_weaker c.change.result
    (λ same. ap (λ xs. node c.self.inside.root (fields_of xs))
    ((c.get_mut.follows.holds w).0 ∙ set_value_same test es w (sym c.in-Some.ensures.value ∙ ap Some (sym same)))
    ∙ c.self.view_is)
    c.change.ensures.err

pub Tree::change-returns-in_ok-change-in-None-clause-ok : goal.Tree::change-returns-in_ok-change-in-None-clause-ok
Tree::change-returns-in_ok-change-in-None-clause-ok t c =
    let s = c.step-item.result in
    let rest = take (length c.args.steps.now - 1) (drop 1 c.args.steps.now) in
    let h = applied c.args.change in
    let g = change_nth (index_of s) (change rest h) in
    let steps : s ∷ rest ≡ c.args.steps.now = steps-split c.args.steps.now s c.in-len1-up.len_at_least c.step-item.is in
    let es = c.self.inside.children.entries in
    let r = c.self.inside.root in
    let w = c.change-in-None.new.self in
    on_ok_weaker c.add.result
    (λ added. added
    ∙ ap (λ m. with_vector s.name w (node r (fields_of m.entries))) c.get_mut.follows.holds-at-none
    ∙ ap (λ ts. with_vector s.name ts (node r (fields_of es)))
    (c.in_ok-change-in-None.ensures.ok
    ∙ ap (λ n. change_nth n (change rest h) (trees_of c.new.result.items)) c.place-in-None.ensures
    ∙ ap (λ xs. change_nth (index_of s) (change rest h) (trees_of xs)) c.new.ensures.items)
    ∙ ap (node r) (change_under-new s.name g es (sym c.in-None.ensures.value))
    ∙ ap (change (s ∷ rest) h) c.self.view_is
    ∙ ap (λ p. change p h c.args.self.now) steps)
    c.add.ensures.ok
