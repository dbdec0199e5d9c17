use Rattle.std.proofs.Common.{◌∙◌, ap, sym}
use Rattle.jolie_trees.specs.Limits.{in_u32}
use Rattle.jolie_trees.specs.Trees.{count_at}
use Rattle.jolie_trees.specs.Changes.{count_in}
use Rattle.jolie_trees.specs.TreeView.{fields_of}
use Rattle.jolie_trees.proofs.Entries.{under-found, under-missing, count_at-in, count_in-none}
use Rattle.jolie_trees.proofs.tree.Tree.count_under.Goals as goal

pub returns-in-Some : goal.returns-in-Some
returns-in-Some c =
    let s = c.args.last.now in
    let es = c.self.inside.children.entries in
    c.count.ensures
    ∙ ap (λ ts. in_u32 (count_in s.index ts)) (sym (under-found s.name es c.in-Some.members.now (sym c.in-Some.ensures.value)))
    ∙ ap in_u32 (sym (count_at-in s.name s.index c.self.inside.root (fields_of es)))
    ∙ ap (λ t. in_u32 (count_at s.name s.index t)) c.self.view_is

pub returns-in-None : goal.returns-in-None
returns-in-None c =
    let s = c.args.last.now in
    let es = c.self.inside.children.entries in
    ap in_u32 (sym (count_in-none s.index))
    ∙ ap (λ ts. in_u32 (count_in s.index ts)) (sym (under-missing s.name es (sym c.in-None.ensures.value)))
    ∙ ap in_u32 (sym (count_at-in s.name s.index c.self.inside.root (fields_of es)))
    ∙ ap (λ t. in_u32 (count_at s.name s.index t)) c.self.view_is
