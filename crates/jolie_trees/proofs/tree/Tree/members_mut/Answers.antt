use Rattle.std.proofs.Common.{inr, sym, ap, subst, ◌∙◌, nat_cmp}
use Rattle.std.specs.Cmp.Lexicographic.{slice_cmp}
use Rattle.std.specs.List.Sorted.{IsStrictlySortedBy}
use Rattle.jolie_trees.specs.Data.{node}
use Rattle.jolie_trees.specs.Trees.{under, names_of, children_of}
use Rattle.jolie_trees.specs.TreeView.{fields_of}
use Rattle.jolie_trees.specs.Lending.{with_members}
use Rattle.jolie_trees.proofs.Entries.{keys_of-names, under-found, under-missing}
use Rattle.jolie_trees.proofs.Lent.{replaced_under-set, same_lent}
use Rattle.jolie_trees.proofs.tree.Tree.members_mut.Goals as goal

pub returns-in-Some : goal.returns-in-Some
returns-in-Some c =
    let name = c.args.name.now in
    let es = c.self.inside.children.entries in (
      same_lent
          (λ ts. ap (node c.self.inside.root) (ap fields_of (c.get_mut.follows.holds ts).0 ∙ replaced_under-set name es ts) ∙ ap (with_members name ts) c.self.view_is),
      record {
        writes_back = tt;
        value = sym (under-found name es c.in-Some.members.now (sym c.in-Some.ensures.value)) ∙ ap (λ t. under name (children_of t)) c.self.view_is;
        ordered = subst (λ ks. IsStrictlySortedBy (slice_cmp nat_cmp) ks) (keys_of-names es ∙ ap (λ t. names_of (children_of t)) c.self.view_is) c.get_mut.ensures.ordered;
      },
    )

pub returns-in-None : goal.returns-in-None
returns-in-None c =
    let name = c.args.name.now in
    let es = c.self.inside.children.entries in (
      ap inr (ap (λ m. node c.self.inside.root (fields_of m.entries)) c.get_mut.follows.holds-at-none ∙ c.self.view_is),
      record {
        writes_back = tt;
        value = sym (under-missing name es (sym c.in-None.ensures.value)) ∙ ap (λ t. under name (children_of t)) c.self.view_is;
        ordered = subst (λ ks. IsStrictlySortedBy (slice_cmp nat_cmp) ks) (keys_of-names es ∙ ap (λ t. names_of (children_of t)) c.self.view_is) c.get_mut.ensures.ordered;
      },
    )
