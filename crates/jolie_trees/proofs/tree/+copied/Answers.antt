use Rattle.std.proofs.Common.{◌≡◌, [], ◌∷◌, ◌++◌, sym, ap, ◌∙◌, subst, append_assoc, nat_cmp}
use Rattle.std.specs.Cmp.Lexicographic.{slice_cmp}
use Rattle.std.specs.List.Sorted.{IsStrictlySortedBy}
use Rattle.std.specs.Map.{keys_of}
use Rattle.jolie_trees.proofs.Entries.{Entry, insert_entry-last}
use Rattle.jolie_trees.proofs.tree.+copied.Goals as goal

pub copied::copied_children-loop-key-preserved : goal.copied::copied_children-loop-key-preserved
copied::copied_children-loop-key-preserved t c =
    let done = c.loop-key.copies.entries in
    let e : Entry = (c.in-Some.key.now, c.in-Some.members.now) in
    let left = c.next.new.self in
    let all : c.args.children.now.entries ≡ done ++ e ∷ left = c.loop-key.invariant ∙ ap (λ es. done ++ es) c.in-Some.ensures.steps in
    let last = insert_entry-last done e left (subst (λ es. IsStrictlySortedBy (slice_cmp nat_cmp) (keys_of es)) all c.iter-key-items.ensures.ordered) in
    all ∙ sym (append_assoc done (e ∷ []) left) ∙ ap (λ es. es ++ left) (sym (rw (c.in_ok-insert.ensures.entries, c.in_ok-name.ensures, c.in_ok-copied.ensures) last))
