-- What was set at a path stands at the path.
use Rattle.std.proofs.Common.{◌≡◌, ℕ, zero, suc, List, [], ◌∷◌, Some, Ordering, Less, Equal, Greater, nat_cmp, refl, ap, ◌∙◌}
use Rattle.std.specs.Cmp.Lexicographic.{slice_cmp, texts_ties, nat_list_eq_equiv}
use Rattle.std.specs.Option.{unwrap_or, option_and_then}
use Rattle.std.specs.Ordering.{match_ordering, is_eq}
use Rattle.std.specs.Prelude.{bytes_eq}
use Rattle.jolie_trees.specs.Data.{Tree, node, Fields, no_fields, field, Trees, no_trees, tree}
use Rattle.jolie_trees.specs.Trees.{void_tree, nth, under, index_of, get, set, change_nth, change_under}
use Rattle.jolie_trees.specs.Laws.{KeepsWhatIsSet}

-- the vector that a change leaves under its name is one that it made
abbrev pub IsMade : List ℕ → (Trees → Trees) → Fields → Type 0
IsMade name g fs = (ts : Trees) × (under name fs ≡ g ts)

under-step : (o : Ordering) (name other : List ℕ) (g : Trees → Trees) (ts : Trees) (fs changed : Fields) → bytes_eq name other ≡ is_eq o
    → IsMade name g changed
    → IsMade name g (match_ordering o (field name (g no_trees) (field other ts fs)) (field other (g ts) fs) (field other ts changed))
under-step Less name other g ts fs changed h more = (no_trees, rw (nat_list_eq_equiv.refl name) refl)
under-step Equal name other g ts fs changed h more = (ts, rw h refl)
under-step Greater name other g ts fs changed h more = (more.0, rw h more.1)

pub under-change_under : (name : List ℕ) (g : Trees → Trees) (fs : Fields) → IsMade name g (change_under name g fs)
under-change_under name g no_fields = (no_trees, rw (nat_list_eq_equiv.refl name) refl)
under-change_under name g (field other ts fs) =
    under-step (slice_cmp nat_cmp name other) name other g ts fs (change_under name g fs) (texts_ties name other) (under-change_under name g fs)

pub nth-change_nth : (n : ℕ) (f : Tree → Tree) (ts : Trees) → nth n (change_nth n f ts) ≡ Some (f (unwrap_or (nth n ts) void_tree))
nth-change_nth zero f no_trees = refl
nth-change_nth zero f (tree t ts) = refl
nth-change_nth (suc n) f no_trees = nth-change_nth n f no_trees
nth-change_nth (suc n) f (tree t ts) = nth-change_nth n f ts

pub get-set : KeepsWhatIsSet
get-set [] value t = refl
get-set (s ∷ p) value (node r fs) =
    let n = index_of s in
    let f = set p value in
    let made = under-change_under s.name (change_nth n f) fs in
    ap (λ ts. option_and_then (get p) (nth n ts)) made.1
    ∙ ap (λ o. option_and_then (get p) o) (nth-change_nth n f made.0)
    ∙ get-set p value (unwrap_or (nth n made.0) void_tree)
