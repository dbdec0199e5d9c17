-- Where a path of names leads: the first node of each name.
use Rattle.std.proofs.Common.{◌≡◌, ℕ, suc, ◌+◌, ◌<◌, List, [], ◌∷◌, length, drop, get_or, drop-cons, refl, sym, ap, ◌∙◌, arith, Option, None}
use Rattle.std.specs.Prelude.{slice_get}
use Rattle.jolie_trees.specs.Data.{Tree, node}
use Rattle.jolie_trees.specs.Trees.{children_of, under, nth, child}
use Rattle.jolie_trees.specs.TreeView.{trees_of}
use Rattle.behaviour_tree.specs.Values.{stepped}

first_of : (ts : List Tree) → slice_get ts 0 ≡ nth 0 (trees_of ts)
first_of [] = refl
first_of (t ∷ ts) = refl

-- the first node of a name is where a step without an index leads
pub first_is : (name : List ℕ) (t : Tree) (ts : List Tree) (o : Option Tree) → trees_of ts ≡ under name (children_of t)
    → o ≡ slice_get ts 0 → o ≡ child (stepped name None) t
first_is name (node r fs) ts o h first = first ∙ first_of ts ∙ ap (nth 0) h

-- what is left of a list begins with the element at hand
pub next_of : {A : Type 0} (xs : List A) (i : ℕ) (x : A) → i < length xs → x ≡ get_or xs i x
    → drop i xs ≡ x ∷ drop (i + 1) xs
next_of xs i x within is = drop-cons xs i x within ∙ (λ j. sym is j ∷ drop (after i j) xs)
  where
    after : (i : ℕ) → suc i ≡ i + 1
    after i = omega arith
