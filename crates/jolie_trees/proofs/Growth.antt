-- How large a change makes a tree.
use Rattle.std.proofs.Common.{◌≡◌, ◌<◌, ℕ, zero, suc, ◌+◌, max, min, List, [], ◌∷◌, length, take, drop, get_or, Ordering, Less, Equal, Greater, nat_cmp, refl, ap, ◌∙◌, arith}
use Rattle.std.proofs.lemmas.Cmp.{nat_list_cmp_total}
use Rattle.std.specs.Prelude.{if◌then◌else◌}
use Rattle.std.specs.Cmp.Lexicographic.{slice_cmp, texts_ties}
use Rattle.std.specs.List.{AllByRecursion}
use Rattle.std.specs.List.Sorted.{IsStrictlySortedBy}
use Rattle.std.specs.Ordering.{match_ordering, is_eq}
use Rattle.jolie_trees.specs.declared.path.Step.{Step}
use Rattle.jolie_trees.specs.Data.{Tree, node, Fields, no_fields, field, Trees, no_trees}
use Rattle.jolie_trees.specs.Trees.{void_tree, change_nth, change_under, under, index_of, change, size, levels, fields_size, fields_levels, trees_size, trees_levels, children_of, names_of}
use Rattle.jolie_trees.specs.Extents.{extent, extent_of, others}
use Rattle.jolie_trees.specs.TreeView.{trees_of}

-- ---- a vector

-- a vector made for one node
pub trees_size-made : (n : ℕ) (f : Tree → Tree) → trees_size (change_nth n f no_trees) ≡ n + size (f void_tree)
trees_size-made zero f = omega arith
trees_size-made (suc n) f = let more = trees_size-made n f in omega (arith, more)

pub trees_levels-made : (n : ℕ) (f : Tree → Tree) → trees_levels (change_nth n f no_trees) ≡ max (min 1 n) (levels (f void_tree))
trees_levels-made zero f = omega arith
trees_levels-made (suc n) f = let more = trees_levels-made n f in omega (arith, more)

-- a vector that is too short by n nodes and the one to be changed
pub trees_size-longer : (n k : ℕ) (f : Tree → Tree) (xs : List Tree) → n ≡ k + length xs
    → trees_size (change_nth n f (trees_of xs)) ≡ trees_size (trees_of xs) + trees_size (change_nth k f no_trees)
trees_size-longer n k f [] h =
    let same : n ≡ k = omega (arith, h) in
    let e : trees_size (change_nth n f no_trees) ≡ trees_size (change_nth k f no_trees) = ap (λ m. trees_size (change_nth m f no_trees)) same in
    omega (arith, e)
trees_size-longer zero k f (x ∷ xs) h = absurd (omega (arith, h))
trees_size-longer (suc n) k f (x ∷ xs) h = let more = trees_size-longer n k f xs (omega (arith, h)) in omega (arith, more)

pub trees_levels-longer : (n k : ℕ) (f : Tree → Tree) (xs : List Tree) → n ≡ k + length xs
    → trees_levels (change_nth n f (trees_of xs)) ≡ max (trees_levels (trees_of xs)) (trees_levels (change_nth k f no_trees))
trees_levels-longer n k f [] h =
    let same : n ≡ k = omega (arith, h) in
    let e : trees_levels (change_nth n f no_trees) ≡ trees_levels (change_nth k f no_trees) = ap (λ m. trees_levels (change_nth m f no_trees)) same in
    omega (arith, e)
trees_levels-longer zero k f (x ∷ xs) h = absurd (omega (arith, h))
trees_levels-longer (suc n) k f (x ∷ xs) h = let more = trees_levels-longer n k f xs (omega (arith, h)) in omega (arith, more)

-- a vector that has the node to be changed
pub trees_size-within : (n : ℕ) (f : Tree → Tree) (xs : List Tree) (d : Tree) → n < length xs
    → trees_size (change_nth n f (trees_of xs)) ≡ trees_size (trees_of (take n xs)) + size (f (get_or xs n d)) + trees_size (trees_of (drop (suc n) xs))
trees_size-within n f [] d h = absurd (omega (arith, h))
trees_size-within zero f (x ∷ xs) d h = omega arith
trees_size-within (suc n) f (x ∷ xs) d h = let more = trees_size-within n f xs d (omega (arith, h)) in omega (arith, more)

pub trees_levels-within : (n : ℕ) (f : Tree → Tree) (xs : List Tree) (d : Tree) → n < length xs
    → trees_levels (change_nth n f (trees_of xs)) ≡ max (max (trees_levels (trees_of (take n xs))) (levels (f (get_or xs n d)))) (trees_levels (trees_of (drop (suc n) xs)))
trees_levels-within n f [] d h = absurd (omega (arith, h))
trees_levels-within zero f (x ∷ xs) d h = omega arith
trees_levels-within (suc n) f (x ∷ xs) d h = let more = trees_levels-within n f xs d (omega (arith, h)) in omega (arith, more)

-- ---- the children

-- a name is below all names of some children
abbrev pub IsBelow : List ℕ → Fields → Type 0
IsBelow name fs = AllByRecursion (λ y. slice_cmp nat_cmp name y ≡ Less) (names_of fs)

others-below : (name : List ℕ) (fs : Fields) → IsBelow name fs → others name fs ≡ fs
others-below name no_fields h = refl
others-below name (field other ts fs) h = rw (texts_ties name other, h.0) (ap (field other ts) (others-below name fs h.1))

under-below : (name : List ℕ) (fs : Fields) → IsBelow name fs → under name fs ≡ no_trees
under-below name no_fields h = refl
under-below name (field other ts fs) h = rw (texts_ties name other, h.0) (under-below name fs h.1)

below-less : (name first : List ℕ) (fs : Fields) → slice_cmp nat_cmp name first ≡ Less → IsBelow first fs → IsBelow name fs
below-less name first no_fields less h = tt
below-less name first (field other ts fs) less h = (nat_list_cmp_total.trans name first other less h.0, below-less name first fs less h.1)

below-equal : (name first : List ℕ) (fs : Fields) → slice_cmp nat_cmp name first ≡ Equal → IsBelow first fs → IsBelow name fs
below-equal name first no_fields equal h = tt
below-equal name first (field other ts fs) equal h = (nat_list_cmp_total.congr name first other equal ∙ h.0, below-equal name first fs equal h.1)

-- the children are those others and that vector, as far as sizes go
abbrev pub SplitsInto : Fields → Fields → Trees → Type 0
SplitsInto fs gs ts = (fields_size fs ≡ fields_size gs + trees_size ts) × (fields_levels fs ≡ max (fields_levels gs) (trees_levels ts))

split-step : (o : Ordering) (name other : List ℕ) (ts below : Trees) (g : Trees → Trees) (fs changed rest : Fields)
    → (o ≡ Less → (rest ≡ fs) × (below ≡ no_trees)) → (o ≡ Equal → rest ≡ fs) → SplitsInto changed rest (g below)
    → SplitsInto (match_ordering o (field name (g no_trees) (field other ts fs)) (field other (g ts) fs) (field other ts changed))
    (if is_eq o then rest else field other ts rest) (g (if is_eq o then ts else below))
split-step Less name other ts below g fs changed rest less equal more =
    let n : fields_size rest ≡ fields_size fs = ap fields_size (less refl).0 in
    let l : fields_levels rest ≡ fields_levels fs = ap fields_levels (less refl).0 in
    let gn : trees_size (g below) ≡ trees_size (g no_trees) = ap (λ u. trees_size (g u)) (less refl).1 in
    let gl : trees_levels (g below) ≡ trees_levels (g no_trees) = ap (λ u. trees_levels (g u)) (less refl).1 in
    (omega (arith, n, gn), omega (arith, l, gl))
split-step Equal name other ts below g fs changed rest less equal more =
    let n : fields_size rest ≡ fields_size fs = ap fields_size (equal refl) in
    let l : fields_levels rest ≡ fields_levels fs = ap fields_levels (equal refl) in
    (omega (arith, n), omega (arith, l))
split-step Greater name other ts below g fs changed rest less equal more = (omega (arith, more.0), omega (arith, more.1))

-- children in order, changed under one name
pub change_under-splits : (name : List ℕ) (g : Trees → Trees) (fs : Fields) → IsStrictlySortedBy (slice_cmp nat_cmp) (names_of fs)
    → SplitsInto (change_under name g fs) (others name fs) (g (under name fs))
unfolding IsStrictlySortedBy
change_under-splits name g no_fields h = (omega arith, omega arith)
change_under-splits name g (field other ts fs) h =
    rw (texts_ties name other)
    (split-step (slice_cmp nat_cmp name other) name other ts (under name fs) g fs (change_under name g fs) (others name fs)
    (λ less. let b = below-less name other fs less h.0 in (others-below name fs b, under-below name fs b))
    (λ equal. others-below name fs (below-equal name other fs equal h.0))
    (change_under-splits name g fs h.1))

whole-step : (o : Ordering) (other : List ℕ) (ts below : Trees) (fs rest : Fields) → (o ≡ Equal → rest ≡ fs) → SplitsInto fs rest below
    → SplitsInto (field other ts fs) (if is_eq o then rest else field other ts rest) (if is_eq o then ts else below)
whole-step Less other ts below fs rest equal more = (omega (arith, more.0), omega (arith, more.1))
whole-step Equal other ts below fs rest equal more =
    let n : fields_size rest ≡ fields_size fs = ap fields_size (equal refl) in
    let l : fields_levels rest ≡ fields_levels fs = ap fields_levels (equal refl) in
    (omega (arith, n), omega (arith, l))
whole-step Greater other ts below fs rest equal more = (omega (arith, more.0), omega (arith, more.1))

-- children in order are the vector of a name and the others
pub fields-split : (name : List ℕ) (fs : Fields) → IsStrictlySortedBy (slice_cmp nat_cmp) (names_of fs)
    → SplitsInto fs (others name fs) (under name fs)
unfolding IsStrictlySortedBy
fields-split name no_fields h = (omega arith, omega arith)
fields-split name (field other ts fs) h =
    rw (texts_ties name other)
    (whole-step (slice_cmp nat_cmp name other) other ts (under name fs) fs (others name fs)
    (λ equal. others-below name fs (below-equal name other fs equal h.0))
    (fields-split name fs h.1))

-- the vector under the first name of a path, once the node at the path is changed
abbrev pub changed_vector : Step → List Step → (Tree → Tree) → Tree → Trees
changed_vector s p f t = change_nth (index_of s) (change p f) (under s.name (children_of t))

-- a tree whose node at a path is changed
pub extent_of-change : (s : Step) (p : List Step) (f : Tree → Tree) (t : Tree) → IsStrictlySortedBy (slice_cmp nat_cmp) (names_of (children_of t))
    → extent_of (change (s ∷ p) f t)
    ≡ extent (suc (fields_size (others s.name (children_of t)) + trees_size (changed_vector s p f t)))
    (suc (max (fields_levels (others s.name (children_of t))) (trees_levels (changed_vector s p f t))))
extent_of-change s p f (node r fs) h =
    let parts = change_under-splits s.name (change_nth (index_of s) (change p f)) fs h in
    λ i. extent (suc (parts.0 i)) (suc (parts.1 i))
