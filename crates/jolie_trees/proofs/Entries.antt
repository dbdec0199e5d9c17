-- What a map's entries say of the children that they stand for.
use Rattle.std.proofs.Common.{◌≡◌, ℕ, zero, suc, List, [], ◌∷◌, ◌++◌, Option, None, Some, Bool, true, false, Less, Greater, nat_cmp, refl, ap, ◌∙◌, slice_get, get_or, take, drop, length, ◌-◌, ◌≤◌, arith}
use Rattle.std.proofs.lemmas.Cmp.{nat_list_cmp_total}
use Rattle.std.specs.Option.{unwrap_or}
use Rattle.std.specs.Cmp.Lexicographic.{slice_cmp, texts_ties}
use Rattle.std.specs.List.{AllByRecursion}
use Rattle.std.specs.List.Sorted.{IsStrictlySortedBy}
use Rattle.std.specs.Map.{keys_of, lookup}
use Rattle.std.specs.Ordering.{ordering_reverse}
use Rattle.std.specs.BTreeMap.{insert_entry, is_at}
use Rattle.std.specs.Prelude.{cond, bytes_eq, if◌then◌else◌}
use Rattle.jolie_trees.specs.declared.root.Root.{Root}
use Rattle.jolie_trees.specs.declared.path.Step.{Step}
use Rattle.jolie_trees.specs.Data.{Tree, node, Fields, Trees, no_trees}
use Rattle.jolie_trees.specs.Trees.{under, nth, child, index_of, count_at, names_of}
use Rattle.jolie_trees.specs.Changes.{count_in}
use Rattle.jolie_trees.specs.TreeView.{trees_of, fields_of}

abbrev pub Entry : Type 0
Entry = List ℕ × Trees

-- the test by which a map looks a name up
abbrev pub is_name : List ℕ → List ℕ → Bool
is_name name = is_at (slice_cmp nat_cmp name)

under-step : (b : Bool) (ts us : Trees) (o : Option Trees) → us ≡ unwrap_or o no_trees
    → (if b then ts else us) ≡ unwrap_or (cond b (Some ts) o) no_trees
under-step true ts us o h = refl
under-step false ts us o h = h

-- a name that is not there has no nodes
pub under-lookup : (name : List ℕ) (es : List Entry) → under name (fields_of es) ≡ unwrap_or (lookup (is_name name) es) no_trees
under-lookup name [] = refl
under-lookup name (e ∷ es) = rw (← texts_ties name e.0) (under-step (bytes_eq name e.0) e.1 _ _ (under-lookup name es))

pub under-found : (name : List ℕ) (es : List Entry) (ts : Trees) → lookup (is_name name) es ≡ Some ts → under name (fields_of es) ≡ ts
under-found name es ts h = rw (under-lookup name es, h) refl

pub under-missing : (name : List ℕ) (es : List Entry) → lookup (is_name name) es ≡ None → under name (fields_of es) ≡ no_trees
under-missing name es h = rw (under-lookup name es, h) refl

pub nth-get : (i : ℕ) (ts : List Tree) → nth i (trees_of ts) ≡ slice_get ts i
nth-get i [] = refl
nth-get zero (t ∷ ts) = refl
nth-get (suc i) (t ∷ ts) = nth-get i ts

pub child-found : (s : Step) (r : Root) (es : List Entry) (ts : Trees) → lookup (is_name s.name) es ≡ Some ts → child s (node r (fields_of es)) ≡ nth (index_of s) ts
child-found s r es ts h = rw (under-lookup s.name es, h) refl

pub child-missing : (s : Step) (r : Root) (es : List Entry) → lookup (is_name s.name) es ≡ None → child s (node r (fields_of es)) ≡ None
child-missing s r es h = rw (under-lookup s.name es, h) refl

below_middle : (first : Entry) (es : List Entry) (e : Entry) (more : List Entry) → AllByRecursion (λ y. slice_cmp nat_cmp first.0 y ≡ Less) (keys_of (es ++ e ∷ more)) → slice_cmp nat_cmp first.0 e.0 ≡ Less
below_middle first [] e more h = h.0
below_middle first (x ∷ es) e more h = below_middle first es e more h.1

-- an entry whose name is above those before it goes last
pub insert_entry-last : (done : List Entry) (e : Entry) (more : List Entry) → IsStrictlySortedBy (slice_cmp nat_cmp) (keys_of (done ++ e ∷ more))
    → insert_entry (slice_cmp nat_cmp) done e.0 e.1 ≡ done ++ e ∷ []
unfolding IsStrictlySortedBy
insert_entry-last [] e more h = refl
insert_entry-last (first ∷ done) e more h =
    let above : slice_cmp nat_cmp e.0 first.0 ≡ Greater =
    nat_list_cmp_total.antisymm e.0 first.0 ∙ ap ordering_reverse (below_middle first done e more h.0) in
    rw above (ap (λ es. first ∷ es) (insert_entry-last done e more h.1))

take_all : {A : Type 0} (xs : List A) → take (length xs) xs ≡ xs
take_all [] = refl
take_all (x ∷ xs) = ap (λ ys. x ∷ ys) (take_all xs)

-- the steps that a pattern took apart
pub steps-split : (p : List Step) (s : Step) → 1 ≤ length p → s ≡ get_or p 0 s → s ∷ take (length p - 1) (drop 1 p) ≡ p
steps-split [] s h e = absurd (omega (arith, h))
steps-split (s' ∷ p) s h e = let n : length (s' ∷ p) - 1 ≡ length p = omega arith in rw n (ap (λ q. q ∷ take (length p) p) e ∙ ap (λ q. s' ∷ q) (take_all p))

-- the names of a map's entries are those of the children
pub keys_of-names : (es : List Entry) → keys_of es ≡ names_of (fields_of es)
keys_of-names [] = refl
keys_of-names (e ∷ es) = ap (λ ks. e.0 ∷ ks) (keys_of-names es)

-- how many nodes a last step names, in the vector of its name
pub count_at-in : (name : List ℕ) (index : Option ℕ) (r : Root) (fs : Fields) → count_at name index (node r fs) ≡ count_in index (under name fs)
count_at-in name None r fs = refl
count_at-in name (Some n) r fs = refl

pub count_in-none : (index : Option ℕ) → count_in index no_trees ≡ 0
count_in-none None = refl
count_in-none (Some n) = refl
