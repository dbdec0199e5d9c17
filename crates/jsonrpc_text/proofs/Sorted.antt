-- Members in the order of their names, put one after the other, are the children of an object.
use Rattle.std.proofs.Common.{◌≡◌, refl, sym, ap, ◌∙◌, ℕ, List, [], ◌∷◌, length, ◌≤◌, arith, Option, None, Some, option_map, option_and_then, Bool, true, false, not, Less, Greater, nat_cmp, bytes_eq, if◌then◌else◌, String, Global, string_bytes, string_cmp}
use Rattle.std.proofs.lemmas.Cmp.{nat_list_cmp_total, tied_itself}
use Rattle.std.specs.Cmp.Lexicographic.{slice_cmp}
use Rattle.std.specs.List.{AllByRecursion}
use Rattle.std.specs.List.Sorted.{IsStrictlySortedBy}
use Rattle.std.specs.Map.{keys_of}
use Rattle.std.specs.Ordering.{ordering_reverse}
use Rattle.serde_json.specs.Data.{Data, null, boolean, number, string, array, object, Items, no_items, item, Members, no_members, member}
use Rattle.serde_json.specs.View.{view, items_view, members_view}
use Rattle.serde_json.specs.declared.value.Value.{Value}
use Rattle.jolie_trees.specs.declared.root.Root.{Root}
use Rattle.jolie_trees.specs.Data.{Tree, node, Fields, no_fields, field, Trees, no_trees, tree}
use Rattle.jolie_trees.specs.Trees.{with_last, change_under, field_if}
use Rattle.jsonrpc_text.specs.FromJson.{root_name, params_tree, of_both, only, tree_in, children_in, vector_in, trees_in}
use Rattle.jsonrpc_text.specs.Putting.{with_tree, with_items, with_member, with_members}

-- the names of members
abbrev pub names_in : Members → List (List ℕ)
names_in no_members = []
names_in (member name d ms) = name ∷ names_in ms

-- children one behind the other
abbrev pub joined : Fields → Fields → Fields
joined no_fields gs = gs
joined (field name ts fs) gs = field name ts (joined fs gs)

-- vectors one behind the other
abbrev pub followed : Trees → Trees → Trees
followed no_trees us = us
followed (tree t ts) us = tree t (followed ts us)

-- a name comes after those of all children
abbrev pub IsAfter : List ℕ → Fields → Type 0
IsAfter name no_fields = Unit {0}
IsAfter name (field other ts fs) = (slice_cmp nat_cmp other name ≡ Less) × IsAfter name fs

-- so do all names of members
abbrev pub AreAfter : Members → Fields → Type 0
AreAfter no_members fs = Unit {0}
AreAfter (member name d ms) fs = IsAfter name fs × AreAfter ms fs

joined-joined : (fs gs hs : Fields) → joined (joined fs gs) hs ≡ joined fs (joined gs hs)
joined-joined no_fields gs hs = refl
joined-joined (field name ts fs) gs hs = ap (field name ts) (joined-joined fs gs hs)

joined-none : (fs : Fields) → joined fs no_fields ≡ fs
joined-none no_fields = refl
joined-none (field name ts fs) = ap (field name ts) (joined-none fs)

followed-last : (ts us : Trees) (t : Tree) → followed (with_last t ts) us ≡ followed ts (tree t us)
followed-last no_trees us t = refl
followed-last (tree u ts) us t = ap (tree u) (followed-last ts us t)

followed-none : (ts : Trees) → followed ts no_trees ≡ ts
followed-none no_trees = refl
followed-none (tree t ts) = ap (tree t) (followed-none ts)

reversed : (name other : List ℕ) → slice_cmp nat_cmp other name ≡ Less → slice_cmp nat_cmp name other ≡ Greater
reversed name other h = nat_list_cmp_total.antisymm name other ∙ ap ordering_reverse h

-- a name after all others goes last
change-last : (name : List ℕ) (g : Trees → Trees) (fs : Fields) → IsAfter name fs → change_under name g fs ≡ joined fs (field name (g no_trees) no_fields)
change-last name g no_fields h = refl
change-last name g (field other ts fs) h = rw (reversed name other h.0) (ap (field other ts) (change-last name g fs h.1))

-- and is found there
change-again : (name : List ℕ) (g : Trees → Trees) (fs : Fields) (ts : Trees) → IsAfter name fs
    → change_under name g (joined fs (field name ts no_fields)) ≡ joined fs (field name (g ts) no_fields)
change-again name g no_fields ts h = rw (tied_itself nat_list_cmp_total name) refl
change-again name g (field other us fs) ts h = rw (reversed name other h.0) (ap (field other us) (change-again name g fs ts h.1))

-- a node with children and a last vector
abbrev pub ending : List ℕ → Root → Fields → Trees → Tree
ending name r fs ts = node r (joined fs (field name ts no_fields))

longer : (name : List ℕ) (r : Root) (fs : Fields) (t : Tree) (ts : Trees) (o : Option Trees)
    → option_map (λ us. ending name r fs (followed (with_last t ts) us)) o ≡ option_map (λ us. ending name r fs (followed ts us)) (option_map (tree t) o)
longer name r fs t ts None = refl
longer name r fs t ts (Some us) = ap (λ x. Some (ending name r fs x)) (followed-last ts us t)

items-step : (name : List ℕ) (r : Root) (fs : Fields) (ds : Items) (ts : Trees) (o : Option Tree) → IsAfter name fs
    → ((us : Trees) → with_items name ds (ending name r fs us) ≡ option_map (λ vs. ending name r fs (followed us vs)) (trees_in ds))
    → option_and_then (with_items name ds) (with_tree name o (ending name r fs ts)) ≡ option_map (λ vs. ending name r fs (followed ts vs)) (of_both tree o (trees_in ds))
items-step name r fs ds ts None h later = refl
items-step name r fs ds ts (Some t) h later =
    ap (λ gs. with_items name ds (node r gs)) (change-again name (with_last t) fs ts h) ∙ later (with_last t ts) ∙ longer name r fs t ts (trees_in ds)

-- the trees of items go behind those that are there
items-behind : (name : List ℕ) (r : Root) (fs : Fields) (ds : Items) (ts : Trees) → IsAfter name fs
    → with_items name ds (ending name r fs ts) ≡ option_map (λ us. ending name r fs (followed ts us)) (trees_in ds)
items-behind name r fs no_items ts h = ap (λ x. Some (ending name r fs x)) (sym (followed-none ts))
items-behind name r fs (item d ds) ts h = items-step name r fs ds ts (tree_in d) h (λ us. items-behind name r fs ds us h)

-- a node with a vector, where that is not empty, behind its children
abbrev pub and_vector : List ℕ → Root → Fields → Trees → Tree
and_vector name r fs ts = node r (joined fs (field_if name ts no_fields))

first-more : (name : List ℕ) (r : Root) (fs : Fields) (t : Tree) (o : Option Trees)
    → option_map (λ us. ending name r fs (followed (tree t no_trees) us)) o ≡ option_map (and_vector name r fs) (option_map (tree t) o)
first-more name r fs t None = refl
first-more name r fs t (Some us) = refl

first-item : (name : List ℕ) (r : Root) (fs : Fields) (ds : Items) (o : Option Tree) → IsAfter name fs
    → option_and_then (with_items name ds) (with_tree name o (node r fs)) ≡ option_map (and_vector name r fs) (of_both tree o (trees_in ds))
first-item name r fs ds None h = refl
first-item name r fs ds (Some t) h =
    ap (λ gs. with_items name ds (node r gs)) (change-last name (with_last t) fs h) ∙ items-behind name r fs ds (tree t no_trees) h ∙ first-more name r fs t (trees_in ds)

-- the trees of items are a vector of their own
items-put : (name : List ℕ) (r : Root) (fs : Fields) (ds : Items) → IsAfter name fs
    → with_items name ds (node r fs) ≡ option_map (and_vector name r fs) (trees_in ds)
items-put name r fs no_items h = ap (λ gs. Some (node r gs)) (sym (joined-none fs))
items-put name r fs (item d ds) h = first-item name r fs ds (tree_in d) h

tree-put : (name : List ℕ) (r : Root) (fs : Fields) (o : Option Tree) → IsAfter name fs
    → with_tree name o (node r fs) ≡ option_map (and_vector name r fs) (only o)
tree-put name r fs None h = refl
tree-put name r fs (Some t) h = ap (λ gs. Some (node r gs)) (change-last name (with_last t) fs h)

-- the trees of a member are a vector of their own
member-put : (name : List ℕ) (r : Root) (fs : Fields) (d : Data) → IsAfter name fs
    → with_member name d (node r fs) ≡ option_map (and_vector name r fs) (vector_in d)
member-put name r fs null h = tree-put name r fs (tree_in null) h
member-put name r fs (boolean b) h = tree-put name r fs (tree_in (boolean b)) h
member-put name r fs (number n) h = tree-put name r fs (tree_in (number n)) h
member-put name r fs (string s) h = tree-put name r fs (tree_in (string s)) h
member-put name r fs (array ds) h = items-put name r fs ds h
member-put name r fs (object ms) h = tree-put name r fs (tree_in (object ms)) h

choice : (b : Bool) (x y : Option Tree) (p q : Option Fields) (f : Fields → Tree) → x ≡ option_map f p → y ≡ option_map f q
    → (if b then x else y) ≡ option_map f (if b then p else q)
choice true x y p q f one other = one
choice false x y p q f one other = other

same-fields : (r : Root) (fs : Fields) (name : List ℕ) (o : Option Fields)
    → option_map (λ gs. node r (joined fs gs)) o ≡ option_map (λ gs. node r (joined fs gs)) (option_map (field_if name no_trees) o)
same-fields r fs name None = refl
same-fields r fs name (Some gs) = refl

more-fields : (r : Root) (fs : Fields) (name : List ℕ) (t : Tree) (ts : Trees) (o : Option Fields)
    → option_map (λ gs. node r (joined (joined fs (field name (tree t ts) no_fields)) gs)) o
    ≡ option_map (λ gs. node r (joined fs gs)) (option_map (field_if name (tree t ts)) o)
more-fields r fs name t ts None = refl
more-fields r fs name t ts (Some gs) = ap (λ hs. Some (node r hs)) (joined-joined fs (field name (tree t ts) no_fields) gs)

members-step : (name : List ℕ) (r : Root) (fs : Fields) (ms : Members) (o : Option Trees)
    → with_members ms (node r fs) ≡ option_map (λ gs. node r (joined fs gs)) (children_in ms)
    → ((ts : Trees) → with_members ms (ending name r fs ts) ≡ option_map (λ gs. node r (joined (joined fs (field name ts no_fields)) gs)) (children_in ms))
    → option_and_then (with_members ms) (option_map (and_vector name r fs) o) ≡ option_map (λ gs. node r (joined fs gs)) (of_both (field_if name) o (children_in ms))
members-step name r fs ms None here later = refl
members-step name r fs ms (Some no_trees) here later =
    ap (λ gs. with_members ms (node r gs)) (joined-none fs) ∙ here ∙ same-fields r fs name (children_in ms)
members-step name r fs ms (Some (tree t ts)) here later = later (tree t ts) ∙ more-fields r fs name t ts (children_in ms)

after-joined : (name other : List ℕ) (ts : Trees) (fs : Fields) → slice_cmp nat_cmp name other ≡ Less → IsAfter other fs → IsAfter other (joined fs (field name ts no_fields))
after-joined name other ts no_fields less h = (less, tt)
after-joined name other ts (field first us fs) less h = (h.0, after-joined name other ts fs less h.1)

all-after : (name : List ℕ) (ts : Trees) (fs : Fields) (ms : Members) → AllByRecursion (λ y. slice_cmp nat_cmp name y ≡ Less) (names_in ms) → AreAfter ms fs
    → AreAfter ms (joined fs (field name ts no_fields))
all-after name ts fs no_members less h = tt
all-after name ts fs (member other d ms) less h = (after-joined name other ts fs less.0 h.0, all-after name ts fs ms less.1 h.1)

-- members in order, put behind children whose names come before theirs
members-put : (ms : Members) (r : Root) (fs : Fields) → AreAfter ms fs → IsStrictlySortedBy (slice_cmp nat_cmp) (names_in ms)
    → with_members ms (node r fs) ≡ option_map (λ gs. node r (joined fs gs)) (children_in ms)
unfolding IsStrictlySortedBy
members-put no_members r fs h sorted = ap (λ gs. Some (node r gs)) (sym (joined-none fs))
members-put (member name d ms) r fs h sorted =
    let here = members-put ms r fs h.1 sorted.1 in
    choice (bytes_eq name root_name) _ _ _ _ (λ gs. node r (joined fs gs)) here
    (ap (option_and_then (with_members ms)) (member-put name r fs d h.0)
    ∙ members-step name r fs ms (vector_in d) here (λ ts. members-put ms r (joined fs (field name ts no_fields)) (all-after name ts fs ms sorted.0 h.1) sorted.1))

none-before : (ms : Members) → AreAfter ms no_fields
none-before no_members = tt
none-before (member name d ms) = (tt, none-before ms)

-- the members of an object, put into a node without children, are its children
pub object-put : (ms : Members) (r : Root) → IsStrictlySortedBy (slice_cmp nat_cmp) (names_in ms) → with_members ms (node r no_fields) ≡ of_both node (Some r) (children_in ms)
object-put ms r sorted = members-put ms r no_fields (none-before ms) sorted

all-names : (k : String Global) (es : List (String Global × Value)) → AllByRecursion (λ y. string_cmp k y ≡ Less) (keys_of es)
    → AllByRecursion (λ y. slice_cmp nat_cmp (string_bytes k) y ≡ Less) (names_in (members_view es))
all-names k [] h = tt
all-names k (e ∷ es) h = (h.0, all-names k es h.1)

pub sorted-names : (es : List (String Global × Value)) → IsStrictlySortedBy string_cmp (keys_of es) → IsStrictlySortedBy (slice_cmp nat_cmp) (names_in (members_view es))
unfolding IsStrictlySortedBy
sorted-names [] h = tt
sorted-names (e ∷ es) h = (all-names e.0 es h.0, sorted-names es h.1)

-- ---- one step of a walk over an object's entries

abbrev pub Entry : Type 0
Entry = String Global × Value

is_from : (b : Bool) → false ≡ not b → b ≡ true
is_from true h = refl
is_from false h = h

other_from : (b : Bool) → true ≡ not b → b ≡ false
other_from true h = h
other_from false h = refl

-- the member `$` is passed
pub step-root : (e : Entry) (rest next : List Entry) (t : Tree) → rest ≡ e ∷ next → false ≡ not (bytes_eq (string_bytes e.0) root_name)
    → with_members (members_view rest) t ≡ with_members (members_view next) t
step-root e rest next t more is = rw (more, is_from _ is) refl

-- another member is put
pub step-put : (e : Entry) (rest next : List Entry) (t u : Tree) → rest ≡ e ∷ next → true ≡ not (bytes_eq (string_bytes e.0) root_name)
    → with_member (string_bytes e.0) (view e.1) t ≡ Some u → with_members (members_view rest) t ≡ with_members (members_view next) u
step-put e rest next t u more other made = rw (more, other_from _ other, made) refl

-- one that makes no trees ends it
pub step-none : (e : Entry) (rest next : List Entry) (t : Tree) → rest ≡ e ∷ next → true ≡ not (bytes_eq (string_bytes e.0) root_name)
    → with_member (string_bytes e.0) (view e.1) t ≡ None → with_members (members_view rest) t ≡ None
step-none e rest next t more other made = rw (more, other_from _ other, made) refl

-- after the last one the node is whole
pub whole : (es rest : List Entry) (r : Root) (t : Tree) (o : Option Tree) → IsStrictlySortedBy string_cmp (keys_of es) → with_members (members_view rest) t ≡ o
    → with_members (members_view rest) t ≡ with_members (members_view es) (node r no_fields) → o ≡ of_both node (Some r) (children_in (members_view es))
whole es rest r t o sorted ends kept = sym ends ∙ kept ∙ object-put (members_view es) r (sorted-names es sorted)

-- two items or more make no tree
pub params-several : (vs : List Value) → 2 ≤ length vs → None ≡ params_tree (Some (array (items_view vs)))
params-several [] h = absurd (omega (arith, h))
params-several (v ∷ []) h = absurd (omega (arith, h))
params-several (v ∷ w ∷ vs) h = refl
