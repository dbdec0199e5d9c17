-- Children in the order of their names, put one after the other, are the members of an object.
use Rattle.std.proofs.Common.{◌≡◌, refl, sym, ap, ◌∙◌, ℕ, zero, suc, ◌+◌, List, [], ◌∷◌, ◌++◌, length, map, drop, get_or, ◌≤◌, ◌<◌, arith, Option, Bool, true, false, true≢false, ◌||◌, if◌then◌else◌, Less, Greater, nat_cmp, String, Global}
use Rattle.std.proofs.lemmas.Cmp.{nat_list_cmp_total}
use Rattle.std.proofs.lemmas.List.{drop_all, length-map}
use Rattle.std.specs.Cmp.Lexicographic.{slice_cmp}
use Rattle.std.specs.List.{AllByRecursion}
use Rattle.std.specs.List.Sorted.{IsStrictlySortedBy}
use Rattle.std.specs.Ordering.{ordering_reverse}
use Rattle.serde_json.specs.Data.{Data, array, object, Items, no_items, item, Members, no_members, member, put}
use Rattle.serde_json.specs.View.{view, items_view, members_view}
use Rattle.serde_json.specs.declared.value.Value.{Value}
use Rattle.jolie_trees.specs.Data.{Tree, node, Fields, no_fields, field, Trees}
use Rattle.jolie_trees.specs.Trees.{children_of, names_of, root_of, levels, fields_levels, trees_levels, count_of}
use Rattle.jolie_trees.specs.TreeView.{trees_of, fields_of}
use Rattle.jolie_trees.proofs.Vectors.{count_of-length}
use Rattle.behaviour_tree.specs.Conforms.{shape}
use Rattle.behaviour_tree.specs.Data.{TypeTree, TypeFields}
use Rattle.behaviour_tree.specs.View.{type_view}
use Rattle.behaviour_tree.specs.declared.types.TypeDef.{TypeDef}
use Rattle.jsonrpc_text.specs.ToJson.{root_data, with_root, FieldPart, field_part, fields_behind, fields_of_type, repeats, member_type, json_of, members_json, vector_json, items_json}
use Rattle.jsonrpc_text.specs.Walks.{node_json}
use Rattle.jsonrpc_text.proofs.Lists.{taken_off}

-- members with children put after them, one after the other
abbrev pub with_children : List TypeTree → TypeFields → Fields → Members → Members
with_children types fields no_fields ms = ms
with_children types fields (field name ts fs) ms = with_children types fields fs (put name (vector_json types ts (field_part name fields)) ms)

-- members one behind the other
abbrev pub behind : Members → Members → Members
behind no_members ns = ns
behind (member name d ms) ns = member name d (behind ms ns)

-- a name comes after those of all members
abbrev pub IsLast : List ℕ → Members → Type 0
IsLast name no_members = Unit {0}
IsLast name (member other d ms) = (slice_cmp nat_cmp other name ≡ Less) × IsLast name ms

-- so do the names of all children
abbrev pub AreLast : Fields → Members → Type 0
AreLast no_fields ms = Unit {0}
AreLast (field name ts fs) ms = IsLast name ms × AreLast fs ms

behind-behind : (ms ns os : Members) → behind (behind ms ns) os ≡ behind ms (behind ns os)
behind-behind no_members ns os = refl
behind-behind (member name d ms) ns os = ap (member name d) (behind-behind ms ns os)

behind-none : (ms : Members) → behind ms no_members ≡ ms
behind-none no_members = refl
behind-none (member name d ms) = ap (member name d) (behind-none ms)

reversed : (name other : List ℕ) → slice_cmp nat_cmp other name ≡ Less → slice_cmp nat_cmp name other ≡ Greater
reversed name other h = nat_list_cmp_total.antisymm name other ∙ ap ordering_reverse h

-- a name after all others goes last
put-last : (name : List ℕ) (d : Data) (ms : Members) → IsLast name ms → put name d ms ≡ behind ms (member name d no_members)
put-last name d no_members h = refl
put-last name d (member other e ms) h = rw (reversed name other h.0) (ap (member other e) (put-last name d ms h.1))

last-behind : (name other : List ℕ) (d : Data) (ms : Members) → slice_cmp nat_cmp name other ≡ Less → IsLast other ms → IsLast other (behind ms (member name d no_members))
last-behind name other d no_members less h = (less, tt)
last-behind name other d (member first e ms) less h = (h.0, last-behind name other d ms less h.1)

all-last : (name : List ℕ) (d : Data) (ms : Members) (fs : Fields) → AllByRecursion (λ y. slice_cmp nat_cmp name y ≡ Less) (names_of fs) → AreLast fs ms
    → AreLast fs (behind ms (member name d no_members))
all-last name d ms no_fields less h = tt
all-last name d ms (field other ts fs) less h = (last-behind name other d ms less.0 h.0, all-last name d ms fs less.1 h.1)

-- children in order, put after members whose names come before theirs
children-put : (types : List TypeTree) (fields : TypeFields) (fs : Fields) (ms : Members) → AreLast fs ms → IsStrictlySortedBy (slice_cmp nat_cmp) (names_of fs)
    → with_children types fields fs ms ≡ behind ms (members_json types fs fields)
unfolding IsStrictlySortedBy
children-put types fields no_fields ms h sorted = sym (behind-none ms)
children-put types fields (field name ts fs) ms h sorted =
    let d = vector_json types ts (field_part name fields) in
    ap (with_children types fields fs) (put-last name d ms h.0)
    ∙ children-put types fields fs (behind ms (member name d no_members)) (all-last name d ms fs sorted.0 h.1) sorted.1
    ∙ behind-behind ms (member name d no_members) (members_json types fs fields)

none-before : (fs : Fields) → AreLast fs no_members
none-before no_fields = tt
none-before (field name ts fs) = (tt, none-before fs)

-- children in order, put one after the other, are the members
pub all-put : (types : List TypeTree) (fields : TypeFields) (fs : Fields) → IsStrictlySortedBy (slice_cmp nat_cmp) (names_of fs)
    → with_children types fields fs no_members ≡ members_json types fs fields
all-put types fields fs sorted = children-put types fields fs no_members (none-before fs) sorted

-- ---- the items of an array, pushed one after the other

-- items one behind the other
abbrev pub followed_by : Items → Items → Items
followed_by no_items es = es
followed_by (item d ds) es = item d (followed_by ds es)

-- a value that is pushed is the first of what follows
pub pushed : (vs : List Value) (v : Value) (es : Items) → followed_by (items_view (vs ++ v ∷ [])) es ≡ followed_by (items_view vs) (item (view v) es)
pushed [] v es = refl
pushed (w ∷ vs) v es = ap (item (view w)) (pushed vs v es)

-- after the last one nothing follows
pub followed-none : (ds : Items) → followed_by ds no_items ≡ ds
followed-none no_items = refl
followed-none (item d ds) = ap (item d) (followed-none ds)

-- ---- one step of a walk

-- the next item is pushed
pub item-step : (types : List TypeTree) (ts : List Tree) (i : ℕ) (t : Tree) (ty : TypeTree) (vs ws : List Value) (v : Value) (all : Items) → i < length ts → t ≡ get_or ts i t
    → view v ≡ json_of types t ty → ws ≡ vs ++ v ∷ [] → followed_by (items_view vs) (items_json types (trees_of (drop i ts)) ty) ≡ all
    → followed_by (items_view ws) (items_json types (trees_of (drop (i + 1) ts)) ty) ≡ all
item-step types ts i t ty vs ws v all h at made is kept =
    let f : i + 1 ≡ suc i = omega arith in
    let took : drop i ts ≡ t ∷ drop (i + 1) ts = rw f (taken_off ts i t h at) in
    let rest = items_json types (trees_of (drop (i + 1) ts)) ty in
    ap (λ xs. followed_by (items_view xs) rest) is ∙ pushed vs v rest ∙ ap (λ d. followed_by (items_view vs) (item d rest)) made
    ∙ sym (ap (λ xs. followed_by (items_view vs) (items_json types (trees_of xs) ty)) took) ∙ kept

-- after the last one the array is whole
pub items-done : (types : List TypeTree) (ts : List Tree) (i : ℕ) (ty : TypeTree) (vs : List Value) → length ts ≤ i
    → followed_by (items_view vs) (items_json types (trees_of (drop i ts)) ty) ≡ items_json types (trees_of ts) ty → items_view vs ≡ items_json types (trees_of ts) ty
items-done types ts i ty vs past kept =
    sym (followed-none (items_view vs)) ∙ sym (ap (λ xs. followed_by (items_view vs) (items_json types (trees_of xs) ty)) (drop_all i ts past)) ∙ kept

-- the next child is put
pub child-step : (types : List TypeTree) (fields : TypeFields) (name : List ℕ) (ts : Trees) (es next : List (List ℕ × Trees)) (ms ns : Members) (d : Data) (all : Members)
    → es ≡ (name, ts) ∷ next → d ≡ vector_json types ts (field_part name fields) → ns ≡ put name d ms
    → with_children types fields (fields_of es) ms ≡ all → with_children types fields (fields_of next) ns ≡ all
child-step types fields name ts es next ms ns d all more made is kept =
    ap (with_children types fields (fields_of next)) (is ∙ ap (λ x. put name x ms) made) ∙ sym (ap (λ xs. with_children types fields (fields_of xs) ms) more) ∙ kept

pub lower-step : (es next : List (List ℕ × Trees)) (e : List ℕ × Trees) (n : ℕ) → es ≡ e ∷ next → fields_levels (fields_of es) ≤ n → fields_levels (fields_of next) ≤ n
lower-step es next e n more lower = let h : fields_levels (fields_of es) ≡ fields_levels (fields_of (e ∷ next)) = ap (λ xs. fields_levels (fields_of xs)) more in omega (arith, h, lower)

-- after the last child the members are whole
pub children-done : (types : List TypeTree) (fields : TypeFields) (fs : Fields) (es : List (List ℕ × Trees)) (ms : Members) → es ≡ [] → IsStrictlySortedBy (slice_cmp nat_cmp) (names_of fs)
    → with_children types fields (fields_of es) ms ≡ with_children types fields fs no_members → ms ≡ members_json types fs fields
children-done types fields fs es ms ends sorted kept = sym (ap (λ xs. with_children types fields (fields_of xs) ms) ends) ∙ kept ∙ all-put types fields fs sorted

is_member : Members → Bool
is_member no_members = false
is_member (member name d ms) = true

-- a node without members is its root
pub node-empty : (types : List TypeTree) (t : Tree) (fields : TypeFields) (es : List (String Global × Value)) → length es ≡ 0 → members_view es ≡ members_json types (children_of t) fields
    → root_data (root_of t) ≡ node_json types t fields
unfolding is_member
node-empty types (node r no_fields) fields es h is = refl
node-empty types (node r (field name ts fs)) fields [] h is = absurd (true≢false (sym (ap is_member is)))
node-empty types (node r (field name ts fs)) fields (e ∷ es) h is = absurd (omega (arith, h))

-- another is an object of its members and its root
pub node-whole : (types : List TypeTree) (t : Tree) (fields : TypeFields) (es : List (String Global × Value)) (ns : Members) → (length es ≡ 0 → ⊥) → members_view es ≡ members_json types (children_of t) fields
    → ns ≡ with_root (root_of t) (members_view es) → object ns ≡ node_json types t fields
unfolding is_member
node-whole types (node r no_fields) fields [] ns h is made = absurd (h refl)
node-whole types (node r no_fields) fields (e ∷ es) ns h is made = absurd (true≢false (ap is_member is))
node-whole types (node r (field name ts fs)) fields es ns h is made = ap object (made ∙ ap (with_root r) is)

-- ---- the cases of a node and of the members of one name

-- a node under a type is written by the fields of that
pub node-same : (types : List TypeTree) (t : Tree) (ty : TypeTree) → node_json types t (fields_of_type types ty) ≡ json_of types t ty
node-same types (node r no_fields) ty = refl
node-same types (node r (field name ts fs)) ty = refl

pub fields-by : (types : List TypeDef) (ty : TypeTree) (o : Option TypeTree) → o ≡ shape (map type_view types) (length types) ty → fields_behind o ≡ fields_of_type (map type_view types) ty
fields-by types ty o h = ap fields_behind (h ∙ ap (λ n. shape (map type_view types) n ty) (sym (length-map types type_view)))

several-chosen : (b : Bool) (x y : Data) → x ≡ (if b || true then x else y)
several-chosen true x y = refl
several-chosen false x y = refl

-- several of a name are an array
pub several : (types : List TypeTree) (ts : List Tree) (f : Option FieldPart) (ty : TypeTree) → 2 ≤ length ts → ty ≡ member_type f (length ts)
    → array (items_json types (trees_of ts) ty) ≡ vector_json types (trees_of ts) f
several types [] f ty h is = absurd (omega (arith, h))
several types (t ∷ []) f ty h is = absurd (omega (arith, h))
several types (t ∷ u ∷ ts) f ty h is =
    ap (λ x. array (items_json types (trees_of (t ∷ u ∷ ts)) x)) (is ∙ ap (λ n. member_type f (suc (suc n))) (sym (count_of-length ts)))
    ∙ several-chosen (repeats f) _ _
