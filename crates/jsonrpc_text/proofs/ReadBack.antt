-- A tree that is written under a type and read again.
use Rattle.std.proofs.Common.{◌≡◌, refl, sym, ap, ◌∙◌, ℕ, ℤ, pos, negsuc, suc, ◌<◌, ◌≤◌, ◌^◌, arith, List, Option, None, Some, option_map, Bool, true, false, not, bytes_eq, nat_cmp, Less, Equal, Greater, if◌then◌else◌}
use Rattle.std.specs.Prelude.{◌&&◌, ◌||◌}
use Rattle.std.specs.declared.cmp.Ordering.{Ordering}
use Rattle.std.specs.Ordering.{match_ordering}
use Rattle.std.specs.Cmp.Lexicographic.{slice_cmp}
use Rattle.std.specs.Cmp.{Equal-is}
use Rattle.std.proofs.lemmas.Bool.{false≢true, lt-ltb, leb-true}
use Rattle.std.proofs.lemmas.Map.Text.{is_eq-slice_cmp}
use Rattle.std.proofs.lemmas.Slice.Eq.{bytes_eq-Decides}
use Rattle.serde_json.specs.Data.{Data, Members, no_members, member, put}
use Rattle.serde_json.specs.Find.{get_member, of_integer, as_i64}
use Rattle.serde_json.proofs.Views.{get_member-put}
use Rattle.jolie_trees.specs.declared.root.Root.{Root}
use Rattle.jolie_trees.specs.declared.root.Root.TheVariants as root
use Rattle.jolie_trees.specs.Data.{Tree, node, Fields, no_fields, field, Trees, no_trees, tree}
use Rattle.jolie_trees.specs.Trees.{count_of, field_if}
use Rattle.behaviour_tree.specs.Data.{TypeTree, TypeFields}
use Rattle.jsonrpc_text.specs.FromJson.{root_name, integer_root, root_in, root_of_member, of_both, only, tree_in, children_in, vector_in, trees_in}
use Rattle.jsonrpc_text.specs.ToJson.{root_data, with_root, FieldPart, field_part, fields_of_type, repeats, member_type, are_there, json_of, members_json, vector_json, items_json}
use Rattle.jsonrpc_text.specs.Laws.{is_int, is_long, is_in_range, is_some_tree, can_be_written, fields_can_be_written, trees_can_be_written, root_read_back, read_back, fields_read_back, trees_read_back, TreesReadBack}

-- ---- what holds of both halves

pub and-left : (a b : Bool) → (a && b) ≡ true → a ≡ true
and-left true b h = refl
and-left false b h = h

pub and-right : (a b : Bool) → (a && b) ≡ true → b ≡ true
and-right true b h = h
and-right false b h = absurd (false≢true h)

not-true : (b : Bool) → not b ≡ true → b ≡ false
not-true true h = absurd (false≢true h)
not-true false h = refl

-- ---- roots

int_root-back : (z : ℤ) → is_int z ≡ true → option_map integer_root (as_i64 (of_integer z)) ≡ Some (root.Int z)
int_root-back (pos n) h =
    let within : n ≤ 2147483647 = leb-true n 2147483647 h in
    let small : n < 2 ^ 63 = omega (arith, within) in
    rw (lt-ltb n (2 ^ 63) small, h) refl
int_root-back (negsuc n) h = rw h refl

long_root-back : (z : ℤ) → is_long z ≡ true → option_map integer_root (as_i64 (of_integer z)) ≡ Some (integer_root z)
long_root-back (pos n) h =
    let within : n ≤ 9223372036854775807 = leb-true n 9223372036854775807 h in
    let small : n < 2 ^ 63 = omega (arith, within) in
    rw (lt-ltb n (2 ^ 63) small) refl
long_root-back (negsuc n) h = refl

-- a root alone
root-back : (r : Root) → is_in_range r ≡ true → root_in (root_data r) ≡ Some (root_read_back r)
root-back root.Void h = refl
root-back (root.Bool b) h = refl
root-back (root.Int z) h = int_root-back z h
root-back (root.Long z) h = long_root-back z h
root-back (root.Text t) h = refl

-- a node without children
leaf-back : (r : Root) → is_in_range r ≡ true → tree_in (root_data r) ≡ Some (node (root_read_back r) no_fields)
leaf-back root.Void h = refl
leaf-back (root.Bool b) h = refl
leaf-back (root.Int z) h = ap (option_map (λ r. node r no_fields)) (int_root-back z h)
leaf-back (root.Long z) h = ap (option_map (λ r. node r no_fields)) (long_root-back z h)
leaf-back (root.Text t) h = refl

-- ---- the member `$`

bytes_eq-self : (xs : List ℕ) → bytes_eq xs xs ≡ true
bytes_eq-self xs = (bytes_eq-Decides xs xs).1 refl

bytes_eq-is : (xs ys : List ℕ) → bytes_eq xs ys ≡ true → xs ≡ ys
bytes_eq-is xs ys h = (bytes_eq-Decides xs ys).0 h

tied : (k l : List ℕ) → slice_cmp nat_cmp k l ≡ Equal → bytes_eq l k ≡ true
tied k l h =
    let same : bytes_eq k l ≡ true = sym (is_eq-slice_cmp k l) ∙ (Equal-is (slice_cmp nat_cmp k l)).1 h in
    let e : k ≡ l = bytes_eq-is k l same in
    rw e (bytes_eq-self l)

skips-put_at : (o : Ordering) (l : List ℕ) (d e : Data) (ms : Members) → slice_cmp nat_cmp root_name l ≡ o → children_in (put root_name d ms) ≡ children_in ms
    → children_in (match_ordering o (member root_name d (member l e ms)) (member l d ms) (member l e (put root_name d ms))) ≡ children_in (member l e ms)
skips-put_at Less l d e ms is later = rw (bytes_eq-self root_name) refl
skips-put_at Equal l d e ms is later = rw (tied root_name l is) refl
skips-put_at Greater l d e ms is later = rw later refl

-- the member `$` is no child
skips-put : (d : Data) (ms : Members) → children_in (put root_name d ms) ≡ children_in ms
skips-put d no_members = rw (bytes_eq-self root_name) refl
skips-put d (member l e ms) = skips-put_at (slice_cmp nat_cmp root_name l) l d e ms refl (skips-put d ms)

skips-root : (r : Root) (ms : Members) → children_in (with_root r ms) ≡ children_in ms
skips-root root.Void ms = refl
skips-root (root.Bool b) ms = skips-put _ ms
skips-root (root.Int z) ms = skips-put _ ms
skips-root (root.Long z) ms = skips-put _ ms
skips-root (root.Text t) ms = skips-put _ ms

-- no member has that name
no_root_at : (o : Ordering) (l : List ℕ) (e : Data) (ms : Members) → slice_cmp nat_cmp root_name l ≡ o → bytes_eq l root_name ≡ false → get_member root_name ms ≡ None
    → match_ordering o (get_member root_name ms) (Some e) (get_member root_name ms) ≡ None
no_root_at Less l e ms is other later = later
no_root_at Equal l e ms is other later = absurd (false≢true (sym other ∙ tied root_name l is))
no_root_at Greater l e ms is other later = later

no_root : (types : List TypeTree) (fs : Fields) (fields : TypeFields) → fields_can_be_written fs ≡ true → get_member root_name (members_json types fs fields) ≡ None
no_root types no_fields fields h = refl
no_root types (field name ts fs) fields h =
    let some_and_rest = and-left (not (bytes_eq name root_name) && is_some_tree ts && trees_can_be_written ts) (fields_can_be_written fs) h in
    let named = and-left (not (bytes_eq name root_name)) (is_some_tree ts) (and-left (not (bytes_eq name root_name) && is_some_tree ts) (trees_can_be_written ts) some_and_rest) in
    no_root_at (slice_cmp nat_cmp root_name name) name _ (members_json types fs fields) refl (not-true (bytes_eq name root_name) named)
    (no_root types fs fields (and-right (not (bytes_eq name root_name) && is_some_tree ts && trees_can_be_written ts) (fields_can_be_written fs) h))

-- the root is found in its place
root-found : (types : List TypeTree) (r : Root) (fs : Fields) (fields : TypeFields) → is_in_range r ≡ true → fields_can_be_written fs ≡ true
    → root_of_member (get_member root_name (with_root r (members_json types fs fields))) ≡ Some (root_read_back r)
root-found types root.Void fs fields h k = ap root_of_member (no_root types fs fields k)
root-found types (root.Bool b) fs fields h k = ap root_of_member (get_member-put root_name _ (members_json types fs fields)) ∙ root-back (root.Bool b) h
root-found types (root.Int z) fs fields h k = ap root_of_member (get_member-put root_name _ (members_json types fs fields)) ∙ root-back (root.Int z) h
root-found types (root.Long z) fs fields h k = ap root_of_member (get_member-put root_name _ (members_json types fs fields)) ∙ root-back (root.Long z) h
root-found types (root.Text t) fs fields h k = ap root_of_member (get_member-put root_name _ (members_json types fs fields)) ∙ root-back (root.Text t) h

-- ---- vectors

-- a value that is no array is a vector of one
abbrev IsOne : Data → Type 0
IsOne d = vector_in d ≡ only (tree_in d)

one-root : (r : Root) → IsOne (root_data r)
one-root root.Void = refl
one-root (root.Bool b) = refl
one-root (root.Int z) = refl
one-root (root.Long z) = refl
one-root (root.Text t) = refl

one-json : (types : List TypeTree) (t : Tree) (ty : TypeTree) → IsOne (json_of types t ty)
one-json types (node r no_fields) ty = one-root r
one-json types (node r (field name ts fs)) ty = refl

-- a vector is an array, or its one member
vector-choice : (b : Bool) (a d : Data) (x : Option Trees) → (b ≡ true → vector_in a ≡ x) → (b ≡ false → vector_in d ≡ x) → vector_in (if b then a else d) ≡ x
vector-choice true a d x h k = h refl
vector-choice false a d x h k = k refl

or-none : (b : Bool) (ts : Trees) → (b || are_there ts) ≡ false → ts ≡ no_trees
or-none true ts h = absurd (false≢true (sym h))
or-none false no_trees h = refl
or-none false (tree t ts) h = absurd (false≢true (sym h))

node-back : (r : Root) (fs : Fields) (o : Option Root) (p : Option Fields) → o ≡ Some r → p ≡ Some fs → of_both node o p ≡ Some (node r fs)
node-back r fs o p h k = rw (h, k) refl

under-back : (name : List ℕ) (t : Tree) (ts : Trees) (fs : Fields) (o : Option Trees) (p : Option Fields) → o ≡ Some (tree t ts) → p ≡ Some fs → of_both (field_if name) o p ≡ Some (field name (tree t ts) fs)
under-back name t ts fs o p h k = rw (h, k) refl

tree-back : (t : Tree) (ts : Trees) (o : Option Tree) (p : Option Trees) → o ≡ Some t → p ≡ Some ts → of_both tree o p ≡ Some (tree t ts)
tree-back t ts o p h k = rw (h, k) refl

member-back : (b : Bool) (x y z : Option Fields) → b ≡ false → y ≡ z → (if b then x else y) ≡ z
member-back true x y z h k = absurd (false≢true (sym h))
member-back false x y z h k = k

-- a vector, where its trees are read back
vector-back : (types : List TypeTree) (t : Tree) (ts : Trees) (f : Option FieldPart)
    → tree_in (json_of types t (member_type f (suc (count_of ts)))) ≡ Some (read_back t)
    → trees_in (items_json types ts (member_type f (suc (count_of ts)))) ≡ Some (trees_read_back ts)
    → vector_in (vector_json types (tree t ts) f) ≡ Some (tree (read_back t) (trees_read_back ts))
vector-back types t ts f here there =
    let ty = member_type f (suc (count_of ts)) in
    vector-choice (repeats f || are_there ts) _ _ _
    (λ many. tree-back (read_back t) (trees_read_back ts) _ _ here there)
    (λ one. one-json types t ty ∙ tree-back (read_back t) no_trees _ _ here refl ∙ ap (λ us. Some (tree (read_back t) (trees_read_back us))) (sym (or-none (repeats f) ts one)))

mutual
  pub json-back : TreesReadBack
  json-back types (node r no_fields) ty h = leaf-back r (and-left (is_in_range r) true h)
  json-back types (node r (field name ts fs)) ty h =
      let range = and-left (is_in_range r) (fields_can_be_written (field name ts fs)) h in
      let below = and-right (is_in_range r) (fields_can_be_written (field name ts fs)) h in
      let fields = fields_of_type types ty in
      node-back (root_read_back r) (fields_read_back (field name ts fs)) _ _
      (root-found types r (field name ts fs) fields range below)
      (skips-root r (members_json types (field name ts fs) fields) ∙ members-back types (field name ts fs) fields below)

  members-back : (types : List TypeTree) (fs : Fields) (fields : TypeFields) → fields_can_be_written fs ≡ true → children_in (members_json types fs fields) ≡ Some (fields_read_back fs)
  members-back types no_fields fields h = refl
  members-back types (field name no_trees fs) fields h =
      absurd (false≢true (and-right (not (bytes_eq name root_name)) false (and-left (not (bytes_eq name root_name) && false) true (and-left (not (bytes_eq name root_name) && false && true) (fields_can_be_written fs) h))))
  members-back types (field name (tree t ts) fs) fields h =
      let front = and-left (not (bytes_eq name root_name) && true && trees_can_be_written (tree t ts)) (fields_can_be_written fs) h in
      let named = and-left (not (bytes_eq name root_name)) true (and-left (not (bytes_eq name root_name) && true) (trees_can_be_written (tree t ts)) front) in
      let trees = and-right (not (bytes_eq name root_name) && true) (trees_can_be_written (tree t ts)) front in
      let rest = and-right (not (bytes_eq name root_name) && true && trees_can_be_written (tree t ts)) (fields_can_be_written fs) h in
      member-back (bytes_eq name root_name) _ _ _ (not-true (bytes_eq name root_name) named)
      (under-back name (read_back t) (trees_read_back ts) (fields_read_back fs) _ _
      (vector-back types t ts (field_part name fields)
      (json-back types t (member_type (field_part name fields) (suc (count_of ts))) (and-left (can_be_written t) (trees_can_be_written ts) trees))
      (items-back types ts (member_type (field_part name fields) (suc (count_of ts))) (and-right (can_be_written t) (trees_can_be_written ts) trees)))
      (members-back types fs fields rest))

  items-back : (types : List TypeTree) (ts : Trees) (ty : TypeTree) → trees_can_be_written ts ≡ true → trees_in (items_json types ts ty) ≡ Some (trees_read_back ts)
  items-back types no_trees ty h = refl
  items-back types (tree t ts) ty h =
      tree-back (read_back t) (trees_read_back ts) _ _ (json-back types t ty (and-left (can_be_written t) (trees_can_be_written ts) h))
      (items-back types ts ty (and-right (can_be_written t) (trees_can_be_written ts) h))
