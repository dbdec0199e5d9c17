-- No call has a float, so that its text is stated byte for byte.
use Rattle.std.proofs.Common.{◌≡◌, refl, ap, ◌∙◌, ℕ, suc, ℤ, pos, negsuc, List, Bool, true, false, true≢false, ◌||◌, if◌then◌else◌, Option, None, Some, Result, IfOk, Ordering, Less, Equal, Greater, nat_cmp}
use Rattle.std.proofs.lemmas.Result.{IfOk-weaker}
use Rattle.std.specs.Cmp.Lexicographic.{slice_cmp}
use Rattle.std.specs.Ordering.{match_ordering}
use Rattle.serde_json.specs.Data.{Data, array, Items, item, Members, no_members, member, put}
use Rattle.serde_json.specs.Find.{of_integer, is_float}
use Rattle.serde_json.specs.Written.{has_float, items_have_float, members_have_float, compact_text}
use Rattle.jolie_trees.specs.declared.root.Root.{Root}
use Rattle.jolie_trees.specs.declared.root.Root.TheVariants as root
use Rattle.jolie_trees.specs.Data.{Tree, node, Fields, no_fields, field, Trees, no_trees, tree}
use Rattle.jolie_trees.specs.Trees.{count_of}
use Rattle.behaviour_tree.specs.Data.{TypeTree, TypeFields, OperationPart}
use Rattle.office_core.specs.declared.outgoing.Outgoing.{Outgoing}
use Rattle.jsonrpc_text.specs.FromJson.{root_name}
use Rattle.jsonrpc_text.specs.ToJson.{root_data, with_root, repeats, are_there, member_type, fields_of_type, field_part, FieldPart, json_of, members_json, vector_json, items_json}
use Rattle.jsonrpc_calls.specs.CallTexts.{id_of, params_of, request, call_data, call_to}

-- ---- members

neither : (a b : Bool) → a ≡ false → b ≡ false → a || b ≡ false
neither a b h k = rw (h, k) refl

first : (a b : Bool) → a || b ≡ false → a ≡ false
first true b h = h
first false b h = refl

second : (a b : Bool) → a || b ≡ false → b ≡ false
second true b h = absurd (true≢false h)
second false b h = h

put-at : (o : Ordering) (k l : List ℕ) (d e : Data) (ms : Members) → has_float d ≡ false → members_have_float (member l e ms) ≡ false → members_have_float (put k d ms) ≡ false
    → members_have_float (match_ordering o (member k d (member l e ms)) (member l d ms) (member l e (put k d ms))) ≡ false
put-at Less k l d e ms h there later = neither _ _ h there
put-at Equal k l d e ms h there later = neither _ _ h (second (has_float e) _ there)
put-at Greater k l d e ms h there later = neither _ _ (first (has_float e) _ there) later

put-no_float : (k : List ℕ) (d : Data) (ms : Members) → has_float d ≡ false → members_have_float ms ≡ false → members_have_float (put k d ms) ≡ false
put-no_float k d no_members h there = neither _ _ h refl
put-no_float k d (member l e ms) h there = put-at (slice_cmp nat_cmp k l) k l d e ms h there (put-no_float k d ms h (second (has_float e) _ there))

-- ---- trees

integer-no_float : (z : ℤ) → is_float (of_integer z) ≡ false
integer-no_float (pos n) = refl
integer-no_float (negsuc n) = refl

root-no_float : (r : Root) → has_float (root_data r) ≡ false
root-no_float root.Void = refl
root-no_float (root.Bool b) = refl
root-no_float (root.Int z) = integer-no_float z
root-no_float (root.Long z) = integer-no_float z
root-no_float (root.Text s) = refl

root-put : (r : Root) (ms : Members) → members_have_float ms ≡ false → members_have_float (with_root r ms) ≡ false
root-put root.Void ms h = h
root-put (root.Bool b) ms h = put-no_float root_name (root_data (root.Bool b)) ms (root-no_float (root.Bool b)) h
root-put (root.Int z) ms h = put-no_float root_name (root_data (root.Int z)) ms (root-no_float (root.Int z)) h
root-put (root.Long z) ms h = put-no_float root_name (root_data (root.Long z)) ms (root-no_float (root.Long z)) h
root-put (root.Text s) ms h = put-no_float root_name (root_data (root.Text s)) ms (root-no_float (root.Text s)) h

array-or-one : (b : Bool) (d : Data) (ds : Items) → has_float d ≡ false → items_have_float ds ≡ false → has_float (if b then array (item d ds) else d) ≡ false
array-or-one true d ds h k = neither _ _ h k
array-or-one false d ds h k = h

mutual
  -- a tree has no float
  tree-no_float : (types : List TypeTree) (t : Tree) (ty : TypeTree) → has_float (json_of types t ty) ≡ false
  tree-no_float types (node r no_fields) ty = root-no_float r
  tree-no_float types (node r (field name ts fs)) ty =
      root-put r (members_json types (field name ts fs) (fields_of_type types ty)) (children-no_float types (field name ts fs) (fields_of_type types ty))

  children-no_float : (types : List TypeTree) (fs : Fields) (fields : TypeFields) → members_have_float (members_json types fs fields) ≡ false
  children-no_float types no_fields fields = refl
  children-no_float types (field name ts fs) fields = neither _ _ (vector-no_float types ts (field_part name fields)) (children-no_float types fs fields)

  vector-no_float : (types : List TypeTree) (ts : Trees) (f : Option FieldPart) → has_float (vector_json types ts f) ≡ false
  vector-no_float types no_trees f = refl
  vector-no_float types (tree t ts) f =
      array-or-one (repeats f || are_there ts) _ _ (tree-no_float types t (member_type f (suc (count_of ts)))) (items-no_float types ts (member_type f (suc (count_of ts))))

  items-no_float : (types : List TypeTree) (ts : Trees) (ty : TypeTree) → items_have_float (items_json types ts ty) ≡ false
  items-no_float types no_trees ty = refl
  items-no_float types (tree t ts) ty = neither _ _ (tree-no_float types t ty) (items-no_float types ts ty)

-- ---- calls

-- whether params have a float
abbrev params_float : Option Data → Bool
params_float None = false
params_float (Some d) = has_float d

params-no_float : (types : List TypeTree) (ty : TypeTree) (t : Tree) → params_float (params_of types ty t) ≡ false
params-no_float types ty (node root.Void no_fields) = refl
params-no_float types ty (node (root.Bool b) no_fields) = refl
params-no_float types ty (node (root.Int (pos n)) no_fields) = refl
params-no_float types ty (node (root.Int (negsuc n)) no_fields) = refl
params-no_float types ty (node (root.Long (pos n)) no_fields) = refl
params-no_float types ty (node (root.Long (negsuc n)) no_fields) = refl
params-no_float types ty (node (root.Text s) no_fields) = refl
params-no_float types ty (node r (field name ts fs)) = tree-no_float types (node r (field name ts fs)) ty

request-no_float : (i : Option ℕ) (method : List ℕ) (params : Option Data) → params_float params ≡ false → has_float (request i method params) ≡ false
request-no_float None method None h = refl
request-no_float None method (Some d) h = neither (has_float d) false h refl
request-no_float (Some n) method None h = refl
request-no_float (Some n) method (Some d) h = neither (has_float d) false h refl

call-no_float : (types : List TypeTree) (o : OperationPart) (out : Outgoing) → has_float (call_data types o out) ≡ false
call-no_float types o out = request-no_float (id_of out) o.name (params_of types o.request out.value) (params-no_float types o.request out.value)

-- the text of a call as a value that is known
pub call-written : {E : Type 0} (r : Result (List ℕ) E) (d : Data) (types : List TypeTree) (o : OperationPart) (out : Outgoing) → d ≡ call_data types o out
    → IfOk r (λ text. has_float d ≡ false → text ≡ compact_text d) → IfOk r (λ text. text ≡ call_to types o out)
unfolding call_to
call-written r d types o out is h =
    IfOk-weaker r (λ text. has_float d ≡ false → text ≡ compact_text d) (λ text. text ≡ compact_text (call_data types o out))
    (λ text k. k (ap has_float is ∙ call-no_float types o out) ∙ ap compact_text is) h
