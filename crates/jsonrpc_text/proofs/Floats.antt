-- No answer has a float, so that its text is stated byte for byte.
use Rattle.std.proofs.Common.{◌≡◌, refl, ap, ◌∙◌, ℕ, suc, ℤ, pos, negsuc, List, Option, Result, IfOk, Bool, true, false, true≢false, ◌||◌, if◌then◌else◌, Ordering, Less, Equal, Greater, nat_cmp}
use Rattle.std.proofs.lemmas.Result.{IfOk-weaker}
use Rattle.std.specs.Cmp.Lexicographic.{slice_cmp}
use Rattle.std.specs.Ordering.{match_ordering}
use Rattle.serde_json.specs.Data.{Data, array, Items, item, Members, no_members, member, put}
use Rattle.serde_json.specs.Find.{of_integer, is_float}
use Rattle.serde_json.specs.Written.{has_float, items_have_float, members_have_float, compact_text}
use Rattle.jolie_trees.specs.declared.root.Root.{Root}
use Rattle.jolie_trees.specs.declared.root.Root.TheVariants as root
use Rattle.jolie_trees.specs.Data.{Tree, node, Fields, no_fields, field, Trees, no_trees, tree}
use Rattle.jolie_trees.specs.Trees.{count_of}
use Rattle.behaviour_tree.specs.Data.{TypeTree, undefined, TypeFields}
use Rattle.behaviour_tree.specs.declared.words.Outcome.{Outcome}
use Rattle.behaviour_tree.specs.declared.words.Outcome.TheVariants as outcome
use Rattle.behaviour_tree.specs.Reasons.{code_of}
use Rattle.jsonrpc_text.specs.declared.message.Id.{Id}
use Rattle.jsonrpc_text.specs.declared.message.Id.TheVariants as id
use Rattle.jsonrpc_text.specs.FromJson.{root_name}
use Rattle.jsonrpc_text.specs.ToJson.{root_data, with_root, FieldPart, repeats, are_there, member_type, fields_of_type, field_part, json_of, members_json, vector_json, items_json}
use Rattle.jsonrpc_text.specs.Responses.{id_data, early_data, answer_data, answer, early_answer}
use Rattle.jsonrpc_text.specs.declared.message.Early.{Early}
use Rattle.jsonrpc_text.specs.declared.message.Early.TheVariants as early

pub has_float-id : (i : Id) → has_float (id_data i) ≡ false
has_float-id id.Null = refl
has_float-id (id.Int (pos n)) = refl
has_float-id (id.Int (negsuc n)) = refl
has_float-id (id.Big n) = refl
has_float-id (id.Text s) = refl
has_float-id id.None = refl

pub has_float-early : (i : Id) (e : Early) → has_float (early_data i e) ≡ false
has_float-early i early.Parse = rw (has_float-id i) refl
has_float-early i early.Invalid = rw (has_float-id i) refl
has_float-early i early.Params = rw (has_float-id i) refl

integer-no_float : (z : ℤ) → is_float (of_integer z) ≡ false
integer-no_float (pos n) = refl
integer-no_float (negsuc n) = refl

root-no_float : (r : Root) → has_float (root_data r) ≡ false
root-no_float root.Void = refl
root-no_float (root.Bool b) = refl
root-no_float (root.Int z) = integer-no_float z
root-no_float (root.Long z) = integer-no_float z
root-no_float (root.Text s) = refl

neither : (a b : Bool) → a ≡ false → b ≡ false → a || b ≡ false
neither a b h k = rw (h, k) refl

first : (a b : Bool) → a || b ≡ false → a ≡ false
first true b h = h
first false b h = refl

second : (a b : Bool) → a || b ≡ false → b ≡ false
second true b h = absurd (true≢false h)
second false b h = h

put-at : (o : Ordering) (k l : List ℕ) (d e : Data) (ms : Members) → has_float d ≡ false → members_have_float (member l e ms) ≡ false → members_have_float (put k d ms) ≡ false
    → members_have_float (match_ordering o (member k d (member l e ms)) (member l d ms) (member l e (put k d ms))) ≡ false
put-at Less k l d e ms h there later = neither _ _ h there
put-at Equal k l d e ms h there later = neither _ _ h (second (has_float e) _ there)
put-at Greater k l d e ms h there later = neither _ _ (first (has_float e) _ there) later

put-no_float : (k : List ℕ) (d : Data) (ms : Members) → has_float d ≡ false → members_have_float ms ≡ false → members_have_float (put k d ms) ≡ false
put-no_float k d no_members h there = neither _ _ h refl
put-no_float k d (member l e ms) h there = put-at (slice_cmp nat_cmp k l) k l d e ms h there (put-no_float k d ms h (second (has_float e) _ there))

root-put : (r : Root) (ms : Members) → members_have_float ms ≡ false → members_have_float (with_root r ms) ≡ false
root-put root.Void ms h = h
root-put (root.Bool b) ms h = put-no_float root_name (root_data (root.Bool b)) ms (root-no_float (root.Bool b)) h
root-put (root.Int z) ms h = put-no_float root_name (root_data (root.Int z)) ms (root-no_float (root.Int z)) h
root-put (root.Long z) ms h = put-no_float root_name (root_data (root.Long z)) ms (root-no_float (root.Long z)) h
root-put (root.Text s) ms h = put-no_float root_name (root_data (root.Text s)) ms (root-no_float (root.Text s)) h

array-or-one : (b : Bool) (d : Data) (ds : Items) → has_float d ≡ false → items_have_float ds ≡ false → has_float (if b then array (item d ds) else d) ≡ false
array-or-one true d ds h k = neither _ _ h k
array-or-one false d ds h k = h

mutual
  -- a tree has no float
  pub tree-no_float : (types : List TypeTree) (t : Tree) (ty : TypeTree) → has_float (json_of types t ty) ≡ false
  tree-no_float types (node r no_fields) ty = root-no_float r
  tree-no_float types (node r (field name ts fs)) ty =
      root-put r (members_json types (field name ts fs) (fields_of_type types ty)) (children-no_float types (field name ts fs) (fields_of_type types ty))

  children-no_float : (types : List TypeTree) (fs : Fields) (fields : TypeFields) → members_have_float (members_json types fs fields) ≡ false
  children-no_float types no_fields fields = refl
  children-no_float types (field name ts fs) fields = neither _ _ (vector-no_float types ts (field_part name fields)) (children-no_float types fs fields)

  vector-no_float : (types : List TypeTree) (ts : Trees) (f : Option FieldPart) → has_float (vector_json types ts f) ≡ false
  vector-no_float types no_trees f = refl
  vector-no_float types (tree t ts) f =
      array-or-one (repeats f || are_there ts) _ _ (tree-no_float types t (member_type f (suc (count_of ts)))) (items-no_float types ts (member_type f (suc (count_of ts))))

  items-no_float : (types : List TypeTree) (ts : Trees) (ty : TypeTree) → items_have_float (items_json types ts ty) ≡ false
  items-no_float types no_trees ty = refl
  items-no_float types (tree t ts) ty = neither _ _ (tree-no_float types t ty) (items-no_float types ts ty)

-- an answer has none
answer-no_float : (types : List TypeTree) (ty : TypeTree) (i : Id) (o : Outcome) → has_float (answer_data types ty i o) ≡ false
answer-no_float types ty i (outcome.Value t) = rw (has_float-id i, tree-no_float types t ty) refl
answer-no_float types ty i (outcome.Fault name t) = rw (has_float-id i, tree-no_float types t undefined) refl
answer-no_float types ty i (outcome.Refused reason) = rw (has_float-id i, integer-no_float (code_of reason)) refl

-- the text of a value that is known
written-as : {E : Type 0} (r : Result (List ℕ) E) (d e : Data) → d ≡ e → has_float e ≡ false → IfOk r (λ text. has_float d ≡ false → text ≡ compact_text d) → IfOk r (λ text. text ≡ compact_text e)
written-as r d e is none h =
    IfOk-weaker r (λ text. has_float d ≡ false → text ≡ compact_text d) (λ text. text ≡ compact_text e) (λ text k. k (ap has_float is ∙ none) ∙ ap compact_text is) h

pub early-written : {E : Type 0} (r : Result (List ℕ) E) (d : Data) (i : Id) (e : Early) → d ≡ early_data i e
    → IfOk r (λ text. has_float d ≡ false → text ≡ compact_text d) → IfOk r (λ text. text ≡ early_answer i e)
unfolding early_answer
early-written r d i e is h = written-as r d (early_data i e) is (has_float-early i e) h

pub answer-written : {E : Type 0} (r : Result (List ℕ) E) (d : Data) (types : List TypeTree) (ty : TypeTree) (i : Id) (o : Outcome) → d ≡ answer_data types ty i o
    → IfOk r (λ text. has_float d ≡ false → text ≡ compact_text d) → IfOk r (λ text. text ≡ answer types ty i o)
unfolding answer
answer-written r d types ty i o is h = written-as r d (answer_data types ty i o) is (answer-no_float types ty i o) h
