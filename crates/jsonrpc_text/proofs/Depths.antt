-- How deep the JSON of a tree and an answer nest.
use Rattle.std.proofs.Common.{◌≡◌, refl, ℕ, suc, ◌≤◌, ◌+◌, ◌*◌, ◌-◌, arith, List, Option, Bool, true, false, not, bytes_eq, nat_cmp, Less, Equal, Greater, if◌then◌else◌}
use Rattle.std.specs.Prelude.{◌&&◌, ◌||◌}
use Rattle.std.proofs.lemmas.Bool.{false≢true}
use Rattle.std.specs.declared.cmp.Ordering.{Ordering}
use Rattle.std.specs.Ordering.{match_ordering}
use Rattle.std.specs.Cmp.Lexicographic.{slice_cmp}
use Rattle.serde_json.specs.Data.{Data, Members, no_members, member, put, depth, items_depth, members_depth}
use Rattle.jolie_trees.specs.declared.root.Root.{Root}
use Rattle.jolie_trees.specs.declared.root.Root.TheVariants as root
use Rattle.jolie_trees.specs.Data.{Tree, node, Fields, no_fields, field, Trees, no_trees, tree}
use Rattle.jolie_trees.specs.Trees.{levels, fields_levels, trees_levels, count_of}
use Rattle.behaviour_tree.specs.Data.{TypeTree, TypeFields, undefined}
use Rattle.behaviour_tree.specs.declared.words.Outcome.TheVariants as outcome
use Rattle.jsonrpc_text.specs.declared.message.Id.TheVariants as id
use Rattle.jsonrpc_text.specs.declared.message.Id.{Id}
use Rattle.jsonrpc_text.specs.FromJson.{root_name}
use Rattle.jsonrpc_text.specs.ToJson.{root_data, with_root, FieldPart, field_part, fields_of_type, repeats, member_type, are_there, json_of, members_json, vector_json, items_json}
use Rattle.jsonrpc_text.specs.Responses.{id_data}
use Rattle.jsonrpc_text.specs.Laws.{is_in_range, can_be_written, fields_can_be_written, trees_can_be_written, AnswersAreShallow}
use Rattle.jsonrpc_text.proofs.ReadBack.{and-left, and-right}

root-flat : (r : Root) → depth (root_data r) ≡ 0
root-flat root.Void = refl
root-flat (root.Bool b) = refl
root-flat (root.Int z) = refl
root-flat (root.Long z) = refl
root-flat (root.Text t) = refl

put-flat_at : (o : Ordering) (k l : List ℕ) (d e : Data) (ms : Members) → depth d ≡ 0 → members_depth (put k d ms) ≤ members_depth ms
    → members_depth (match_ordering o (member k d (member l e ms)) (member l d ms) (member l e (put k d ms))) ≤ members_depth (member l e ms)
put-flat_at Less k l d e ms h later = omega (arith, h)
put-flat_at Equal k l d e ms h later = omega (arith, h)
put-flat_at Greater k l d e ms h later = omega (arith, later)

-- a member without depth makes no object deeper
put-flat : (k : List ℕ) (d : Data) (ms : Members) → depth d ≡ 0 → members_depth (put k d ms) ≤ members_depth ms
put-flat k d no_members h = omega (arith, h)
put-flat k d (member l e ms) h = put-flat_at (slice_cmp nat_cmp k l) k l d e ms h (put-flat k d ms h)

with_root-flat : (r : Root) (ms : Members) → members_depth (with_root r ms) ≤ members_depth ms
with_root-flat root.Void ms = omega arith
with_root-flat (root.Bool b) ms = put-flat root_name _ ms refl
with_root-flat (root.Int z) ms = put-flat root_name _ ms refl
with_root-flat (root.Long z) ms = put-flat root_name _ ms refl
with_root-flat (root.Text t) ms = put-flat root_name _ ms refl

some-level : (t : Tree) → 1 ≤ levels t
some-level (node r fs) = omega arith

choice-depth : (b : Bool) (a d : Data) (n : ℕ) → depth a ≤ n → depth d ≤ n → depth (if b then a else d) ≤ n
choice-depth true a d n h k = h
choice-depth false a d n h k = k

some-levels : (name : List ℕ) (ts : Trees) (fs : Fields) → fields_can_be_written (field name ts fs) ≡ true → 1 ≤ fields_levels (field name ts fs)
some-levels name no_trees fs h =
    absurd (false≢true (and-right (not (bytes_eq name root_name)) false (and-left (not (bytes_eq name root_name) && false) true (and-left (not (bytes_eq name root_name) && false && true) (fields_can_be_written fs) h))))
some-levels name (tree t ts) fs h = omega (arith, some-level t)

-- a vector, where its trees are not too deep
vector-depth : (types : List TypeTree) (t : Tree) (ts : Trees) (f : Option FieldPart)
    → depth (json_of types t (member_type f (suc (count_of ts)))) + 2 ≤ 2 * levels t
    → items_depth (items_json types ts (member_type f (suc (count_of ts)))) ≤ 2 * trees_levels ts - 2
    → depth (vector_json types (tree t ts) f) ≤ 2 * trees_levels (tree t ts) - 1
vector-depth types t ts f here there = choice-depth (repeats f || are_there ts) _ _ _ (omega (arith, here, there, some-level t)) (omega (arith, here, some-level t))

mutual
  json-depth : (types : List TypeTree) (t : Tree) (ty : TypeTree) → can_be_written t ≡ true → depth (json_of types t ty) + 2 ≤ 2 * levels t
  json-depth types (node r no_fields) ty h = omega (arith, root-flat r)
  json-depth types (node r (field name ts fs)) ty h =
      let below = members-depth types (field name ts fs) (fields_of_type types ty) (and-right (is_in_range r) (fields_can_be_written (field name ts fs)) h) in
      let flat = with_root-flat r (members_json types (field name ts fs) (fields_of_type types ty)) in
      omega (arith, below, flat, some-levels name ts fs (and-right (is_in_range r) (fields_can_be_written (field name ts fs)) h))

  members-depth : (types : List TypeTree) (fs : Fields) (fields : TypeFields) → fields_can_be_written fs ≡ true → members_depth (members_json types fs fields) ≤ 2 * fields_levels fs - 1
  members-depth types no_fields fields h = omega arith
  members-depth types (field name no_trees fs) fields h =
      absurd (false≢true (and-right (not (bytes_eq name root_name)) false (and-left (not (bytes_eq name root_name) && false) true (and-left (not (bytes_eq name root_name) && false && true) (fields_can_be_written fs) h))))
  members-depth types (field name (tree t ts) fs) fields h =
      let front = and-left (not (bytes_eq name root_name) && true && trees_can_be_written (tree t ts)) (fields_can_be_written fs) h in
      let trees = and-right (not (bytes_eq name root_name) && true) (trees_can_be_written (tree t ts)) front in
      let rest = and-right (not (bytes_eq name root_name) && true && trees_can_be_written (tree t ts)) (fields_can_be_written fs) h in
      omega (
        arith,
        vector-depth types t ts (field_part name fields)
            (json-depth types t (member_type (field_part name fields) (suc (count_of ts))) (and-left (can_be_written t) (trees_can_be_written ts) trees))
            (items-depth types ts (member_type (field_part name fields) (suc (count_of ts))) (and-right (can_be_written t) (trees_can_be_written ts) trees)),
        members-depth types fs fields rest,
        some-level t,
      )

  items-depth : (types : List TypeTree) (ts : Trees) (ty : TypeTree) → trees_can_be_written ts ≡ true → items_depth (items_json types ts ty) ≤ 2 * trees_levels ts - 2
  items-depth types no_trees ty h = omega arith
  items-depth types (tree t ts) ty h =
      omega (arith, json-depth types t ty (and-left (can_be_written t) (trees_can_be_written ts) h), items-depth types ts ty (and-right (can_be_written t) (trees_can_be_written ts) h), some-level t)

id-flat : (i : Id) → depth (id_data i) ≡ 0
id-flat id.Null = refl
id-flat (id.Int z) = refl
id-flat (id.Big n) = refl
id-flat (id.Text s) = refl
id-flat id.None = refl

pub answer-shallow : AnswersAreShallow
answer-shallow types ty i (outcome.Value t) h = omega (arith, json-depth types t ty h.0, h.1, id-flat i)
answer-shallow types ty i (outcome.Fault name t) h = omega (arith, json-depth types t undefined h.0, h.1, id-flat i)
answer-shallow types ty i (outcome.Refused reason) h = omega (arith, id-flat i)
