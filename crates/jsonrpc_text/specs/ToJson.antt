-- The JSON of a tree under a type.
use Rattle.std.specs.Prelude.{ℕ, suc, nat_le, Bool, true, false, not, ◌||◌, if◌then◌else◌, List, length, bytes_eq}
use Rattle.std.specs.Prelude.{Option, None, Some}
use Rattle.std.specs.Option.{option_map_or}
use Rattle.serde_json.specs.Data.{Data, null, boolean, number, string, array, object}
use Rattle.serde_json.specs.Data.{Items, no_items, item, Members, no_members, member, put}
use Rattle.serde_json.specs.Find.{of_integer}
use Rattle.jolie_trees.specs.declared.root.Root.{Root}
use Rattle.jolie_trees.specs.declared.root.Root.TheVariants as root
use Rattle.jolie_trees.specs.Data.{Tree, node, Fields, no_fields, field, Trees, no_trees, tree}
use Rattle.jolie_trees.specs.Trees.{count_of}
use Rattle.behaviour_tree.specs.Data.{TypeTree, plain, undefined, TypeFields, no_type_fields, type_field}
use Rattle.behaviour_tree.specs.Conforms.{shape, at_most}
use Rattle.jsonrpc_text.specs.FromJson.{root_name}

-- a root as a value: void is null
abbrev pub root_data : Root → Data
root_data root.Void = null
root_data (root.Bool b) = boolean b
root_data (root.Int z) = number (of_integer z)
root_data (root.Long z) = number (of_integer z)
root_data (root.Text text) = string text

-- members with a node's root as the member `$`, which a void root leaves out
abbrev pub with_root : Root → Members → Members
with_root root.Void ms = ms
with_root r ms = put root_name (root_data r) ms

-- what a type says of the members of one name: how many there may be at most (None is any number), and their type
pub record FieldPart : Type 0 where
  pub most : Option ℕ
  pub ty : TypeTree

-- the field of a name
abbrev pub field_part : List ℕ → TypeFields → Option FieldPart
field_part name no_type_fields = None
field_part name (type_field other least most ty rest) =
    if bytes_eq name other then Some (record { most = most; ty = ty }) else field_part name rest

-- the fields of the type behind the names, where it has any
abbrev pub fields_behind : Option TypeTree → TypeFields
fields_behind (Some (plain k fields)) = fields
fields_behind ty = no_type_fields

-- the fields of a type
abbrev pub fields_of_type : List TypeTree → TypeTree → TypeFields
fields_of_type types ty = fields_behind (shape types (length types) ty)

-- a field that allows more than one occurrence
abbrev pub repeats : Option FieldPart → Bool
repeats None = false
repeats (Some f) = not (option_map_or (λ n. nat_le n 1) f.most false)

-- the type under which so many members of one name are written: that of their field where it allows
-- as many or more than one, else undefined
abbrev pub member_type : Option FieldPart → ℕ → TypeTree
member_type None n = undefined
member_type (Some f) n = if repeats (Some f) || at_most f.most n then f.ty else undefined

-- whether there are trees
abbrev pub are_there : Trees → Bool
are_there no_trees = false
are_there (tree t ts) = true

abbrev mutual
  -- a node without children is its root, another is an object of its children and its root
  pub json_of : List TypeTree → Tree → TypeTree → Data
  json_of types (node r no_fields) ty = root_data r
  json_of types (node r (field name ts fs)) ty =
      object (with_root r (members_json types (field name ts fs) (fields_of_type types ty)))

  -- the children as members
  pub members_json : List TypeTree → Fields → TypeFields → Members
  members_json types no_fields fields = no_members
  members_json types (field name ts fs) fields =
      member name (vector_json types ts (field_part name fields)) (members_json types fs fields)

  -- the members of one name: an array where their field may repeat or where there are several, else the one
  pub vector_json : List TypeTree → Trees → Option FieldPart → Data
  vector_json types no_trees f = array no_items
  vector_json types (tree t ts) f =
      if repeats f || are_there ts
      then array (item (json_of types t (member_type f (suc (count_of ts))))
      (items_json types ts (member_type f (suc (count_of ts)))))
      else json_of types t (member_type f (suc (count_of ts)))

  -- the trees of a vector in order
  pub items_json : List TypeTree → Trees → TypeTree → Items
  items_json types no_trees ty = no_items
  items_json types (tree t ts) ty = item (json_of types t ty) (items_json types ts ty)
