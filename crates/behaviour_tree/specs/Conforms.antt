-- When a tree is of a type, and the tree with its ints turned into longs where the type says so.
use Rattle.std.specs.Prelude.{ℕ, zero, suc, Bool, true, false, ◌&&◌, List, nat_le, Option, None}
use Rattle.std.specs.Prelude.{Some, option_and_then, slice_get, length, if◌then◌else◌, bytes_eq}
use Rattle.jolie_trees.specs.declared.root.Root.{Root}
use Rattle.jolie_trees.specs.declared.root.Root.TheVariants as root
use Rattle.jolie_trees.specs.Data.{Tree, node, Fields, no_fields, field, Trees, no_trees, tree}
use Rattle.jolie_trees.specs.Trees.{size, levels, text_bytes, under, count_of}
use Rattle.behaviour_tree.specs.declared.types.RootKind.{RootKind}
use Rattle.behaviour_tree.specs.declared.types.RootKind.TheVariants as kind
use Rattle.behaviour_tree.specs.Data.{TypeTree, plain, named, undefined, TypeFields, no_type_fields, type_field}

-- a type behind its names, which lead to a kind after at most as many steps as there are types
abbrev pub shape : List TypeTree → ℕ → TypeTree → Option TypeTree
shape types n (plain k fields) = Some (plain k fields)
shape types n undefined = Some undefined
shape types zero (named i) = None
shape types (suc n) (named i) = option_and_then (shape types n) (slice_get types i)

-- a root of the kind; an int is a long too
abbrev pub has_kind : RootKind → Root → Bool
has_kind kind.Any r = true
has_kind kind.Void root.Void = true
has_kind kind.Bool (root.Bool b) = true
has_kind kind.Int (root.Int n) = true
has_kind kind.Long (root.Int n) = true
has_kind kind.Long (root.Long n) = true
has_kind kind.Text (root.Text t) = true
has_kind k r = false

-- at most so many, any number where there is no bound
abbrev pub at_most : Option ℕ → ℕ → Bool
at_most None n = true
at_most (Some most) n = nat_le n most

-- each field's count lies in its bounds
abbrev pub counts_fit : Fields → TypeFields → Bool
counts_fit children no_type_fields = true
counts_fit children (type_field name least most ty rest) =
    nat_le least (count_of (under name children)) && at_most most (count_of (under name children))
    && counts_fit children rest

-- the type of the field of a name
abbrev pub field_type : List ℕ → TypeFields → Option TypeTree
field_type name no_type_fields = None
field_type name (type_field other least most ty rest) = if bytes_eq name other then Some ty else field_type name rest

abbrev mutual
  -- the root has the kind, each field's count lies in its bounds, its members fit, and no other child is there
  pub fits : List TypeTree → Tree → TypeTree → Bool
  fits types (node r children) ty =
      elim (shape types (length types) ty) [
        | Some (plain k fields) ↦ has_kind k r && counts_fit children fields && children_fit types children fields
        | Some undefined ↦ true
        | _ ↦ false
      ]

  -- the members of each name fit that field
  pub children_fit : List TypeTree → Fields → TypeFields → Bool
  children_fit types no_fields fields = true
  children_fit types (field name ts rest) fields =
      members_fit types ts (field_type name fields) && children_fit types rest fields

  -- members of a name for which there is no field do not fit
  pub members_fit : List TypeTree → Trees → Option TypeTree → Bool
  members_fit types no_trees ty = true
  members_fit types (tree t ts) None = false
  members_fit types (tree t ts) (Some ty) = fits types t ty && members_fit types ts (Some ty)

-- a tree within the limits of a message
abbrev pub is_message : Tree → Bool
is_message t = nat_le (size t) 4096 && nat_le (levels t) 64 && nat_le (text_bytes t) 65536

-- the tree is of the type and within the limits of a message
abbrev pub conforms : List TypeTree → Tree → TypeTree → Bool
conforms types t ty = is_message t && fits types t ty

-- an int becomes a long where the kind is long
abbrev pub wide_root : RootKind → Root → Root
wide_root kind.Long (root.Int n) = root.Long n
wide_root k r = r

abbrev mutual
  -- the tree with each int turned into a long where the type says long
  pub wide : List TypeTree → Tree → TypeTree → Tree
  wide types (node r children) ty =
      elim (shape types (length types) ty) [
        | Some (plain k fields) ↦ node (wide_root k r) (wide_children types children fields)
        | _ ↦ node r children
      ]

  -- the same of the children, by their fields
  pub wide_children : List TypeTree → Fields → TypeFields → Fields
  wide_children types no_fields fields = no_fields
  wide_children types (field name ts rest) fields =
      field name (wide_members types ts (field_type name fields)) (wide_children types rest fields)

  -- the same of the members of one name
  pub wide_members : List TypeTree → Trees → Option TypeTree → Trees
  wide_members types no_trees ty = no_trees
  wide_members types (tree t ts) None = tree t ts
  wide_members types (tree t ts) (Some ty) = tree (wide types t ty) (wide_members types ts (Some ty))
