-- Where a tree breaks its type: the first node in preorder that does, by its path.
use Rattle.std.specs.Prelude.{◌≡◌, ℕ, suc, Bool, true, not, ◌&&◌, if◌then◌else◌, List, [], ◌∷◌, length}
use Rattle.std.specs.Prelude.{Option, None, Some, option_map, is_some}
use Rattle.jolie_trees.specs.Data.{Tree, node, Fields, no_fields, field, Trees, no_trees, tree}
use Rattle.jolie_trees.specs.declared.path.Step.{Step}
use Rattle.jolie_trees.specs.declared.root.Root.{Root}
use Rattle.behaviour_tree.specs.Data.{TypeTree, plain, named, undefined, TypeFields}
use Rattle.behaviour_tree.specs.declared.types.RootKind.{RootKind}
use Rattle.behaviour_tree.specs.Conforms.{shape, has_kind, counts_fit, field_type, fits, is_message, conforms}

-- there is a field for the name of each child
abbrev pub all_have_fields : Fields → TypeFields → Bool
all_have_fields no_fields fields = true
all_have_fields (field name no_trees rest) fields = all_have_fields rest fields
all_have_fields (field name (tree t ts) rest) fields = is_some (field_type name fields) && all_have_fields rest fields

-- the node itself breaks nothing: the root has the kind, the counts lie in their bounds, and each child has a field
abbrev pub fits_alone : RootKind → TypeFields → Root → Fields → Bool
fits_alone k fields r children = has_kind k r && counts_fit children fields && all_have_fields children fields

-- the first path that is there
abbrev pub first_of : Option (List Step) → Option (List Step) → Option (List Step)
first_of None later = later
first_of (Some p) later = Some p

-- the step to the node of a name and an index
abbrev pub step_to : List ℕ → ℕ → Step
step_to name index = record { name = name; index = Some index }

abbrev mutual
  -- the path of the first node in preorder that breaks its type, where there is one
  pub breach : List TypeTree → Tree → TypeTree → Option (List Step)
  breach types (node r children) ty =
      elim (shape types (length types) ty) [
        | None ↦ Some []
        | Some s ↦ elim s [
          | plain k fields ↦
              if fits_alone k fields r children then breach_of_children types children fields else Some []
          | named i ↦ Some []
          | undefined ↦ None
        ]
      ]

  -- the same of the children, by name
  pub breach_of_children : List TypeTree → Fields → TypeFields → Option (List Step)
  breach_of_children types no_fields fields = None
  breach_of_children types (field name ts rest) fields =
      first_of (breach_of_members types name 0 ts (field_type name fields)) (breach_of_children types rest fields)

  -- the same of the members of one name from an index on; those without a field are their parent's breach
  pub breach_of_members : List TypeTree → List ℕ → ℕ → Trees → Option TypeTree → Option (List Step)
  breach_of_members types name index no_trees ty = None
  breach_of_members types name index (tree t ts) None = None
  breach_of_members types name index (tree t ts) (Some ty) =
      first_of (option_map (λ path. step_to name index ∷ path) (breach types t ty))
      (breach_of_members types name (suc index) ts (Some ty))

-- the path of the breach, which is the root where the tree passes a limit of a message
abbrev pub first_breach : List TypeTree → Tree → TypeTree → Option (List Step)
first_breach types t ty = if is_message t then breach types t ty else Some []

-- there is a breach exactly where the tree does not fit
abbrev pub IsBreachUnlessFits : Type 0
IsBreachUnlessFits = (types : List TypeTree) (t : Tree) (ty : TypeTree)
    → is_some (breach types t ty) ≡ not (fits types t ty)

-- there is a first breach exactly where the tree does not conform
abbrev pub IsBreachUnlessConforms : Type 0
IsBreachUnlessConforms = (types : List TypeTree) (t : Tree) (ty : TypeTree)
    → is_some (first_breach types t ty) ≡ not (conforms types t ty)
