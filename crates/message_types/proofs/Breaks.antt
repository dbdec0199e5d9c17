-- The breach of a node, of children and of members, as a walk over them finds it.
use Rattle.std.proofs.Common.{◌≡◌, ◌∙◌, ℕ, zero, suc, ◌<◌, ◌≤◌, List, [], ◌∷◌, map, length, get_or, Option, None, Some, true, false, refl, ap, sym, arith}
use Rattle.std.proofs.lemmas.Bool.Decides.{nat_tests}
use Rattle.std.proofs.lemmas.List.{length-map}
use Rattle.std.specs.Prelude.{◌&&◌, ◌||◌, ◌==◌, is_some, if◌then◌else◌}
use Rattle.jolie_trees.specs.Data.{Tree, node, Fields, field, Trees, no_trees, tree}
use Rattle.jolie_trees.specs.declared.path.Step.{Step}
use Rattle.jolie_trees.specs.declared.root.Root.{Root}
use Rattle.jolie_trees.specs.Trees.{children_of, root_of, size, trees_size}
use Rattle.jolie_trees.specs.TreeView.{trees_of}
use Rattle.behaviour_tree.specs.Data.{TypeTree, plain, named, undefined, TypeFields}
use Rattle.behaviour_tree.specs.Conforms.{shape, field_type}
use Rattle.behaviour_tree.specs.View.{type_view}
use Rattle.behaviour_tree.specs.declared.types.RootKind.{RootKind}
use Rattle.behaviour_tree.specs.declared.types.TypeDef.{TypeDef}
use Rattle.message_types.specs.Breaches.{all_have_fields, fits_alone, breach, breach_of_children, breach_of_members}

-- the path of the breach of a node, by the type behind its names
abbrev pub breach_at : List TypeTree → Root → Fields → Option TypeTree → Option (List Step)
breach_at types r children o =
    elim o [
      | None ↦ Some []
      | Some s ↦ elim s [
        | plain k fields ↦ if fits_alone k fields r children then breach_of_children types children fields else Some []
        | named i ↦ Some []
        | undefined ↦ None
      ]
    ]

pub breach-by : (types : List TypeDef) (t : Tree) (ty : TypeTree) (s : Option TypeTree) → s ≡ shape (map type_view types) (length types) ty
    → breach_at (map type_view types) (root_of t) (children_of t) s ≡ breach (map type_view types) t ty
breach-by types (node r children) ty s h =
    let all = map type_view types in
    ap (breach_at all r children) (h ∙ ap (λ n. shape all n ty) (sym (length-map types type_view)))

-- equal types have equal fields
pub same_fields : (k : RootKind) (a b : TypeFields) → plain k a ≡ plain k b → a ≡ b
same_fields k a b h = cc

-- a node that breaks nothing itself has the breach of its children
pub breach-below : (types : List TypeDef) (t : Tree) (ty : TypeTree) (k : RootKind) (fields : TypeFields) → Some (plain k fields) ≡ shape (map type_view types) (length types) ty
    → fits_alone k fields (root_of t) (children_of t) ≡ true → breach_of_children (map type_view types) (children_of t) fields ≡ breach (map type_view types) t ty
breach-below types t ty k fields h fit =
    ap (λ b. if b then breach_of_children (map type_view types) (children_of t) fields else Some []) (sym fit) ∙ breach-by types t ty (Some (plain k fields)) h

pub breach-here : (types : List TypeDef) (t : Tree) (ty : TypeTree) (k : RootKind) (fields : TypeFields) → Some (plain k fields) ≡ shape (map type_view types) (length types) ty
    → fits_alone k fields (root_of t) (children_of t) ≡ false → Some [] ≡ breach (map type_view types) t ty
breach-here types t ty k fields h fit =
    ap (λ b. if b then breach_of_children (map type_view types) (children_of t) fields else Some []) (sym fit) ∙ breach-by types t ty (Some (plain k fields)) h

-- a name has a field, or there is no member that wants one
pub all_have_fields-step : (name : List ℕ) (ts : List Tree) (rest : Fields) (fields : TypeFields)
    → all_have_fields (field name (trees_of ts) rest) fields ≡ ((length ts == 0 || is_some (field_type name fields)) && all_have_fields rest fields)
all_have_fields-step name [] rest fields = refl
all_have_fields-step name (t ∷ ts) rest fields = let more : (length (t ∷ ts) == 0) ≡ false = grind (arith, nat_tests) in rw more refl

pub all_have_fields-refused : (name : List ℕ) (ts : List Tree) (rest : Fields) (fields : TypeFields) → false ≡ (length ts == 0 || is_some (field_type name fields))
    → false ≡ all_have_fields (field name (trees_of ts) rest) fields
all_have_fields-refused name ts rest fields h = ap (λ b. b && all_have_fields rest fields) h ∙ sym (all_have_fields-step name ts rest fields)

-- members without a field are their parent's breach
pub breach_of_members-none : (types : List TypeTree) (name : List ℕ) (index : ℕ) (ts : Trees) → None ≡ breach_of_members types name index ts None
breach_of_members-none types name index no_trees = refl
breach_of_members-none types name index (tree t ts) = refl

pub size-some : (t : Tree) → 1 ≤ size t
size-some (node r fs) = omega arith

-- a member has no more nodes than all together
pub size-member : (ts : List Tree) (i : ℕ) (t : Tree) → i < length ts → t ≡ get_or ts i t → size t ≤ trees_size (trees_of ts)
size-member [] i t h is = absurd (omega (arith, h))
size-member (u ∷ ts) zero t h is = let e : size t ≡ size u = ap size is in omega (arith, e)
size-member (u ∷ ts) (suc i) t h is = omega (arith, size-member ts i t (omega (arith, h)) is)

-- there are no more members than nodes
pub length-members : (ts : List Tree) → length ts ≤ trees_size (trees_of ts)
length-members [] = omega arith
length-members (t ∷ ts) = omega (arith, size-some t, length-members ts)
