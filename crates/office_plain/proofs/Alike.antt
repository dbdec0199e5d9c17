-- What a widened tree has at a path is equal by `==` to what the tree has there.
use Rattle.std.proofs.Common.{◌≡◌, ℕ, ℤ, Bool, true, false, List, [], ◌∷◌, length, map, refl, Option, None, Some, option_map}
use Rattle.std.specs.Prelude.{bytes_eq, option_and_then, if◌then◌else◌}
use Rattle.jolie_trees.specs.Data.{Tree, node, Fields, no_fields, field, Trees, no_trees, tree}
use Rattle.jolie_trees.specs.Trees.{root_of, under, nth, get}
use Rattle.jolie_trees.specs.declared.root.Root.{Root}
use Rattle.jolie_trees.specs.declared.root.Root.TheVariants as root
use Rattle.behaviour_tree.specs.Data.{TypeTree, plain, named, undefined, TypeFields}
use Rattle.behaviour_tree.specs.declared.types.RootKind.{RootKind}
use Rattle.behaviour_tree.specs.declared.types.RootKind.TheVariants as kind
use Rattle.behaviour_tree.specs.Comparisons.{same}
use Rattle.behaviour_tree.specs.Conforms.{shape, field_type, wide_root, wide, wide_children, wide_members}
use Rattle.behaviour_tree.specs.Values.{stepped}
use Rattle.behaviour_tree.proofs.Shapes.{wide_at}
use Rattle.office_core.specs.Keys.{Variable, alias_of, value_at, value_of}

-- ---- values

-- `==` finds the two equal to the same values
abbrev pub IsAlike : Root → Root → Type 0
IsAlike x y = (k : Root) → same k x ≡ same k y

-- the same of values that may be there
abbrev pub AreAlike : Option Root → Option Root → Type 0
AreAlike None None = Unit {0}
AreAlike None (Some y) = ⊥
AreAlike (Some x) None = ⊥
AreAlike (Some x) (Some y) = IsAlike x y

themselves : (o : Option Root) → AreAlike o o
themselves None = tt
themselves (Some x) = λ k. refl

int_as_long : (n : ℤ) (k : Root) → same k (root.Int n) ≡ same k (root.Long n)
int_as_long n root.Void = refl
int_as_long n (root.Bool true) = refl
int_as_long n (root.Bool false) = refl
int_as_long n (root.Int a) = refl
int_as_long n (root.Long a) = refl
int_as_long n (root.Text t) = refl

root_widened : (k : RootKind) (r : Root) → IsAlike r (wide_root k r)
root_widened kind.Long (root.Int n) = int_as_long n
root_widened k r = λ j. refl

-- ---- trees

-- what stands at a path in the first of some trees
abbrev first_at : List (List ℕ) → Trees → Option Root
first_at path ts = option_map root_of (option_and_then (get (map (λ name. stepped name None) path)) (nth 0 ts))

-- a tree has at a path what it has there when it is widened by any type
abbrev StaysAlike : List TypeTree → List (List ℕ) → Type 0
StaysAlike types path = (t : Tree) (ty : TypeTree) → AreAlike (value_at t path) (value_at (wide types t ty) path)

members_alike : (types : List TypeTree) (path : List (List ℕ)) → StaysAlike types path
    → (ts : Trees) (o : Option TypeTree)
    → AreAlike (first_at path ts) (first_at path (wide_members types ts o))
members_alike types path each no_trees o = tt
members_alike types path each (tree t ts) None = themselves (value_at t path)
members_alike types path each (tree t ts) (Some ty) = each t ty

children_alike : (types : List TypeTree) (name : List ℕ) (path : List (List ℕ)) → StaysAlike types path
    → (fs : Fields) (fields : TypeFields)
    → AreAlike (first_at path (under name fs)) (first_at path (under name (wide_children types fs fields)))
children_alike types name path each no_fields fields = tt
children_alike types name path each (field other ts fs) fields =
    by (bytes_eq name other) (children_alike types name path each fs fields)
  where
    by : (b : Bool)
        → AreAlike (first_at path (under name fs)) (first_at path (under name (wide_children types fs fields)))
        → AreAlike (first_at path (if b then ts else under name fs))
        (first_at path (if b then wide_members types ts (field_type other fields)
        else under name (wide_children types fs fields)))
    by true h = members_alike types path each ts (field_type other fields)
    by false h = h

root_alike : (types : List TypeTree) (t : Tree) (ty : TypeTree) → IsAlike (root_of t) (root_of (wide types t ty))
root_alike types (node r fs) ty = by (shape types (length types) ty)
  where
    by : (o : Option TypeTree) → IsAlike r (root_of (wide_at types r fs o))
    by None = λ k. refl
    by (Some (plain k fields)) = root_widened k r
    by (Some (named i)) = λ k. refl
    by (Some undefined) = λ k. refl

node_alike : (types : List TypeTree) (name : List ℕ) (path : List (List ℕ)) → StaysAlike types path
    → StaysAlike types (name ∷ path)
node_alike types name path each (node r fs) ty = by (shape types (length types) ty)
  where
    by : (o : Option TypeTree)
        → AreAlike (value_at (node r fs) (name ∷ path)) (value_at (wide_at types r fs o) (name ∷ path))
    by None = themselves (value_at (node r fs) (name ∷ path))
    by (Some (plain k fields)) = children_alike types name path each fs fields
    by (Some (named i)) = themselves (value_at (node r fs) (name ∷ path))
    by (Some undefined) = themselves (value_at (node r fs) (name ∷ path))

path_alike : (types : List TypeTree) (path : List (List ℕ)) → StaysAlike types path
path_alike types [] t ty = root_alike types t ty
path_alike types (name ∷ path) t ty = node_alike types name path (path_alike types path) t ty

-- a tree of a type has of a variable what it has when it is widened
pub value_alike : (types : List TypeTree) (by ty : TypeTree) (t : Tree) (v : Variable)
    → AreAlike (value_of ty t v) (value_of ty (wide types t by) v)
value_alike types by ty t v = at (alias_of ty v)
  where
    at : (o : Option (List (List ℕ)))
        → AreAlike (option_and_then (value_at t) o) (option_and_then (value_at (wide types t by)) o)
    at None = tt
    at (Some path) = path_alike types path t by
