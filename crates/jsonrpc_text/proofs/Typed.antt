-- A tree of a type that says the kind of each root, read back and widened.
use Rattle.std.proofs.Common.{◌≡◌, refl, ℕ, ℤ, zero, suc, List, [], ◌∷◌, Option, None, Some, Bool, true, false, length, bytes_eq, if◌then◌else◌}
use Rattle.std.specs.Prelude.{◌&&◌, int_le, negsuc, pos, slice_get, option_and_then}
use Rattle.std.proofs.lemmas.Bool.{false≢true}
use Rattle.jolie_trees.specs.declared.root.Root.{Root}
use Rattle.jolie_trees.specs.declared.root.Root.TheVariants as root
use Rattle.jolie_trees.specs.Data.{Tree, node, Fields, no_fields, field, Trees, no_trees, tree}
use Rattle.behaviour_tree.specs.declared.types.RootKind.{RootKind}
use Rattle.behaviour_tree.specs.declared.types.RootKind.TheVariants as kind
use Rattle.behaviour_tree.specs.Data.{TypeTree, plain, named, undefined, TypeFields, no_type_fields, type_field}
use Rattle.behaviour_tree.specs.Conforms.{shape, has_kind, counts_fit, field_type, fits, children_fit, members_fit, wide_root, wide_children, wide_members}
use Rattle.behaviour_tree.proofs.Shapes.{fits_at, wide_at}
use Rattle.jsonrpc_text.specs.Laws.{root_read_back, fields_read_back, trees_read_back, is_exact, are_exact, all_exact, TypedTreesReadBack}
use Rattle.jsonrpc_text.proofs.ReadBack.{and-left, and-right}

-- ---- roots

long-choice : (b : Bool) (z : ℤ) → wide_root kind.Long (if b then root.Int z else root.Long z) ≡ root.Long z
long-choice true z = refl
long-choice false z = refl

exact-fields : (k : RootKind) (fields : TypeFields) → is_exact (plain k fields) ≡ true → are_exact fields ≡ true
exact-fields kind.Void fields h = h
exact-fields kind.Bool fields h = h
exact-fields kind.Int fields h = h
exact-fields kind.Long fields h = h
exact-fields kind.Text fields h = h
exact-fields kind.Any fields h = absurd (false≢true h)

root-wide : (k : RootKind) (fields : TypeFields) (r : Root) → is_exact (plain k fields) ≡ true → has_kind k r ≡ true → wide_root k (root_read_back r) ≡ wide_root k r
root-wide kind.Any fields r h fit = absurd (false≢true h)
root-wide kind.Void fields root.Void h fit = refl
root-wide kind.Void fields (root.Bool b) h fit = refl
root-wide kind.Void fields (root.Int z) h fit = refl
root-wide kind.Void fields (root.Long z) h fit = absurd (false≢true fit)
root-wide kind.Void fields (root.Text t) h fit = refl
root-wide kind.Bool fields root.Void h fit = refl
root-wide kind.Bool fields (root.Bool b) h fit = refl
root-wide kind.Bool fields (root.Int z) h fit = refl
root-wide kind.Bool fields (root.Long z) h fit = absurd (false≢true fit)
root-wide kind.Bool fields (root.Text t) h fit = refl
root-wide kind.Int fields root.Void h fit = refl
root-wide kind.Int fields (root.Bool b) h fit = refl
root-wide kind.Int fields (root.Int z) h fit = refl
root-wide kind.Int fields (root.Long z) h fit = absurd (false≢true fit)
root-wide kind.Int fields (root.Text t) h fit = refl
root-wide kind.Long fields root.Void h fit = refl
root-wide kind.Long fields (root.Bool b) h fit = refl
root-wide kind.Long fields (root.Int z) h fit = refl
root-wide kind.Long fields (root.Long z) h fit = long-choice (int_le (negsuc 2147483647) z && int_le z (pos 2147483647)) z
root-wide kind.Long fields (root.Text t) h fit = refl
root-wide kind.Text fields root.Void h fit = refl
root-wide kind.Text fields (root.Bool b) h fit = refl
root-wide kind.Text fields (root.Int z) h fit = refl
root-wide kind.Text fields (root.Long z) h fit = absurd (false≢true fit)
root-wide kind.Text fields (root.Text t) h fit = refl

-- ---- types behind names

-- a type that is there is exact
abbrev IsExact : Option TypeTree → Type 0
IsExact None = Unit {0}
IsExact (Some ty) = is_exact ty ≡ true

get-exact : (types : List TypeTree) (i : ℕ) → all_exact types ≡ true → IsExact (slice_get types i)
get-exact [] i h = tt
get-exact (ty ∷ types) zero h = and-left (is_exact ty) (all_exact types) h
get-exact (ty ∷ types) (suc i) h = get-exact types i (and-right (is_exact ty) (all_exact types) h)

then-exact : (f : TypeTree → Option TypeTree) (o : Option TypeTree) → IsExact o → ((ty : TypeTree) → is_exact ty ≡ true → IsExact (f ty)) → IsExact (option_and_then f o)
then-exact f None h k = tt
then-exact f (Some ty) h k = k ty h

shape-exact : (types : List TypeTree) (n : ℕ) (ty : TypeTree) → all_exact types ≡ true → is_exact ty ≡ true → IsExact (shape types n ty)
shape-exact types zero (plain k fields) h e = e
shape-exact types zero undefined h e = e
shape-exact types zero (named i) h e = tt
shape-exact types (suc n) (plain k fields) h e = e
shape-exact types (suc n) undefined h e = e
shape-exact types (suc n) (named i) h e = then-exact (shape types n) (slice_get types i) (get-exact types i h) (λ ty k. shape-exact types n ty h k)

field-exact_if : (b : Bool) (ty : TypeTree) (o : Option TypeTree) → is_exact ty ≡ true → IsExact o → IsExact (if b then Some ty else o)
field-exact_if true ty o h k = h
field-exact_if false ty o h k = k

field-exact : (name : List ℕ) (fields : TypeFields) → are_exact fields ≡ true → IsExact (field_type name fields)
field-exact name no_type_fields h = tt
field-exact name (type_field other least most ty fields) h =
    field-exact_if (bytes_eq name other) ty (field_type name fields) (and-left (is_exact ty) (are_exact fields) h) (field-exact name fields (and-right (is_exact ty) (are_exact fields) h))

-- ---- trees

two : (r q : Root) (fs gs : Fields) → r ≡ q → fs ≡ gs → node r fs ≡ node q gs
two r q fs gs h k = rw (h, k) refl

node-typed : (types : List TypeTree) (r : Root) (fs : Fields) (o : Option TypeTree) → IsExact o → fits_at types r fs o ≡ true
    → ((fields : TypeFields) → are_exact fields ≡ true → children_fit types fs fields ≡ true → wide_children types (fields_read_back fs) fields ≡ wide_children types fs fields)
    → wide_at types (root_read_back r) (fields_read_back fs) o ≡ wide_at types r fs o
node-typed types r fs None e fit below = absurd (false≢true fit)
node-typed types r fs (Some (plain k fields)) e fit below =
    let front = and-left (has_kind k r && counts_fit fs fields) (children_fit types fs fields) fit in
    two _ _ _ _ (root-wide k fields r e (and-left (has_kind k r) (counts_fit fs fields) front))
    (below fields (exact-fields k fields e) (and-right (has_kind k r && counts_fit fs fields) (children_fit types fs fields) fit))
node-typed types r fs (Some (named i)) e fit below = absurd (false≢true fit)
node-typed types r fs (Some undefined) e fit below = absurd (false≢true e)

two_fields : (name : List ℕ) (ts us : Trees) (fs gs : Fields) → ts ≡ us → fs ≡ gs → field name ts fs ≡ field name us gs
two_fields name ts us fs gs h k = rw (h, k) refl

two_trees : (t u : Tree) (ts us : Trees) → t ≡ u → ts ≡ us → tree t ts ≡ tree u us
two_trees t u ts us h k = rw (h, k) refl

mutual
  pub typed-back : TypedTreesReadBack
  typed-back types (node r fs) ty h e fit =
      node-typed types r fs (shape types (length types) ty) (shape-exact types (length types) ty h e) fit (λ fields k below. children-typed types fs fields h k below)

  children-typed : (types : List TypeTree) (fs : Fields) (fields : TypeFields) → all_exact types ≡ true → are_exact fields ≡ true → children_fit types fs fields ≡ true
      → wide_children types (fields_read_back fs) fields ≡ wide_children types fs fields
  children-typed types no_fields fields h e fit = refl
  children-typed types (field name ts fs) fields h e fit =
      two_fields name _ _ _ _
      (members-typed types ts (field_type name fields) h (field-exact name fields e) (and-left (members_fit types ts (field_type name fields)) (children_fit types fs fields) fit))
      (children-typed types fs fields h e (and-right (members_fit types ts (field_type name fields)) (children_fit types fs fields) fit))

  members-typed : (types : List TypeTree) (ts : Trees) (o : Option TypeTree) → all_exact types ≡ true → IsExact o → members_fit types ts o ≡ true
      → wide_members types (trees_read_back ts) o ≡ wide_members types ts o
  members-typed types no_trees o h e fit = refl
  members-typed types (tree t ts) None h e fit = absurd (false≢true fit)
  members-typed types (tree t ts) (Some ty) h e fit =
      two_trees _ _ _ _ (typed-back types t ty h e (and-left (fits types t ty) (members_fit types ts (Some ty)) fit))
      (members-typed types ts (Some ty) h e (and-right (fits types t ty) (members_fit types ts (Some ty)) fit))
