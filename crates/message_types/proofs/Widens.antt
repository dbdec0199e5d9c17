-- The tree that is widened field by field, and member by member.
use Rattle.std.proofs.Common.{◌≡◌, ◌∙◌, ℕ, zero, suc, ◌+◌, ◌<◌, ◌≤◌, max, List, [], ◌∷◌, ◌++◌, map, length, take, drop, get_or, Option, None, Some, Bool, true, false, refl, ap, sym, subst, arith, nat_cmp, Less}
use Rattle.std.proofs.lemmas.Cmp.{nat_list_eq_equiv}
use Rattle.std.proofs.lemmas.List.{length-map}
use Rattle.std.proofs.lemmas.Slice.Eq.{bytes_eq-Decides}
use Rattle.std.proofs.lemmas.Bool.{false≢true}
use Rattle.std.specs.Cmp.Lexicographic.{slice_cmp, texts_ties}
use Rattle.std.specs.List.{AllByRecursion}
use Rattle.std.specs.List.Sorted.{IsStrictlySortedBy}
use Rattle.std.specs.Borrow.{Bor}
use Rattle.std.specs.Option.{option_copied}
use Rattle.std.specs.Prelude.{bytes_eq, is_some, option_map, if◌then◌else◌}
use Rattle.jolie_trees.specs.Data.{Tree, node, Fields, no_fields, field, Trees, no_trees, tree}
use Rattle.jolie_trees.specs.Trees.{children_of, names_of, root_of, under, levels, fields_levels, trees_levels}
use Rattle.jolie_trees.specs.Lending.{replaced_under, with_members}
use Rattle.jolie_trees.specs.TreeView.{trees_of}
use Rattle.jolie_trees.specs.declared.root.Root.{Root}
use Rattle.behaviour_tree.specs.Data.{TypeTree, plain, named, undefined, TypeFields}
use Rattle.behaviour_tree.specs.Conforms.{shape, field_type, wide, wide_root, wide_children, wide_members}
use Rattle.behaviour_tree.specs.View.{FieldView, field_view, type_fields_of, type_view}
use Rattle.behaviour_tree.specs.declared.types.Field.{Field}
use Rattle.behaviour_tree.specs.declared.types.TypeDef.{TypeDef}
use Rattle.behaviour_tree.proofs.Shapes.{wide_at}

-- ---- a node

pub wide-by : (types : List TypeDef) (t : Tree) (ty : TypeTree) (s : Option TypeTree) → s ≡ shape (map type_view types) (length types) ty
    → wide_at (map type_view types) (root_of t) (children_of t) s ≡ wide (map type_view types) t ty
wide-by types (node r children) ty s h =
    let all = map type_view types in
    ap (wide_at all r children) (h ∙ ap (λ n. shape all n ty) (sym (length-map types type_view)))

pub whole : (t : Tree) → t ≡ node (root_of t) (children_of t)
whole (node r children) = refl

-- ---- members

pub wide_members-map : (types : List TypeTree) (ts : List Tree) (ty : TypeTree) → trees_of (map (λ t. wide types t ty) ts) ≡ wide_members types (trees_of ts) (Some ty)
wide_members-map types [] ty = refl
wide_members-map types (t ∷ ts) ty = ap (tree (wide types t ty)) (wide_members-map types ts ty)

wide_members-none : (types : List TypeTree) (ts : Trees) → wide_members types ts None ≡ ts
wide_members-none types no_trees = refl
wide_members-none types (tree t ts) = refl

-- the member that is next is as it was
pub member-kept : (f : Tree → Tree) (xs ys : List Tree) (i : ℕ) (x : Tree) → i < length xs → ys ≡ map f (take i xs) ++ drop i xs → x ≡ get_or ys i x → x ≡ get_or xs i x
member-kept f [] ys i x h e is = absurd (omega (arith, h))
member-kept f (u ∷ us) ys zero x h e is = is ∙ ap (λ l. get_or l 0 x) e
member-kept f (u ∷ us) ys (suc i) x h e is =
    member-kept f us (map f (take i us) ++ drop i us) i x (omega (arith, h)) refl (is ∙ ap (λ l. get_or l (suc i) x) e)

-- ---- fields

-- the first that is there
abbrev or_else : Option TypeTree → Option TypeTree → Option TypeTree
or_else None later = later
or_else (Some ty) later = Some ty

-- fields with one more at their end
abbrev Grows : TypeFields → TypeFields → List ℕ → TypeTree → Type 0
Grows earlier all name ty = (other : List ℕ) → field_type other all ≡ or_else (field_type other earlier) (if bytes_eq name other then Some ty else None)

last-step : (b : Bool) (ty : TypeTree) (found all later : Option TypeTree) → all ≡ or_else found later → (if b then Some ty else all) ≡ or_else (if b then Some ty else found) later
last-step true ty found all later h = refl
last-step false ty found all later h = h

no-type : (o : Option TypeTree) → is_some o ≡ false → o ≡ None
no-type None h = refl
no-type (Some ty) h = absurd (false≢true (sym h))

or_else-none : (o : Option TypeTree) → or_else o None ≡ o
or_else-none None = refl
or_else-none (Some ty) = refl

grows-last : (fs : List FieldView) (f : FieldView) → Grows (type_fields_of fs) (type_fields_of (fs ++ f ∷ [])) f.name f.ty
grows-last [] f other = ap (λ b. if b then Some f.ty else None) (nat_list_eq_equiv.symm other f.name)
grows-last (g ∷ fs) f other = last-step (bytes_eq other g.name) g.ty _ _ _ (grows-last fs f other)

same-name : (name other : List ℕ) → bytes_eq name other ≡ true → name ≡ other
same-name name other h = (bytes_eq-Decides name other).0 h

taken-more : (fields : List Field) (i : ℕ) (f : Field) → i < length fields → f ≡ get_or fields i f → map field_view (take (suc i) fields) ≡ map field_view (take i fields) ++ field_view f ∷ []
taken-more [] i f h is = absurd (omega (arith, h))
taken-more (g ∷ fields) zero f h is = ap (λ x. field_view x ∷ []) (sym is)
taken-more (g ∷ fields) (suc i) f h is = ap (λ fs. field_view g ∷ fs) (taken-more fields i f (omega (arith, h)) is)

-- fields as far as a walk over them came, and one further
pub grows-taken : (fields : List Field) (i : ℕ) (f : Field) (name : List ℕ) (ty : TypeTree) → i < length fields → f ≡ get_or fields i f
    → name ≡ (field_view f).name → ty ≡ (field_view f).ty
    → Grows (type_fields_of (map field_view (take i fields))) (type_fields_of (map field_view (take (i + 1) fields))) name ty
grows-taken fields i f name ty h is names types =
    let more : i + 1 ≡ suc i = omega arith in
    rw (names, types, more, taken-more fields i f h is) (grows-last (map field_view (take i fields)) (field_view f))

module _ (types : List TypeTree) (earlier all : TypeFields) (name : List ℕ) (ty : TypeTree) (grows : Grows earlier all name ty) where
  unlike : (other : List ℕ) → bytes_eq name other ≡ false → field_type other all ≡ field_type other earlier
  unlike other h = grows other ∙ ap (λ b. or_else (field_type other earlier) (if b then Some ty else None)) h ∙ or_else-none (field_type other earlier)

  like : (other : List ℕ) → field_type name earlier ≡ None → bytes_eq name other ≡ true → field_type other all ≡ Some ty
  like other none h =
      grows other ∙ ap (λ b. or_else (field_type other earlier) (if b then Some ty else None)) h
      ∙ ap (λ o. or_else o (Some ty)) (ap (λ n. field_type n earlier) (sym (same-name name other h)) ∙ none)

  known-step : (b : Bool) (known : TypeTree) (found : Option TypeTree) → (b ≡ true → found ≡ Some known) → or_else found (if b then Some ty else None) ≡ found
  known-step true known found h = ap (λ o. or_else o (Some ty)) (h refl) ∙ sym (h refl)
  known-step false known found h = or_else-none found

  known : (k : TypeTree) → field_type name earlier ≡ Some k → (other : List ℕ) → field_type other all ≡ field_type other earlier
  known k h other =
      grows other ∙ known-step (bytes_eq name other) k (field_type other earlier) (λ e. ap (λ n. field_type n earlier) (sym (same-name name other e)) ∙ h)

  wide_children-known : ((other : List ℕ) → field_type other all ≡ field_type other earlier) → (fs : Fields) → wide_children types fs all ≡ wide_children types fs earlier
  wide_children-known h no_fields = refl
  wide_children-known h (field other ts fs) = λ i. field other (wide_members types ts (h other i)) (wide_children-known h fs i)

  wide_children-below : (fs : Fields) → AllByRecursion (λ y. slice_cmp nat_cmp name y ≡ Less) (names_of fs) → wide_children types fs all ≡ wide_children types fs earlier
  wide_children-below no_fields h = refl
  wide_children-below (field other ts fs) h =
      let apart : bytes_eq name other ≡ false = rw (texts_ties name other, h.0) refl in
      λ i. field other (wide_members types ts (unlike other apart i)) (wide_children-below fs h.1 i)

  new-step : (b : Bool) (other : List ℕ) (ts below : Trees) (found whole : Option TypeTree) (made rest : Fields)
      → (b ≡ true → whole ≡ Some ty) → (b ≡ true → made ≡ rest) → (b ≡ false → whole ≡ found) → (b ≡ false → made ≡ replaced_under name (wide_members types below (Some ty)) rest)
      → field other (wide_members types ts whole) made
      ≡ (if b then field other (wide_members types (if b then ts else below) (Some ty)) rest else field other (wide_members types ts found) (replaced_under name (wide_members types (if b then ts else below) (Some ty)) rest))
  new-step true other ts below found whole made rest a z c d = λ i. field other (wide_members types ts (a refl i)) (z refl i)
  new-step false other ts below found whole made rest a z c d = λ i. field other (wide_members types ts (c refl i)) (d refl i)

  -- a field of a new name widens the members of that name
  wide_children-new : (fs : Fields) → IsStrictlySortedBy (slice_cmp nat_cmp) (names_of fs) → field_type name earlier ≡ None
      → wide_children types fs all ≡ replaced_under name (wide_members types (under name fs) (Some ty)) (wide_children types fs earlier)
  unfolding IsStrictlySortedBy
  wide_children-new no_fields h none = refl
  wide_children-new (field other ts fs) h none =
      new-step (bytes_eq name other) other ts (under name fs) (field_type other earlier) (field_type other all) (wide_children types fs all) (wide_children types fs earlier)
      (like other none)
      (λ e. wide_children-below fs (subst (λ n. AllByRecursion (λ y. slice_cmp nat_cmp n y ≡ Less) (names_of fs)) (sym (same-name name other e)) h.0))
      (unlike other)
      (λ e. wide_children-new fs h.1 none)

  names_of-wide : (fs : Fields) → names_of (wide_children types fs earlier) ≡ names_of fs
  names_of-wide no_fields = refl
  names_of-wide (field other ts fs) = ap (λ ns. other ∷ ns) (names_of-wide fs)

  under-step : (b : Bool) (ts below above : Trees) (found : Option TypeTree) → (b ≡ true → found ≡ None) → below ≡ above
      → (if b then wide_members types ts found else below) ≡ (if b then ts else above)
  under-step true ts below above found none h = ap (wide_members types ts) (none refl) ∙ wide_members-none types ts
  under-step false ts below above found none h = h

  under-wide : (fs : Fields) → field_type name earlier ≡ None → under name (wide_children types fs earlier) ≡ under name fs
  under-wide no_fields none = refl
  under-wide (field other ts fs) none =
      under-step (bytes_eq name other) ts _ _ (field_type other earlier) (λ e. ap (λ n. field_type n earlier) (sym (same-name name other e)) ∙ none) (under-wide fs none)

  replaced-step : (b : Bool) (other : List ℕ) (ts below : Trees) (fs : Fields) → replaced_under name below fs ≡ fs
      → (if b then field other (if b then ts else below) fs else field other ts (replaced_under name (if b then ts else below) fs)) ≡ field other ts fs
  replaced-step true other ts below fs h = refl
  replaced-step false other ts below fs h = ap (field other ts) h

  replaced_under-same : (fs : Fields) → replaced_under name (under name fs) fs ≡ fs
  replaced_under-same no_fields = refl
  replaced_under-same (field other ts fs) = replaced-step (bytes_eq name other) other ts (under name fs) fs (replaced_under-same fs)

  with_members-same : (v : Tree) → with_members name (under name (children_of v)) v ≡ v
  with_members-same (node r fs) = ap (node r) (replaced_under-same fs)

  module _ (t v : Tree) (is : v ≡ node (root_of t) (wide_children types (children_of t) earlier)) where
    step-known : (k : TypeTree) → field_type name earlier ≡ Some k → v ≡ node (root_of t) (wide_children types (children_of t) all)
    step-known k h = is ∙ ap (node (root_of t)) (sym (wide_children-known (known k h) (children_of t)))

    -- the members that are lent, where the name is new
    pub under-lent : is_some (field_type name earlier) ≡ false → under name (children_of v) ≡ under name (children_of t)
    under-lent new = ap (λ u. under name (children_of u)) is ∙ under-wide (children_of t) (no-type (field_type name earlier) new)

    step-wide : (us : Trees) → field_type name earlier ≡ None → IsStrictlySortedBy (slice_cmp nat_cmp) (names_of (children_of v))
        → us ≡ wide_members types (under name (children_of v)) (Some ty) → with_members name us v ≡ node (root_of t) (wide_children types (children_of t) all)
    step-wide us none sorted h =
        ap (with_members name us) is
        ∙ ap (λ ts. node (root_of t) (replaced_under name ts (wide_children types (children_of t) earlier))) (h ∙ ap (λ ts. wide_members types ts (Some ty)) (under-lent (ap is_some none)))
        ∙ ap (node (root_of t)) (sym (wide_children-new (children_of t) (subst (IsStrictlySortedBy (slice_cmp nat_cmp)) (ap (λ u. names_of (children_of u)) is ∙ names_of-wide (children_of t)) sorted) none))

    pub step-new : (us : Trees) → is_some (field_type name earlier) ≡ false → IsStrictlySortedBy (slice_cmp nat_cmp) (names_of (children_of v))
        → us ≡ wide_members types (under name (children_of v)) (Some ty) → with_members name us v ≡ node (root_of t) (wide_children types (children_of t) all)
    step-new us new = step-wide us (no-type (field_type name earlier) new)

    same-step : (o : Option TypeTree) → o ≡ field_type name earlier → is_some o ≡ true → v ≡ node (root_of t) (wide_children types (children_of t) all)
    same-step None h old = absurd (false≢true old)
    same-step (Some k) h old = step-known k (sym h)

    pub step-same : (us : Trees) → is_some (field_type name earlier) ≡ true → us ≡ under name (children_of v)
        → with_members name us v ≡ node (root_of t) (wide_children types (children_of t) all)
    step-same us old same = ap (λ ts. with_members name ts v) same ∙ with_members-same v ∙ same-step (field_type name earlier) refl old

    missing-step : (o : Option TypeTree) → o ≡ field_type name earlier → IsStrictlySortedBy (slice_cmp nat_cmp) (names_of (children_of v)) → no_trees ≡ under name (children_of v)
        → v ≡ node (root_of t) (wide_children types (children_of t) all)
    missing-step None h sorted gone =
        sym (with_members-same v) ∙ ap (λ ts. with_members name ts v) (sym gone)
        ∙ step-wide no_trees (sym h) sorted (ap (λ ts. wide_members types ts (Some ty)) gone)
    missing-step (Some k) h sorted gone = step-known k (sym h)

    pub step-missing : IsStrictlySortedBy (slice_cmp nat_cmp) (names_of (children_of v)) → no_trees ≡ under name (children_of v)
        → v ≡ node (root_of t) (wide_children types (children_of t) all)
    step-missing = missing-step (field_type name earlier) refl

-- ---- levels

levels-step : (b : Bool) (ts below : Trees) (fs : Fields) → trees_levels below ≤ fields_levels fs → trees_levels (if b then ts else below) ≤ max (trees_levels ts) (fields_levels fs)
levels-step true ts below fs h = omega arith
levels-step false ts below fs h = omega (arith, h)

levels-under : (name : List ℕ) (fs : Fields) → trees_levels (under name fs) ≤ fields_levels fs
levels-under name no_fields = omega arith
levels-under name (field other ts fs) = levels-step (bytes_eq name other) ts (under name fs) fs (levels-under name fs)

pub levels-below : (name : List ℕ) (t : Tree) → suc (trees_levels (under name (children_of t))) ≤ levels t
levels-below name (node r fs) = let lower = levels-under name fs in omega (arith, lower)

-- ---- where a walk begins and ends

pub all-mapped : (f : Tree → Tree) (ts : List Tree) (i : ℕ) → length ts ≤ i → map f (take i ts) ++ drop i ts ≡ map f ts
all-mapped f [] zero h = refl
all-mapped f [] (suc i) h = refl
all-mapped f (t ∷ ts) zero h = absurd (omega (arith, h))
all-mapped f (t ∷ ts) (suc i) h = ap (λ us. f t ∷ us) (all-mapped f ts i (omega (arith, h)))

no-field : (types : List TypeTree) (fs : Fields) → fs ≡ wide_children types fs (type_fields_of [])
no-field types no_fields = refl
no-field types (field name ts fs) = λ i. field name (sym (wide_members-none types ts) i) (no-field types fs i)

pub unwidened : (types : List TypeTree) (t : Tree) → t ≡ node (root_of t) (wide_children types (children_of t) (type_fields_of []))
unwidened types (node r fs) = ap (node r) (no-field types fs)

-- ---- what calls give

-- whether a field was found is whether its type was
pub found : (o : Option (Bor Field)) (ty : Option TypeTree) (b : Bool) → option_map (λ f. (field_view f).ty) (option_copied o) ≡ ty → is_some o ≡ b → is_some ty ≡ b
found None ty b e h = sym (ap is_some e) ∙ h
found (Some f) ty b e h = sym (ap is_some e) ∙ h
