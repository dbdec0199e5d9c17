-- What a change under one name makes of the children.
use Rattle.std.proofs.Common.{◌≡◌, ℕ, List, [], ◌∷◌, Option, None, Some, Bool, true, false, Ordering, Less, Equal, Greater, nat_cmp, refl, ap, sym, subst, ◌∙◌, cond}
use Rattle.std.proofs.lemmas.Cmp.{nat_list_cmp_total}
use Rattle.std.specs.Cmp.Lexicographic.{slice_cmp, texts_ties}
use Rattle.std.specs.List.{AllByRecursion}
use Rattle.std.specs.List.Sorted.{IsStrictlySortedBy}
use Rattle.std.specs.Map.{keys_of, lookup, set_value, remove_entry}
use Rattle.std.specs.Prelude.{if◌then◌else◌}
use Rattle.std.specs.Ordering.{match_ordering, is_eq}
use Rattle.std.specs.BTreeMap.{insert_entry}
use Rattle.jolie_trees.specs.Data.{Trees, no_trees, tree, Fields, field}
use Rattle.jolie_trees.specs.Trees.{change_under, change_if_there, field_if}
use Rattle.jolie_trees.specs.TreeView.{fields_of}
use Rattle.jolie_trees.proofs.Entries.{Entry, is_name}
use Rattle.jolie_trees.proofs.Vectors.{IsFilled}

abbrev pub IsThere : {A : Type 0} → Option A → Type 0
IsThere (Some a) = Unit {0}
IsThere None = ⊥

insert-step : (o : Ordering) (name : List ℕ) (v : Trees) (e : Entry) (es more : List Entry) (fs : Fields) → fields_of more ≡ fs
    → fields_of (match_ordering o ((name, v) ∷ e ∷ es) ((e.0, v) ∷ es) (e ∷ more))
    ≡ match_ordering o (field name v (field e.0 e.1 (fields_of es))) (field e.0 v (fields_of es)) (field e.0 e.1 fs)
insert-step Less name v e es more fs h = refl
insert-step Equal name v e es more fs h = refl
insert-step Greater name v e es more fs h = ap (field e.0 e.1) h

-- to insert a vector is to put it under its name
pub fields_of-insert_entry : (name : List ℕ) (v : Trees) (es : List Entry)
    → fields_of (insert_entry (slice_cmp nat_cmp) es name v) ≡ change_under name (λ _. v) (fields_of es)
fields_of-insert_entry name v [] = refl
fields_of-insert_entry name v (e ∷ es) =
    insert-step (slice_cmp nat_cmp name e.0) name v e es _ _ (fields_of-insert_entry name v es)

new-step : (o : Ordering) (name : List ℕ) (g : Trees → Trees) (e : Entry) (fs put changed : Fields) (found : Option Trees)
    → cond (is_eq o) (Some e.1) found ≡ None → (found ≡ None → put ≡ changed)
    → match_ordering o (field name (g no_trees) (field e.0 e.1 fs)) (field e.0 (g no_trees) fs) (field e.0 e.1 put)
    ≡ match_ordering o (field name (g no_trees) (field e.0 e.1 fs)) (field e.0 (g e.1) fs) (field e.0 e.1 changed)
new-step Less name g e fs put changed found h more = refl
new-step Equal name g e fs put changed found h more = absurd (subst IsThere h tt)
new-step Greater name g e fs put changed found h more = ap (field e.0 e.1) (more h)

-- under a name that is not there, the vector is made of the empty one
pub change_under-new : (name : List ℕ) (g : Trees → Trees) (es : List Entry) → lookup (is_name name) es ≡ None
    → change_under name (λ _. g no_trees) (fields_of es) ≡ change_under name g (fields_of es)
change_under-new name g [] h = refl
change_under-new name g (e ∷ es) h =
    new-step (slice_cmp nat_cmp name e.0) name g e (fields_of es) _ _ (lookup (is_name name) es) h (change_under-new name g es)

-- a name below all names is not there
pub lookup-below : (name first : List ℕ) (es : List Entry) → slice_cmp nat_cmp name first ≡ Less
    → AllByRecursion (λ y. slice_cmp nat_cmp first y ≡ Less) (keys_of es) → lookup (is_name name) es ≡ None
lookup-below name first [] below h = refl
lookup-below name first (e ∷ es) below h =
    let less : slice_cmp nat_cmp name e.0 ≡ Less = nat_list_cmp_total.trans name first e.0 below h.0 in
    rw less (lookup-below name first es below h.1)

set-step : (o : Ordering) (name : List ℕ) (g : Trees → Trees) (e : Entry) (es set : List Entry) (changed : Fields) (found : Option Trees) (v w : Trees)
    → cond (is_eq o) (Some e.1) found ≡ Some v → w ≡ g v → (o ≡ Less → found ≡ None) → (found ≡ Some v → fields_of set ≡ changed)
    → fields_of (cond (is_eq o) ((e.0, w) ∷ es) (e ∷ set))
    ≡ match_ordering o (field name (g no_trees) (field e.0 e.1 (fields_of es))) (field e.0 (g e.1) (fields_of es)) (field e.0 e.1 changed)
set-step Less name g e es set changed found v w h put none more = absurd (subst IsThere (sym h ∙ none refl) tt)
set-step Equal name g e es set changed found v w h put none more =
    ap (λ ts. field e.0 ts (fields_of es)) (put ∙ ap (λ o. g (elim o [ Some x ↦ x | None ↦ v ])) (sym h))
set-step Greater name g e es set changed found v w h put none more = ap (field e.0 e.1) (more h)

-- the vector that is there is written over
pub change_under-set : (name : List ℕ) (g : Trees → Trees) (es : List Entry) (v w : Trees) → IsStrictlySortedBy (slice_cmp nat_cmp) (keys_of es)
    → lookup (is_name name) es ≡ Some v → w ≡ g v → fields_of (set_value (is_name name) es w) ≡ change_under name g (fields_of es)
unfolding IsStrictlySortedBy
change_under-set name g [] v w sorted h put = absurd (subst IsThere (sym h) tt)
change_under-set name g (e ∷ es) v w sorted h put =
    set-step (slice_cmp nat_cmp name e.0) name g e es _ _ (lookup (is_name name) es) v w h put
    (λ less. lookup-below name e.0 es less sorted.0) (λ found. change_under-set name g es v w sorted.1 found put)

-- ---- a name that may be missing

missing-step : (b : Bool) (name : List ℕ) (g : Trees → Trees) (e : Entry) (fs changed : Fields) (found : Option Trees)
    → cond b (Some e.1) found ≡ None → (found ≡ None → changed ≡ fs)
    → (if b then field_if e.0 (g e.1) fs else field e.0 e.1 changed) ≡ field e.0 e.1 fs
missing-step true name g e fs changed found h more = absurd (subst IsThere h tt)
missing-step false name g e fs changed found h more = ap (field e.0 e.1) (more h)

pub change_if_there-missing : (name : List ℕ) (g : Trees → Trees) (es : List Entry) → lookup (is_name name) es ≡ None
    → change_if_there name g (fields_of es) ≡ fields_of es
change_if_there-missing name g [] h = refl
change_if_there-missing name g (e ∷ es) h =
    rw (texts_ties name e.0) (missing-step (is_name name e.0) name g e (fields_of es) _ (lookup (is_name name) es) h (change_if_there-missing name g es))

field_if-filled : (name : List ℕ) (ts : Trees) (fs : Fields) → IsFilled ts → field_if name ts fs ≡ field name ts fs
field_if-filled name no_trees fs h = absurd h
field_if-filled name (tree t ts) fs h = refl

filled-step : (b : Bool) (g : Trees → Trees) (e : Entry) (es set : List Entry) (changed : Fields) (found : Option Trees) (v w : Trees)
    → cond b (Some e.1) found ≡ Some v → w ≡ g v → IsFilled w → (found ≡ Some v → fields_of set ≡ changed)
    → fields_of (cond b ((e.0, w) ∷ es) (e ∷ set)) ≡ (if b then field_if e.0 (g e.1) (fields_of es) else field e.0 e.1 changed)
filled-step true g e es set changed found v w h put filled more =
    let same : w ≡ g e.1 = put ∙ ap (λ o. g (elim o [ Some x ↦ x | None ↦ v ])) (sym h) in
    sym (field_if-filled e.0 w (fields_of es) filled) ∙ ap (λ ts. field_if e.0 ts (fields_of es)) same
filled-step false g e es set changed found v w h put filled more = ap (field e.0 e.1) (more h)

-- the vector that is there is written over, where something is left of it
pub change_if_there-filled : (name : List ℕ) (g : Trees → Trees) (es : List Entry) (v w : Trees) → lookup (is_name name) es ≡ Some v
    → w ≡ g v → IsFilled w → fields_of (set_value (is_name name) es w) ≡ change_if_there name g (fields_of es)
change_if_there-filled name g [] v w h put filled = absurd (subst IsThere (sym h) tt)
change_if_there-filled name g (e ∷ es) v w h put filled =
    rw (texts_ties name e.0)
    (filled-step (is_name name e.0) g e es _ _ (lookup (is_name name) es) v w h put filled (λ found. change_if_there-filled name g es v w found put filled))

emptied-step : (b : Bool) (g : Trees → Trees) (e : Entry) (es removed : List Entry) (changed : Fields) (found : Option Trees) (v : Trees)
    → cond b (Some e.1) found ≡ Some v → g v ≡ no_trees → (found ≡ Some v → fields_of removed ≡ changed)
    → fields_of (cond b es (e ∷ removed)) ≡ (if b then field_if e.0 (g e.1) (fields_of es) else field e.0 e.1 changed)
emptied-step true g e es removed changed found v h none more =
    let same : no_trees ≡ g e.1 = sym none ∙ ap (λ o. g (elim o [ Some x ↦ x | None ↦ v ])) (sym h) in
    ap (λ ts. field_if e.0 ts (fields_of es)) same
emptied-step false g e es removed changed found v h none more = ap (field e.0 e.1) (more h)

-- the name goes with a vector of which nothing is left
pub change_if_there-emptied : (name : List ℕ) (g : Trees → Trees) (es : List Entry) (v : Trees) → lookup (is_name name) es ≡ Some v
    → g v ≡ no_trees → fields_of (remove_entry (is_name name) es) ≡ change_if_there name g (fields_of es)
change_if_there-emptied name g [] v h none = absurd (subst IsThere (sym h) tt)
change_if_there-emptied name g (e ∷ es) v h none =
    rw (texts_ties name e.0)
    (emptied-step (is_name name e.0) g e es _ _ (lookup (is_name name) es) v h none (λ found. change_if_there-emptied name g es v found none))

remove-step : (test : List ℕ → Bool) (b : Bool) (e : Entry) (es : List Entry) (w : Trees) → test e.0 ≡ b
    → remove_entry test (set_value test es w) ≡ remove_entry test es
    → remove_entry test (cond b ((e.0, w) ∷ es) (e ∷ set_value test es w)) ≡ cond b es (e ∷ remove_entry test es)
remove-step test true e es w h more = rw h refl
remove-step test false e es w h more = rw h (ap (λ xs. e ∷ xs) more)

-- a vector that is taken away may be written over before
pub remove_entry-set : (test : List ℕ → Bool) (es : List Entry) (w : Trees) → remove_entry test (set_value test es w) ≡ remove_entry test es
remove_entry-set test [] w = refl
remove_entry-set test (e ∷ es) w = remove-step test (test e.0) e es w refl (remove_entry-set test es w)
