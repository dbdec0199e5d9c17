-- What follows where nothing is refused: lists of refusals that are empty, names of which none stands twice, and names that are there.
use Rattle.std.proofs.Common.{◌≡◌, ℕ, zero, suc, Bool, true, false, ◌<◌, arith, List, [], ◌∷◌, ◌++◌, map, flat_map, length, None, Some, slice_get, refl, ap, sym, subst, ◌∙◌, bytes_eq}
use Rattle.std.specs.Prelude.{not, ◌&&◌, ◌||◌, if◌then◌else◌, nat_lt}
use Rattle.std.specs.List.{list_all}
use Rattle.std.proofs.lemmas.Bool.{and_from, or_left, or_right, or_from, not_from_false, false≢true}
use Rattle.std.proofs.lemmas.Bool.Decides.{nat_tests}
use Rattle.std.proofs.lemmas.List.Folds.{list_all-map, list_any-append}
use Rattle.std.proofs.lemmas.Option.{same_Some}
use Rattle.std.proofs.lemmas.Slice.Eq.{bytes_eq-Decides}
use Rattle.jolie_ast.specs.declared.name.Name.{Name}
use Rattle.behaviour_tree.specs.Distinct.{texts_differ, is_in}
use Rattle.check_base.specs.declared.refusal.CheckName.{CheckName}
use Rattle.check_base.specs.declared.refusal.Refusal.{Refusal}
use Rattle.check_base.specs.Least.{least, refused, refused_if}
use Rattle.check_base.specs.Repeated.{repeated, repeated_after}
use Rattle.check_base.specs.Files.{place_in}

-- ---- nothing is refused

-- no refusal comes first only where there is none
pub least_empty : (rs : List Refusal) → least rs ≡ None → rs ≡ []
least_empty [] e = refl
least_empty (r ∷ rs) e = cc

-- of two lists without anything the first has nothing
pub left_empty : {A : Type 0} (xs ys : List A) → xs ++ ys ≡ [] → xs ≡ []
left_empty [] ys e = refl
left_empty (x ∷ xs) ys e = cc

-- nor has the second
pub right_empty : {A : Type 0} (xs ys : List A) → xs ++ ys ≡ [] → ys ≡ []
right_empty [] ys e = e
right_empty (x ∷ xs) ys e = cc

-- a name is refused at no place
pub refused_empty : (name : CheckName) (places : List ℕ) → refused name places ≡ [] → places ≡ []
refused_empty name [] e = refl
refused_empty name (p ∷ places) e = cc

-- what is refused only where something holds does not hold
pub fails : (b : Bool) (name : CheckName) (at : ℕ) → refused_if b name at ≡ [] → b ≡ false
fails true name at e = cc
fails false name at e = refl

-- what is refused only where something fails holds
pub holds : (b : Bool) (name : CheckName) (at : ℕ) → refused_if (not b) name at ≡ [] → b ≡ true
holds true name at e = refl
holds false name at e = cc

-- four tests that pass, pass together
pub all_four : (a b c d : Bool) → a ≡ true → b ≡ true → c ≡ true → d ≡ true → (a && b && c && d) ≡ true
all_four a b c d ha hb hc hd = and_from (a && b && c) d (and_from (a && b) c (and_from a b ha hb) hc) hd

-- where nothing is found of the items of a list, each passes a test that such an item passes
pub each_empty : {X A : Type 0} (f : X → List A) (p : X → Bool) (xs : List X) → ((x : X) → f x ≡ [] → p x ≡ true) → flat_map f xs ≡ [] → list_all p xs ≡ true
each_empty f p [] passes e = refl
each_empty f p (x ∷ xs) passes e =
    and_from (p x) (list_all p xs) (passes x (left_empty (f x) (flat_map f xs) e)) (each_empty f p xs passes (right_empty (f x) (flat_map f xs) e))

-- so do the items mapped
pub mapped_empty : {X Y A : Type 0} (f : X → List A) (g : X → Y) (p : Y → Bool) (xs : List X) → ((x : X) → f x ≡ [] → p (g x) ≡ true) → flat_map f xs ≡ [] → list_all p (map g xs) ≡ true
mapped_empty f g p xs passes e = list_all-map p g xs ∙ each_empty f (λ x. p (g x)) xs passes e

-- nothing is found of the item at a place
pub place_empty : {X A : Type 0} (f : X → List A) (xs : List X) (n : ℕ) (x : X) → flat_map f xs ≡ [] → slice_get xs n ≡ Some x → f x ≡ []
place_empty f [] n x e there = cc
place_empty f (y ∷ xs) zero x e there = subst (λ z. f z ≡ []) (same_Some y x there) (left_empty (f y) (flat_map f xs) e)
place_empty f (y ∷ xs) (suc n) x e there = place_empty f xs n x (right_empty (f y) (flat_map f xs) e) there

-- ---- texts

-- a text is itself
pub same_text : (t : List ℕ) → bytes_eq t t ≡ true
same_text t = (bytes_eq-Decides t t).1 refl

-- a text that is not among texts is another than one that is
pub another_text : (b : Bool) (t x : List ℕ) (ts : List (List ℕ)) → bytes_eq t x ≡ b → is_in t ts ≡ false → is_in x ts ≡ true → bytes_eq t x ≡ false
another_text true t x ts e missing there = absurd (false≢true (sym missing ∙ ap (λ y. is_in y ts) ((bytes_eq-Decides t x).0 e) ∙ there))
another_text false t x ts e missing there = e

-- a text is among texts and one in front of them
pub in_first : (t : List ℕ) (ts : List (List ℕ)) → is_in t (t ∷ ts) ≡ true
in_first t ts = or_left (bytes_eq t t) (is_in t ts) (same_text t)

-- a text that is among the last of texts is among them
pub in_last : (x : List ℕ) (ts us : List (List ℕ)) → is_in x us ≡ true → is_in x (ts ++ us) ≡ true
in_last x ts us there = list_any-append (λ t. bytes_eq t x) ts us ∙ or_right (is_in x ts) (is_in x us) there

-- all of some texts are among others where each is
pub all_are_in : (names ts : List (List ℕ)) → ((x : List ℕ) → is_in x ts ≡ true → is_in x names ≡ true) → list_all (λ t. is_in t names) ts ≡ true
all_are_in names [] there = refl
all_are_in names (t ∷ ts) there =
    and_from (is_in t names) (list_all (λ t. is_in t names) ts) (there t (in_first t ts)) (all_are_in names ts (λ x e. there x (or_right (bytes_eq t x) (is_in x ts) e)))

below_or_first : (b : Bool) (p n : ℕ) → (b ≡ false → p < n) → (if b then zero else suc p) < suc n
below_or_first true p n h = omega arith
below_or_first false p n h = omega (arith, h refl)

-- the place of a text that is there is within the list
pub place_is_below : (ts : List (List ℕ)) (t : List ℕ) → is_in t ts ≡ true → place_in ts t < length ts
place_is_below [] t there = absurd (false≢true there)
place_is_below (s ∷ ts) t there = below_or_first (bytes_eq s t) (place_in ts t) (length ts) (λ other. place_is_below ts t (ap (λ b. b || is_in t ts) (sym other) ∙ there))

-- what is less passes the test
pub is_below : (m n : ℕ) → m < n → nat_lt m n ≡ true
is_below m n less = grind (arith, nat_tests)

-- the place of a text that is there passes the test
pub has_place : (ts : List (List ℕ)) (t : List ℕ) → is_in t ts ≡ true → nat_lt (place_in ts t) (length ts) ≡ true
has_place ts t there = is_below (place_in ts t) (length ts) (place_is_below ts t there)

-- ---- names that stand once

-- a name that does not stand a second time is new
pub is_new : (b : Bool) (at : ℕ) → (if b then at ∷ [] else []) ≡ [] → b ≡ false
is_new true at e = cc
is_new false at e = refl

-- the first of names is new, and the others stand once behind it
pub first_new : (before : List (List ℕ)) (n : Name) (ns : List Name) → repeated_after before (n ∷ ns) ≡ [] → is_in n.text before ≡ false
first_new before n ns e = is_new (is_in n.text before) n.at (left_empty (if is_in n.text before then n.at ∷ [] else []) (repeated_after (n.text ∷ before) ns) e)

pub others_new : (before : List (List ℕ)) (n : Name) (ns : List Name) → repeated_after before (n ∷ ns) ≡ [] → repeated_after (n.text ∷ before) ns ≡ []
others_new before n ns e = right_empty (if is_in n.text before then n.at ∷ [] else []) (repeated_after (n.text ∷ before) ns) e

-- where no name stands a second time, none is among the texts before
pub none_before : (x : List ℕ) (before : List (List ℕ)) (ns : List Name) → repeated_after before ns ≡ [] → is_in x before ≡ true → is_in x (map (λ (n : Name). n.text) ns) ≡ false
none_before x before [] e there = refl
none_before x before (n ∷ ns) e there =
    or_from (bytes_eq n.text x) (is_in x (map (λ (n : Name). n.text) ns)) (another_text (bytes_eq n.text x) n.text x before refl (first_new before n ns e) there)
    (none_before x (n.text ∷ before) ns (others_new before n ns e) (or_right (bytes_eq n.text x) (is_in x before) there))

-- where no name stands a second time, their texts differ
pub differ_after : (before : List (List ℕ)) (ns : List Name) → repeated_after before ns ≡ [] → texts_differ (map (λ (n : Name). n.text) ns) ≡ true
differ_after before [] e = refl
differ_after before (n ∷ ns) e =
    and_from (not (is_in n.text (map (λ (n : Name). n.text) ns))) (texts_differ (map (λ (n : Name). n.text) ns))
    (not_from_false (is_in n.text (map (λ (n : Name). n.text) ns)) (none_before n.text (n.text ∷ before) ns (others_new before n ns e) (in_first n.text before)))
    (differ_after (n.text ∷ before) ns (others_new before n ns e))

-- names of which none is refused differ
pub names_differ : (name : CheckName) (ns : List Name) → refused name (repeated ns) ≡ [] → texts_differ (map (λ (n : Name). n.text) ns) ≡ true
names_differ name ns e = differ_after [] ns (refused_empty name (repeated ns) e)
