-- Laws of names of types that lead to others, by the places of the types.
use Rattle.std.proofs.Common.{◌≡◌, ℕ, zero, suc, Bool, true, false, List, [], ◌∷◌, Option, Some, None, refl, ap, sym, ◌∙◌, bytes_eq, inl, inr}
use Rattle.std.specs.Prelude.{◌||◌, ◌==◌, if◌then◌else◌, option_map, option_and_then, slice_get}
use Rattle.std.proofs.lemmas.Bool.{eq-eqb}
use Rattle.std.proofs.lemmas.Bool.Decides.{eqb_tells}
use Rattle.std.proofs.lemmas.Slice.Eq.{bytes_eq-Decides}
use Rattle.jolie_ast.specs.declared.types.TypeDefinition.{TypeDefinition}
use Rattle.check_base.specs.Repeated.{place_of}
use Rattle.behaviour_tree.specs.Distinct.{is_in}
use Rattle.behaviour_tree.specs.Leading.{led_to}
use Rattle.behaviour_tree.proofs.Leading.{from_there}
use Rattle.check_base.specs.TypeNames.{next_name}
use Rattle.check_types.specs.Circles.{name_of, next_place, place_leads_back}
use Rattle.check_base.specs.Files.{type_names}
use Rattle.check_base.proofs.Found.{item_at, item_is, type_at}
use Rattle.check_types.proofs.Steps.{back_to}

-- whether the names that one leads to have the start among them
abbrev pub name_leads_back : List TypeDefinition → ℕ → List ℕ → List ℕ → Bool
name_leads_back types n start name = is_in start (led_to (next_name types) n name)

-- whether the name that follows, if one does, is the start or leads to it
abbrev pub back_from : List TypeDefinition → ℕ → List ℕ → Option (List ℕ) → Bool
back_from types n start o = is_in start (from_there (next_name types) n o)

-- the name that follows that of a place
pub next_at : (types : List TypeDefinition) (name : List ℕ) (q : ℕ) → place_of (type_names types) name ≡ Some q → next_name types name ≡ option_and_then name_of (slice_get types q)
next_at types name q place = ap (option_and_then name_of) (type_at types name ∙ ap (λ o. item_at o types) place ∙ item_is q types)

-- no name follows one that has no type
pub next_of_none : (types : List TypeDefinition) (name : List ℕ) → place_of (type_names types) name ≡ None → next_name types name ≡ None
next_of_none types name place = ap (option_and_then name_of) (type_at types name ∙ ap (λ o. item_at o types) place)

pub leads_from_none : (types : List TypeDefinition) (n : ℕ) (start name : List ℕ) → place_of (type_names types) name ≡ None → name_leads_back types n start name ≡ false
leads_from_none types zero start name place = refl
leads_from_none types (suc n) start name place = ap (back_from types n start) (next_of_none types name place)

-- the text at a place, one text further
pub text_behind : (b : Bool) (t q : List ℕ) (ts : List (List ℕ)) (o : Option ℕ) (n : ℕ) → bytes_eq t q ≡ b → ((m : ℕ) → o ≡ Some m → slice_get ts m ≡ Some q) → (if b then Some 0 else option_map suc o) ≡ Some n → slice_get (t ∷ ts) n ≡ Some q
text_behind true t q ts o zero same rest e = ap Some ((bytes_eq-Decides t q).0 same)
text_behind true t q ts o (suc n) same rest e = cc
text_behind false t q ts None n same rest e = cc
text_behind false t q ts (Some m) zero same rest e = cc
text_behind false t q ts (Some m) (suc n) same rest e = rest n cc

-- the text at its place
pub text_at : (ts : List (List ℕ)) (q : List ℕ) (n : ℕ) → place_of ts q ≡ Some n → slice_get ts n ≡ Some q
text_at [] q n e = cc
text_at (t ∷ ts) q n e = text_behind (bytes_eq t q) t q ts (place_of ts q) n refl (λ m h. text_at ts q m h) e

-- a text without a place is another than one with a place
pub other_text : (ts : List (List ℕ)) (a s : List ℕ) (p : ℕ) (b : Bool) → bytes_eq a s ≡ b → place_of ts a ≡ None → place_of ts s ≡ Some p → bytes_eq a s ≡ false
other_text ts a s p true e none some = let same : a ≡ s = (bytes_eq-Decides a s).0 e in cc (ap (place_of ts) same)
other_text ts a s p false e none some = e

-- texts are the same as their places are
pub same_place : (ts : List (List ℕ)) (a s : List ℕ) (r p : ℕ) (b : Bool) → bytes_eq a s ≡ b → place_of ts a ≡ Some r → place_of ts s ≡ Some p → bytes_eq a s ≡ (r == p)
same_place ts a s r p true e here there =
    let same : a ≡ s = (bytes_eq-Decides a s).0 e in
    let places : r ≡ p = cc (ap (place_of ts) same) in
    e ∙ sym (eq-eqb r p places)
same_place ts a s r p false e here there =
    elim (eqb_tells r p) [
      | inl h ↦ let same : a ≡ s = cc (text_at ts a r here, text_at ts s p there, ap (slice_get ts) h.1) in cc ((bytes_eq-Decides a s).1 same)
      | inr h ↦ e ∙ sym h.0
    ]

-- what follows by its name, and by its place
pub by_place : (types : List TypeDefinition) (n p : ℕ) (start name : List ℕ) (o : Option ℕ) → place_of (type_names types) start ≡ Some p → place_of (type_names types) name ≡ o
    → ((r : ℕ) → o ≡ Some r → name_leads_back types n start name ≡ place_leads_back (next_place types) n p r) → back_from types n start (Some name) ≡ back_to (next_place types) n p o
by_place types n p start name None begin place rest =
    ap (λ b. b || name_leads_back types n start name) (other_text (type_names types) name start p (bytes_eq name start) refl place begin) ∙ leads_from_none types n start name place
by_place types n p start name (Some r) begin place rest =
    ap (λ b. b || name_leads_back types n start name) (same_place (type_names types) name start r p (bytes_eq name start) refl place begin) ∙ ap (λ b. (r == p) || b) (rest r refl)

pub followed_by_place : (types : List TypeDefinition) (n p : ℕ) (start : List ℕ) (o : Option (List ℕ)) → place_of (type_names types) start ≡ Some p
    → ((name : List ℕ) (r : ℕ) → place_of (type_names types) name ≡ Some r → name_leads_back types n start name ≡ place_leads_back (next_place types) n p r)
    → back_from types n start o ≡ back_to (next_place types) n p (option_and_then (place_of (type_names types)) o)
followed_by_place types n p start None begin rest = refl
followed_by_place types n p start (Some name) begin rest = by_place types n p start name (place_of (type_names types) name) begin refl (λ r h. rest name r h)

-- names lead to the start as their places do
pub leads_by_place : (types : List TypeDefinition) (n p q : ℕ) (start name : List ℕ) → place_of (type_names types) start ≡ Some p → place_of (type_names types) name ≡ Some q
    → name_leads_back types n start name ≡ place_leads_back (next_place types) n p q
leads_by_place types zero p q start name begin place = refl
leads_by_place types (suc n) p q start name begin place =
    ap (back_from types n start) (next_at types name q place)
    ∙ followed_by_place types n p start (option_and_then name_of (slice_get types q)) begin (λ nm r h. leads_by_place types n p r start nm begin h)
