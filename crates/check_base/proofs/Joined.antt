-- Laws of the refusal that comes first among those that are offered one after another.
use Rattle.std.proofs.Common.{◌≡◌, ℕ, Bool, true, false, ◌+◌, ◌<◌, arith, List, [], ◌∷◌, ◌++◌, length, get_or, take, Option, Some, None, refl, ap, sym, ◌∙◌, flat_map}
use Rattle.std.specs.Prelude.{if◌then◌else◌}
use Rattle.std.proofs.lemmas.List.{flat_map_more, take_more}
use Rattle.std.proofs.lemmas.Bool.{false≢true}
use Rattle.std.proofs.lemmas.Bool.Decides.{nat_tests}
use Rattle.check_base.specs.declared.refusal.Refusal.{Refusal}
use Rattle.check_base.specs.declared.refusal.CheckName.{CheckName}
use Rattle.check_base.specs.Least.{comes_first, first_of, least, offered, joined, refusal, refused}

-- refusals are joined one list after the other
pub joined_append : (so : Option Refusal) (rs ss : List Refusal) → joined so (rs ++ ss) ≡ joined (joined so rs) ss
joined_append so [] ss = refl
joined_append so (r ∷ rs) ss = joined_append (offered so r) rs ss

-- four lists
pub joined_four : (so : Option Refusal) (rs ss ts us : List Refusal) → joined so (rs ++ ss ++ ts ++ us) ≡ joined (joined (joined (joined so rs) ss) ts) us
joined_four so rs ss ts us =
    joined_append so (rs ++ ss ++ ts) us
    ∙ ap (λ p. joined p us) (joined_append so (rs ++ ss) ts)
    ∙ ap (λ p. joined (joined p ts) us) (joined_append so rs ss)

-- one more thing is checked
pub joined_more : {X : Type 0} (so : Option Refusal) (f : X → List Refusal) (xs : List X) (x : X) → joined so (flat_map f (xs ++ x ∷ [])) ≡ joined (joined so (flat_map f xs)) (f x)
joined_more so f xs x = ap (joined so) (sym (flat_map_more f [] xs x)) ∙ joined_append so (flat_map f xs) (f x)

-- places of two lists
pub refused_append : (name : CheckName) (xs ys : List ℕ) → refused name (xs ++ ys) ≡ refused name xs ++ refused name ys
refused_append name [] ys = refl
refused_append name (x ∷ xs) ys = ap (λ rs. refusal name x ∷ rs) (refused_append name xs ys)

-- among three, it does not matter which two are compared first
pub three : (ab bc ac : Bool) (x y z : Refusal) → (ab ≡ true → bc ≡ true → ac ≡ true) → (ab ≡ false → bc ≡ false → ac ≡ false)
    → (if ab then (if ac then x else z) else (if bc then y else z)) ≡ (if bc then (if ab then x else y) else (if ac then x else z))
three true true true x y z firsts lasts = refl
three true true false x y z firsts lasts = absurd (false≢true (firsts refl refl))
three true false true x y z firsts lasts = refl
three true false false x y z firsts lasts = refl
three false true ac x y z firsts lasts = refl
three false false true x y z firsts lasts = absurd (false≢true (sym (lasts refl refl)))
three false false false x y z firsts lasts = refl

-- what comes first is in an order
pub in_order : (a b c : Refusal) → comes_first a b ≡ true → comes_first b c ≡ true → comes_first a c ≡ true
in_order a b c = grind (arith, nat_tests)

-- what does not come first is in an order
pub out_of_order : (a b c : Refusal) → comes_first a b ≡ false → comes_first b c ≡ false → comes_first a c ≡ false
out_of_order a b c = grind (arith, nat_tests)

-- which of two refusals was taken
pub first_of_either : (b : Bool) (r s t : Refusal) → first_of (if b then r else s) (Some t) ≡ (if b then (if comes_first r t then r else t) else (if comes_first s t then s else t))
first_of_either true r s t = refl
first_of_either false r s t = refl

-- a refusal before that of two that was taken
pub before_either : (b : Bool) (r s t : Refusal) → (if comes_first r (if b then s else t) then r else (if b then s else t)) ≡ (if b then (if comes_first r s then r else s) else (if comes_first r t then r else t))
before_either true r s t = refl
before_either false r s t = refl

-- the first of two refusals, and of that and another that may be there
pub two_firsts : (r s : Refusal) (o : Option Refusal) → first_of (if comes_first r s then r else s) o ≡ (if comes_first r (first_of s o) then r else first_of s o)
two_firsts r s None = refl
two_firsts r s (Some t) =
    first_of_either (comes_first r s) r s t
    ∙ three (comes_first r s) (comes_first s t) (comes_first r t) r s t (in_order r s t) (out_of_order r s t)
    ∙ sym (before_either (comes_first s t) r s t)

-- the first of a refusal and of those behind it
pub joined_first : (r : Refusal) (rs : List Refusal) → joined (Some r) rs ≡ Some (first_of r (least rs))
joined_first r [] = refl
joined_first r (s ∷ rs) = joined_first (if comes_first r s then r else s) rs ∙ ap Some (two_firsts r s (least rs))

-- the joined refusals are the least
pub joined_least : (rs : List Refusal) → joined None rs ≡ least rs
joined_least [] = refl
joined_least (r ∷ rs) = joined_first r rs

-- a turn of a loop checks one more thing
pub joined_turn : {X : Type 0} (so : Option Refusal) (f : X → List Refusal) (xs : List X) (i : ℕ) (d : X) → i < length xs → joined so (flat_map f (take (i + 1) xs)) ≡ joined (joined so (flat_map f (take i xs))) (f (get_or xs i d))
joined_turn so f xs i d below = ap (λ ys. joined so (flat_map f ys)) (take_more xs i d below) ∙ joined_more so f (take i xs) (get_or xs i d)

-- a turn of a loop that checks an item of a list
pub turn_of : {X : Type 0} (f : X → List Refusal) (p0 p1 p2 : Option Refusal) (xs : List X) (i : ℕ) (x : X) → i < length xs → x ≡ get_or xs i x
    → p1 ≡ joined p0 (flat_map f (take i xs)) → p2 ≡ joined p1 (f x) → p2 ≡ joined p0 (flat_map f (take (i + 1) xs))
turn_of f p0 p1 p2 xs i x below item before turn =
    turn ∙ ap (λ p. joined p (f x)) before ∙ ap (λ y. joined (joined p0 (flat_map f (take i xs))) (f y)) item ∙ sym (joined_turn p0 f xs i x below)

-- one more place is refused
pub refused_turn : (name : CheckName) (p0 p1 p2 : Option Refusal) (places : List ℕ) (at : ℕ) → p1 ≡ joined p0 (refused name places) → p2 ≡ joined p1 (refusal name at ∷ []) → p2 ≡ joined p0 (refused name (places ++ at ∷ []))
refused_turn name p0 p1 p2 places at before turn =
    turn
    ∙ ap (λ p. joined p (refusal name at ∷ [])) before
    ∙ sym (joined_append p0 (refused name places) (refusal name at ∷ []))
    ∙ ap (joined p0) (sym (refused_append name places (at ∷ [])))
