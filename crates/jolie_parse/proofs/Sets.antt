-- Tests, sets of classes, and tokens in a row.
use Rattle.std.proofs.Common.{◌≡◌, ◌⊎◌, inl, inr, Bool, true, false, ◌&&◌, ◌||◌, not, List, [], ◌∷◌, ◌++◌, refl, sym, ap, ◌∙◌}
use Rattle.jolie_parse.specs.declared.class.Class.{Class}
use Rattle.jolie_parse.specs.Classes.{Spelled, has, same, begins, class}
use Rattle.jolie_parse.specs.Deciding.{disjoint, covers}
use Rattle.jolie_parse.proofs.SameClasses.{same_eq}

pub and_left : (a b : Bool) → a && b ≡ true → a ≡ true
and_left true b e = refl
and_left false b e = cc

pub and_right : (a b : Bool) → a && b ≡ true → b ≡ true
and_right true b e = e
and_right false b e = cc

pub or_cases : (a b : Bool) → a || b ≡ true → (a ≡ true) ⊎ (b ≡ true)
or_cases true b e = inl refl
or_cases false b e = inr e

pub or_left : (a b : Bool) → a ≡ true → a || b ≡ true
or_left true b e = refl
or_left false b e = cc

pub or_right : (a b : Bool) → b ≡ true → a || b ≡ true
or_right true b e = refl
or_right false b e = e

pub not_true : (a : Bool) → not a ≡ true → a ≡ false
not_true true e = cc
not_true false e = refl

pub is_false : (a : Bool) → (a ≡ true → ⊥) → a ≡ false
is_false true h = absurd (h refl)
is_false false h = refl

pub has_left : (a b : List Class) (k : Class) → has a k ≡ true → has (a ++ b) k ≡ true
has_left [] b k h = cc
has_left (j ∷ js) b k h = elim (or_cases (same j k) (has js k) h) [ inl e ↦ or_left (same j k) _ e | inr e ↦ or_right (same j k) _ (has_left js b k e) ]

pub has_right : (a b : List Class) (k : Class) → has b k ≡ true → has (a ++ b) k ≡ true
has_right [] b k h = h
has_right (j ∷ js) b k h = or_right (same j k) _ (has_right js b k h)

pub apart : (a b : List Class) (k : Class) → disjoint a b ≡ true → has a k ≡ true → has b k ≡ true → ⊥
apart [] b k d h g = cc
apart (j ∷ js) b k d h g = elim (or_cases (same j k) (has js k) h) [
  | inl e ↦ (let no : has b j ≡ false = not_true (has b j) (and_left (not (has b j)) (disjoint js b) d) in
      let same : j ≡ k = same_eq j k e in
      let yes : has b j ≡ true = ap (has b) same ∙ g in cc)
  | inr e ↦ apart js b k (and_right (not (has b j)) (disjoint js b) d) e g
]

-- ---- the next token

pub begins_left : (a b : List Class) (r : List Spelled) → begins (a ++ b) r ≡ false → begins a r ≡ false
begins_left a b [] h = refl
begins_left a b (t ∷ r) h = is_false (has a (class t)) (λ y. let z = has_left a b (class t) y in cc)

pub begins_right : (a b : List Class) (r : List Spelled) → begins (a ++ b) r ≡ false → begins b r ≡ false
begins_right a b [] h = refl
begins_right a b (t ∷ r) h = is_false (has b (class t)) (λ y. let z = has_right a b (class t) y in cc)

pub covered : (a b : List Class) (k : Class) → covers a b ≡ true → has a k ≡ true → has b k ≡ true
covered [] b k c h = cc
covered (j ∷ js) b k c h = elim (or_cases (same j k) (has js k) h) [
  | inl e ↦ (let same : j ≡ k = same_eq j k e in sym (ap (has b) same) ∙ and_left (has b j) (covers js b) c)
  | inr e ↦ covered js b k (and_right (has b j) (covers js b) c) e
]

pub begins_covered : (a b : List Class) (r : List Spelled) → covers a b ≡ true → begins b r ≡ false → begins a r ≡ false
begins_covered a b [] c h = refl
begins_covered a b (t ∷ r) c h = is_false (has a (class t)) (λ y. let z = covered a b (class t) c y in cc)

-- a token that stands first in two parts
pub cons_split : (t : Spelled) (ts x y : List Spelled) → t ∷ ts ≡ x ++ y → ((x ≡ []) × (y ≡ t ∷ ts)) ⊎ ((x' : List Spelled) × (x ≡ t ∷ x') × (ts ≡ x' ++ y))
cons_split t ts [] y e = inl (refl, sym e)
cons_split t ts (u ∷ x) y e = inr (x, (let h : u ≡ t = cc in ap (λ z. z ∷ x) h), cc)

pub nil_split : (x y : List Spelled) → [] ≡ x ++ y → (x ≡ []) × (y ≡ [])
nil_split [] y e = (refl, sym e)
nil_split (u ∷ x) y e = cc
