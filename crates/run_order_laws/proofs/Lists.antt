-- Lists: what holds of all, of the front, and of the first.
use Rattle.std.proofs.Common.{◌≡◌, ℕ, zero, suc, Bool, true, false, not, ◌&&◌, ◌||◌, List, [], ◌∷◌, ◌++◌, refl, sym}
use Rattle.std.proofs.Common.{ap, ◌∙◌, Option, None, Some, true≢false}
use Rattle.std.specs.Prelude.{nat_eq, slice_get, is_some}
use Rattle.std.specs.List.{list_all, list_any, filter_map, cons_option}
use Rattle.std.specs.Cmp.{unsigned_Decides}
use Rattle.office_core.specs.Keys.{first}

-- ---- Booleans

pub left_true : (a b : Bool) → (a && b) ≡ true → a ≡ true
left_true true b h = refl
left_true false b h = h

pub right_true : (a b : Bool) → (a && b) ≡ true → b ≡ true
right_true true b h = h
right_true false b h = absurd (true≢false (sym h))

pub both_true : (a b : Bool) → a ≡ true → b ≡ true → (a && b) ≡ true
both_true true b h g = g
both_true false b h g = absurd (true≢false (sym h))

pub false_left : (a b : Bool) → (a || b) ≡ false → a ≡ false
false_left true b h = h
false_left false b h = refl

pub false_right : (a b : Bool) → (a || b) ≡ false → b ≡ false
false_right true b h = absurd (true≢false h)
false_right false b h = h

pub true_left : (a b : Bool) → a ≡ true → (a || b) ≡ true
true_left true b h = refl
true_left false b h = absurd (true≢false (sym h))

pub true_right : (a b : Bool) → b ≡ true → (a || b) ≡ true
true_right true b h = refl
true_right false b h = h

pub not_false : (b : Bool) → not b ≡ true → b ≡ false
not_false true h = absurd (true≢false (sym h))
not_false false h = refl

-- two Booleans of which each makes the other true
pub alike : (a b : Bool) → (a ≡ true → b ≡ true) → (b ≡ true → a ≡ true) → a ≡ b
alike true b f g = sym (f refl)
alike false true f g = g refl
alike false false f g = refl

-- ---- numbers

pub eq_true : (m n : ℕ) → nat_eq m n ≡ true → m ≡ n
eq_true m n e = (unsigned_Decides m n).0 e

pub itself : (n : ℕ) → nat_eq n n ≡ true
itself n = (unsigned_Decides n n).1 refl

pub not_eq : (m n : ℕ) → (m ≡ n → ⊥) → nat_eq m n ≡ false
not_eq m n h = by (nat_eq m n) refl
  where
    by : (b : Bool) → nat_eq m n ≡ b → b ≡ false
    by true e = absurd (h (eq_true m n e))
    by false e = refl

pub turned : (m n : ℕ) → nat_eq m n ≡ nat_eq n m
turned m n = alike (nat_eq m n) (nat_eq n m) (λ h. (unsigned_Decides n m).1 (sym (eq_true m n h)))
    (λ h. (unsigned_Decides m n).1 (sym (eq_true n m h)))

-- ---- options

pub same_of : {A : Type 0} (x y : A) → Some x ≡ Some y → x ≡ y
same_of x y h = ap (λ o. elim o [ None ↦ x | Some z ↦ z ]) h

pub none_not_some : {A : Type 0} (x : A) → None ≡ Some x → ⊥
none_not_some x h = true≢false (sym (ap (λ o. elim o [ None ↦ false | Some y ↦ true ]) h))

-- ---- lists

pub append_nil : {A : Type 0} (xs : List A) → xs ++ [] ≡ xs
append_nil [] = refl
append_nil (x ∷ xs) = ap (λ l. x ∷ l) (append_nil xs)

pub append_assoc : {A : Type 0} (xs ys zs : List A) → (xs ++ ys) ++ zs ≡ xs ++ (ys ++ zs)
append_assoc [] ys zs = refl
append_assoc (x ∷ xs) ys zs = ap (λ l. x ∷ l) (append_assoc xs ys zs)

pub cons_not_nil : {A : Type 0} (x : A) (xs : List A) → x ∷ xs ≡ [] → ⊥
cons_not_nil x xs h = true≢false (ap (λ l. elim l [ [] ↦ false | y ∷ ys ↦ true ]) h)

pub all_append : {A : Type 0} (p : A → Bool) (xs ys : List A) → list_all p xs ≡ true → list_all p ys ≡ true
    → list_all p (xs ++ ys) ≡ true
all_append p [] ys h g = g
all_append p (x ∷ xs) ys h g =
    both_true (p x) (list_all p (xs ++ ys)) (left_true (p x) (list_all p xs) h)
    (all_append p xs ys (right_true (p x) (list_all p xs) h) g)

pub all_front : {A : Type 0} (p : A → Bool) (xs ys : List A) → list_all p (xs ++ ys) ≡ true → list_all p xs ≡ true
all_front p [] ys h = refl
all_front p (x ∷ xs) ys h =
    both_true (p x) (list_all p xs) (left_true (p x) (list_all p (xs ++ ys)) h)
    (all_front p xs ys (right_true (p x) (list_all p (xs ++ ys)) h))

pub all_rest : {A : Type 0} (p : A → Bool) (xs ys : List A) → list_all p (xs ++ ys) ≡ true → list_all p ys ≡ true
all_rest p [] ys h = h
all_rest p (x ∷ xs) ys h = all_rest p xs ys (right_true (p x) (list_all p (xs ++ ys)) h)

-- what each of a kind is of another
pub all_weaker : {A : Type 0} (p q : A → Bool) → ((x : A) → p x ≡ true → q x ≡ true) → (xs : List A)
    → list_all p xs ≡ true → list_all q xs ≡ true
all_weaker p q f [] h = refl
all_weaker p q f (x ∷ xs) h =
    both_true (q x) (list_all q xs) (f x (left_true (p x) (list_all p xs) h))
    (all_weaker p q f xs (right_true (p x) (list_all p xs) h))

-- two tests that are alike on all of a kind
pub all_alike : {A : Type 0} (p f g : A → Bool) → ((x : A) → p x ≡ true → f x ≡ g x) → (xs : List A)
    → list_all p xs ≡ true → list_all f xs ≡ list_all g xs
all_alike p f g same [] h = refl
all_alike p f g same (x ∷ xs) h =
    λ i. same x (left_true (p x) (list_all p xs) h) i && all_alike p f g same xs (right_true (p x) (list_all p xs) h) i

-- where all are of a kind, none is of one that these are not
pub none_of : {A : Type 0} (p q : A → Bool) → ((x : A) → p x ≡ true → q x ≡ false) → (xs : List A)
    → list_all p xs ≡ true → list_any q xs ≡ false
none_of p q f [] h = refl
none_of p q f (x ∷ xs) h =
    (λ i. f x (left_true (p x) (list_all p xs) h) i || list_any q xs)
    ∙ none_of p q f xs (right_true (p x) (list_all p xs) h)

pub any_append : {A : Type 0} (p : A → Bool) (xs ys : List A)
    → list_any p (xs ++ ys) ≡ (list_any p xs || list_any p ys)
any_append p [] ys = refl
any_append p (x ∷ xs) ys = by (p x) (any_append p xs ys)
  where
    by : (b : Bool) → list_any p (xs ++ ys) ≡ (list_any p xs || list_any p ys)
        → (b || list_any p (xs ++ ys)) ≡ ((b || list_any p xs) || list_any p ys)
    by true h = refl
    by false h = h

-- what gives nothing for each
pub none_given : {A B : Type 0} (f : A → Option B) (p : A → Bool) → ((x : A) → p x ≡ true → f x ≡ None) → (xs : List A)
    → list_all p xs ≡ true → filter_map f xs ≡ []
none_given f p h [] g = refl
none_given f p h (x ∷ xs) g =
    ap (λ o. cons_option o (filter_map f xs)) (h x (left_true (p x) (list_all p xs) g))
    ∙ none_given f p h xs (right_true (p x) (list_all p xs) g)

pub given_append : {A B : Type 0} (f : A → Option B) (xs ys : List A)
    → filter_map f (xs ++ ys) ≡ filter_map f xs ++ filter_map f ys
given_append f [] ys = refl
given_append {B = B} f (x ∷ xs) ys = by (f x) (given_append f xs ys)
  where
    by : (o : Option B) → filter_map f (xs ++ ys) ≡ filter_map f xs ++ filter_map f ys
        → cons_option o (filter_map f (xs ++ ys)) ≡ cons_option o (filter_map f xs) ++ filter_map f ys
    by None h = h
    by (Some y) h = ap (λ l. y ∷ l) h

-- the first stays the first of a longer list
pub first_stays : {A : Type 0} (xs ys : List A) (x : A) → first xs ≡ Some x → first (xs ++ ys) ≡ Some x
first_stays [] ys x h = absurd (none_not_some x h)
first_stays (y ∷ xs) ys x h = h

-- what stands in a list stands there in a longer one
pub stays_there : {A : Type 0} (xs ys : List A) (n : ℕ) (x : A) → slice_get xs n ≡ Some x
    → slice_get (xs ++ ys) n ≡ Some x
stays_there [] ys n x h = absurd (none_not_some x h)
stays_there (y ∷ xs) ys zero x h = h
stays_there (y ∷ xs) ys (suc n) x h = stays_there xs ys n x h

-- where something is there, it is something
pub there : {A : Type 0} (o : Option A) → is_some o ≡ true → (x : A) × (o ≡ Some x)
there None h = absurd (true≢false (sym h))
there (Some x) h = (x, refl)
