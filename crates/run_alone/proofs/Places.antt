-- What stands in a list that grows, and in one of which an element was set.
use Rattle.std.proofs.Common.{◌≡◌, ◌≤◌, ◌<◌, ℕ, zero, suc, ◌+◌, ◌-◌, Bool, true, false, ◌&&◌, cond, List, [], ◌∷◌, ◌++◌, length, drop, Some, nat_eq, get_or, refl, sym, ap, subst, ◌∙◌, arith}
use Rattle.std.specs.Prelude.{slice_get, slice_set}
use Rattle.std.specs.Cmp.{unsigned_Decides}
use Rattle.std.proofs.lemmas.Bool.{false≢true}
use Rattle.std.proofs.lemmas.Bool.Decides.{nat_tests}
use Rattle.std.proofs.lemmas.List.{append-nil, get_or-set_other, get_or-set_same, length-append, length_push}
use Rattle.std.proofs.lemmas.Option.{get_or_from_slice_get, none-some, same_Some, slice_get_within}
use Rattle.behaviour_tree.specs.declared.words.Event.{Event}
use Rattle.session_turn.proofs.Histories.{stays_there}

-- ---- a list with more behind it

pub le_more : {A : Type 0} (n : ℕ) (xs ys : List A) → n ≤ length xs → n ≤ length (xs ++ ys)
le_more n xs ys l =
    let e : length (xs ++ ys) ≡ length xs + length ys = length-append xs ys in
    omega arith

pub get_last : {A : Type 0} (xs : List A) (x : A) → slice_get (xs ++ x ∷ []) (length xs) ≡ Some x
get_last [] x = refl
get_last (y ∷ xs) x = get_last xs x

-- what stands in front stood there before
get_front : {A : Type 0} (xs ys : List A) (i : ℕ) (x : A) → i < length xs → slice_get (xs ++ ys) i ≡ Some x
    → slice_get xs i ≡ Some x
get_front [] ys i x l h = absurd (omega arith)
get_front (y ∷ xs) ys zero x l h = h
get_front (y ∷ xs) ys (suc i) x l h = get_front xs ys i x (omega arith) h

-- what holds of each two that stood next to each other, and of the last and the new one, holds of each two
pub pairs_more : {A : Type 0} (xs : List A) (x : A) (P : A → A → Type 0)
    → ((i : ℕ) (a b : A) → slice_get xs i ≡ Some a → slice_get xs (suc i) ≡ Some b → P a b)
    → ((a : A) → slice_get xs (length xs - 1) ≡ Some a → P a x)
    → (i : ℕ) (a b : A) → slice_get (xs ++ x ∷ []) i ≡ Some a → slice_get (xs ++ x ∷ []) (suc i) ≡ Some b → P a b
pairs_more xs x P each last i a b p q = by (nat_eq (suc i) (length xs)) refl inside
  where
    inside : i < length xs
    inside =
        let within : suc i < length (xs ++ x ∷ []) = slice_get_within (xs ++ x ∷ []) (suc i) b q in
        let long : length (xs ++ x ∷ []) ≡ length xs + 1 = length_push xs x in
        omega arith

    by : (c : Bool) → nat_eq (suc i) (length xs) ≡ c → i < length xs → P a b
    by true e l =
        let same : suc i ≡ length xs = (unsigned_Decides (suc i) (length xs)).0 e in
        let place : i ≡ length xs - 1 = omega arith in
        let is : x ≡ b = same_Some x b (sym (get_last xs x) ∙ ap (slice_get (xs ++ x ∷ [])) (sym same) ∙ q) in
        subst (P a) is (last a (ap (slice_get xs) (sym place) ∙ get_front xs (x ∷ []) i a l p))
    by false e l =
        let less : suc i < length xs = grind (arith, nat_tests) in
        each i a b (get_front xs (x ∷ []) i a l p) (get_front xs (x ∷ []) (suc i) b less q)

-- what holds of the first, and of a new one where there was none, holds of the first
pub first_more : {A : Type 0} (xs : List A) (x : A) (P : A → Type 0)
    → ((a : A) → slice_get xs 0 ≡ Some a → P a) → (xs ≡ [] → P x)
    → (a : A) → slice_get (xs ++ x ∷ []) 0 ≡ Some a → P a
first_more [] x P first new a h = subst P (same_Some x a h) (new refl)
first_more (y ∷ xs) x P first new a h = first a h

-- the last of a list with one more
pub last_more : {A : Type 0} (xs : List A) (x : A)
    → slice_get (xs ++ x ∷ []) (length (xs ++ x ∷ []) - 1) ≡ Some x
last_more xs x =
    let long : length (xs ++ x ∷ []) ≡ length xs + 1 = length_push xs x in
    let place : length (xs ++ x ∷ []) - 1 ≡ length xs = omega arith in
    ap (slice_get (xs ++ x ∷ [])) place ∙ get_last xs x

pub drop_get : {A : Type 0} (n : ℕ) (xs : List A) → slice_get (drop n xs) 0 ≡ slice_get xs n
drop_get zero xs = refl
drop_get (suc n) [] = refl
drop_get (suc n) (x ∷ xs) = drop_get n xs

-- ---- a list of which an element was set

pub get_set : {A : Type 0} (xs : List A) (n : ℕ) (x y : A) → slice_get xs n ≡ Some x
    → slice_get (slice_set xs n y) n ≡ Some y
get_set [] n x y h = absurd (none-some x h)
get_set (z ∷ xs) zero x y h = refl
get_set (z ∷ xs) (suc n) x y h = get_set xs n x y h

-- ---- the events of sessions

-- each session has its events still, and may have more
abbrev pub Grows : List (List Event) → List (List Event) → Type 0
Grows old new =
    (n : ℕ) (events : List Event) → slice_get old n ≡ Some events
    → (more : List Event) × (slice_get new n ≡ Some (events ++ more))

none_more : (es : List Event) → Some es ≡ Some (es ++ [])
none_more es = ap (λ (xs : List Event). Some xs) (sym (append-nil es))

pub grows_not : (ss : List (List Event)) → Grows ss ss
grows_not ss = λ n es at. ([], at ∙ none_more es)

-- where a session is born
pub grows_born : (ss : List (List Event)) → Grows ss (ss ++ [] ∷ [])
grows_born ss = λ n es at. ([], stays_there ss ([] ∷ []) n es at ∙ none_more es)

-- where a session has more
pub grows_set : (ss : List (List Event)) (n : ℕ) (was more now : List Event) → slice_get ss n ≡ Some was
    → now ≡ was ++ more → Grows ss (slice_set ss n now)
grows_set [] n was more now there e m es at = absurd (none-some es at)
grows_set (x ∷ ss) zero was more now there e zero es at =
    (more, ap (λ (xs : List Event). Some xs) (e ∙ ap (λ (xs : List Event). xs ++ more) (same_Some was es (sym there ∙ at))))
grows_set (x ∷ ss) zero was more now there e (suc m) es at = ([], at ∙ none_more es)
grows_set (x ∷ ss) (suc n) was more now there e zero es at = ([], at ∙ none_more es)
grows_set (x ∷ ss) (suc n) was more now there e (suc m) es at = grows_set ss n was more now there e m es at

-- a session that was born has as many events as one that was not
pub get_born : (ss : List (List Event)) (n : ℕ) → get_or (ss ++ [] ∷ []) n [] ≡ get_or ss n []
get_born [] zero = refl
get_born [] (suc n) = refl
get_born (x ∷ ss) zero = refl
get_born (x ∷ ss) (suc n) = get_born ss n

-- how many events each session has, where one has one more or none
pub count_set : (ss : List (List Event)) (n : ℕ) (was more now : List Event) (one : Bool) → slice_get ss n ≡ Some was
    → now ≡ was ++ more → length more ≡ cond one 1 0 → (s : ℕ)
    → length (get_or (slice_set ss n now) s []) ≡ length (get_or ss s []) + cond (nat_eq s n && one) 1 0
count_set ss n was more now one there is count s = by (nat_eq s n) refl
  where
    here : length (get_or (slice_set ss n now) n []) ≡ length (get_or ss n []) + cond one 1 0
    here =
        ap (λ (es : List Event). length es)
        (get_or-set_same ss n now [] (slice_get_within ss n was there) ∙ is)
        ∙ length-append was more
        ∙ (λ i. length (sym (get_or_from_slice_get ss n was [] there) i) + count i)

    none : (k : ℕ) → k ≡ k + 0
    none k = omega arith

    by : (b : Bool) → nat_eq s n ≡ b
        → length (get_or (slice_set ss n now) s []) ≡ length (get_or ss s []) + cond (b && one) 1 0
    by true e =
        subst (λ (m : ℕ). length (get_or (slice_set ss n now) m []) ≡ length (get_or ss m []) + cond one 1 0)
        (sym ((unsigned_Decides s n).0 e)) here
    by false e =
        ap (λ (es : List Event). length es)
        (get_or-set_other ss n s now [] (λ same. false≢true (sym e ∙ (unsigned_Decides s n).1 same)))
        ∙ none (length (get_or ss s []))
