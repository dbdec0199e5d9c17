-- What is kept of a list, by the places of its elements.
use Rattle.std.proofs.Common.{◌≡◌, ℕ, zero, suc, ◌+◌, Bool, true, false, cond, ◌||◌, List, [], ◌∷◌, ◌++◌, refl, sym}
use Rattle.std.proofs.Common.{ap, ◌∙◌, Option, None, Some, true≢false, add-zero, arith, slice_get, filter, filter_map}
use Rattle.std.specs.List.{list_any, cons_option}
use Rattle.office_core.specs.declared.message.Call.{Call}
use Rattle.office_core.specs.Keys.{first}
use Rattle.office_plain.specs.Kept.{places_from}
use Rattle.office_plain.proofs.Lists.{same_of, none_not_some}

same_head : {A : Type 0} (x : A) (b c : Bool) (xs ys : List A) → b ≡ c → xs ≡ ys
    → cond b (x ∷ xs) xs ≡ cond c (x ∷ ys) ys
same_head x b c xs ys e r = λ i. cond (e i) (x ∷ r i) (r i)

-- two tests that are one at each element
pub filter_same : {A : Type 0} (f g : A → Bool) (xs : List A)
    → ((i : ℕ) (x : A) → slice_get xs i ≡ Some x → g x ≡ f x) → filter g xs ≡ filter f xs
filter_same f g [] h = refl
filter_same f g (x ∷ xs) h =
    same_head x (g x) (f x) (filter g xs) (filter f xs) (h 0 x refl) (filter_same f g xs (λ j y t. h (suc j) y t))

-- two maps that are one at each element
pub filter_map_same : {A B : Type 0} (f g : A → Option B) (xs : List A)
    → ((i : ℕ) (x : A) → slice_get xs i ≡ Some x → g x ≡ f x) → filter_map g xs ≡ filter_map f xs
filter_map_same f g [] h = refl
filter_map_same f g (x ∷ xs) h =
    λ i. cons_option (h 0 x refl i) (filter_map_same f g xs (λ j y t. h (suc j) y t) i)

-- an element that passes a test
pub any_at : {A : Type 0} (f : A → Bool) (xs : List A) (i : ℕ) (x : A)
    → slice_get xs i ≡ Some x → f x ≡ true → list_any f xs ≡ true
any_at f [] i x there h = absurd (none_not_some x there)
any_at f (y ∷ xs) zero x there h = ap (λ b. b || list_any f xs) (ap f (same_of y x there) ∙ h)
any_at f (y ∷ xs) (suc i) x there h = or_right (f y) (list_any f xs) (any_at f xs i x there h)
  where
    or_right : (a b : Bool) → b ≡ true → (a || b) ≡ true
    or_right true b g = refl
    or_right false b g = g

-- where no element passes, none is kept
pub none_kept : {A : Type 0} (f : A → Bool) (xs : List A)
    → ((i : ℕ) (x : A) → slice_get xs i ≡ Some x → f x ≡ false) → filter f xs ≡ []
none_kept f [] h = refl
none_kept f (x ∷ xs) h =
    ap (λ b. cond b (x ∷ filter f xs) (filter f xs)) (h 0 x refl) ∙ none_kept f xs (λ j y t. h (suc j) y t)

cons_not_nil : {A : Type 0} (x : A) (xs : List A) → x ∷ xs ≡ [] → ⊥
cons_not_nil x xs h = true≢false (ap (λ l. elim l [ [] ↦ false | y ∷ ys ↦ true ]) h)

none_behind : {A : Type 0} (b : Bool) (x : A) (xs : List A) → cond b (x ∷ xs) xs ≡ [] → xs ≡ []
none_behind true x xs h = absurd (cons_not_nil x xs h)
none_behind false x xs h = h

-- where none is kept, no element passes
pub each_off : {A : Type 0} (f : A → Bool) (xs : List A) (i : ℕ) (x : A)
    → filter f xs ≡ [] → slice_get xs i ≡ Some x → f x ≡ false
each_off f [] i x h there = absurd (none_not_some x there)
each_off f (y ∷ xs) zero x h there = by (f y) refl h
  where
    by : (b : Bool) → f y ≡ b → cond b (y ∷ filter f xs) (filter f xs) ≡ [] → f x ≡ false
    by true e g = absurd (cons_not_nil y (filter f xs) g)
    by false e g = ap f (sym (same_of y x there)) ∙ e
each_off f (y ∷ xs) (suc i) x h there = each_off f xs i x (none_behind (f y) y (filter f xs) h) there

off_left : (a b : Bool) → (a || b) ≡ false → a ≡ false
off_left true b g = g
off_left false b g = refl

off_right : (a b : Bool) → (a || b) ≡ false → b ≡ false
off_right true b g = absurd (true≢false g)
off_right false b g = g

off_both : (a b : Bool) → (a ≡ true → ⊥) → b ≡ false → (a || b) ≡ false
off_both true b g h = absurd (g refl)
off_both false b g h = h

-- where no element passes a test, none passes one that implies it
pub fewer : {A : Type 0} (p q : A → Bool) (xs : List A)
    → ((x : A) → p x ≡ true → q x ≡ true) → list_any q xs ≡ false → list_any p xs ≡ false
fewer p q [] imply h = refl
fewer p q (x ∷ xs) imply h =
    off_both (p x) (list_any p xs) (λ e. true≢false (sym (imply x e) ∙ off_left (q x) (list_any q xs) h))
    (fewer p q xs imply (off_right (q x) (list_any q xs) h))

-- the first of a list stands at its front
pub at_front : {A : Type 0} (xs : List A) (x : A) → first xs ≡ Some x → slice_get xs 0 ≡ Some x
at_front [] x h = absurd (none_not_some x h)
at_front (y ∷ xs) x h = h

-- a list that has no first has nothing
pub no_front : {A : Type 0} (xs : List A) → first xs ≡ None → xs ≡ []
no_front [] h = refl
no_front (x ∷ xs) h = absurd (none_not_some x (sym h))

-- ---- calls of a kind, by their places

placed_head : (b : Bool) (get : ℕ → Option Call) (base : ℕ) (c : Call) (ps : List ℕ) (cs : List Call)
    → get base ≡ Some c
    → filter_map get ps ≡ cs → filter_map get (cond b (base ∷ []) [] ++ ps) ≡ cond b (c ∷ cs) cs
placed_head true get base c ps cs here rest = λ i. cons_option (here i) (rest i)
placed_head false get base c ps cs here rest = rest

-- what stands at the places of the calls of a kind are these calls; `get` gives what stands at a place
pub by_places : (q : Call → Bool) (get : ℕ → Option Call) (base : ℕ) (cs : List Call)
    → ((j : ℕ) → get (base + j) ≡ slice_get cs j) → filter_map get (places_from q base cs) ≡ filter q cs
by_places q get base [] h = refl
by_places q get base (c ∷ cs) h =
    placed_head (q c) get base c (places_from q (suc base) cs) (filter q cs) (ap get (sym (add-zero base)) ∙ h 0)
    (by_places q get (suc base) cs (λ j. ap get (further base j) ∙ h (suc j)))
  where
    further : (b j : ℕ) → suc b + j ≡ b + suc j
    further b j = omega arith
