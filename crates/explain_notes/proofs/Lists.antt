-- Lists that grow by what is seen.
use Rattle.std.proofs.Common.{◌≡◌, ℕ, ◌+◌, ◌<◌, Bool, List, [], ◌∷◌, ◌++◌, map, length, get_or, take, refl, ap, sym, ◌∙◌, flat_map, append_assoc, append-nil}
use Rattle.std.specs.Prelude.{◌||◌}
use Rattle.std.specs.List.{list_any}
use Rattle.std.proofs.lemmas.List.{flat_map_more, take_more, map-append}

module _ {A : Type 0} where
  -- one thing, and what is behind it
  pub behind_one : (xs ys zs : List A) (y : A) → ys ≡ xs ++ y ∷ [] → (ts : List A) → zs ≡ ys ++ ts → zs ≡ xs ++ y ∷ ts
  behind_one xs ys zs y first ts rest = rest ∙ ap (λ l. l ++ ts) first ∙ append_assoc xs (y ∷ []) ts

  -- two lists, one after the other
  pub behind_two : (xs ys zs ns ms : List A) → ys ≡ xs ++ ns → zs ≡ ys ++ ms → zs ≡ xs ++ (ns ++ ms)
  behind_two xs ys zs ns ms first rest = rest ∙ ap (λ l. l ++ ms) first ∙ append_assoc xs ns ms

-- three lists, one after the other
pub behind_three : {A : Type 0} (xs ys zs vs ks ns ms : List A) → ys ≡ xs ++ ks → zs ≡ ys ++ ns → vs ≡ zs ++ ms → vs ≡ xs ++ (ks ++ (ns ++ ms))
behind_three xs ys zs vs ks ns ms first second rest = behind_two xs ys vs ks (ns ++ ms) first (behind_two ys zs vs ns ms second rest)

-- a turn of a loop over a list adds what one item mentions
pub turn_of : {X A : Type 0} (f : X → List A) (p0 p1 p2 : List A) (xs : List X) (i : ℕ) (x : X) → i < length xs → x ≡ get_or xs i x
    → p1 ≡ p0 ++ flat_map f (take i xs) → p2 ≡ p1 ++ f x → p2 ≡ p0 ++ flat_map f (take (i + 1) xs)
turn_of f p0 p1 p2 xs i x below item before turn =
    turn ∙ ap (λ p. p ++ f x) before ∙ flat_map_more f p0 (take i xs) x
    ∙ ap (λ y. p0 ++ flat_map f (take i xs ++ y ∷ [])) item ∙ ap (λ ys. p0 ++ flat_map f ys) (sym (take_more xs i x below))

-- a turn of a loop over a list adds one item's image
pub mapped_turn_of : {X A : Type 0} (f : X → A) (p0 p1 p2 : List A) (xs : List X) (i : ℕ) (x : X) → i < length xs → x ≡ get_or xs i x
    → p1 ≡ p0 ++ map f (take i xs) → p2 ≡ p1 ++ f x ∷ [] → p2 ≡ p0 ++ map f (take (i + 1) xs)
mapped_turn_of f p0 p1 p2 xs i x below item before turn =
    turn ∙ ap (λ p. p ++ f x ∷ []) before ∙ append_assoc p0 (map f (take i xs)) (f x ∷ [])
    ∙ ap (λ ys. p0 ++ ys) (sym (map-append f (take i xs) (x ∷ [])))
    ∙ ap (λ y. p0 ++ map f (take i xs ++ y ∷ [])) item ∙ ap (λ ys. p0 ++ map f ys) (sym (take_more xs i x below))

-- what was mapped, one after the other
pub mapped_joined : {X A : Type 0} (f : X → List A) (xs : List X) → flat_map (λ ms. ms) (map f xs) ≡ flat_map f xs
mapped_joined f [] = refl
mapped_joined f (x ∷ xs) = ap (λ ys. f x ++ ys) (mapped_joined f xs)

-- parts of what was mapped
pub mapped_parts : {X Y A : Type 0} (g : Y → List A) (f : X → Y) (xs : List X) → flat_map g (map f xs) ≡ flat_map (λ x. g (f x)) xs
mapped_parts g f [] = refl
mapped_parts g f (x ∷ xs) = ap (λ ys. g (f x) ++ ys) (mapped_parts g f xs)

-- one of what was mapped passes, where each passes as what it is of does
pub mapped_any : {X Y : Type 0} (test : Y → Bool) (f : X → Y) (same : X → Bool) → ((x : X) → test (f x) ≡ same x) → (xs : List X) → list_any test (map f xs) ≡ list_any same xs
mapped_any test f same each [] = refl
mapped_any test f same each (x ∷ xs) =
    ap (λ b. b || list_any test (map f xs)) (each x) ∙ ap (λ b. same x || b) (mapped_any test f same each xs)

-- nothing was added
pub nothing_added : {A : Type 0} (xs ms : List A) → ms ≡ [] → xs ≡ xs ++ ms
nothing_added xs ms none = sym (append-nil xs) ∙ ap (λ l. xs ++ l) (sym none)
