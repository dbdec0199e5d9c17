-- Lists that grow, by turns of loops and by calls in a row.
use Rattle.std.proofs.Common.{◌≡◌, ℕ, ◌+◌, ◌<◌, ◌≤◌, List, [], ◌∷◌, ◌++◌, map, length, get_or, take, refl, ap, sym, ◌∙◌, flat_map, append_assoc, append-nil}
use Rattle.std.proofs.lemmas.List.{flat_map_more, take_all, take_more}

-- a turn of a loop over a list adds what one item gives
pub turn_of : {X A : Type 0} (f : X → List A) (p0 p1 p2 : List A) (xs : List X) (i : ℕ) (x : X) → i < length xs → x ≡ get_or xs i x
    → p1 ≡ p0 ++ flat_map f (take i xs) → p2 ≡ p1 ++ f x → p2 ≡ p0 ++ flat_map f (take (i + 1) xs)
turn_of f p0 p1 p2 xs i x below item before turn =
    turn ∙ ap (λ p. p ++ f x) before ∙ flat_map_more f p0 (take i xs) x
    ∙ ap (λ y. p0 ++ flat_map f (take i xs ++ y ∷ [])) item ∙ ap (λ ys. p0 ++ flat_map f ys) (sym (take_more xs i x below))

-- the same of an item that is read at a place
pub turn_at : {X A : Type 0} (f : X → List A) (p0 p1 p2 : List A) (xs : List X) (i : ℕ) (d : X) → i < length xs
    → p1 ≡ p0 ++ flat_map f (take i xs) → p2 ≡ p1 ++ f (get_or xs i d) → p2 ≡ p0 ++ flat_map f (take (i + 1) xs)
turn_at f p0 p1 p2 xs i d below before turn =
    turn ∙ ap (λ p. p ++ f (get_or xs i d)) before ∙ flat_map_more f p0 (take i xs) (get_or xs i d)
    ∙ ap (λ ys. p0 ++ flat_map f ys) (sym (take_more xs i d below))

-- a loop over a list added what all its items give
pub all_of : {X A : Type 0} (f : X → List A) (p0 p1 : List A) (xs : List X) (i : ℕ) → length xs ≤ i → p1 ≡ p0 ++ flat_map f (take i xs) → p1 ≡ p0 ++ flat_map f xs
all_of f p0 p1 xs i ended through = through ∙ ap (λ ys. p0 ++ flat_map f ys) (take_all i xs ended)

-- what is given by things that were mapped
pub mapped_parts : {X Y A : Type 0} (g : Y → List A) (f : X → Y) (xs : List X) → flat_map g (map f xs) ≡ flat_map (λ x. g (f x)) xs
mapped_parts g f [] = refl
mapped_parts g f (x ∷ xs) = ap (λ ys. g (f x) ++ ys) (mapped_parts g f xs)

-- ---- calls in a row

module _ {A : Type 0} where
  -- nothing was added
  pub nothing_added : (xs ms : List A) → ms ≡ [] → xs ≡ xs ++ ms
  nothing_added xs ms none = sym (append-nil xs) ∙ ap (λ l. xs ++ l) (sym none)

  -- two lists, one after the other
  pub behind_two : (xs ys zs ns ms : List A) → ys ≡ xs ++ ns → zs ≡ ys ++ ms → zs ≡ xs ++ (ns ++ ms)
  behind_two xs ys zs ns ms first rest = rest ∙ ap (λ l. l ++ ms) first ∙ append_assoc xs ns ms

  -- three lists
  pub behind_three : (xs ys zs vs ks ns ms : List A) → ys ≡ xs ++ ks → zs ≡ ys ++ ns → vs ≡ zs ++ ms → vs ≡ xs ++ (ks ++ (ns ++ ms))
  behind_three xs ys zs vs ks ns ms first second rest = behind_two xs ys vs ks (ns ++ ms) first (behind_two ys zs vs ns ms second rest)

  -- four lists
  pub behind_four : (xs ys zs vs ws js ks ns ms : List A) → ys ≡ xs ++ js → zs ≡ ys ++ ks → vs ≡ zs ++ ns → ws ≡ vs ++ ms → ws ≡ xs ++ (js ++ (ks ++ (ns ++ ms)))
  behind_four xs ys zs vs ws js ks ns ms first second third rest =
      behind_two xs ys ws js (ks ++ (ns ++ ms)) first (behind_three ys zs vs ws ks ns ms second third rest)

  -- three items, one after the other
  pub three_more : (p q r s : List A) (a b c : A) → q ≡ p ++ a ∷ [] → r ≡ q ++ b ∷ [] → s ≡ r ++ c ∷ []
      → s ≡ p ++ (a ∷ (b ∷ (c ∷ [])))
  three_more p q r s a b c first second third = behind_three p q r s (a ∷ []) (b ∷ []) (c ∷ []) first second third

  -- five items
  pub five_more : (p q r s t u : List A) (a b c d e : A) → q ≡ p ++ a ∷ [] → r ≡ q ++ b ∷ [] → s ≡ r ++ c ∷ []
      → t ≡ s ++ d ∷ [] → u ≡ t ++ e ∷ [] → u ≡ p ++ (a ∷ (b ∷ (c ∷ (d ∷ (e ∷ [])))))
  five_more p q r s t u a b c d e first second third fourth fifth =
      behind_two p q u (a ∷ []) (b ∷ (c ∷ (d ∷ (e ∷ [])))) first
      (behind_four q r s t u (b ∷ []) (c ∷ []) (d ∷ []) (e ∷ []) second third fourth fifth)
