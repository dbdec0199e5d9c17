-- Laws of the first thing that is found in a list.
use Rattle.std.proofs.Common.{◌≡◌, ℕ, ◌+◌, ◌<◌, ◌≤◌, List, [], ◌∷◌, ◌++◌, length, get_or, drop, Option, Some, None, refl, ap, sym, ◌∙◌}
use Rattle.std.specs.List.{cons_option, filter_map}
use Rattle.std.proofs.lemmas.List.{at_drop_all, at_drop_more}
use Rattle.check_base.specs.Files.{first_there}

-- the first thing that is found in a list
abbrev pub first_found : {X Y : Type 0} → (X → Option Y) → List X → Option Y
first_found g xs = first_there (filter_map g xs)

-- what is left of a list, from an item on
pub left_at : {X Y : Type 0} (f : List X → Y) (xs : List X) (i : ℕ) (x : X) → i < length xs → x ≡ get_or xs i x → f (drop i xs) ≡ f (x ∷ drop (i + 1) xs)
left_at f xs i x below item = at_drop_more f xs i x below ∙ ap (λ y. f (y ∷ drop (i + 1) xs)) (sym item)

-- nothing is found in an item
pub found_later : {X Y : Type 0} (g : X → Option Y) (xs : List X) (i : ℕ) (x : X) → i < length xs → x ≡ get_or xs i x → g x ≡ None → first_found g xs ≡ first_found g (drop i xs) → first_found g xs ≡ first_found g (drop (i + 1) xs)
found_later g xs i x below item none before =
    before ∙ left_at (first_found g) xs i x below item ∙ ap (λ o. first_there (cons_option o (filter_map g (drop (i + 1) xs)))) none

-- something is found in an item
pub found_here : {X Y : Type 0} (g : X → Option Y) (xs : List X) (i : ℕ) (x : X) (y : Y) → i < length xs → x ≡ get_or xs i x → g x ≡ Some y → first_found g xs ≡ first_found g (drop i xs) → first_found g xs ≡ Some y
found_here g xs i x y below item some before =
    before ∙ left_at (first_found g) xs i x below item ∙ ap (λ o. first_there (cons_option o (filter_map g (drop (i + 1) xs)))) some

-- nothing is found in the list
pub found_nowhere : {X Y : Type 0} (g : X → Option Y) (xs : List X) (i : ℕ) → length xs ≤ i → first_found g xs ≡ first_found g (drop i xs) → first_found g xs ≡ None
found_nowhere g xs i end before = before ∙ at_drop_all (first_found g) xs i end

-- nothing is the first of one list, and so the first is that of the next
pub first_passes : {A : Type 0} (us vs : List A) → first_there us ≡ None → first_there (us ++ vs) ≡ first_there vs
first_passes [] vs none = refl
first_passes (a ∷ us) vs none = cc

-- the first of a list is the first of it and the next
pub first_stops : {A : Type 0} (us vs : List A) (a : A) → first_there us ≡ Some a → first_there (us ++ vs) ≡ Some a
first_stops [] vs a some = cc
first_stops (b ∷ us) vs a some = some
