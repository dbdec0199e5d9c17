-- Laws of what loops over lists find, add and check.
use Rattle.std.proofs.Common.{◌≡◌, ℕ, ◌+◌, ◌<◌, ◌≤◌, List, [], ◌∷◌, ◌++◌, map, flat_map, length, get_or, take, Option, Some, None, refl, ap, sym, ◌∙◌, append_assoc}
use Rattle.std.specs.Prelude.{option_map}
use Rattle.std.specs.List.{filter_map, cons_option}
use Rattle.std.specs.Option.{option_to_list}
use Rattle.std.proofs.lemmas.Grind.{flat_map-append}
use Rattle.std.proofs.lemmas.List.{flat_map_more, map-append, take_all, take_more}
use Rattle.std.proofs.lemmas.List.Concat.{flat_map_single}
use Rattle.std.proofs.lemmas.List.Elements.{filter_map-append}
use Rattle.check_base.specs.declared.refusal.Refusal.{Refusal}
use Rattle.check_base.specs.Least.{joined}
use Rattle.check_base.specs.MaybeThere.{if_there}
use Rattle.check_base.proofs.Joined.{turn_of}

-- ---- lists of lists

-- what is found of all that was found
pub each_of_each : {X Y A : Type 0} (f : Y → List A) (g : X → List Y) (xs : List X) → flat_map f (flat_map g xs) ≡ flat_map (λ x. flat_map f (g x)) xs
each_of_each f g [] = refl
each_of_each f g (x ∷ xs) = flat_map-append f (g x) (flat_map g xs) ∙ ap (λ rest. flat_map f (g x) ++ rest) (each_of_each f g xs)

-- all that was found, mapped
pub mapped_each : {X Y A : Type 0} (f : Y → A) (g : X → List Y) (xs : List X) → map f (flat_map g xs) ≡ flat_map (λ x. map f (g x)) xs
mapped_each f g [] = refl
mapped_each f g (x ∷ xs) = map-append f (g x) (flat_map g xs) ∙ ap (λ rest. map f (g x) ++ rest) (mapped_each f g xs)

-- what was mapped twice
pub mapped_twice : {X Y A : Type 0} (f : Y → A) (g : X → Y) (xs : List X) → map f (map g xs) ≡ map (λ x. f (g x)) xs
mapped_twice f g [] = refl
mapped_twice f g (x ∷ xs) = ap (λ rest. f (g x) ∷ rest) (mapped_twice f g xs)

-- ---- what is found

-- one thing may be found before the others
pub maybe_first : {A : Type 0} (o : Option A) (xs : List A) → option_to_list o ++ xs ≡ cons_option o xs
maybe_first None xs = refl
maybe_first (Some a) xs = refl

-- all that is found, item by item
pub all_found : {X A : Type 0} (h : X → Option A) (xs : List X) → flat_map (λ x. option_to_list (h x)) xs ≡ filter_map h xs
all_found h [] = refl
all_found h (x ∷ xs) = ap (λ rest. option_to_list (h x) ++ rest) (all_found h xs) ∙ maybe_first (h x) (filter_map h xs)

-- one of each thing that is found
pub each_found : {X Y A : Type 0} (f : Y → A) (h : X → Option Y) (xs : List X) → flat_map (λ x. map f (option_to_list (h x))) xs ≡ map f (filter_map h xs)
each_found f h xs = sym (mapped_each f (λ x. option_to_list (h x)) xs) ∙ ap (map f) (all_found h xs)

-- all of each thing that is found
pub all_of_found : {X Y A : Type 0} (f : Y → List A) (h : X → Option Y) (xs : List X) → flat_map (λ x. flat_map f (option_to_list (h x))) xs ≡ flat_map f (filter_map h xs)
all_of_found f h xs = sym (each_of_each f (λ x. option_to_list (h x)) xs) ∙ ap (flat_map f) (all_found h xs)

-- what is got of a thing that may be there before the others
pub there_first : {Y A : Type 0} (f : Y → List A) (o : Option Y) (ys : List Y) → if_there f o ++ flat_map f ys ≡ flat_map f (cons_option o ys)
there_first f None ys = refl
there_first f (Some y) ys = refl

-- what is got of all that is picked, item by item
pub each_there : {X Y A : Type 0} (f : Y → List A) (h : X → Option Y) (xs : List X) → flat_map (λ x. if_there f (h x)) xs ≡ flat_map f (filter_map h xs)
each_there f h [] = refl
each_there f h (x ∷ xs) = ap (λ rest. if_there f (h x) ++ rest) (each_there f h xs) ∙ there_first f (h x) (filter_map h xs)

-- ---- loops that add

-- a turn of a loop that adds what an item gives
pub adding_turn : {X A : Type 0} (f : X → List A) (p0 p1 p2 : List A) (xs : List X) (i : ℕ) (x : X) → i < length xs → x ≡ get_or xs i x
    → p1 ≡ p0 ++ flat_map f (take i xs) → p2 ≡ p1 ++ f x → p2 ≡ p0 ++ flat_map f (take (i + 1) xs)
adding_turn f p0 p1 p2 xs i x below item before turn =
    turn
    ∙ ap (λ p. p ++ f x) before
    ∙ append_assoc p0 (flat_map f (take i xs)) (f x)
    ∙ ap (λ ys. p0 ++ ys) (flat_map_more f [] (take i xs) x)
    ∙ ap (λ y. p0 ++ flat_map f (take i xs ++ y ∷ [])) item
    ∙ ap (λ ys. p0 ++ flat_map f ys) (sym (take_more xs i x below))

-- a turn of a loop that adds one thing
pub mapping_turn : {X A : Type 0} (f : X → A) (p0 p1 p2 : List A) (xs : List X) (i : ℕ) (x : X) → i < length xs → x ≡ get_or xs i x
    → p1 ≡ p0 ++ map f (take i xs) → p2 ≡ p1 ++ f x ∷ [] → p2 ≡ p0 ++ map f (take (i + 1) xs)
mapping_turn f p0 p1 p2 xs i x below item before turn =
    turn
    ∙ ap (λ p. p ++ f x ∷ []) before
    ∙ append_assoc p0 (map f (take i xs)) (f x ∷ [])
    ∙ ap (λ ys. p0 ++ ys) (sym (map-append f (take i xs) (x ∷ [])))
    ∙ ap (λ y. p0 ++ map f (take i xs ++ y ∷ [])) item
    ∙ ap (λ ys. p0 ++ map f ys) (sym (take_more xs i x below))

-- a turn of a loop that adds what is found of an item
pub gathering_turn : {X Y A : Type 0} (f : Y → A) (h : X → Option Y) (p1 p2 : List A) (xs : List X) (i : ℕ) (x : X) → i < length xs → x ≡ get_or xs i x
    → p1 ≡ flat_map (λ x. map f (option_to_list (h x))) (take i xs) → p2 ≡ p1 ++ map f (option_to_list (h x)) → p2 ≡ flat_map (λ x. map f (option_to_list (h x))) (take (i + 1) xs)
gathering_turn f h p1 p2 xs i x below item before turn = adding_turn (λ x. map f (option_to_list (h x))) [] p1 p2 xs i x below item before turn

-- all that a loop has added
pub gathered : {X Y A : Type 0} (f : Y → A) (h : X → Option Y) (p : List A) (xs : List X) (n : ℕ) → p ≡ flat_map (λ x. map f (option_to_list (h x))) (take n xs) → length xs ≤ n → p ≡ map f (filter_map h xs)
gathered f h p xs n so all = so ∙ ap (flat_map (λ x. map f (option_to_list (h x)))) (take_all n xs all) ∙ each_found f h xs

-- ---- loops that check or add what an item is, where it is that

-- a turn of a loop that checks what an item is, where it is that
pub picked_turn : {X Y : Type 0} (f : Y → List Refusal) (h : X → Option Y) (p0 p1 p2 : Option Refusal) (xs : List X) (i : ℕ) (x : X) → i < length xs → x ≡ get_or xs i x
    → p1 ≡ joined p0 (flat_map f (filter_map h (take i xs))) → p2 ≡ joined p1 (if_there f (h x)) → p2 ≡ joined p0 (flat_map f (filter_map h (take (i + 1) xs)))
picked_turn f h p0 p1 p2 xs i x below item before turn =
    turn_of (λ x. if_there f (h x)) p0 p1 p2 xs i x below item (before ∙ ap (joined p0) (sym (each_there f h (take i xs)))) turn
    ∙ ap (joined p0) (each_there f h (take (i + 1) xs))

-- a turn of a loop that adds what is got of what an item is, where it is that
pub picked_adds : {X Y A : Type 0} (f : Y → List A) (h : X → Option Y) (p0 p1 p2 : List A) (xs : List X) (i : ℕ) (x : X) → i < length xs → x ≡ get_or xs i x
    → p1 ≡ p0 ++ flat_map f (filter_map h (take i xs)) → p2 ≡ p1 ++ if_there f (h x) → p2 ≡ p0 ++ flat_map f (filter_map h (take (i + 1) xs))
picked_adds f h p0 p1 p2 xs i x below item before turn =
    adding_turn (λ x. if_there f (h x)) p0 p1 p2 xs i x below item (before ∙ ap (λ ys. p0 ++ ys) (sym (each_there f h (take i xs)))) turn
    ∙ ap (λ ys. p0 ++ ys) (each_there f h (take (i + 1) xs))

-- a turn of a loop that adds one thing of what an item is, where it is that
pub picked_maps : {X Y A : Type 0} (f : Y → A) (h : X → Option Y) (p0 p1 p2 : List A) (xs : List X) (i : ℕ) (x : X) → i < length xs → x ≡ get_or xs i x
    → p1 ≡ p0 ++ map f (filter_map h (take i xs)) → p2 ≡ p1 ++ if_there (λ y. f y ∷ []) (h x) → p2 ≡ p0 ++ map f (filter_map h (take (i + 1) xs))
picked_maps f h p0 p1 p2 xs i x below item before turn =
    picked_adds (λ y. f y ∷ []) h p0 p1 p2 xs i x below item (before ∙ ap (λ ys. p0 ++ ys) (sym (flat_map_single f (filter_map h (take i xs))))) turn
    ∙ ap (λ ys. p0 ++ ys) (flat_map_single f (filter_map h (take (i + 1) xs)))

-- what is got of a part of a thing that may be there
pub part_there : {Y Z A : Type 0} (f : Z → List A) (g : Y → Z) (o : Option Y) → if_there (λ y. f (g y)) o ≡ if_there f (option_map g o)
part_there f g None = refl
part_there f g (Some y) = refl

-- a turn of a loop that checks a part of what an item is, where it is that
pub picked_part_turn : {X Y Z : Type 0} (f : Z → List Refusal) (g : Y → Z) (h : X → Option Y) (p0 p1 p2 : Option Refusal) (xs : List X) (i : ℕ) (x : X) → i < length xs → x ≡ get_or xs i x
    → p1 ≡ joined p0 (flat_map (λ y. f (g y)) (filter_map h (take i xs))) → p2 ≡ joined p1 (if_there f (option_map g (h x))) → p2 ≡ joined p0 (flat_map (λ y. f (g y)) (filter_map h (take (i + 1) xs)))
picked_part_turn f g h p0 p1 p2 xs i x below item before turn =
    picked_turn (λ y. f (g y)) h p0 p1 p2 xs i x below item before (turn ∙ ap (joined p1) (sym (part_there f g (h x))))

-- a turn of a loop that adds one thing of a part of what an item is, where it is that
pub picked_part_maps : {X Y Z A : Type 0} (f : Z → A) (g : Y → Z) (h : X → Option Y) (p0 p1 p2 : List A) (xs : List X) (i : ℕ) (x : X) → i < length xs → x ≡ get_or xs i x
    → p1 ≡ p0 ++ map (λ y. f (g y)) (filter_map h (take i xs)) → p2 ≡ p1 ++ if_there (λ z. f z ∷ []) (option_map g (h x)) → p2 ≡ p0 ++ map (λ y. f (g y)) (filter_map h (take (i + 1) xs))
picked_part_maps f g h p0 p1 p2 xs i x below item before turn =
    picked_maps (λ y. f (g y)) h p0 p1 p2 xs i x below item before (turn ∙ ap (λ ys. p1 ++ ys) (sym (part_there (λ z. f z ∷ []) g (h x))))

-- what is picked of one item
picked_one : {Y : Type 0} (o : Option Y) → cons_option o [] ≡ option_to_list o
picked_one None = refl
picked_one (Some y) = refl

-- what is picked of one item more
pub picked_more : {X Y : Type 0} (h : X → Option Y) (xs : List X) (i : ℕ) (x : X) → i < length xs → x ≡ get_or xs i x → filter_map h (take (i + 1) xs) ≡ filter_map h (take i xs) ++ option_to_list (h x)
picked_more h xs i x below item =
    ap (filter_map h) (take_more xs i x below)
    ∙ ap (λ y. filter_map h (take i xs ++ y ∷ [])) (sym item)
    ∙ filter_map-append h (take i xs) (x ∷ [])
    ∙ ap (λ ys. filter_map h (take i xs) ++ ys) (picked_one (h x))
