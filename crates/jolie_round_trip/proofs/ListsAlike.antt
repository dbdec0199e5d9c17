-- Lists of things that are printed alike are.
use Rattle.std.proofs.Common.{◌≡◌, List, [], ◌∷◌, ◌++◌, map, flat_map, refl, ap, ◌∙◌}
use Rattle.jolie_ast.specs.Spacing.{Token, separated}

pub lists_alike : {T A : Type 0} (f : T → T) (g : T → List A) → ((x : T) → g (f x) ≡ g x) → (xs : List T) → flat_map g (map f xs) ≡ flat_map g xs
lists_alike f g alike [] = refl
lists_alike f g alike (x ∷ xs) = rw (alike x, lists_alike f g alike xs) refl

pub separated_alike : {T : Type 0} (sign : Token) (f : T → T) (g : T → List Token) → ((x : T) → g (f x) ≡ g x) → (xs : List T) → separated sign g (map f xs) ≡ separated sign g xs
separated_alike sign f g alike [] = refl
separated_alike sign f g alike (x ∷ xs) =
    ap (λ ts. ts ++ flat_map (λ y. sign ∷ g y) (map f xs)) (alike x) ∙ ap (λ ts. g x ++ ts) (lists_alike f (λ y. sign ∷ g y) (λ y. ap (λ ts. sign ∷ ts) (alike y)) xs)

-- ---- lists of things of which this is known

pub known_lists : {T A : Type 0} {P : T → Type 0} (f : T → T) (g : T → List A) → ((x : T) → P x → g (f x) ≡ g x) → (es : List ((x : T) × P x)) → flat_map g (map f (map (λ e. e.0) es)) ≡ flat_map g (map (λ e. e.0) es)
known_lists f g alike [] = refl
known_lists f g alike (e ∷ es) = rw (alike e.0 e.1, known_lists f g alike es) refl

pub known_separated : {T : Type 0} {P : T → Type 0} (sign : Token) (f : T → T) (g : T → List Token) → ((x : T) → P x → g (f x) ≡ g x) → (es : List ((x : T) × P x))
    → separated sign g (map f (map (λ e. e.0) es)) ≡ separated sign g (map (λ e. e.0) es)
known_separated sign f g alike [] = refl
known_separated sign f g alike (e ∷ es) =
    ap (λ ts. ts ++ flat_map (λ y. sign ∷ g y) (map f (map (λ e. e.0) es))) (alike e.0 e.1)
    ∙ ap (λ ts. g e.0 ++ ts) (known_lists f (λ y. sign ∷ g y) (λ y k. ap (λ ts. sign ∷ ts) (alike y k)) es)
