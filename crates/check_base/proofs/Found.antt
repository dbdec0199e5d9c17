-- Laws of types and interfaces that are found by their names.
use Rattle.std.proofs.Common.{◌≡◌, ℕ, zero, suc, Bool, true, false, ◌<◌, arith, List, [], ◌∷◌, ◌++◌, map, length, get_or, Option, Some, None, Bor, refl, ap, sym, ◌∙◌, bytes_eq}
use Rattle.std.specs.Prelude.{if◌then◌else◌, option_map, slice_get}
use Rattle.std.proofs.lemmas.List.{map-append, length-map}
use Rattle.check_base.specs.Repeated.{place_of}
use Rattle.check_base.specs.Files.{type_named, interface_named}
use Rattle.jolie_ast.specs.declared.types.TypeDefinition.{TypeDefinition}
use Rattle.jolie_ast.specs.declared.interface.Interface.{Interface}

-- the item at a place, if there is one
abbrev pub item_at : {X : Type 0} → Option ℕ → List X → Option X
item_at None xs = None
item_at (Some n) [] = None
item_at (Some zero) (x ∷ xs) = Some x
item_at (Some (suc n)) (x ∷ xs) = item_at (Some n) xs

-- the first item is it, or it is behind
pub first_or_at : {X : Type 0} (b : Bool) (x : X) (xs : List X) (o : Option ℕ) → (if b then Some x else item_at o xs) ≡ item_at (if b then Some 0 else option_map suc o) (x ∷ xs)
first_or_at true x xs o = refl
first_or_at false x xs None = refl
first_or_at false x xs (Some n) = refl

-- a type is found at the place of its name
pub type_at : (types : List TypeDefinition) (q : List ℕ) → type_named types q ≡ item_at (place_of (map (λ (d : TypeDefinition). d.name.text) types) q) types
type_at [] q = refl
type_at (t ∷ types) q =
    ap (λ o. if bytes_eq t.name.text q then Some t else o) (type_at types q)
    ∙ first_or_at (bytes_eq t.name.text q) t types (place_of (map (λ (d : TypeDefinition). d.name.text) types) q)

-- an interface is found at the place of its name
pub interface_at : (interfaces : List Interface) (q : List ℕ) → interface_named interfaces q ≡ item_at (place_of (map (λ (d : Interface). d.name.text) interfaces) q) interfaces
interface_at [] q = refl
interface_at (i ∷ interfaces) q =
    ap (λ o. if bytes_eq i.name.text q then Some i else o) (interface_at interfaces q)
    ∙ first_or_at (bytes_eq i.name.text q) i interfaces (place_of (map (λ (d : Interface). d.name.text) interfaces) q)

-- the item at a place of a list of references
pub item_now : {X : Type 0} (n : ℕ) (items : List (Bor X)) (r : Bor X) → n < length items → r ≡ get_or items n r → item_at (Some n) (map (λ d. d.now) items) ≡ Some r.now
item_now n [] r below there = absurd (omega (arith, below))
item_now {X} zero (x ∷ items) r below there = ap (λ (y : Bor X). Some y.now) (sym there)
item_now (suc n) (x ∷ items) r below there = item_now n items r (omega (arith, below)) there

-- the item at a place that is there
pub item_is : {X : Type 0} (n : ℕ) (xs : List X) → item_at (Some n) xs ≡ slice_get xs n
item_is n [] = refl
item_is zero (x ∷ xs) = refl
item_is (suc n) (x ∷ xs) = item_is n xs

-- a type of a list of references is found
pub type_found : (items : List (Bor TypeDefinition)) (q : List ℕ) (n : ℕ) (r : Bor TypeDefinition) → place_of (map (λ (d : TypeDefinition). d.name.text) (map (λ d. d.now) items)) q ≡ Some n → n < length items → r ≡ get_or items n r
    → Some r.now ≡ type_named (map (λ d. d.now) items) q
type_found items q n r place below there =
    sym (type_at (map (λ d. d.now) items) q ∙ ap (λ o. item_at o (map (λ d. d.now) items)) place ∙ item_now n items r below there)

-- a type of no place is not there
pub type_missing : (types : List TypeDefinition) (q : List ℕ) → place_of (map (λ (d : TypeDefinition). d.name.text) types) q ≡ None → None ≡ type_named types q
type_missing types q place = sym (type_at types q ∙ ap (λ o. item_at o types) place)

-- an interface of a list of references is found
pub interface_found : (items : List (Bor Interface)) (q : List ℕ) (n : ℕ) (r : Bor Interface) → place_of (map (λ (d : Interface). d.name.text) (map (λ d. d.now) items)) q ≡ Some n → n < length items → r ≡ get_or items n r
    → Some r.now ≡ interface_named (map (λ d. d.now) items) q
interface_found items q n r place below there =
    sym (interface_at (map (λ d. d.now) items) q ∙ ap (λ o. item_at o (map (λ d. d.now) items)) place ∙ item_now n items r below there)

-- an interface of no place is not there
pub interface_missing : (interfaces : List Interface) (q : List ℕ) → place_of (map (λ (d : Interface). d.name.text) interfaces) q ≡ None → None ≡ interface_named interfaces q
interface_missing interfaces q place = sym (interface_at interfaces q ∙ ap (λ o. item_at o interfaces) place)

-- a place among what things are named by is one among the things
pub place_below : {X Y : Type 0} (f : X → Y) (items : List (Bor X)) (names : List Y) (n : ℕ) → names ≡ map f (map (λ d. d.now) items) → n < length names → n < length items
place_below {X} f items names n e below = omega (arith, below, ap length e, length-map (map (λ (b : Bor X). b.now) items) f, length-map items (λ (b : Bor X). b.now))

-- a list of references with one more
pub references_more : {X Y : Type 0} (f : X → Y) (items new : List (Bor X)) (d : Bor X) → new ≡ items ++ d ∷ [] → map f (map (λ d. d.now) new) ≡ map f (map (λ d. d.now) items) ++ f d.now ∷ []
references_more {X} f items new d e =
    ap (λ xs. map f (map (λ (b : Bor X). b.now) xs)) e
    ∙ ap (map f) (map-append (λ (b : Bor X). b.now) items (d ∷ []))
    ∙ map-append f (map (λ (b : Bor X). b.now) items) (d.now ∷ [])
