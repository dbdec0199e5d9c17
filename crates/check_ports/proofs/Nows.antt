-- Laws of loops over lists of references.
use Rattle.std.proofs.Common.{◌≡◌, ℕ, ◌+◌, ◌<◌, List, [], ◌∷◌, ◌++◌, map, length, get_or, take, Option, Bor, ap, sym, ◌∙◌, flat_map, append_assoc}
use Rattle.std.proofs.lemmas.List.{map-append, take_more}
use Rattle.std.proofs.lemmas.List.Folds.{flat_map-map}
use Rattle.jolie_ast.specs.declared.name.Name.{Name}
use Rattle.check_base.specs.declared.refusal.Refusal.{Refusal}
use Rattle.check_base.specs.Least.{joined}
use Rattle.check_base.proofs.Joined.{turn_of}

-- what references refer to
abbrev pub nows : {X : Type 0} → List (Bor X) → List X
nows {X} xs = map (λ (x : Bor X). x.now) xs

-- one reference more
pub nows_push : {X : Type 0} (items new : List (Bor X)) (d : Bor X) → new ≡ items ++ d ∷ [] → nows new ≡ nows items ++ d.now ∷ []
nows_push {X} items new d e = ap nows e ∙ map-append (λ (x : Bor X). x.now) items (d ∷ [])

-- one reference more is taken
pub nows_more : {X : Type 0} (xs : List (Bor X)) (i : ℕ) (x : Bor X) → i < length xs → x ≡ get_or xs i x → nows (take (i + 1) xs) ≡ nows (take i xs) ++ x.now ∷ []
nows_more xs i x below item = nows_push (take i xs) (take (i + 1) xs) x (take_more xs i x below ∙ ap (λ y. take i xs ++ y ∷ []) (sym item))

-- a turn of a loop that checks what a reference refers to
pub nows_turn : {X : Type 0} (f : X → List Refusal) (p0 p1 p2 : Option Refusal) (xs : List (Bor X)) (i : ℕ) (x : Bor X) → i < length xs → x ≡ get_or xs i x
    → p1 ≡ joined p0 (flat_map f (nows (take i xs))) → p2 ≡ joined p1 (f x.now) → p2 ≡ joined p0 (flat_map f (nows (take (i + 1) xs)))
nows_turn {X} f p0 p1 p2 xs i x below item before turn =
    turn_of (λ (d : Bor X). f d.now) p0 p1 p2 xs i x below item (before ∙ ap (joined p0) (flat_map-map f (λ (d : Bor X). d.now) (take i xs))) turn
    ∙ ap (joined p0) (sym (flat_map-map f (λ (d : Bor X). d.now) (take (i + 1) xs)))

-- the texts of names with one more
pub texts_more : (p0 ts us : List (List ℕ)) (ns ms : List Name) (n : Name) → ms ≡ ns ++ n ∷ [] → ts ≡ p0 ++ map (λ (n : Name). n.text) ns → us ≡ ts ++ n.text ∷ [] → us ≡ p0 ++ map (λ (n : Name). n.text) ms
texts_more p0 ts us ns ms n more before turn =
    turn
    ∙ ap (λ xs. xs ++ n.text ∷ []) before
    ∙ append_assoc p0 (map (λ (n : Name). n.text) ns) (n.text ∷ [])
    ∙ ap (λ xs. p0 ++ xs) (sym (map-append (λ (n : Name). n.text) ns (n ∷ [])) ∙ ap (map (λ (n : Name). n.text)) (sym more))
