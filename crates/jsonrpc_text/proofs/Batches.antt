-- The texts of a batch, one after the other.
use Rattle.std.proofs.Common.{◌≡◌, ◌∙◌, refl, sym, ap, ℕ, zero, suc, ◌+◌, ◌<◌, ◌≤◌, List, [], ◌∷◌, ◌++◌, length, drop, get_or, codes, arith, append_assoc}
use Rattle.std.proofs.lemmas.List.{append-nil, drop_all}
use Rattle.jsonrpc_text.specs.Responses.{listed, batch}
use Rattle.jsonrpc_text.proofs.Lists.{taken_off}

-- texts with a comma before each
abbrev pub each_behind : List (List ℕ) → List ℕ
each_behind [] = []
each_behind (text ∷ texts) = codes "," ++ text ++ each_behind texts

-- what is still to be written of texts after so many
abbrev pub left_after : ℕ → List (List ℕ) → List ℕ
left_after zero texts = listed texts
left_after (suc n) texts = each_behind texts

listed-two : (text next : List ℕ) (texts : List (List ℕ)) → listed (text ∷ next ∷ texts) ≡ text ++ (codes "," ++ listed (next ∷ texts))
listed-two text next texts = append_assoc text (codes ",") (listed (next ∷ texts))

each-two : (text : List ℕ) (texts : List (List ℕ)) → each_behind (text ∷ texts) ≡ codes "," ++ (text ++ each_behind texts)
each-two text texts = refl

listed-cons : (text : List ℕ) (texts : List (List ℕ)) → listed (text ∷ texts) ≡ text ++ each_behind texts
listed-cons text [] = sym (append-nil text)
listed-cons text (next ∷ texts) = listed-two text next texts ∙ ap (λ x. text ++ (codes "," ++ x)) (listed-cons next texts) ∙ ap (λ x. text ++ x) (sym (each-two next texts))

pub first-written : (texts : List (List ℕ)) (i : ℕ) (text done all : List ℕ) → i < length texts → text ≡ get_or texts i text → i ≡ 0
    → done ++ left_after i (drop i texts) ≡ all → (done ++ text) ++ left_after (i + 1) (drop (i + 1) texts) ≡ all
first-written texts zero text done all h is start kept =
    append_assoc done text (each_behind (drop 1 texts)) ∙ ap (λ x. done ++ x) (sym (ap listed (taken_off texts 0 text h is) ∙ listed-cons text (drop 1 texts))) ∙ kept
first-written texts (suc i) text done all h is start kept = absurd (omega (arith, start))

pub next-written : (texts : List (List ℕ)) (i : ℕ) (text done all : List ℕ) → i < length texts → text ≡ get_or texts i text → 0 < i
    → done ++ left_after i (drop i texts) ≡ all → ((done ++ codes ",") ++ text) ++ left_after (i + 1) (drop (i + 1) texts) ≡ all
next-written texts zero text done all h is later kept = absurd (omega (arith, later))
next-written texts (suc i) text done all h is later kept =
    let f : suc i + 1 ≡ suc (suc i) = omega arith in
    rw f (append_assoc (done ++ codes ",") text (each_behind (drop (suc (suc i)) texts)) ∙ append_assoc done (codes ",") (text ++ each_behind (drop (suc (suc i)) texts))
    ∙ ap (λ x. done ++ x) (sym (ap each_behind (taken_off texts (suc i) text h is))) ∙ kept)

left-none : (i : ℕ) → left_after i [] ≡ []
left-none zero = refl
left-none (suc i) = refl

pub all-written : (texts : List (List ℕ)) (i : ℕ) (done : List ℕ) → length texts ≤ i → done ++ left_after i (drop i texts) ≡ codes "[" ++ listed texts → done ++ codes "]" ≡ batch texts
unfolding batch
all-written texts i done past kept =
    let whole : done ≡ codes "[" ++ listed texts = sym (append-nil done) ∙ ap (λ x. done ++ x) (sym (ap (left_after i) (drop_all i texts past) ∙ left-none i)) ∙ kept in
    ap (λ x. x ++ codes "]") whole ∙ append_assoc (codes "[") (listed texts) (codes "]")
