-- Laws of tokens one after another.
use Rattle.std.proofs.Common.{◌≡◌, ℕ, ◌+◌, ◌-◌, ◌<◌, ◌≤◌, OnOk, Result, arith, subst, drop, List, [], ◌∷◌, ◌++◌, map, length, get_or, take, Option, Some, None, refl, ap, sym, ◌∙◌, flat_map, append_assoc, append-nil}
use Rattle.std.proofs.lemmas.List.{flat_map_more, take_all, take_more}
use Rattle.jolie_ast.specs.Spacing.{Token, separated, spaced, text_of, with_token, after, ended}

-- tokens of what was mapped
pub mapped_tokens : {X Y A : Type 0} (g : Y → List A) (f : X → Y) (xs : List X) → flat_map g (map f xs) ≡ flat_map (λ x. g (f x)) xs
mapped_tokens g f [] = refl
mapped_tokens g f (x ∷ xs) = ap (λ ys. g (f x) ++ ys) (mapped_tokens g f xs)

-- separated tokens of what was mapped
pub mapped_separated : {X Y : Type 0} (sign : Token) (g : Y → List Token) (f : X → Y) (xs : List X) → separated sign g (map f xs) ≡ separated sign (λ x. g (f x)) xs
mapped_separated sign g f [] = refl
mapped_separated sign g f (x ∷ xs) = ap (λ ys. g (f x) ++ ys) (mapped_tokens (λ y. sign ∷ g y) f xs)

-- tokens are written one list after the other
pub after_append : (text : Option (List ℕ)) (ss ts : List Token) → after text (ss ++ ts) ≡ after (after text ss) ts
after_append text [] ts = refl
after_append text (s ∷ ss) ts = after_append (with_token text s) ss ts

-- what is written behind a text is spaced
pub after_some : (text : List ℕ) (ts : List Token) → after (Some text) ts ≡ Some (text ++ spaced ts)
after_some text [] = ap Some (sym (append-nil text))
after_some text (t ∷ ts) = after_some (text ++ 32 ∷ t) ts ∙ ap Some (append_assoc text (32 ∷ t) (spaced ts))

-- all that is written is the text of the tokens
pub ended_after : (ts : List Token) → ended (after None ts) ≡ text_of ts
ended_after [] = refl
ended_after (t ∷ ts) = ap ended (after_some t ts)

-- one more thing is written
pub after_more : {X : Type 0} (text : Option (List ℕ)) (f : X → List Token) (xs : List X) (x : X) → after text (flat_map f (xs ++ x ∷ [])) ≡ after (after text (flat_map f xs)) (f x)
after_more text f xs x = ap (after text) (sym (flat_map_more f [] xs x)) ∙ after_append text (flat_map f xs) (f x)

-- a turn of a loop writes one more thing
pub after_turn : {X : Type 0} (text : Option (List ℕ)) (f : X → List Token) (xs : List X) (i : ℕ) (d : X) → i < length xs → after text (flat_map f (take (i + 1) xs)) ≡ after (after text (flat_map f (take i xs))) (f (get_or xs i d))
after_turn text f xs i d below = ap (λ ys. after text (flat_map f ys)) (take_more xs i d below) ∙ after_more text f (take i xs) (get_or xs i d)

-- a turn of a loop that writes an item of a list
pub turn_of : {X : Type 0} (f : X → List Token) (p0 p1 p2 : Option (List ℕ)) (xs : List X) (i : ℕ) (x : X) → i < length xs → x ≡ get_or xs i x
    → p1 ≡ after p0 (flat_map f (take i xs)) → p2 ≡ after p1 (f x) → p2 ≡ after p0 (flat_map f (take (i + 1) xs))
turn_of f p0 p1 p2 xs i x below item before turn =
    turn ∙ ap (λ p. after p (f x)) before ∙ ap (λ y. after (after p0 (flat_map f (take i xs))) (f y)) item ∙ sym (after_turn p0 f xs i x below)

-- a token, and tokens behind it
pub token_then : (p0 p1 p2 : Option (List ℕ)) (t : Token) (ts us : List Token) → p1 ≡ with_token p0 t → p2 ≡ after p1 ts → us ≡ t ∷ ts → p2 ≡ after p0 us
token_then p0 p1 p2 t ts us first rest whole = rest ∙ ap (λ p. after p ts) first ∙ ap (after p0) (sym whole)

-- a list is its first item and what is behind
pub first_split : {X : Type 0} (xs : List X) (x : X) → 1 ≤ length xs → x ≡ get_or xs 0 x → x ∷ take (length xs - 1) (drop 1 xs) ≡ xs
first_split [] x h e = absurd (omega (arith, h))
first_split (y ∷ xs) x h e = let n : length (y ∷ xs) - 1 ≡ length xs = omega arith in rw n (ap (λ q. q ∷ take (length xs) xs) e ∙ ap (λ q. y ∷ q) (take_all (length xs) xs (omega arith)))

-- a loop over all but the first item writes the items separated
pub all_separated : {X : Type 0} (sign : Token) (f : X → List Token) (p0 p1 p2 : Option (List ℕ)) (xs : List X) (x : X) (i : ℕ) → 1 ≤ length xs → x ≡ get_or xs 0 x
    → p1 ≡ after p0 (f x) → p2 ≡ after p1 (flat_map (λ y. sign ∷ f y) (take i (take (length xs - 1) (drop 1 xs)))) → length (take (length xs - 1) (drop 1 xs)) ≤ i → p2 ≡ after p0 (separated sign f xs)
all_separated sign f p0 p1 p2 xs x i some item first rest ended =
    rest
    ∙ ap (λ ys. after p1 (flat_map (λ y. sign ∷ f y) ys)) (take_all i (take (length xs - 1) (drop 1 xs)) ended)
    ∙ ap (λ p. after p (flat_map (λ y. sign ∷ f y) (take (length xs - 1) (drop 1 xs)))) first
    ∙ sym (after_append p0 (f x) (flat_map (λ y. sign ∷ f y) (take (length xs - 1) (drop 1 xs))))
    ∙ ap (λ ys. after p0 (separated sign f ys)) (first_split xs x some item)

-- a loop over all items behind what was written first
pub all_behind : {X : Type 0} (f : X → List Token) (p0 p1 p2 : Option (List ℕ)) (ts us : List Token) (xs : List X) (i : ℕ) → p1 ≡ after p0 ts
    → p2 ≡ after p1 (flat_map f (take i xs)) → length xs ≤ i → us ≡ ts ++ flat_map f xs → p2 ≡ after p0 us
all_behind f p0 p1 p2 ts us xs i first rest ended whole =
    rest ∙ ap (λ ys. after p1 (flat_map f ys)) (take_all i xs ended) ∙ ap (λ p. after p (flat_map f xs)) first ∙ sym (after_append p0 ts (flat_map f xs)) ∙ ap (after p0) (sym whole)

-- tokens that are those of a thing
pub shown_as : {A E : Type 0} (r : Result A E) (s t : Option (List ℕ)) (ts us : List Token) → us ≡ ts → OnOk r (t ≡ after s ts) → OnOk r (t ≡ after s us)
shown_as r s t ts us same shown = subst (λ xs. OnOk r (t ≡ after s xs)) (sym same) shown

-- tokens behind others, which together are those of a thing
pub shown_behind : {A E : Type 0} (r : Result A E) (s m t : Option (List ℕ)) (xs ts us : List Token) → m ≡ after s xs → us ≡ xs ++ ts → OnOk r (t ≡ after m ts) → OnOk r (t ≡ after s us)
shown_behind r s m t xs ts us first same shown =
    subst (λ (x : Option (List ℕ)). OnOk r (t ≡ x)) (ap (λ (p : Option (List ℕ)). after p ts) first ∙ sym (after_append s xs ts) ∙ ap (after s) (sym same)) shown
