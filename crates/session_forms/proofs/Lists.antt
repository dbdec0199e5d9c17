-- The elements of a list, one by one.
use Rattle.std.proofs.Common.{◌≡◌, ℕ, ◌+◌, ◌<◌, List, ◌∷◌, drop, length, get_or, set, sym, ap, ◌∙◌, arith}
use Rattle.std.proofs.lemmas.List.{drop_more, drop-set-lt}
use Rattle.std.proofs.Math.Seq.{drop-drop}

-- what is left at a place begins with the element there
pub taken_off : {A : Type 0} (xs : List A) (i : ℕ) (x : A) → i < length xs → x ≡ get_or xs i x → drop i xs ≡ x ∷ drop (i + 1) xs
taken_off xs i x h is = drop_more xs i x h ∙ ap (λ y. y ∷ drop (i + 1) xs) (sym is)

-- lists that are the same from a place on are so from the next
pub left_over : {A : Type 0} (xs ys : List A) (i : ℕ) → drop i ys ≡ drop i xs → drop (i + 1) ys ≡ drop (i + 1) xs
left_over xs ys i h = sym (drop-drop 1 i ys) ∙ ap (drop 1) h ∙ drop-drop 1 i xs

-- what is not yet visited stays as it was
pub unvisited-more : {A : Type 0} (xs ys : List A) (i : ℕ) (y : A) → drop i ys ≡ drop i xs → drop (i + 1) (set ys i y) ≡ drop (i + 1) xs
unvisited-more xs ys i y h = let lt : i < i + 1 = omega arith in drop-set-lt (i + 1) ys i y lt ∙ left_over xs ys i h

-- the next to be visited is the first of what is left
pub first_unvisited : {A : Type 0} (xs ys : List A) (i : ℕ) (x : A) → i < length ys → drop i ys ≡ drop i xs → x ≡ get_or ys i x → drop i xs ≡ x ∷ drop (i + 1) xs
first_unvisited xs ys i x lt h is = sym h ∙ taken_off ys i x lt is ∙ ap (λ zs. x ∷ zs) (left_over xs ys i h)
