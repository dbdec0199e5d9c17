-- Where lines begin and end.
use Rattle.std.proofs.Common.{◌≡◌, ◌≤◌, ◌+◌, ◌-◌, ℕ, suc, List, [], ◌∷◌, ◌++◌, length, take, drop, arith, sym, ap, ◌∙◌}
use Rattle.std.specs.List.{prefix_len, suffix_len, before_first, after_last}
use Rattle.std.proofs.lemmas.List.{take-append-drop, drop-append-le, length-drop}
use Rattle.explain_places.specs.Places.{ends_line, is_in_line, before_in_line, rest_of_line}

-- bytes that stand behind others, of which n are taken
take_behind : (n : ℕ) (xs ys : List ℕ) → take (length xs + n) (xs ++ ys) ≡ xs ++ take n ys
take_behind n [] ys =
    let none : length {A = ℕ} [] + n ≡ n = omega arith in
    ap (λ k. take k ys) none
take_behind n (x ∷ xs) ys =
    let more : suc (length xs) + n ≡ suc (length xs + n) = omega arith in
    ap (λ k. take k (x ∷ (xs ++ ys))) more ∙ ap (λ zs. x ∷ zs) (take_behind n xs ys)

-- a part of two lists in a row that goes over their border
joined : (xs ys : List ℕ) (start n : ℕ) → start ≤ length xs → take (length xs - start + n) (drop start (xs ++ ys)) ≡ drop start xs ++ take n ys
joined xs ys start n within =
    let size : length (drop start xs) ≡ length xs - start = length-drop start xs in
    ap (λ zs. take (length xs - start + n) zs) (drop-append-le start xs ys within)
    ∙ (ap (λ k. take (k + n) (drop start xs ++ ys)) (sym size) ∙ take_behind n (drop start xs) ys)

-- the line around a place, by where it begins and how many bytes it has
pub line_is : (text front rest : List ℕ) (at start n len : ℕ) → front ≡ take at text → rest ≡ drop at text
    → start ≡ length front - suffix_len is_in_line front → n ≡ prefix_len is_in_line rest → len ≡ length front - start + n
    → take len (drop start text) ≡ before_in_line text at ++ rest_of_line text at
line_is text front rest at start n len before behind begins ends size =
    let within : start ≤ length front = omega arith in
    let whole : text ≡ front ++ rest = sym (take-append-drop at text) ∙ (ap (λ xs. xs ++ drop at text) (sym before) ∙ ap (λ ys. front ++ ys) (sym behind)) in
    let first : drop start front ≡ before_in_line text at = ap (λ k. drop k front) begins ∙ ap (λ xs. after_last ends_line xs) before in
    let last : take n rest ≡ rest_of_line text at = ap (λ k. take k rest) ends ∙ ap (λ ys. before_first ends_line ys) behind in
    ap (λ k. take k (drop start text)) size
    ∙ (ap (λ zs. take (length front - start + n) (drop start zs)) whole
    ∙ (joined front rest start n within
    ∙ (ap (λ xs. xs ++ take n rest) first ∙ ap (λ ys. before_in_line text at ++ ys) last)))
