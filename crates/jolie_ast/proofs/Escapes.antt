-- What the escapes of a char are.
use Rattle.std.proofs.Common.{◌≡◌, ℕ, suc, ◌<◌, ◌≤◌, List, [], ◌∷◌, ◌++◌, flat_map, length, get_or, inl, inr, refl, sym, ap, ap₂, ◌∙◌, arith, append_assoc, append-nil}
use Rattle.std.proofs.lemmas.Bool.{cases_lt}
use Rattle.std.proofs.lemmas.Str.{encode_ascii, encodes-append, inside_one}
use Rattle.std.proofs.lemmas.Grind.{flat_map-append}
use lib.Utf8.{encode, encodes}
use Rattle.jolie_ast.specs.PrintedExpressions.{escaped_byte}

pub plain_byte : (b : ℕ) → ¬ (b ≡ 10) → ¬ (b ≡ 9) → ¬ (b ≡ 13) → ¬ (b ≡ 34) → ¬ (b ≡ 92) → escaped_byte b ≡ b ∷ []
plain_byte b h1 h2 h3 h4 h5 = grind arith

pub high_bytes : (xs : List ℕ) → ((k : ℕ) → k < length xs → 128 ≤ get_or xs k 0) → flat_map escaped_byte xs ≡ xs
high_bytes [] h = refl
high_bytes (x ∷ xs) h =
    let high : 128 ≤ x = h 0 (omega arith) in
    ap₂ (λ (a b : List ℕ). a ++ b) (plain_byte x (λ e. omega arith) (λ e. omega arith) (λ e. omega arith) (λ e. omega arith) (λ e. omega arith)) (high_bytes xs (λ k below. h (suc k) (omega arith)))

pub plain_char : (c : ℕ) → ¬ (c ≡ 10) → ¬ (c ≡ 9) → ¬ (c ≡ 13) → ¬ (c ≡ 34) → ¬ (c ≡ 92) → flat_map escaped_byte (encode c) ≡ encode c
plain_char c h1 h2 h3 h4 h5 = elim (cases_lt c 128) [
  | inl small ↦ rw (encode_ascii c small, append-nil) (plain_byte c h1 h2 h3 h4 h5)
  | inr big ↦
      let high : (k : ℕ) → k < length (encode c) → 128 ≤ get_or (encode c) k 0 = λ k below. elim (cases_lt (get_or (encode c) k 0) 128) [
        | inl low ↦ absurd (omega (arith, inside_one c [] (encode c) k (sym (append-nil _)) below low))
        | inr h ↦ h
      ] in
      high_bytes (encode c) high
]

pub one_more_char : (cs : List ℕ) (c : ℕ) → encodes (cs ++ c ∷ []) ≡ encodes cs ++ encode c
one_more_char cs c = encodes-append cs (c ∷ []) ∙ ap (λ xs. encodes cs ++ xs) (append-nil (encode c))

-- the escapes of one more char are written
pub one_more_escaped : (old now new cs : List ℕ) (c : ℕ) → now ≡ old ++ flat_map escaped_byte (encodes cs) → new ≡ now ++ flat_map escaped_byte (encode c) → new ≡ old ++ flat_map escaped_byte (encodes (cs ++ c ∷ []))
one_more_escaped old now new cs c before turn =
    turn
    ∙ ap (λ xs. xs ++ flat_map escaped_byte (encode c)) before
    ∙ append_assoc old (flat_map escaped_byte (encodes cs)) (flat_map escaped_byte (encode c))
    ∙ ap (λ xs. old ++ xs) (sym (flat_map-append escaped_byte (encodes cs) (encode c)))
    ∙ ap (λ xs. old ++ flat_map escaped_byte xs) (sym (one_more_char cs c))

-- one more char is taken from a text
pub one_more_taken : (text cs rest later : List ℕ) (c : ℕ) → text ≡ encodes cs ++ rest → rest ≡ encode c ++ later → text ≡ encodes (cs ++ c ∷ []) ++ later
one_more_taken text cs rest later c before turn =
    before ∙ ap (λ xs. encodes cs ++ xs) turn ∙ sym (append_assoc (encodes cs) (encode c) later) ∙ ap (λ xs. xs ++ later) (sym (one_more_char cs c))
