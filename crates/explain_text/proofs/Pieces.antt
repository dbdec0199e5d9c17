-- Bytes to which pieces were added.
use Rattle.std.proofs.Common.{◌≡◌, ◌<◌, ℕ, List, [], ◌∷◌, ◌++◌, length, Option, arith, refl, ap, ◌∙◌}
use Rattle.std.specs.Prelude.{codes}
use Rattle.std.proofs.lemmas.List.{append_assoc}
use Rattle.explain_hints.specs.declared.hint.Hint.{Hint}
use Rattle.check_verdicts.specs.declared.refusal.Refusal.{Refusal}
use Rattle.explain_text.specs.declared.advice.Advice.{Advice}
use Rattle.explain_text.specs.Advised.{IsAdvised}
use Rattle.explain_text.specs.Explained.{explanation, line_if_any, AreHintsOf, IsExplained}

-- two pieces, one after the other
pub two_more : (old a b : List ℕ) → old ++ a ++ b ≡ old ++ (a ++ b)
two_more old a b = append_assoc old a b

-- three pieces
pub three_more : (old a b c : List ℕ) → old ++ a ++ b ++ c ≡ old ++ (a ++ b ++ c)
three_more old a b c = ap (λ xs. xs ++ c) (append_assoc old a b) ∙ append_assoc old (a ++ b) c

-- five pieces
pub five_more : (old a b c d e : List ℕ) → old ++ a ++ b ++ c ++ d ++ e ≡ old ++ (a ++ b ++ c ++ d ++ e)
five_more old a b c d e =
    ap (λ xs. xs ++ c ++ d ++ e) (append_assoc old a b) ∙ ap (λ xs. xs ++ d ++ e) (append_assoc old (a ++ b) c)
    ∙ ap (λ xs. xs ++ e) (append_assoc old (a ++ b ++ c) d) ∙ append_assoc old (a ++ b ++ c ++ d) e

-- bytes with these hints and this advice
pub is_explained : (file text : List ℕ) (r : Refusal) (bytes : List ℕ) (hints : List Hint) (advice : Option Advice) → AreHintsOf text r.cause r.at hints → IsAdvised text r.cause r.at hints advice
    → bytes ≡ explanation file text r hints advice → IsExplained file text r bytes
is_explained file text r bytes hints advice told advised lines =
    record { hints = hints; told = told; advice = advice; advised = advised; lines = lines }

-- there is nothing to say
pub no_line : (kind said : List ℕ) → length said ≡ 0 → line_if_any kind said ≡ []
no_line kind [] none = refl
no_line kind (b ∷ bs) none = absurd (omega arith)

-- there is something to say
pub some_line : (kind said : List ℕ) → 0 < length said → line_if_any kind said ≡ kind ++ said ++ codes "\n"
some_line kind [] some = absurd (omega arith)
some_line kind (b ∷ bs) some = refl
