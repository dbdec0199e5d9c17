-- Which pieces may stand before a blank: each that is a token.
use Rattle.std.proofs.Common.{◌≡◌, ℕ, ◌≤◌, Bool, true, false, ◌||◌, ◌&&◌, not, List, [], ◌∷◌, ◌++◌, length, refl, sym, ap, ◌∙◌, arith, Some}
use Rattle.std.specs.Prelude.{◌==◌}
use Rattle.std.proofs.lemmas.Bool.{and_parts}
use Rattle.std.proofs.lemmas.Bool.Decides.{nat_tests}
use Rattle.jolie_tokens.specs.declared.sign.Sign.{Sign}
use Rattle.jolie_tokens.specs.declared.sign.Sign.TheVariants as sign
use Rattle.jolie_tokens.specs.declared.token.TokenKind.{TokenKind}
use Rattle.jolie_tokens.specs.Bytes.{dot, slash, star, is_blank, is_word_byte}
use Rattle.jolie_tokens.specs.Numbers.{begins_fraction}
use Rattle.jolie_tokens.specs.Signs.{sign_bytes, IsLongest}
use Rattle.jolie_tokens.specs.Pieces as pieces
use Rattle.jolie_tokens.specs.Pieces.{Piece, kind_of, begins_comment, StandsBefore}

-- what a blank is not
record IsGap (b : ℕ) : Type 0 where
  blank : is_blank b ≡ true
  no_word : is_word_byte b ≡ false
  no_dot : (b == dot) ≡ false
  no_comment : (b == slash || b == star) ≡ false

gap : (b : ℕ) → is_blank b ≡ true → IsGap b
gap b e = record {
  blank = e;
  no_word = grind (arith, nat_tests);
  no_dot = grind (arith, nat_tests);
  no_comment = grind (arith, nat_tests);
}

no_fraction : (b : ℕ) (rest : List ℕ) → IsGap b → begins_fraction (b ∷ rest) ≡ false
no_fraction b rest h = rw h.no_dot refl

-- no byte is a blank
abbrev has_no_blank : List ℕ → Bool
has_no_blank [] = true
has_no_blank (b ∷ bs) = not (is_blank b) && has_no_blank bs

sign_has_no_blank : (s : Sign) → has_no_blank (sign_bytes s) ≡ true
sign_has_no_blank sign.Arrow = refl
sign_has_no_blank sign.Equal = refl
sign_has_no_blank sign.NotEqual = refl
sign_has_no_blank sign.AtMost = refl
sign_has_no_blank sign.AtLeast = refl
sign_has_no_blank sign.DeepAssign = refl
sign_has_no_blank sign.Increment = refl
sign_has_no_blank sign.Decrement = refl
sign_has_no_blank sign.And = refl
sign_has_no_blank sign.Or = refl
sign_has_no_blank sign.OpenBrace = refl
sign_has_no_blank sign.CloseBrace = refl
sign_has_no_blank sign.OpenParen = refl
sign_has_no_blank sign.CloseParen = refl
sign_has_no_blank sign.OpenBracket = refl
sign_has_no_blank sign.CloseBracket = refl
sign_has_no_blank sign.Comma = refl
sign_has_no_blank sign.Semicolon = refl
sign_has_no_blank sign.Colon = refl
sign_has_no_blank sign.Dot = refl
sign_has_no_blank sign.Bar = refl
sign_has_no_blank sign.Assign = refl
sign_has_no_blank sign.Less = refl
sign_has_no_blank sign.Greater = refl
sign_has_no_blank sign.Plus = refl
sign_has_no_blank sign.Minus = refl
sign_has_no_blank sign.Star = refl
sign_has_no_blank sign.Slash = refl
sign_has_no_blank sign.Percent = refl
sign_has_no_blank sign.Not = refl
sign_has_no_blank sign.Hash = refl
sign_has_no_blank sign.At = refl
sign_has_no_blank sign.Question = refl

-- bytes without a blank that stand where these and a blank stand are no longer
no_longer : (bs longer : List ℕ) (b : ℕ) (rest others : List ℕ) → is_blank b ≡ true → has_no_blank longer ≡ true → bs ++ b ∷ rest ≡ longer ++ others → length longer ≤ length bs
no_longer bs [] b rest others blank none e = omega arith
no_longer [] (c ∷ longer) b rest others blank none e =
    let same : b ≡ c = cc in
    let here : not (is_blank c) ≡ true = (and_parts (not (is_blank c)) (has_no_blank longer) none).0 in
    let there : is_blank c ≡ true = ap is_blank (sym same) ∙ blank in
    let never : not true ≡ true = ap not (sym there) ∙ here in
    absurd cc
no_longer (d ∷ bs) (c ∷ longer) b rest others blank none e =
    let tails : bs ++ b ∷ rest ≡ longer ++ others = cc in
    let le = no_longer bs longer b rest others blank (and_parts (not (is_blank c)) (has_no_blank longer) none).1 tails in
    omega arith

sign_is_longest : (s : Sign) (b : ℕ) (rest : List ℕ) → is_blank b ≡ true → IsLongest s (b ∷ rest)
sign_is_longest s b rest blank longer others e = no_longer (sign_bytes s) (sign_bytes longer) b rest others blank (sign_has_no_blank longer) e

sign_begins_no_comment : (s : Sign) (b : ℕ) (rest : List ℕ) → (b == slash || b == star) ≡ false → begins_comment (sign_bytes s ++ b ∷ rest) ≡ false
sign_begins_no_comment sign.Arrow b rest e = refl
sign_begins_no_comment sign.Equal b rest e = refl
sign_begins_no_comment sign.NotEqual b rest e = refl
sign_begins_no_comment sign.AtMost b rest e = refl
sign_begins_no_comment sign.AtLeast b rest e = refl
sign_begins_no_comment sign.DeepAssign b rest e = refl
sign_begins_no_comment sign.Increment b rest e = refl
sign_begins_no_comment sign.Decrement b rest e = refl
sign_begins_no_comment sign.And b rest e = refl
sign_begins_no_comment sign.Or b rest e = refl
sign_begins_no_comment sign.OpenBrace b rest e = refl
sign_begins_no_comment sign.CloseBrace b rest e = refl
sign_begins_no_comment sign.OpenParen b rest e = refl
sign_begins_no_comment sign.CloseParen b rest e = refl
sign_begins_no_comment sign.OpenBracket b rest e = refl
sign_begins_no_comment sign.CloseBracket b rest e = refl
sign_begins_no_comment sign.Comma b rest e = refl
sign_begins_no_comment sign.Semicolon b rest e = refl
sign_begins_no_comment sign.Colon b rest e = refl
sign_begins_no_comment sign.Dot b rest e = refl
sign_begins_no_comment sign.Bar b rest e = refl
sign_begins_no_comment sign.Assign b rest e = refl
sign_begins_no_comment sign.Less b rest e = refl
sign_begins_no_comment sign.Greater b rest e = refl
sign_begins_no_comment sign.Plus b rest e = refl
sign_begins_no_comment sign.Minus b rest e = refl
sign_begins_no_comment sign.Star b rest e = refl
sign_begins_no_comment sign.Slash b rest e = e
sign_begins_no_comment sign.Percent b rest e = refl
sign_begins_no_comment sign.Not b rest e = refl
sign_begins_no_comment sign.Hash b rest e = refl
sign_begins_no_comment sign.At b rest e = refl
sign_begins_no_comment sign.Question b rest e = refl

-- each token may stand before a blank
pub stands_before_blank : (q : Piece) (kind : TokenKind) (b : ℕ) (rest : List ℕ) → kind_of q ≡ Some kind → is_blank b ≡ true → StandsBefore q (b ∷ rest)
stands_before_blank (pieces.blank c) kind b rest k e = tt
stands_before_blank (pieces.line_comment bs) kind b rest k e = absurd cc
stands_before_blank (pieces.block_comment bs) kind b rest k e = tt
stands_before_blank (pieces.word bs) kind b rest k e = (gap b e).no_word
stands_before_blank (pieces.int ds) kind b rest k e = ((gap b e).no_word, no_fraction b rest (gap b e))
stands_before_blank (pieces.long ds) kind b rest k e = (gap b e).no_word
stands_before_blank (pieces.string parts) kind b rest k e = tt
stands_before_blank (pieces.sign s) kind b rest k e = (sign_is_longest s b rest e, sign_begins_no_comment s b rest (gap b e).no_comment)
