-- Each token that is read of a text stands in it.
use Rattle.std.proofs.Common.{◌≡◌, ℕ, zero, suc, ◌+◌, ◌<◌, ◌≤◌, ◌⊎◌, inl, inr, Bool, true, List, [], ◌∷◌, ◌++◌, length, take, get_or, refl, sym, ap, subst, ◌∙◌, arith, append_assoc, length-append, Option, None, Some}
use Rattle.std.specs.Prelude.{nat_lt}
use Rattle.std.specs.List.{All, AllPass, list_all}
use Rattle.std.specs.Str.{IsUtf8}
use Rattle.std.proofs.lemmas.Bool.Decides.{nat_tests}
use Rattle.std.proofs.lemmas.List.Sums.{AllPass-from_list_all}
use Rattle.std.proofs.lemmas.List.Elements.{All-append, All-nil}
use Rattle.std.proofs.lemmas.Str.{IsUtf8-from_ascii, IsUtf8-append}
use Rattle.std.proofs.Math.Seq.{drop-append_seam, take-append_seam}
use Rattle.jolie_tokens.specs.declared.token.Token.{Token}
use Rattle.jolie_tokens.specs.declared.token.TokenKind.{TokenKind}
use Rattle.jolie_tokens.specs.declared.sign.Sign.{Sign}
use Rattle.jolie_tokens.specs.declared.sign.Sign.TheVariants as sign
use Rattle.jolie_tokens.specs.Bytes.{quote, letter_l, is_word_byte, is_digit}
use Rattle.jolie_tokens.specs.Signs.{sign_bytes}
use Rattle.jolie_tokens.specs.Pieces as p
use Rattle.jolie_tokens.specs.Pieces.{Piece, written, IsPiece, inside, kind_of}
use Rattle.jolie_tokens.specs.Texts.{all_written, Stand, token_of, tokens_of, IsRead}
use Rattle.jolie_parse.specs.Classes.{StandsIn}

-- ---- what tokens are written in is UTF-8

word_byte_small : (b : ℕ) → is_word_byte b ≡ true → b < 128
word_byte_small b h = grind (arith, nat_tests)

digit_small : (b : ℕ) → is_digit b ≡ true → b < 128
digit_small b h = grind (arith, nat_tests)

past_end : (bs : List ℕ) (i : ℕ) → length bs ≤ i → get_or bs i 0 ≡ 0
past_end [] i h = refl
past_end (b ∷ bs) zero h = let never : ⊥ = omega arith in absurd never
past_end (b ∷ bs) (suc i) h = past_end bs i (omega arith)

ascii_at : (test : ℕ → Bool) (bs : List ℕ) (i : ℕ) → ((b : ℕ) → test b ≡ true → b < 128) → AllPass test bs → (i < length bs) ⊎ (length bs ≤ i) → get_or bs i 0 < 128
ascii_at test bs i small all (inl h) = small (get_or bs i 0) (all i 0 h)
ascii_at test bs i small all (inr h) = omega (arith, past_end bs i h)

order : (m n : ℕ) → (m < n) ⊎ (n ≤ m)
order m n = grind arith

ascii : (test : ℕ → Bool) (bs : List ℕ) → ((b : ℕ) → test b ≡ true → b < 128) → AllPass test bs → IsUtf8 bs
ascii test bs small all = IsUtf8-from_ascii bs (λ i. ascii_at test bs i small all (order i (length bs)))

small : ℕ → Bool
small b = nat_lt b 128

smalls_utf8 : (bs : List ℕ) → list_all small bs ≡ true → IsUtf8 bs
unfolding small
smalls_utf8 bs h = ascii small bs (λ b k. grind (arith, nat_tests)) (AllPass-from_list_all small bs h)

sign_small : (s : Sign) → list_all small (sign_bytes s) ≡ true
unfolding small
sign_small sign.Arrow = refl
sign_small sign.Equal = refl
sign_small sign.NotEqual = refl
sign_small sign.AtMost = refl
sign_small sign.AtLeast = refl
sign_small sign.DeepAssign = refl
sign_small sign.Increment = refl
sign_small sign.Decrement = refl
sign_small sign.And = refl
sign_small sign.Or = refl
sign_small sign.OpenBrace = refl
sign_small sign.CloseBrace = refl
sign_small sign.OpenParen = refl
sign_small sign.CloseParen = refl
sign_small sign.OpenBracket = refl
sign_small sign.CloseBracket = refl
sign_small sign.Comma = refl
sign_small sign.Semicolon = refl
sign_small sign.Colon = refl
sign_small sign.Dot = refl
sign_small sign.Bar = refl
sign_small sign.Assign = refl
sign_small sign.Less = refl
sign_small sign.Greater = refl
sign_small sign.Plus = refl
sign_small sign.Minus = refl
sign_small sign.Star = refl
sign_small sign.Slash = refl
sign_small sign.Percent = refl
sign_small sign.Not = refl
sign_small sign.Hash = refl
sign_small sign.At = refl
sign_small sign.Question = refl

one_small : (b : ℕ) → small b ≡ true → IsUtf8 (b ∷ [])
one_small b h = smalls_utf8 (b ∷ []) (rw h refl)

quote_utf8 : IsUtf8 (quote ∷ [])
unfolding small
quote_utf8 = one_small quote refl

letter_utf8 : IsUtf8 (letter_l ∷ [])
unfolding small
letter_utf8 = one_small letter_l refl

-- of the pieces that are tokens
written_utf8 : (piece : Piece) (k : TokenKind) → kind_of piece ≡ Some k → IsPiece piece → IsUtf8 (written piece)
written_utf8 (p.blank b) k e h = cc
written_utf8 (p.line_comment bs) k e h = cc
written_utf8 (p.block_comment bs) k e h = cc
written_utf8 (p.word bs) k e h = ascii is_word_byte bs word_byte_small h.1
written_utf8 (p.int ds) k e h = ascii is_digit ds digit_small h.0.1
written_utf8 (p.long ds) k e h = IsUtf8-append ds (letter_l ∷ []) (ascii is_digit ds digit_small h.0.1) letter_utf8
written_utf8 (p.string parts) k e h =
    IsUtf8-append (quote ∷ []) (inside parts ++ quote ∷ []) quote_utf8
    (IsUtf8-append (inside parts) (quote ∷ []) h.2 quote_utf8)
written_utf8 (p.sign s) k e h = smalls_utf8 (sign_bytes s) (sign_small s)

-- ---- where they stand

one_stands : (text front bs rest : List ℕ) (k : TokenKind) → text ≡ front ++ (bs ++ rest) → IsUtf8 bs → StandsIn text (record { kind = k; at = length front; len = length bs })
one_stands text front bs rest k e u = record {
  within = omega (arith, ap length e, length-append front (bs ++ rest), length-append bs rest);
  utf8 = subst IsUtf8 (sym (rw e (ap (take (length bs)) (drop-append_seam front (bs ++ rest)) ∙ take-append_seam bs rest))) u;
}

one_is : (text : List ℕ) (t : Token) → StandsIn text t → All (StandsIn text) (t ∷ [])
one_is text t h zero d below = h
one_is text t h (suc i) d below = let never : ⊥ = omega arith in absurd never

piece_stands : (text front rest : List ℕ) (piece : Piece) (o : Option TokenKind) → kind_of piece ≡ o → text ≡ front ++ (written piece ++ rest) → IsPiece piece → All (StandsIn text) (token_of o (length front) (length (written piece)))
piece_stands text front rest piece None e w h = All-nil (StandsIn text)
piece_stands text front rest piece (Some k) e w h =
    one_is text (record { kind = k; at = length front; len = length (written piece) }) (one_stands text front (written piece) rest k w (written_utf8 piece k e h))

all_stand : (text front : List ℕ) (pieces : List Piece) (at : ℕ) → at ≡ length front → text ≡ front ++ (all_written pieces ++ []) → Stand pieces [] → All (StandsIn text) (tokens_of pieces at)
all_stand text front [] at a e s = All-nil (StandsIn text)
all_stand text front (piece ∷ pieces) at a e s =
    let here : text ≡ front ++ (written piece ++ (all_written pieces ++ [])) = e ∙ ap (λ z. front ++ z) (append_assoc (written piece) (all_written pieces) []) in
    let behind : text ≡ (front ++ written piece) ++ (all_written pieces ++ []) = here ∙ sym (append_assoc front (written piece) (all_written pieces ++ [])) in
    let long : at + length (written piece) ≡ length (front ++ written piece) = omega (arith, length-append front (written piece)) in
    All-append (StandsIn text) (token_of (kind_of piece) at (length (written piece))) (tokens_of pieces (at + length (written piece)))
    (rw a (piece_stands text front (all_written pieces ++ []) piece (kind_of piece) refl here s.0))
    (all_stand text (front ++ written piece) pieces (at + length (written piece)) long behind s.2)

-- each token that a text is read as stands in it
pub tokens_stand : (text : List ℕ) (tokens : List Token) → IsRead text tokens → All (StandsIn text) tokens
tokens_stand text tokens r = subst (All (StandsIn text)) r.meant (all_stand text [] r.pieces 0 refl r.reads.whole r.reads.each)
