-- What is printed of lexemes is read as tokens of these lexemes.
use Rattle.std.proofs.Common.{◌≡◌, ℕ, ◌+◌, true, List, [], ◌∷◌, ◌++◌, map, length, take, drop, refl, sym, ap, subst, ◌∙◌, append_assoc, append-nil, length-append, Option, Some, None}
use Rattle.std.proofs.lemmas.List.{map-append}
use Rattle.std.proofs.Math.Seq.{take-append_seam, drop-append_seam}
use Rattle.jolie_tokens.specs.declared.token.Token.{Token}
use Rattle.jolie_tokens.specs.declared.token.TokenKind.{TokenKind}
use Rattle.jolie_tokens.specs.Bytes.{is_blank}
use Rattle.jolie_tokens.specs.Pieces as pieces
use Rattle.jolie_tokens.specs.Pieces.{Piece, written, kind_of, StandsBefore}
use Rattle.jolie_tokens.specs.Texts.{all_written, Stand, token_of, tokens_of, IsRead}
use Rattle.jolie_ast.specs.Spacing.{spaced, text_of}
use Rattle.jolie_parse.specs.Classes.{Spelled, spelled_one, spelled}
use Rattle.jolie_round_trip.proofs.Lexemes.{Lexeme, lexeme_of, lexemes_of, spellings, IsPrinted, Every}
use Rattle.jolie_round_trip.proofs.Gaps.{stands_before_blank}

-- ---- tokens behind a front

-- the tokens of the pieces, with their bytes, in a text that has the front before them
abbrev pub spelled_behind : List ℕ → List Piece → List Spelled
spelled_behind front ps = spelled (front ++ all_written ps) (tokens_of ps (length front))

-- a token of that kind and those bytes, if it is one
abbrev pub spelled_token : Option TokenKind → ℕ → List ℕ → List Spelled
spelled_token kind at bytes = map (λ t. record { token = t; spelling = bytes }) (token_of kind at (length bytes))

cut_out : (front bytes back : List ℕ) → take (length bytes) (drop (length front) (front ++ (bytes ++ back))) ≡ bytes
cut_out front bytes back = ap (take (length bytes)) (drop-append_seam front (bytes ++ back)) ∙ take-append_seam bytes back

first_spelled : (kind : Option TokenKind) (front bytes back : List ℕ) → spelled (front ++ (bytes ++ back)) (token_of kind (length front) (length bytes)) ≡ spelled_token kind (length front) bytes
first_spelled None front bytes back = refl
first_spelled (Some kind) front bytes back =
    ap (λ x. record { token = record { kind = kind; at = length front; len = length bytes }; spelling = x } ∷ []) (cut_out front bytes back)

further_spelled : (front bytes : List ℕ) (ps : List Piece) → spelled (front ++ (bytes ++ all_written ps)) (tokens_of ps (length front + length bytes)) ≡ spelled_behind (front ++ bytes) ps
further_spelled front bytes ps =
    ap (λ x. spelled x (tokens_of ps (length front + length bytes))) (sym (append_assoc front bytes (all_written ps)))
    ∙ ap (λ n. spelled ((front ++ bytes) ++ all_written ps) (tokens_of ps n)) (sym (length-append front bytes))

-- the token of the first piece, and those of the others
pub spelled_first : (front : List ℕ) (q : Piece) (ps : List Piece) → spelled_behind front (q ∷ ps) ≡ spelled_token (kind_of q) (length front) (written q) ++ spelled_behind (front ++ written q) ps
spelled_first front q ps =
    let text = front ++ (written q ++ all_written ps) in
    map-append (spelled_one text) (token_of (kind_of q) (length front) (length (written q))) (tokens_of ps (length front + length (written q)))
    ∙ ap (λ x. x ++ spelled text (tokens_of ps (length front + length (written q)))) (first_spelled (kind_of q) front (written q) (all_written ps))
    ∙ ap (λ x. spelled_token (kind_of q) (length front) (written q) ++ x) (further_spelled front (written q) ps)

-- ---- pieces that are read as lexemes

-- pieces of these bytes have tokens of these lexemes, whatever stands before them
record IsReadAs (text : List ℕ) (ls : List Lexeme) : Type 0 where
  pieces : List Piece
  whole : all_written pieces ≡ text
  each : Stand pieces []
  meant : (front : List ℕ) → lexemes_of (spelled_behind front pieces) ≡ ls

blank_first : (b : ℕ) (text : List ℕ) (ls : List Lexeme) → is_blank b ≡ true → IsReadAs text ls → IsReadAs (b ∷ text) ls
blank_first b text ls blank h = record {
  pieces = pieces.blank b ∷ h.pieces;
  whole = ap (λ x. b ∷ x) h.whole;
  each = (blank, tt, h.each);
  meant = λ front. ap lexemes_of (spelled_first front (pieces.blank b) h.pieces) ∙ h.meant (front ++ b ∷ []);
}

-- the lexeme of the token of a piece
lexeme_token : (kind : Option TokenKind) (l : Lexeme) (at : ℕ) (bytes : List ℕ) → kind ≡ Some l.kind → bytes ≡ l.spelling → lexemes_of (spelled_token kind at bytes) ≡ l ∷ []
lexeme_token kind l at bytes e f = ap (λ k. lexemes_of (spelled_token k at bytes)) e ∙ ap (λ x. record { kind = l.kind; spelling = x } ∷ []) f

lexeme_first : (l : Lexeme) (b : ℕ) (text : List ℕ) (ls : List Lexeme) → is_blank b ≡ true → IsPrinted l → IsReadAs (b ∷ text) ls → IsReadAs (l.spelling ++ b ∷ text) (l ∷ ls)
lexeme_first l b text ls blank p h = record {
  pieces = p.piece ∷ h.pieces;
  whole = ap (λ x. x ++ all_written h.pieces) p.so_written ∙ ap (λ x. l.spelling ++ x) h.whole;
  each = (p.valid, subst (StandsBefore p.piece) (sym (append-nil (all_written h.pieces) ∙ h.whole)) (stands_before_blank p.piece l.kind b text p.meant blank), h.each);
  meant = λ front.
      ap lexemes_of (spelled_first front p.piece h.pieces)
      ∙ map-append lexeme_of (spelled_token (kind_of p.piece) (length front) (written p.piece)) (spelled_behind (front ++ written p.piece) h.pieces)
      ∙ ap (λ x. x ++ lexemes_of (spelled_behind (front ++ written p.piece) h.pieces)) (lexeme_token (kind_of p.piece) l (length front) (written p.piece) p.meant p.so_written)
      ∙ ap (λ x. l ∷ x) (h.meant (front ++ written p.piece));
}

line_end : IsReadAs (10 ∷ []) []
line_end = blank_first 10 [] [] refl (record { pieces = []; whole = refl; each = tt; meant = λ front. refl })

-- a blank and more before the text's end
record IsBlankFirst (ls : List Lexeme) (text : List ℕ) : Type 0 where
  byte : ℕ
  rest : List ℕ
  blank : is_blank byte ≡ true
  whole : text ≡ byte ∷ rest

spaced_blank : (ls : List Lexeme) → IsBlankFirst ls (spaced (spellings ls) ++ 10 ∷ [])
spaced_blank [] = record { byte = 10; rest = []; blank = refl; whole = refl }
spaced_blank (l ∷ ls) = record { byte = 32; rest = (l.spelling ++ spaced (spellings ls)) ++ 10 ∷ []; blank = refl; whole = refl }

lexeme_spaced : (l : Lexeme) (ls : List Lexeme) → IsPrinted l → IsReadAs (spaced (spellings ls) ++ 10 ∷ []) ls → IsReadAs ((l.spelling ++ spaced (spellings ls)) ++ 10 ∷ []) (l ∷ ls)
lexeme_spaced l ls p h =
    let b = spaced_blank ls in
    let text = spaced (spellings ls) ++ 10 ∷ [] in
    subst (λ x. IsReadAs x (l ∷ ls)) (ap (λ x. l.spelling ++ x) (sym b.whole) ∙ sym (append_assoc l.spelling (spaced (spellings ls)) (10 ∷ [])))
    (lexeme_first l b.byte b.rest ls b.blank p (subst (λ x. IsReadAs x ls) b.whole h))

spaced_read : (ls : List Lexeme) → Every IsPrinted ls → IsReadAs (spaced (spellings ls) ++ 10 ∷ []) ls
spaced_read [] each = line_end
spaced_read (l ∷ ls) each =
    blank_first 32 ((l.spelling ++ spaced (spellings ls)) ++ 10 ∷ []) (l ∷ ls) refl (lexeme_spaced l ls each.0 (spaced_read ls each.1))

text_read : (ls : List Lexeme) → Every IsPrinted ls → IsReadAs (text_of (spellings ls)) ls
text_read [] each = line_end
text_read (l ∷ ls) each = lexeme_spaced l ls each.0 (spaced_read ls each.1)

-- the text of printed lexemes is read as tokens of these lexemes
pub record IsLexed (ls : List Lexeme) : Type 0 where
  pub tokens : List Token
  pub read : IsRead (text_of (spellings ls)) tokens
  pub same : lexemes_of (spelled (text_of (spellings ls)) tokens) ≡ ls

pub lexed : (ls : List Lexeme) → Every IsPrinted ls → IsLexed ls
lexed ls each =
    let h = text_read ls each in
    record {
      tokens = tokens_of h.pieces 0;
      read = record { pieces = h.pieces; reads = record { whole = sym (append-nil (all_written h.pieces) ∙ h.whole); each = h.each }; meant = refl };
      same = ap (λ x. lexemes_of (spelled x (tokens_of h.pieces 0))) (sym h.whole) ∙ h.meant [];
    }
