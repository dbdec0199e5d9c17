-- Tokens without their places, and the form in which they are printed.
use Rattle.std.proofs.Common.{◌≡◌, ℕ, List, [], ◌∷◌, ◌++◌, map, Some, refl, ap}
use Rattle.jolie_tokens.specs.declared.token.TokenKind.{TokenKind}
use Rattle.jolie_tokens.specs.declared.token.TokenKind.TheVariants as kind
use Rattle.jolie_tokens.specs.declared.sign.Sign.{Sign}
use Rattle.jolie_tokens.specs.Signs.{sign_bytes}
use Rattle.jolie_tokens.specs.Pieces as pieces
use Rattle.jolie_tokens.specs.Pieces.{Piece, written, IsPiece, kind_of}
use Rattle.jolie_ast.specs.PrintedExpressions.{long_token, quoted_token}
use Rattle.jolie_ast.specs.PrintedParts.{int_token}
use Rattle.jolie_parse.specs.declared.class.Class.{Class}
use Rattle.jolie_parse.specs.Classes.{Spelled, class_of}

-- a token without its place
pub record Lexeme : Type 0 where
  pub kind : TokenKind
  pub spelling : List ℕ

-- the kind of a token and its bytes
abbrev pub lexeme_of : Spelled → Lexeme
lexeme_of t = record { kind = t.token.kind; spelling = t.spelling }

-- all of them
abbrev pub lexemes_of : List Spelled → List Lexeme
lexemes_of ts = map lexeme_of ts

-- the bytes of lexemes
abbrev pub spellings : List Lexeme → List (List ℕ)
spellings ls = map (λ l. l.spelling) ls

-- how a token of that kind is printed, where its bytes are these
abbrev pub printed_spelling : TokenKind → List ℕ → List ℕ
printed_spelling kind.Word spelling = spelling
printed_spelling (kind.Int n) spelling = int_token n
printed_spelling (kind.Long n) spelling = long_token n
printed_spelling (kind.Str text) spelling = quoted_token text
printed_spelling (kind.Sign s) spelling = sign_bytes s

-- the printed form of a lexeme
abbrev pub printed_form : Lexeme → Lexeme
printed_form l = record { kind = l.kind; spelling = printed_spelling l.kind l.spelling }

-- it is written as a valid piece of its kind
pub record IsPrinted (l : Lexeme) : Type 0 where
  pub piece : Piece
  pub valid : IsPiece piece
  pub meant : kind_of piece ≡ Some l.kind
  pub so_written : written piece ≡ l.spelling

-- each of them is so
abbrev pub Every : {A : Type 0} → (A → Type 0) → List A → Type 0
Every P [] = Unit {0}
Every P (x ∷ xs) = P x × Every P xs

-- the printed form of the token is a valid piece
abbrev pub IsValid : Spelled → Type 0
IsValid t = IsPrinted (printed_form (lexeme_of t))

-- ---- signs and classes

-- the lexeme of a sign
abbrev pub sign_lexeme : Sign → Lexeme
sign_lexeme s = record { kind = kind.Sign s; spelling = sign_bytes s }

pub sign_printed : (s : Sign) → IsPrinted (sign_lexeme s)
sign_printed s = record { piece = pieces.sign s; valid = tt; meant = refl; so_written = refl }

-- the class of a lexeme
abbrev pub lexeme_class : Lexeme → Class
lexeme_class l = class_of l.kind l.spelling

kind_class : (k : TokenKind) (spelling : List ℕ) → class_of k (printed_spelling k spelling) ≡ class_of k spelling
kind_class kind.Word spelling = refl
kind_class (kind.Int n) spelling = refl
kind_class (kind.Long n) spelling = refl
kind_class (kind.Str text) spelling = refl
kind_class (kind.Sign s) spelling = refl

pub printed_class : (l : Lexeme) → lexeme_class (printed_form l) ≡ lexeme_class l
printed_class l = kind_class l.kind l.spelling

-- ---- lists of them

pub Every-append : {A : Type 0} (P : A → Type 0) (xs ys : List A) → Every P xs → Every P ys → Every P (xs ++ ys)
Every-append P [] ys f g = g
Every-append P (x ∷ xs) ys f g = (f.0, Every-append P xs ys f.1 g)

pub Every-left : {A : Type 0} (P : A → Type 0) (xs ys : List A) → Every P (xs ++ ys) → Every P xs
Every-left P [] ys f = tt
Every-left P (x ∷ xs) ys f = (f.0, Every-left P xs ys f.1)

pub Every-right : {A : Type 0} (P : A → Type 0) (xs ys : List A) → Every P (xs ++ ys) → Every P ys
Every-right P [] ys f = f
Every-right P (x ∷ xs) ys f = Every-right P xs ys f.1

pub spellings-append : (xs ys : List Lexeme) → spellings (xs ++ ys) ≡ spellings xs ++ spellings ys
spellings-append [] ys = refl
spellings-append (x ∷ xs) ys = ap (λ z. x.spelling ∷ z) (spellings-append xs ys)

-- tokens of which the first has the lexeme l
pub record Begun (us : List Spelled) (l : Lexeme) (ls : List Lexeme) : Type 0 where
  pub head : Spelled
  pub tail : List Spelled
  pub whole : us ≡ head ∷ tail
  pub is_head : lexeme_of head ≡ l
  pub is_tail : lexemes_of tail ≡ ls

pub begun : (us : List Spelled) (l : Lexeme) (ls : List Lexeme) → lexemes_of us ≡ l ∷ ls → Begun us l ls
begun [] l ls e = cc
begun (u ∷ us) l ls e = record { head = u; tail = us; whole = refl; is_head = cc; is_tail = cc }

-- tokens that are parts of these lexemes
pub record Split (us : List Spelled) (xs ys : List Lexeme) : Type 0 where
  pub front : List Spelled
  pub back : List Spelled
  pub whole : us ≡ front ++ back
  pub is_front : lexemes_of front ≡ xs
  pub is_back : lexemes_of back ≡ ys

with_head : (u : Spelled) (us : List Spelled) (x : Lexeme) (xs ys : List Lexeme) → lexeme_of u ≡ x → Split us xs ys → Split (u ∷ us) (x ∷ xs) ys
with_head u us x xs ys h s = record {
  front = u ∷ s.front;
  back = s.back;
  whole = ap (λ z. u ∷ z) s.whole;
  is_front = rw (h, s.is_front) refl;
  is_back = s.is_back;
}

pub split : (us : List Spelled) (xs ys : List Lexeme) → lexemes_of us ≡ xs ++ ys → Split us xs ys
split us [] ys e = record { front = []; back = us; whole = refl; is_front = refl; is_back = e }
split [] (x ∷ xs) ys e = cc
split (u ∷ us) (x ∷ xs) ys e =
    let head : lexeme_of u ≡ x = cc in
    let tail : lexemes_of us ≡ xs ++ ys = cc in
    with_head u us x xs ys head (split us xs ys tail)
