-- How a text is read in pieces, the tokens of a text and its refusal.
use Rattle.std.specs.Prelude.{◌≡◌, ℕ, ◌+◌, List, [], ◌∷◌, ◌++◌, length, Option, None, Some}
use Rattle.std.specs.List.{flat_map}
use Rattle.jolie_tokens.specs.declared.token.TokenKind.{TokenKind}
use Rattle.jolie_tokens.specs.declared.token.Token.{Token}
use Rattle.jolie_tokens.specs.declared.lex_error.LexError.{LexError}
use Rattle.jolie_tokens.specs.Pieces.{Piece, written, IsPiece, StandsBefore, kind_of}
use Rattle.jolie_tokens.specs.Refusals.{IsStuck}

-- the bytes of pieces in a row
abbrev pub all_written : List Piece → List ℕ
all_written pieces = flat_map written pieces

-- each piece is valid and may stand before all that follows it
abbrev pub Stand : List Piece → List ℕ → Type 0
Stand [] rest = Unit {0}
Stand (p ∷ pieces) rest = IsPiece p × StandsBefore p (all_written pieces ++ rest) × Stand pieces rest

-- the bytes are these pieces and then the rest
pub record Reads (text : List ℕ) (pieces : List Piece) (rest : List ℕ) : Type 0 where
  pub whole : text ≡ all_written pieces ++ rest
  pub each : Stand pieces rest

-- a token of that kind, if it is one
abbrev pub token_of : Option TokenKind → ℕ → ℕ → List Token
token_of None at len = []
token_of (Some k) at len = record { kind = k; at = at; len = len } ∷ []

-- the tokens among pieces of which the first stands at a place
abbrev pub tokens_of : List Piece → ℕ → List Token
tokens_of [] at = []
tokens_of (p ∷ pieces) at = token_of (kind_of p) at (length (written p)) ++ tokens_of pieces (at + length (written p))

-- the text is made of pieces whose tokens are these
pub record IsRead (text : List ℕ) (tokens : List Token) : Type 0 where
  pub pieces : List Piece
  pub reads : Reads text pieces []
  pub meant : tokens_of pieces 0 ≡ tokens

-- the text is pieces up to bytes that are refused with that error
pub record IsRefused (text : List ℕ) (e : LexError) : Type 0 where
  pub pieces : List Piece
  pub rest : List ℕ
  pub reads : Reads text pieces rest
  pub stuck : IsStuck rest (length (all_written pieces)) e

-- the greatest number of bytes of a text
abbrev pub longest : ℕ
longest = 1048576
