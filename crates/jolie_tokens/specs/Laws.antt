-- Laws of texts that hold whatever the text.
use Rattle.std.specs.Prelude.{◌≡◌, ◌⊎◌, ℕ, List, []}
use Rattle.jolie_tokens.specs.declared.token.Token.{Token}
use Rattle.jolie_tokens.specs.declared.lex_error.LexError.{LexError}
use Rattle.jolie_tokens.specs.Pieces.{Piece}
use Rattle.jolie_tokens.specs.Texts.{Reads, IsRead, IsRefused}

-- each text is read or refused, in one way, and never both
pub record HaveOneReading : Type 0 where
  pub some : (text : List ℕ) → ((tokens : List Token) × IsRead text tokens) ⊎ ((e : LexError) × IsRefused text e)
  pub one_reading : (text : List ℕ) (a b : List Piece) → Reads text a [] → Reads text b [] → a ≡ b
  pub one_refusal : (text : List ℕ) (d e : LexError) → IsRefused text d → IsRefused text e → d ≡ e
  pub never_both : (text : List ℕ) (tokens : List Token) (e : LexError) → IsRead text tokens → IsRefused text e → ⊥
