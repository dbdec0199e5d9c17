-- The bytes at which no piece can be read, and how they are refused.
use Rattle.std.specs.Prelude.{◌≡◌, ◌≢◌, ℕ, ◌+◌, ◌<◌, ◌≤◌, true, false, ◌||◌, ◌==◌, List, ◌∷◌, ◌++◌, length, ◌⊎◌}
use Rattle.std.specs.List.{All, AllPass}
use Rattle.jolie_tokens.specs.declared.lex_error.LexError.{LexError}
use Rattle.jolie_tokens.specs.declared.lex_error.LexError.TheVariants as error
use Rattle.jolie_tokens.specs.declared.sign.Sign.{Sign}
use Rattle.jolie_tokens.specs.Bytes.{quote, star, slash, is_blank, is_letter, is_digit, is_in_line, is_escape, begins}
use Rattle.jolie_tokens.specs.Numbers.{AreDigits, is_bad_number}
use Rattle.jolie_tokens.specs.Signs.{sign_bytes}
use Rattle.jolie_tokens.specs.Utf8.{StopsAt}
use Rattle.jolie_tokens.specs.Pieces.{Part, escape, IsPart, inside, HasNoEnd}

-- no blank, word, number, string or sign begins there, and so no comment
pub record BeginsNothing (bs : List ℕ) : Type 0 where
  pub some : 0 < length bs
  pub no_piece : begins (λ b. is_blank b || is_letter b || is_digit b || b == quote) bs ≡ false
  pub no_sign : (s : Sign) (rest : List ℕ) → bs ≢ sign_bytes s ++ rest

-- the bytes after a string's first quote close no string
abbrev pub ClosesNothing : List ℕ → Type 0
ClosesNothing after = (parts : List Part) (rest : List ℕ) → All IsPart parts → after ≢ inside parts ++ quote ∷ rest

-- a string that is not closed
abbrev pub IsOpenString : List ℕ → Type 0
IsOpenString bs = (after : List ℕ) × (bs ≡ quote ∷ after) × ClosesNothing after

-- a comment that is not closed
abbrev pub IsOpenComment : List ℕ → Type 0
IsOpenComment bs = (after : List ℕ) × (bs ≡ slash ∷ star ∷ after) × HasNoEnd after

-- the backslash of a bad escape stands at that place of a string's inside
abbrev pub IsBadEscape : List Part → ℕ → Type 0
IsBadEscape parts k =
    (before after : List Part) × (b : ℕ) × (parts ≡ before ++ escape b ∷ after) × (is_escape b ≡ false)
    × (k ≡ length (inside before))

-- a bad escape stands at that place of a string's inside, or the bytes stop beginning UTF-8 there
abbrev pub IsFault : List Part → ℕ → Type 0
IsFault parts k = IsBadEscape parts k ⊎ StopsAt (inside parts) k

-- and no fault stands before it
pub record IsFirstFault (parts : List Part) (k : ℕ) : Type 0 where
  pub fault : IsFault parts k
  pub least : (j : ℕ) → IsFault parts j → k ≤ j

-- a closed string whose inside has its first fault at that place
pub record IsBadString (bs : List ℕ) (k : ℕ) : Type 0 where
  pub parts : List Part
  pub rest : List ℕ
  pub whole : bs ≡ quote ∷ (inside parts ++ quote ∷ rest)
  pub each : All IsPart parts
  pub first : IsFirstFault parts k

-- a comment to the line's end whose bytes stop beginning UTF-8 at that place after the `//`
pub record IsBadLine (bs : List ℕ) (k : ℕ) : Type 0 where
  pub line : List ℕ
  pub rest : List ℕ
  pub whole : bs ≡ slash ∷ slash ∷ (line ++ rest)
  pub each : AllPass is_in_line line
  pub ends : begins is_in_line rest ≡ false
  pub stops : StopsAt line k

-- a closed comment whose bytes stop beginning UTF-8 at that place after the `/*`
pub record IsBadBlock (bs : List ℕ) (k : ℕ) : Type 0 where
  pub block : List ℕ
  pub rest : List ℕ
  pub whole : bs ≡ slash ∷ star ∷ (block ++ star ∷ slash ∷ rest)
  pub no_end : HasNoEnd block
  pub stops : StopsAt block k

-- digits that make no number before what follows them
pub record IsBadNumber (bs : List ℕ) : Type 0 where
  pub digits : List ℕ
  pub rest : List ℕ
  pub whole : bs ≡ digits ++ rest
  pub each : AreDigits digits
  pub ends : begins is_digit rest ≡ false
  pub bad : is_bad_number digits rest ≡ true

-- The place of a bad byte, where the bytes begin at the place `at`: their own, or one in a string or in a comment,
-- whose inside begins after one byte or two.
pub data IsBadByte (bs : List ℕ) (at place : ℕ) : Type 0 where
  of_nothing : BeginsNothing bs → place ≡ at → IsBadByte bs at place
  of_string : (k : ℕ) → IsBadString bs k → place ≡ at + 1 + k → IsBadByte bs at place
  of_line : (k : ℕ) → IsBadLine bs k → place ≡ at + 2 + k → IsBadByte bs at place
  of_block : (k : ℕ) → IsBadBlock bs k → place ≡ at + 2 + k → IsBadByte bs at place

-- bytes that begin at the place `at` are refused with that error
abbrev pub IsStuck : List ℕ → ℕ → LexError → Type 0
IsStuck bs at (error.BadByte place) = IsBadByte bs at place
IsStuck bs at (error.OpenString place) = IsOpenString bs × (place ≡ at)
IsStuck bs at (error.OpenComment place) = IsOpenComment bs × (place ≡ at)
IsStuck bs at (error.BadNumber place) = IsBadNumber bs × (place ≡ at)
IsStuck bs at _ = ⊥
