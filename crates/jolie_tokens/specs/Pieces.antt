-- The pieces that a text is made of: blanks, comments and tokens; how each is written, which are valid, and before
-- which bytes they may stand.
use Rattle.std.specs.Prelude.{◌≡◌, ◌≢◌, ℕ, ◌≤◌, Bool, true, false, ◌||◌, ◌&&◌, ◌==◌, pos}
use Rattle.std.specs.Prelude.{List, [], ◌∷◌, ◌++◌, map, IsUtf8, Option, None, Some}
use Rattle.std.specs.List.{All, AllPass, flat_map}
use Rattle.jolie_tokens.specs.declared.sign.Sign.{Sign}
use Rattle.jolie_tokens.specs.declared.token.TokenKind.{TokenKind}
use Rattle.jolie_tokens.specs.declared.token.TokenKind.TheVariants as kind
use Rattle.jolie_tokens.specs.Bytes.{quote, star, slash, letter_l, backslash}
use Rattle.jolie_tokens.specs.Bytes.{is_blank, is_letter, is_word_byte, is_in_line, is_escape, meant_byte, begins}
use Rattle.jolie_tokens.specs.Numbers.{largest_int, largest_long, AreDigits, value, begins_fraction}
use Rattle.jolie_tokens.specs.Signs.{sign_bytes, IsLongest}

-- a part of a string's inside: a byte, or a backslash and the byte after it
pub data Part : Type 0 where
  plain escape : ℕ → Part

-- how a part is written
abbrev pub part_bytes : Part → List ℕ
part_bytes (plain b) = b ∷ []
part_bytes (escape b) = backslash ∷ b ∷ []

-- a plain byte is no quote and no backslash
abbrev pub IsPart : Part → Type 0
IsPart (plain b) = (b ≢ quote) × (b ≢ backslash)
IsPart (escape b) = Unit {0}

-- each escape is one of the five
abbrev pub IsKnown : Part → Type 0
IsKnown (plain b) = Unit {0}
IsKnown (escape b) = is_escape b ≡ true

-- the byte that a part means
abbrev pub meant : Part → ℕ
meant (plain b) = b
meant (escape b) = meant_byte b

-- the bytes of a string between its quotes
abbrev pub inside : List Part → List ℕ
inside parts = flat_map part_bytes parts

-- one piece of a text; a number's bytes are its digits, a comment's are those between its marks
pub data Piece : Type 0 where
  blank : ℕ → Piece
  line_comment block_comment word int long : List ℕ → Piece
  string : List Part → Piece
  sign : Sign → Piece

-- the bytes of a piece; the line feed after a `//` comment is a blank of its own
abbrev pub written : Piece → List ℕ
written (blank b) = b ∷ []
written (line_comment bs) = slash ∷ slash ∷ bs
written (block_comment bs) = slash ∷ star ∷ (bs ++ star ∷ slash ∷ [])
written (word bs) = bs
written (int ds) = ds
written (long ds) = ds ++ letter_l ∷ []
written (string parts) = quote ∷ (inside parts ++ quote ∷ [])
written (sign s) = sign_bytes s

-- no `*/` stands among the bytes
abbrev pub HasNoEnd : List ℕ → Type 0
HasNoEnd bs = (front back : List ℕ) → bs ≢ front ++ star ∷ slash ∷ back

-- the piece is valid
abbrev pub IsPiece : Piece → Type 0
IsPiece (blank b) = is_blank b ≡ true
IsPiece (line_comment bs) = AllPass is_in_line bs × IsUtf8 bs
IsPiece (block_comment bs) = HasNoEnd bs × IsUtf8 bs
IsPiece (word bs) = (begins is_letter bs ≡ true) × AllPass is_word_byte bs
IsPiece (int ds) = AreDigits ds × (value ds ≤ largest_int)
IsPiece (long ds) = AreDigits ds × (value ds ≤ largest_long)
IsPiece (string parts) = All IsPart parts × All IsKnown parts × IsUtf8 (inside parts)
IsPiece (sign s) = Unit {0}

-- `//` or `/*`
abbrev pub begins_comment : List ℕ → Bool
begins_comment [] = false
begins_comment (b ∷ bs) = b == slash && begins (λ c. c == slash || c == star) bs

-- The piece may stand before these bytes: a `//` comment goes to the line's end, a word to its last byte, a number is
-- not followed directly by a letter, a digit or a fraction, and a sign is the longest and begins no comment.
abbrev pub StandsBefore : Piece → List ℕ → Type 0
StandsBefore (line_comment bs) rest = begins is_in_line rest ≡ false
StandsBefore (word bs) rest = begins is_word_byte rest ≡ false
StandsBefore (int ds) rest = (begins is_word_byte rest ≡ false) × (begins_fraction rest ≡ false)
StandsBefore (long ds) rest = begins is_word_byte rest ≡ false
StandsBefore (sign s) rest = IsLongest s rest × (begins_comment (sign_bytes s ++ rest) ≡ false)
StandsBefore _ rest = Unit {0}

-- what a piece is as a token; blanks and comments are none
abbrev pub kind_of : Piece → Option TokenKind
kind_of (word bs) = Some kind.Word
kind_of (int ds) = Some (kind.Int (pos (value ds)))
kind_of (long ds) = Some (kind.Long (pos (value ds)))
kind_of (string parts) = Some (kind.Str (map meant parts))
kind_of (sign s) = Some (kind.Sign s)
kind_of _ = None
