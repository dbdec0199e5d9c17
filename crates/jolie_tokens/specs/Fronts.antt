-- These definitions serve the proofs alone: no promise speaks of them.
-- What the functions of this crate compute of the bytes at the front of a text. They are proved to find the pieces and
-- the refusals that the other files of definitions have.
use Rattle.std.specs.Prelude.{◌≡◌, ℕ, ◌+◌, ◌-◌, min, Bool, true, false, ◌&&◌, ◌||◌, not, ◌==◌, List, [], ◌∷◌, map}
use Rattle.std.specs.Prelude.{length, take, drop, if◌then◌else◌, Option, None, Some, Result, Ok, Err, MatchResult}
use Rattle.std.specs.List.{prefix_len}
use Rattle.std.specs.Int.{is_in_range}
use Rattle.std.specs.Str.{is_utf8}
use Rattle.std.specs.Str.Lossy.{utf8_valid_len}
use Rattle.jolie_tokens.specs.declared.lexeme.Lexeme.{Lexeme}
use Rattle.jolie_tokens.specs.declared.lex_error.LexError.{LexError}
use Rattle.jolie_tokens.specs.declared.lex_error.LexError.TheVariants as error
use Rattle.jolie_tokens.specs.declared.sign.Sign.{Sign}
use Rattle.jolie_tokens.specs.Bytes.{quote, star, slash, backslash}
use Rattle.jolie_tokens.specs.Bytes.{is_blank, is_letter, is_digit, is_word_byte, is_in_line, is_escape}
use Rattle.jolie_tokens.specs.Numbers.{closes_long, is_bad_number}
use Rattle.jolie_tokens.specs.Signs.{sign_at}
use Rattle.jolie_tokens.specs.Pieces as p
use Rattle.jolie_tokens.specs.Pieces.{Piece, Part, plain, escape, written, kind_of}

-- a blank, a word, a number or a string begins with the byte
abbrev pub begins_piece : ℕ → Bool
begins_piece b = is_blank b || is_letter b || is_digit b || b == quote

-- a character of two to four bytes begins with the byte (Unicode's table of well-formed sequences)
abbrev pub is_lead : ℕ → Bool
is_lead x = is_in_range 0xC2 0xF4 x

-- a byte that may be a character's second after its first
abbrev pub is_second : ℕ → ℕ → Bool
is_second x y =
    if x == 0xE0 then is_in_range 0xA0 0xBF y
    else if x == 0xED then is_in_range 0x80 0x9F y
    else if x == 0xF0 then is_in_range 0x90 0xBF y
    else if x == 0xF4 then is_in_range 0x80 0x8F y
    else is_in_range 0x80 0xBF y

-- how many bytes of a character stand at the front of bytes that begin with no whole one, after its first two
abbrev pub begun_third : List ℕ → ℕ
begun_third [] = 0
begun_third (z ∷ bs) = if is_in_range 0x80 0xBF z then 1 else 0

-- the same after the first byte x
abbrev pub begun_second : ℕ → List ℕ → ℕ
begun_second x [] = 0
begun_second x (y ∷ bs) = if is_second x y then 1 + begun_third bs else 0

-- the same of the whole bytes
abbrev pub begun_len : List ℕ → ℕ
begun_len [] = 0
begun_len (x ∷ bs) = if is_lead x then 1 + begun_second x bs else 0

-- where bytes stop beginning UTF-8, if they are none
unfoldable pub utf8_stop : List ℕ → Option ℕ
utf8_stop bs = if is_utf8 bs then None else Some (utf8_valid_len bs + begun_len (drop (utf8_valid_len bs) bs))

-- where `*/` stands, from the place i on, after a star or not
abbrev pub comment_end_from : Bool → ℕ → List ℕ → Option ℕ
comment_end_from starred i [] = None
comment_end_from starred i (b ∷ bs) =
    if starred && b == slash then Some (i - 1) else comment_end_from (b == star) (i + 1) bs

-- where the first `*/` stands
unfoldable pub comment_end : List ℕ → Option ℕ
comment_end bs = comment_end_from false 0 bs

-- where the closing quote stands, from the place i on, after a backslash or not
abbrev pub string_end_from : Bool → ℕ → List ℕ → Option ℕ
string_end_from escaped i [] = None
string_end_from escaped i (b ∷ bs) =
    if escaped then string_end_from false (i + 1) bs
    else if b == quote then Some i
    else string_end_from (b == backslash) (i + 1) bs

-- where the first quote stands that no backslash escapes
unfoldable pub string_end : List ℕ → Option ℕ
string_end bs = string_end_from false 0 bs

-- where the first bad escape stands, from the place i on, after a backslash or not
abbrev pub bad_escape_from : Bool → ℕ → List ℕ → Option ℕ
bad_escape_from escaped i [] = None
bad_escape_from escaped i (b ∷ bs) =
    if escaped && not (is_escape b) then Some (i - 1)
    else bad_escape_from (not escaped && b == backslash) (i + 1) bs

-- where the backslash of the first bad escape stands
unfoldable pub bad_escape : List ℕ → Option ℕ
bad_escape bs = bad_escape_from false 0 bs

-- the parts of a string's inside, after a backslash or not
abbrev pub parts_from : Bool → List ℕ → List Part
parts_from escaped [] = []
parts_from escaped (b ∷ bs) =
    if not escaped && b == backslash then parts_from true bs
    else (if escaped then escape b else plain b) ∷ parts_from false bs

-- the parts of a string's inside
unfoldable pub parts : List ℕ → List Part
parts bs = parts_from false bs

-- the bytes that a string's inside means
abbrev pub meant : List ℕ → List ℕ
meant bs = map p.meant (parts bs)

-- the lesser of two places
abbrev pub least : Option ℕ → Option ℕ → Option ℕ
least None b = b
least (Some a) None = Some a
least (Some a) (Some b) = Some (min a b)

-- what a piece is as a lexeme
abbrev pub lexeme_of : Piece → Lexeme
lexeme_of piece = record { kind = kind_of piece; len = length (written piece) }

-- the same of what may be a piece
abbrev pub shown : Result Piece LexError → Result Lexeme LexError
shown (Ok piece) = Ok (lexeme_of piece)
shown (Err e) = Err e

-- memory ran out
abbrev pub IsMemory : LexError → Type 0
IsMemory (error.Memory cause) = Unit {0}
IsMemory e = ⊥

-- an error is that one, or memory ran out
abbrev pub FailsAs : LexError → LexError → Type 0
FailsAs expected (error.Memory cause) = Unit {0}
FailsAs expected e = expected ≡ e

-- the lexeme of that piece, or that error, or memory ran out
abbrev pub Gives : Result Piece LexError → Result Lexeme LexError → Type 0
Gives (Ok piece) result = MatchResult result (λ lexeme. lexeme ≡ lexeme_of piece) IsMemory
Gives (Err expected) result = MatchResult result (λ lexeme. ⊥) (λ e. FailsAs expected e)

-- What stands at the front, kind by kind; of comments and strings, what follows the bytes that open them.

-- the word at the front
abbrev pub word : List ℕ → Result Piece LexError
word bs = Ok (p.word (take (prefix_len is_word_byte bs) bs))

-- the number of these digits before that rest, or why they make none
abbrev pub number_of : List ℕ → List ℕ → ℕ → Result Piece LexError
number_of digits rest at =
    if is_bad_number digits rest then Err (error.BadNumber at)
    else Ok (if closes_long rest then p.long digits else p.int digits)

-- the number at the front
unfoldable pub number : List ℕ → ℕ → Result Piece LexError
number bs at = number_of (take (prefix_len is_digit bs) bs) (drop (prefix_len is_digit bs) bs) at

-- a piece of bytes whose UTF-8 stops at a place or not
abbrev pub unless_stopped : Option ℕ → Piece → ℕ → Result Piece LexError
unless_stopped None piece at = Ok piece
unless_stopped (Some k) piece at = Err (error.BadByte (at + k))

-- the comment of the rest of the line
unfoldable pub line_comment : List ℕ → ℕ → Result Piece LexError
line_comment bs at =
    let line : List ℕ = take (prefix_len is_in_line bs) bs in
    unless_stopped (utf8_stop line) (p.line_comment line) (at + 2)

-- the comment up to the `*/` at a place, or none to close it
abbrev pub block_comment_to : Option ℕ → List ℕ → ℕ → Result Piece LexError
block_comment_to None bs at = Err (error.OpenComment at)
block_comment_to (Some n) bs at = unless_stopped (utf8_stop (take n bs)) (p.block_comment (take n bs)) (at + 2)

-- the comment up to the first `*/`
unfoldable pub block_comment : List ℕ → ℕ → Result Piece LexError
block_comment bs at = block_comment_to (comment_end bs) bs at

-- the string up to the quote at a place, or none to close it; the first bad byte or escape in it refuses it
abbrev pub string_to : Option ℕ → List ℕ → ℕ → Result Piece LexError
string_to None bs at = Err (error.OpenString at)
string_to (Some n) bs at =
    unless_stopped (least (bad_escape (take n bs)) (utf8_stop (take n bs))) (p.string (parts (take n bs))) (at + 1)

-- the string up to its closing quote
unfoldable pub string : List ℕ → ℕ → Result Piece LexError
string bs at = string_to (string_end bs) bs at

-- the sign, or a byte that begins nothing
abbrev pub sign_or : Option Sign → ℕ → Result Piece LexError
sign_or None at = Err (error.BadByte at)
sign_or (Some s) at = Ok (p.sign s)

-- the longest sign at the front
abbrev pub sign : List ℕ → ℕ → Result Piece LexError
sign bs at = sign_or (sign_at bs) at

-- what begins with a slash, of the bytes after it
abbrev pub after_slash : List ℕ → ℕ → Result Piece LexError
after_slash [] at = sign (slash ∷ []) at
after_slash (b ∷ bs) at =
    if b == slash then line_comment bs at else if b == star then block_comment bs at else sign (slash ∷ b ∷ bs) at

-- what stands at the front
abbrev pub front : List ℕ → ℕ → Result Piece LexError
front [] at = Err (error.BadByte at)
front (b ∷ bs) at =
    if is_blank b then Ok (p.blank b)
    else if is_letter b then word (b ∷ bs)
    else if is_digit b then number (b ∷ bs) at
    else if b == quote then string bs at
    else if b == slash then after_slash bs at
    else sign (b ∷ bs) at
