-- The classes of bytes of which a text is made.
use Rattle.std.specs.Prelude.{ℕ, Bool, false, ◌||◌, not, ◌==◌, List, [], ◌∷◌, if◌then◌else◌}
use Rattle.std.specs.Char.{is_ascii_alphabetic, is_ascii_digit}

-- the byte that ends a line
abbrev pub line_feed : ℕ
line_feed = 10

-- `"`
abbrev pub quote : ℕ
quote = 34

-- `*`
abbrev pub star : ℕ
star = 42

-- `.`
abbrev pub dot : ℕ
dot = 46

-- `/`
abbrev pub slash : ℕ
slash = 47

-- `L`
abbrev pub letter_l : ℕ
letter_l = 76

-- the byte that begins an escape
abbrev pub backslash : ℕ
backslash = 92

-- space, tab, carriage return and line feed
abbrev pub is_blank : ℕ → Bool
is_blank b = b == 32 || b == 9 || b == 13 || b == 10

-- a letter of ASCII or `_`
abbrev pub is_letter : ℕ → Bool
is_letter b = is_ascii_alphabetic b || b == 95

-- a decimal digit of ASCII
abbrev pub is_digit : ℕ → Bool
is_digit b = is_ascii_digit b

-- a letter, a digit or `_`
abbrev pub is_word_byte : ℕ → Bool
is_word_byte b = is_letter b || is_digit b

-- not the end of a line
abbrev pub is_in_line : ℕ → Bool
is_in_line b = not (b == line_feed)

-- a byte that makes an escape of the backslash before it: `n`, `t`, `r`, `"` and a backslash
abbrev pub is_escape : ℕ → Bool
is_escape b = b == 110 || b == 116 || b == 114 || b == 34 || b == 92

-- the byte that an escape means
abbrev pub meant_byte : ℕ → ℕ
meant_byte b = if b == 110 then 10 else if b == 116 then 9 else if b == 114 then 13 else b

-- the first byte passes, if there is one
abbrev pub begins : (ℕ → Bool) → List ℕ → Bool
begins p [] = false
begins p (b ∷ bs) = p b
