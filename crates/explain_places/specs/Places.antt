-- Where a place of a text stands for who reads it. A place is a number of bytes; one behind the end is the end.
use Rattle.std.specs.Prelude.{ℕ, ◌+◌, ◌-◌, Bool, ◌||◌, not, ◌==◌, nat_lt, if◌then◌else◌, Option, None, Some}
use Rattle.std.specs.Prelude.{List, ◌++◌, codes, length, take, drop, count_by, slice_index}
use Rattle.std.specs.List.{before_first, after_last, filter_map}

-- ---- bytes

-- a line feed, which ends a line
abbrev pub ends_line : ℕ → Bool
ends_line b = b == 10

-- any other byte
abbrev pub is_in_line : ℕ → Bool
is_in_line b = not (ends_line b)

-- a byte that begins a character of UTF-8 or stands for itself: any but 128 to 191, with which none begins
abbrev pub begins_character : ℕ → Bool
begins_character b = nat_lt b 128 || nat_lt 191 b

-- how many line feeds there are
abbrev pub line_feeds : List ℕ → ℕ
line_feeds bytes = count_by ends_line bytes

-- how many characters there are, each counted where it begins
abbrev pub characters : List ℕ → ℕ
characters bytes = count_by begins_character bytes

-- ---- the line of a place

-- what stands before the place in its line
abbrev pub before_in_line : List ℕ → ℕ → List ℕ
before_in_line text at = after_last ends_line (take at text)

-- what stands in the line from the place on
abbrev pub rest_of_line : List ℕ → ℕ → List ℕ
rest_of_line text at = before_first ends_line (drop at text)

-- a carriage return stands at the end, 13; no bytes have the end 0 here
abbrev pub ends_in_return : List ℕ → Bool
ends_in_return bytes = slice_index bytes (length bytes - 1) == 13

-- a line without the carriage return at its end
abbrev pub without_return : List ℕ → List ℕ
without_return bytes = if ends_in_return bytes then take (length bytes - 1) bytes else bytes

-- the line in which the place stands, without what ends it
abbrev pub line_of : List ℕ → ℕ → List ℕ
line_of text at = without_return (before_in_line text at ++ rest_of_line text at)

-- ---- line and column

-- the number of the place's line, from 1
abbrev pub line_at : List ℕ → ℕ → ℕ
line_at text at = line_feeds (take at text) + 1

-- the number of the place's column, from 1, in characters
abbrev pub column_at : List ℕ → ℕ → ℕ
column_at text at = characters (before_in_line text at) + 1

-- ---- the mark

-- what stands under a byte: a tab under a tab, a space under any other character, nothing under its further bytes
abbrev pub blank_for : ℕ → Option ℕ
blank_for b = if begins_character b then Some (if b == 9 then 9 else 32) else None

-- the line to write under that of the place: blanks up to it, and `^`
abbrev pub mark_of : List ℕ → ℕ → List ℕ
mark_of text at = filter_map blank_for (before_in_line text at) ++ codes "^"
