-- The strings of a record's text, which are JSON strings with the shortest escapes.
use Rattle.std.specs.Prelude.{ℕ, List, flat_map}
use Rattle.std.specs.Char.{encode_utf8}
use Rattle.json.specs.Print.{quoted}

-- a text in quotes: a quote and a backslash have a backslash before them, the code points 8, 9, 10, 12 and 13 are
-- `\b`, `\t`, `\n`, `\f` and `\r`, any other one below 32 is `\u00` with two lower-case hexadecimal digits, and every
-- other one stands as itself
abbrev pub text_string : List ℕ → List ℕ
text_string text = quoted text

-- bytes in quotes, each as the code point of its value
abbrev pub bytes_string : List ℕ → List ℕ
bytes_string bytes = quoted (flat_map encode_utf8 bytes)
