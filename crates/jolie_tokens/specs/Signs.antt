-- The signs, as they are written.
use Rattle.std.specs.Prelude.{◌≡◌, ◌≤◌, ℕ, List, ◌++◌, length, nat_eq, codes, Option}
use Rattle.std.specs.List.{find, starts_with}
use Rattle.jolie_tokens.specs.declared.sign.Sign.{Sign}
use Rattle.jolie_tokens.specs.declared.sign.Sign.TheVariants as sign
use Rattle.jolie_tokens.specs.declared.sign.TheConstants.{SIGNS}

-- the bytes of a sign
abbrev pub sign_bytes : Sign → List ℕ
sign_bytes sign.Arrow = codes "=>"
sign_bytes sign.Equal = codes "=="
sign_bytes sign.NotEqual = codes "!="
sign_bytes sign.AtMost = codes "<="
sign_bytes sign.AtLeast = codes ">="
sign_bytes sign.DeepAssign = codes "<<"
sign_bytes sign.Increment = codes "++"
sign_bytes sign.Decrement = codes "--"
sign_bytes sign.And = codes "&&"
sign_bytes sign.Or = codes "||"
sign_bytes sign.OpenBrace = codes "{"
sign_bytes sign.CloseBrace = codes "}"
sign_bytes sign.OpenParen = codes "("
sign_bytes sign.CloseParen = codes ")"
sign_bytes sign.OpenBracket = codes "["
sign_bytes sign.CloseBracket = codes "]"
sign_bytes sign.Comma = codes ","
sign_bytes sign.Semicolon = codes ";"
sign_bytes sign.Colon = codes ":"
sign_bytes sign.Dot = codes "."
sign_bytes sign.Bar = codes "|"
sign_bytes sign.Assign = codes "="
sign_bytes sign.Less = codes "<"
sign_bytes sign.Greater = codes ">"
sign_bytes sign.Plus = codes "+"
sign_bytes sign.Minus = codes "-"
sign_bytes sign.Star = codes "*"
sign_bytes sign.Slash = codes "/"
sign_bytes sign.Percent = codes "%"
sign_bytes sign.Not = codes "!"
sign_bytes sign.Hash = codes "#"
sign_bytes sign.At = codes "@"
sign_bytes sign.Question = codes "?"

-- no longer sign stands where this one does, before these bytes
abbrev pub IsLongest : Sign → List ℕ → Type 0
IsLongest s rest =
    (longer : Sign) (others : List ℕ) → sign_bytes s ++ rest ≡ sign_bytes longer ++ others
    → length (sign_bytes longer) ≤ length (sign_bytes s)

-- the first sign of the table that the bytes begin with
unfoldable pub sign_at : List ℕ → Option Sign
sign_at bs = find (λ s. starts_with nat_eq bs (sign_bytes s)) SIGNS
