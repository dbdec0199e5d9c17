-- These definitions serve the proofs alone: no promise speaks of them.
-- The tokens of parts that may be written.
use Rattle.std.specs.Prelude.{ℤ, [], ◌∷◌, Option, Some, None}
use Rattle.std.specs.Fmt.{signed_decimal}
use Rattle.jolie_ast.specs.declared.interface.TypeName.{TypeName}
use Rattle.jolie_ast.specs.Spacing.{Token, Tokens}
use Rattle.jolie_ast.specs.PrintedExpressions.{Shown, in_parens, in_brackets}
use Rattle.jolie_ast.specs.Printed.{type_name_token}

-- an int in decimal
abbrev pub int_token : ℤ → Token
int_token n = signed_decimal n

-- the tokens of a part, if it is written
abbrev pub maybe : Option Tokens → Tokens
maybe None = []
maybe (Some ts) = ts

-- the tokens of an index, if one is written
abbrev pub index_tokens : Option Shown → Tokens
index_tokens None = []
index_tokens (Some value) = in_brackets value.tokens

-- the type of a fault's data in parentheses, if one is written
abbrev pub fault_data : Option TypeName → Tokens
fault_data None = []
fault_data (Some ty) = in_parens (type_name_token ty ∷ [])
