-- What an answer of `parse` says of the tokens.
use Rattle.std.specs.Prelude.{◌≡◌, ℕ, List, Result, Err}
use Rattle.jolie_ast.specs.declared.tree.Definition.{Definition}
use Rattle.jolie_parse.specs.declared.parse_error.ParseError.{ParseError}
use Rattle.jolie_parse.specs.declared.parse_error.ParseError.TheVariants as error
use Rattle.jolie_parse.specs.Classes.{Spelled}
use Rattle.jolie_parse.specs.Levels.{IsRefused, IsTooDeep, rest_place}

-- the tokens of a text that ends there are refused at that place
abbrev pub IsRefusedAt : ℕ → ℕ → List Spelled → ℕ → Type 0
IsRefusedAt n end ts at = (r : List Spelled) × (at ≡ rest_place end r) × IsRefused n ts r

-- the tokens of a text that ends there open level n + 1 at that place
abbrev pub IsTooDeepAt : ℕ → ℕ → List Spelled → ℕ → Type 0
IsTooDeepAt n end ts at = (r : List Spelled) × (at ≡ rest_place end r) × IsTooDeep n ts r

-- the result is that one, unless memory ran out
abbrev pub UnlessMemory : Result (List Definition) ParseError → Result (List Definition) ParseError → Type 0
UnlessMemory (Err (error.Memory cause)) expected = Unit {0}
UnlessMemory result expected = result ≡ expected
