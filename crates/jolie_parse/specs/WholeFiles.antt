-- These definitions serve the proofs alone: no promise speaks of them.
-- What reading a whole file answers.
use Rattle.std.specs.Prelude.{◌≡◌, ℕ, List, [], ◌∷◌, Result, Ok, Err}
use Rattle.jolie_ast.specs.declared.tree.Definition.{Definition}
use Rattle.jolie_parse.specs.declared.stop.Stop.{Stop}
use Rattle.jolie_parse.specs.declared.stop.Stop.TheVariants as stop
use Rattle.jolie_parse.specs.declared.parse_error.ParseError.{ParseError}
use Rattle.jolie_parse.specs.declared.parse_error.ParseError.TheVariants as error
use Rattle.jolie_parse.specs.Classes.{Spelled}
use Rattle.jolie_parse.specs.Grammar.{file, IsFile}
use Rattle.jolie_parse.specs.Reading.{Outcome, got, refused, too_deep, read}
use Rattle.jolie_parse.specs.Levels.{IsRefused, IsTooDeep, rest_place}

-- tokens that are left over are refused
abbrev pub whole : Outcome (List Definition) → Outcome (List Definition)
whole (got f []) = got f []
whole (got f (t ∷ r)) = refused (t ∷ r)
whole (refused r) = refused r
whole (too_deep r) = too_deep r

-- reading a file to its end, whose parts may nest n levels
abbrev pub read_file : ℕ → List Spelled → Outcome (List Definition)
read_file n ts = whole (read n file ts)

-- what an outcome says of the tokens: that they are that file, or from where on they are none, or too deep
abbrev pub IsAnswer : ℕ → List Spelled → Outcome (List Definition) → Type 0
IsAnswer n ts (got f r) = (r ≡ []) × IsFile n ts f
IsAnswer n ts (refused r) = IsRefused n ts r
IsAnswer n ts (too_deep r) = IsTooDeep n ts r

-- where a rule stops, as an error at that place
abbrev pub error_at : Stop → ℕ → ParseError
error_at stop.Syntax at = error.Syntax at
error_at stop.TooDeep at = error.TooDeep at
error_at (stop.Memory cause) at = error.Memory cause

-- the error is that outcome's, in a text that ends there, or memory ran out
abbrev pub IsErrorOf : ℕ → Outcome (List Definition) → ParseError → Type 0
IsErrorOf end o (error.Syntax at) = (r : List Spelled) × (at ≡ rest_place end r) × (o ≡ refused r)
IsErrorOf end o (error.TooDeep at) = (r : List Spelled) × (at ≡ rest_place end r) × (o ≡ too_deep r)
IsErrorOf end o (error.Memory cause) = Unit {0}

-- the result is that outcome, in a text that ends there, unless memory ran out
abbrev pub Gives : ℕ → Outcome (List Definition) → Result (List Definition) ParseError → Type 0
Gives end o (Ok ast) = (r : List Spelled) × (o ≡ got ast r)
Gives end o (Err e) = IsErrorOf end o e
