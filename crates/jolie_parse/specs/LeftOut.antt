-- Statements that may be left out of tokens, where it is asked whether these are a file or begin one.
use Rattle.std.specs.Prelude.{◌≡◌, ◌⊎◌, ◌↔◌, ℕ, ◌+◌, ◌≤◌, true, List, [], ◌∷◌, ◌++◌}
use Rattle.jolie_ast.specs.declared.process.Process.{Process}
use Rattle.jolie_ast.specs.declared.tree.Definition.{Definition}
use Rattle.jolie_tokens.specs.declared.sign.Sign.TheVariants.{Semicolon}
use Rattle.jolie_parse.specs.declared.class.Class.TheVariants as c
use Rattle.jolie_parse.specs.Classes.{Spelled, begins}
use Rattle.jolie_parse.specs.Syntax.{many, Derives, behind}
use Rattle.jolie_parse.specs.Grammar.{statement, Allowed, IsFile}
use Rattle.jolie_parse.specs.declared.begun.Beginning.{Beginning}
use Rattle.jolie_parse.specs.declared.begun.Beginning.TheVariants as beginning
use Rattle.jolie_parse.specs.Levels.{IsRefused, IsTooDeep}

-- the tokens are a file, or they are refused after the last one alone: then each begins one with those before it
abbrev pub IsFileOrBegun : ℕ → List Spelled → Type 0
IsFileOrBegun n ts = ((f : List Definition) × IsFile n ts f) ⊎ IsRefused n ts []

-- no token opens a level too many
abbrev pub IsShallow : ℕ → List Spelled → Type 0
IsShallow n ts = (r : List Spelled) → IsTooDeep n ts r → ⊥

-- what is said of tokens that are read as a file
abbrev pub IsBeginning : ℕ → List Spelled → Beginning → Type 0
IsBeginning n ts beginning.MayGoOn = IsFileOrBegun n ts × IsShallow n ts
IsBeginning n ts beginning.Stops = (IsFileOrBegun n ts → ⊥) × IsShallow n ts
IsBeginning n ts beginning.TooDeep = IsFileOrBegun n ts → ⊥

-- the tokens are statements, each after a semicolon
abbrev pub AreNext : ℕ → List Spelled → Type 0
AreNext n ts = (vs : List Process) × Derives (Allowed n) (many (behind (c.Sign Semicolon) statement)) ts vs

-- Statements, each after a semicolon, may be left out before a semicolon: what is left is a file or begins one if and
-- only if the whole does. What stands before them is not too deep with as many levels less as they may need.
abbrev pub StatementsMayBeLeftOut : Type 0
StatementsMayBeLeftOut =
    (k m n : ℕ) (before left_out after : List Spelled) → k + m ≤ n → IsShallow k before → AreNext m left_out
    → begins (c.Sign Semicolon ∷ []) after ≡ true
    → IsFileOrBegun n (before ++ (left_out ++ after)) ↔ IsFileOrBegun n (before ++ after)
