-- Laws of the grammar that hold whatever the tokens.
use Rattle.std.specs.Prelude.{◌≡◌, ◌⊎◌, ℕ, List, ◌++◌}
use Rattle.jolie_ast.specs.declared.tree.Definition.{Definition}
use Rattle.jolie_parse.specs.Classes.{Spelled}
use Rattle.jolie_parse.specs.Grammar.{IsFile, BeginsFile}
use Rattle.jolie_parse.specs.Levels.{IsDead, IsRefused, IsTooDeep}

-- no tokens are a file in two ways, whatever the nesting
abbrev pub HaveOneTree : Type 0
HaveOneTree = (n m : ℕ) (tokens : List Spelled) (f g : List Definition) → IsFile n tokens f → IsFile m tokens g → f ≡ g

-- these tokens begin a file, and with the next, or with none after them, they begin none
abbrev pub IsStop : List Spelled → List Spelled → Type 0
IsStop w r = BeginsFile w × IsDead w r

-- tokens are a file or there is a place where they stop beginning one; that place is one; and never both
pub record StopAtOnePlace : Type 0 where
  pub some : (ts : List Spelled)
      → ((n : ℕ) × (f : List Definition) × IsFile n ts f) ⊎ ((w r : List Spelled) × (ts ≡ w ++ r) × IsStop w r)
  pub one_place : (w r v q : List Spelled) → w ++ r ≡ v ++ q → IsStop w r → IsStop v q → w ≡ v
  pub never_both : (n : ℕ) (f : List Definition) (w r : List Spelled) → IsFile n (w ++ r) f → IsStop w r → ⊥

-- whatever nesting is allowed, tokens are a file within it, or are refused from somewhere on, or open a level too many
-- somewhere
abbrev pub HaveAnAnswer : Type 0
HaveAnAnswer =
    (n : ℕ) (ts : List Spelled)
    → ((f : List Definition) × IsFile n ts f)
    ⊎ (((r : List Spelled) × IsRefused n ts r) ⊎ ((r : List Spelled) × IsTooDeep n ts r))
