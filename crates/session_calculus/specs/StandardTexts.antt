-- Which text stands at the number of each standard name.
use Rattle.std.specs.Prelude.{◌≡◌, ℕ, true, List, Some, slice_get}
use Rattle.behaviour_tree.specs.Data.{ProgramParts}
use Rattle.behaviour_tree.specs.WellFormed.{standard_names, is_well_formed}
use Rattle.session_calculus.specs.Names.{name_at}

-- A standard name: its number in the code is that of the calculus, the text stands at this number among the standard
-- names, and it is the name of this number in every well-formed program.
pub record IsNamed (coded : ℕ) (number : ℕ) (text : List ℕ) : Type 0 where
  pub same : coded ≡ number
  pub stands : slice_get standard_names number ≡ Some text
  pub in_programs : (parts : ProgramParts) → is_well_formed parts ≡ true → name_at parts number ≡ text
