-- What is printed of a file that was read is read as the same file, but for places.
use Rattle.std.specs.Prelude.{◌≡◌, ℕ, List, map}
use Rattle.jolie_tokens.specs.declared.token.Token.{Token}
use Rattle.jolie_tokens.specs.Texts.{IsRead}
use Rattle.jolie_parse.specs.Classes.{spelled}
use Rattle.jolie_parse.specs.Grammar.{IsFile}
use Rattle.jolie_ast.specs.declared.tree.Definition.{Definition}
use Rattle.jolie_ast.specs.Printed.{printed_text}
use Rattle.jolie_round_trip.specs.Placeless.{definition_placeless}

-- these definitions are the file of a text, of whatever nesting, by the tokens that the text has
pub record IsFileOf (text : List ℕ) (file : List Definition) : Type 0 where
  pub tokens : List Token
  pub nesting : ℕ
  pub read : IsRead text tokens
  pub derived : IsFile nesting (spelled text tokens) file

-- the same file but for places
abbrev pub Same : List Definition → List Definition → Type 0
Same f g = map definition_placeless f ≡ map definition_placeless g

-- what is printed of the file is the text of a file, of the same one alone, and is what is printed of that
pub record ReadsBack (file : List Definition) : Type 0 where
  pub again : (g : List Definition) × IsFileOf (printed_text file) g
  pub same : (g : List Definition) → IsFileOf (printed_text file) g → Same g file
  pub printed : (g : List Definition) → Same g file → printed_text g ≡ printed_text file

-- each file of a text reads back
abbrev pub PrintedFilesReadBack : Type 0
PrintedFilesReadBack = (text : List ℕ) (file : List Definition) → IsFileOf text file → ReadsBack file
