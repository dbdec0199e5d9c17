-- What is said of a text: its definitions, or the one line that refuses it.
use Rattle.std.specs.Prelude.{ℕ, ◌<◌, ◌≤◌, List, [], ◌++◌, length, codes}
use Rattle.std.specs.Fmt.{decimal}
use Rattle.jolie_tokens.specs.declared.token.Token.{Token}
use Rattle.jolie_tokens.specs.declared.lex_error.LexError.{LexError}
use Rattle.jolie_tokens.specs.declared.lex_error.LexError.TheVariants as lex
use Rattle.jolie_tokens.specs.Texts.{longest, IsRead, IsRefused}
use Rattle.jolie_ast.specs.declared.tree.Definition.{Definition}
use Rattle.jolie_parse.specs.declared.parse_error.ParseError.{ParseError}
use Rattle.jolie_parse.specs.declared.parse_error.ParseError.TheVariants as parse
use Rattle.jolie_parse.specs.Classes.{spelled}
use Rattle.jolie_parse.specs.Grammar.{IsFile}
use Rattle.jolie_parse.specs.Answers.{IsRefusedAt, IsTooDeepAt}
use Rattle.check_base.specs.declared.refusal.CheckName.{CheckName}
use Rattle.check_base.specs.declared.refusal.CheckName.TheVariants as check

-- ---- the line of a refusal

-- its stage, its name and its place
abbrev pub refusal : List ℕ → List ℕ → ℕ → List ℕ
refusal stage name place =
    codes "refused " ++ (stage ++ (codes " " ++ (name ++ (codes " " ++ (decimal place ++ codes "\n")))))

-- of a text that has no tokens
abbrev pub lex_line : LexError → List ℕ
lex_line lex.TooLong = refusal (codes "lex") (codes "TooLong") 1048576
lex_line (lex.BadByte at) = refusal (codes "lex") (codes "BadByte") at
lex_line (lex.OpenString at) = refusal (codes "lex") (codes "OpenString") at
lex_line (lex.OpenComment at) = refusal (codes "lex") (codes "OpenComment") at
lex_line (lex.BadNumber at) = refusal (codes "lex") (codes "BadNumber") at
lex_line (lex.Memory memory) = []

-- of tokens that are no file: the one at that place stops beginning one, or opens level 65
abbrev pub parse_line : ParseError → List ℕ
parse_line (parse.Syntax at) = refusal (codes "parse") (codes "Syntax") at
parse_line (parse.TooDeep at) = refusal (codes "parse") (codes "TooDeep") at
parse_line (parse.Memory memory) = []

-- the name of a check
abbrev pub check_word : CheckName → List ℕ
check_word check.DuplicateName = codes "DuplicateName"
check_word check.UnknownType = codes "UnknownType"
check_word check.UnknownPort = codes "UnknownPort"
check_word check.UnknownOperation = codes "UnknownOperation"
check_word check.WrongKind = codes "WrongKind"
check_word check.Uncorrelated = codes "Uncorrelated"
check_word check.TwoSets = codes "TwoSets"
check_word check.CompOutsideHandler = codes "CompOutsideHandler"
check_word check.ChOutsideHandler = codes "ChOutsideHandler"
check_word check.NoStart = codes "NoStart"
check_word check.InitNotAssignment = codes "InitNotAssignment"

-- of a file that a check refuses at that place
abbrev pub check_line : CheckName → ℕ → List ℕ
check_line name at = refusal (codes "check") (check_word name) at

-- ---- a text

-- the text has these definitions, with nesting at most 64
pub record IsAccepted (text : List ℕ) (file : List Definition) : Type 0 where
  pub fits : length text ≤ longest
  pub tokens : List Token
  pub read : IsRead text tokens
  pub derived : IsFile 64 (spelled text tokens) file

-- The text has no definitions, for the reason that the line gives.
pub data IsRefusedBy (text : List ℕ) : List ℕ → Type 0 where
  too_long : longest < length text → IsRefusedBy text (lex_line lex.TooLong)
  no_tokens : (e : LexError) → length text ≤ longest → IsRefused text e → IsRefusedBy text (lex_line e)
  no_file : (tokens : List Token) (at : ℕ) → length text ≤ longest → IsRead text tokens
      → IsRefusedAt 64 (length text) (spelled text tokens) at → IsRefusedBy text (parse_line (parse.Syntax at))
  too_deep : (tokens : List Token) (at : ℕ) → length text ≤ longest → IsRead text tokens
      → IsTooDeepAt 64 (length text) (spelled text tokens) at → IsRefusedBy text (parse_line (parse.TooDeep at))
