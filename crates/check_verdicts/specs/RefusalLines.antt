-- The line of a refusal and what is said of a text, as the code has them.
use Rattle.std.specs.Prelude.{◌≡◌, ℕ, List, codes}
use Rattle.jolie_tokens.specs.declared.lex_error.LexError.{LexError}
use Rattle.jolie_tokens.specs.declared.lex_error.LexError.TheVariants as lex
use Rattle.jolie_parse.specs.declared.parse_error.ParseError.{ParseError}
use Rattle.jolie_parse.specs.declared.parse_error.ParseError.TheVariants as parse
use Rattle.check_verdicts.specs.declared.refusal.Stage.{Stage}
use Rattle.check_verdicts.specs.declared.refusal.Stage.TheVariants as stage
use Rattle.check_verdicts.specs.declared.refusal.Cause.{Cause}
use Rattle.check_verdicts.specs.declared.refusal.Cause.TheVariants as cause
use Rattle.check_verdicts.specs.declared.refusal.Refusal.{Refusal}
use Rattle.check_verdicts.specs.declared.verdict.Verdict.{Verdict}
use Rattle.check_verdicts.specs.declared.verdict.Verdict.TheVariants as verdict
use Rattle.check_verdicts.specs.Verdicts.{refusal, lex_line, parse_line, check_word, IsAccepted, IsRefusedBy}

-- the word of a stage
abbrev pub stage_word : Stage → List ℕ
stage_word stage.Lex = codes "lex"
stage_word stage.Parse = codes "parse"
stage_word stage.Check = codes "check"

-- the word of a cause
abbrev pub cause_word : Cause → List ℕ
cause_word cause.TooLong = codes "TooLong"
cause_word cause.BadByte = codes "BadByte"
cause_word cause.OpenString = codes "OpenString"
cause_word cause.OpenComment = codes "OpenComment"
cause_word cause.BadNumber = codes "BadNumber"
cause_word cause.Syntax = codes "Syntax"
cause_word cause.TooDeep = codes "TooDeep"
cause_word (cause.Check name) = check_word name

-- the line of a refusal
abbrev pub refusal_line : Refusal → List ℕ
refusal_line r = refusal (stage_word r.stage) (cause_word r.cause) r.at

-- the error is no want of memory, and the refusal has its line
abbrev pub IsLexRefusal : LexError → Refusal → Type 0
IsLexRefusal (lex.Memory memory) r = ⊥
IsLexRefusal e r = refusal_line r ≡ lex_line e

-- the same of an error of the parser
abbrev pub IsParseRefusal : ParseError → Refusal → Type 0
IsParseRefusal (parse.Memory memory) r = ⊥
IsParseRefusal e r = refusal_line r ≡ parse_line e

-- what is said of the text is right
abbrev pub IsVerdict : List ℕ → Verdict → Type 0
IsVerdict text (verdict.File file) = IsAccepted text file
IsVerdict text (verdict.Refused r) = IsRefusedBy text (refusal_line r)
