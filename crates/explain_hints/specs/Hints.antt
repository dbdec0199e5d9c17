-- What a person reads of what may stand at a place, and a sample of each.
use Rattle.std.specs.Prelude.{ℕ, List, [], ◌∷◌, codes}
use Rattle.explain_hints.specs.declared.hint.Hint.{Hint}
use Rattle.explain_hints.specs.declared.hint.Hint.TheVariants as hint
use Rattle.explain_hints.specs.declared.hint.SaidBy.{SaidBy}
use Rattle.explain_hints.specs.declared.hint.SaidBy.TheVariants as said

-- the hints, in the order in which they are told
abbrev pub all_hints : List Hint
all_hints =
    hint.Definition ∷ hint.EndOfFile ∷ hint.Clause ∷ hint.Statement ∷ hint.Value ∷ hint.Name ∷ hint.Number ∷
    hint.QuotedText ∷ hint.Type ∷ hint.RequestType ∷ hint.LastType ∷ hint.Location ∷ hint.Protocol ∷
    hint.Interfaces ∷ hint.Concurrent ∷ hint.Single ∷ hint.RequestResponse ∷ hint.OneWay ∷ hint.Throws ∷ hint.This
    ∷ hint.Else ∷ hint.If ∷ hint.Operator ∷ hint.OpenBrace ∷ hint.CloseBrace ∷ hint.OpenParen ∷ hint.CloseParen ∷
    hint.OpenBracket ∷ hint.CloseBracket ∷ hint.Comma ∷ hint.Semicolon ∷ hint.Bar ∷ hint.Colon ∷ hint.Dot ∷
    hint.Assign ∷ hint.DeepAssign ∷ hint.Increment ∷ hint.Decrement ∷ hint.Arrow ∷ hint.At ∷ hint.Question ∷
    hint.Star ∷ []

-- A hint as a person reads it, and a sample of it: bytes that may stand there and nowhere else, so far as the grammar
-- has such. What begins alike and is something else goes on otherwise.
pub record HintRow : Type 0 where
  pub words : List ℕ
  pub sample : List ℕ

-- a row of these
abbrev pub row : List ℕ → List ℕ → HintRow
row words sample = record { words = words; sample = sample }

-- the row of a hint
abbrev pub row_of : Hint → HintRow
row_of hint.Definition = row (codes "a definition as `service`") (codes "type x:")
row_of hint.EndOfFile = row (codes "the end of the file") (codes "type x:")
row_of hint.Clause = row (codes "a clause as `main`") (codes "main {")
row_of hint.Statement = row (codes "a statement") (codes "while (")
row_of hint.Value = row (codes "a value") (codes "1L")
row_of hint.Name = row (codes "a name") (codes "x")
row_of hint.Number = row (codes "a number") (codes "1")
row_of hint.QuotedText = row (codes "a text in quotes") (codes "\"\"")
row_of hint.Type = row (codes "a type as `int`") (codes "void {")
row_of hint.RequestType = row (codes "a type as `int`") (codes "void)(void) OneWay: x(")
row_of hint.LastType = row (codes "a type as `int`") (codes "void) OneWay: x(")
row_of hint.Location = row (codes "`location`") (codes "location: \"\"")
row_of hint.Protocol = row (codes "`protocol`") (codes "protocol: x interfaces: x, x }")
row_of hint.Interfaces = row (codes "`interfaces`") (codes "interfaces: x, x }")
row_of hint.Concurrent = row (codes "`concurrent`") (codes "concurrent main {")
row_of hint.Single = row (codes "`single`") (codes "single main {")
row_of hint.RequestResponse = row (codes "`RequestResponse`") (codes "RequestResponse: x(")
row_of hint.OneWay = row (codes "`OneWay`") (codes "OneWay: x(")
row_of hint.Throws = row (codes "`throws`") (codes "throws x(")
row_of hint.This = row (codes "`this`") (codes "this =>")
row_of hint.Else = row (codes "`else`") (codes "else {")
row_of hint.If = row (codes "`if`") (codes "if (")
row_of hint.Operator = row (codes "an operator as `+`") (codes "&&")
row_of hint.OpenBrace = row (codes "`{`") (codes "{")
row_of hint.CloseBrace = row (codes "`}`") (codes "}")
row_of hint.OpenParen = row (codes "`(`") (codes "(")
row_of hint.CloseParen = row (codes "`)`") (codes ")")
row_of hint.OpenBracket = row (codes "`[`") (codes "[")
row_of hint.CloseBracket = row (codes "`]`") (codes "]")
row_of hint.Comma = row (codes "`,`") (codes ",")
row_of hint.Semicolon = row (codes "`;`") (codes ";")
row_of hint.Bar = row (codes "`|`") (codes "|")
row_of hint.Colon = row (codes "`:`") (codes ":")
row_of hint.Dot = row (codes "`.`") (codes ".")
row_of hint.Assign = row (codes "`=`") (codes "=")
row_of hint.DeepAssign = row (codes "`<<`") (codes "<<")
row_of hint.Increment = row (codes "`++`") (codes "++")
row_of hint.Decrement = row (codes "`--`") (codes "--")
row_of hint.Arrow = row (codes "`=>`") (codes "=>")
row_of hint.At = row (codes "`@`") (codes "@")
row_of hint.Question = row (codes "`?`") (codes "?")
row_of hint.Star = row (codes "`*`") (codes "*")

-- the hint as a person reads it
abbrev pub words_of : Hint → List ℕ
words_of h = (row_of h).words

-- a sample of it
abbrev pub sample_of : Hint → List ℕ
sample_of h = (row_of h).sample

-- Another hint that says it too: a value may be a name, a number, a text, a literal or in parentheses; a statement may
-- begin with a name, with `if` or with a bracket; `*` is an operator.
abbrev pub said_by : Hint → SaidBy
said_by hint.Name = said.ValueOrStatement
said_by hint.OpenBrace = said.ValueOrStatement
said_by hint.Number = said.Value
said_by hint.QuotedText = said.Value
said_by hint.OpenParen = said.Value
said_by hint.If = said.Statement
said_by hint.OpenBracket = said.Statement
said_by hint.Star = said.Operator
said_by _ = said.Nothing
