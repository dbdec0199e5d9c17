-- What a person reads of a refusal: what is wrong, and the rule that says so.
use Rattle.std.specs.Prelude.{ℕ, Bool, ◌&&◌, not, nat_eq, if◌then◌else◌, List, ◌++◌, length, drop, codes}
use Rattle.std.specs.List.{starts_with}
use Rattle.jolie_tokens.specs.Bytes.{begins, is_word_byte}
use Rattle.check_base.specs.declared.refusal.CheckName.{CheckName}
use Rattle.check_base.specs.declared.refusal.CheckName.TheVariants as check
use Rattle.check_verdicts.specs.declared.refusal.Cause.{Cause}
use Rattle.check_verdicts.specs.declared.refusal.Cause.TheVariants as cause
use Rattle.explain_text.specs.declared.advice.Advice.{Advice}
use Rattle.explain_text.specs.declared.advice.Advice.TheVariants as advice

-- what is wrong, by the name of the check
abbrev pub check_words : CheckName → List ℕ
check_words check.DuplicateName = codes "this name stands here a second time"
check_words check.UnknownType = codes "there is no such type or interface, or it leads to no value"
check_words check.UnknownPort = codes "there is no such port, or no service at its location"
check_words check.UnknownOperation = codes "the port has no such operation"
check_words check.WrongKind = codes "this is of another kind than its place asks for"
check_words check.Uncorrelated = codes "a message could not find its session, or no set has this variable"
check_words check.TwoSets = codes "this type stands in another set too"
check_words check.CompOutsideHandler = codes "`comp` stands in no handler"
check_words check.ChOutsideHandler = codes "`cH` stands in no handler"
check_words check.NoStart = codes "there is no service, or it has nothing to begin with"
check_words check.InitNotAssignment = codes "`init` takes no such statement"

-- what is wrong
abbrev pub words_of : Cause → List ℕ
words_of cause.TooLong = codes "the file has more than 1,048,576 bytes"
words_of cause.BadByte = codes "no word, number, text or sign has this byte here"
words_of cause.OpenString = codes "this text has no closing quote"
words_of cause.OpenComment = codes "this comment has no */"
words_of cause.BadNumber = codes "this is no number of the language"
words_of cause.Syntax = codes "this may not stand here"
words_of cause.TooDeep = codes "this opens a 65th level"
words_of (cause.Check name) = check_words name

-- the word stands at the front, and no longer one
abbrev pub begins_with : List ℕ → List ℕ → Bool
begins_with word text = starts_with nat_eq text word && not (begins is_word_byte (drop (length word) text))

-- the rule of what is of another kind than its place asks for, by what stands there: a text, a set, or a name
abbrev pub kind_rule : List ℕ → List ℕ
kind_rule rest =
    if starts_with nat_eq rest (codes "\"") then
    codes "a location is `local://name` or `socket://host:port`, where the host is a name or four numbers "
    ++ codes "as `127.0.0.1` and the port 1 to 65535; a socket has `protocol: jsonrpc`; "
    ++ codes "an index of a message's path is a number"
    else if begins_with (codes "cset") rest then codes "a set stands in a service with `execution: concurrent`"
    else
    codes "an answered call is `op@Port(x)(y)`, another `op@Port(x)`; a socket has `protocol: jsonrpc`, "
    ++ codes "`local://` none; an index of a message's path is a number; no port is named `Console`"

-- the rule of messages and their sets, by what stands at the place: a use of a variable, a service, or a type in a set
abbrev pub set_rule : List ℕ → List ℕ
set_rule rest =
    if begins_with (codes "csets") rest then codes "after `csets.` stands a variable of a set of the service"
    else if begins_with (codes "service") rest then
    codes "an operation of a concurrent service begins a session, or a set names fields of its type"
    else codes "a set that names a field of a type has one of it for each of its variables"

-- the rule of a check, by the text from its place on
abbrev pub check_rule : CheckName → List ℕ → List ℕ
check_rule check.DuplicateName rest =
    codes "in one place each has a name of its own: definitions, ports, fields, operations, handlers"
check_rule check.UnknownType rest =
    codes "a name is that of a type or interface of the file; what a set names is a field with a value"
check_rule check.UnknownPort rest =
    codes "a message goes to a port of its service, and `local://name` is an input port of the file"
check_rule check.UnknownOperation rest = codes "a port has the operations of its interfaces"
check_rule check.WrongKind rest = kind_rule rest
check_rule check.Uncorrelated rest = set_rule rest
check_rule check.TwoSets rest = codes "in a service a type stands in one set at most"
check_rule check.CompOutsideHandler rest =
    codes "`comp` stands in a handler of `install`, or of the brackets after a call"
check_rule check.ChOutsideHandler rest = codes "`cH` stands in a handler, for the one that it replaces"
check_rule check.NoStart rest =
    codes "a file has a service, a service a `main`, and that of a concurrent one begins with an input"
check_rule check.InitNotAssignment rest =
    codes "`init` sets variables by `=`, `<<`, `++` or `--`, one after another, without `csets`, braces and `|`"

-- the rule that is broken at a place of a text; of a token that may not stand there the hints say it
abbrev pub rule_of : Cause → List ℕ → ℕ → List ℕ
rule_of cause.TooLong text at = codes "a file has at most 1,048,576 bytes"
rule_of cause.BadByte text at =
    codes "a text is \"..\" with the escapes \\n \\t \\r \\\" \\\\, and outside of it and of comments all is ASCII"
rule_of cause.OpenString text at = codes "a text begins and ends with \", and \\\" is a quote in it"
rule_of cause.OpenComment text at = codes "a comment is /* .. */, or // up to the end of its line"
rule_of cause.BadNumber text at =
    codes "an int is at most 2147483647, a long at most 9223372036854775807L; there are no fractions"
rule_of cause.Syntax text at = codes ""
rule_of cause.TooDeep text at =
    codes "brackets, `-` and `!` before operands and `else if` open a level; there are at most 64"
rule_of (cause.Check name) text at = check_rule name (drop at text)

-- what is advised
abbrev pub advice_words : Advice → List ℕ
advice_words advice.Separator = codes "`;` stands between two statements, and none after the last"
advice_words advice.Handlers = codes "`,` stands between two handlers, and a handler is `Fault => what it does`"
advice_words advice.Compound = codes "`y += 1` is `y = y + 1` here"
advice_words advice.Elsewhere =
    codes "another Jolie has this; docs/language.md says under `A file from elsewhere` what to write"
advice_words advice.Braces =
    codes "`with (t) { .a = 1 }` is `t.a = 1` here, `synchronized` is a single service, "
    ++ codes "and after an input without an answer stands `;`"
advice_words advice.Computed =
    codes "a name after `.` is written out: in place of `t.(k)` keep `t.key[i]` and `t.value[i]`, "
    ++ codes "and look for k in a loop"
advice_words advice.Clauses =
    codes "nothing stands between the clauses of a service or the parts of a port: no `,` and no `;`"
advice_words advice.Settings = codes "a protocol has no settings here: `protocol: jsonrpc` alone"
advice_words advice.Root = codes "a type begins with its root: `type T: void { .. }`, or `type T { .. }` without `:`"
advice_words advice.Void = codes "`void` is a type and no value: `is_defined(x)` says whether x is there"
advice_words advice.ByteOrderMark = codes "this is a byte order mark: save the file as UTF-8 without one"
advice_words advice.Block =
    codes "braces stand here: `if (x) { .. }`, `while (x) { .. }`, `[ go(x) ] { .. }`; a service has no parameters"
advice_words advice.Parens =
    codes "parentheses stand here: `if (x) { .. }`, `op@Port(x)(y)`, `go(int)(int)`; "
    ++ codes "the faults of `throws` have no `,` between them"
advice_words advice.Colon =
    codes "`:` stands between a word and what it is: `execution: concurrent`, `a: int`, `OneWay: go(int)`"
advice_words advice.Call =
    codes "a value calls nothing: `op@Port(x)(y)` puts the answer into y; there are `int(x)`, `long(x)`, "
    ++ codes "`string(x)` and `is_defined(x)`"
advice_words advice.Choice = codes "`y = a ? 1 : 2` is `if (a) { y = 1 } else { y = 2 }` here"
