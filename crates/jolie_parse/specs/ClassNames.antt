-- These definitions serve the proofs alone: no promise speaks of them.
-- Short names of the classes of tokens.
use Rattle.jolie_tokens.specs.declared.sign.Sign.TheVariants as sign
use Rattle.jolie_parse.specs.declared.word.Word.TheVariants as word
use Rattle.jolie_parse.specs.declared.class.Class.{Class}
use Rattle.jolie_parse.specs.declared.class.Class.TheVariants as classed

-- ---- the plain words that count in their places

-- the word `location`
abbrev pub the_location : Class
the_location = classed.Word word.Location

-- the word `protocol`
abbrev pub the_protocol : Class
the_protocol = classed.Word word.Protocol

-- the word `interfaces`
abbrev pub the_interfaces : Class
the_interfaces = classed.Word word.Interfaces

-- the word `concurrent`
abbrev pub the_concurrent : Class
the_concurrent = classed.Word word.Concurrent

-- the word `single`
abbrev pub the_single : Class
the_single = classed.Word word.Single

-- ---- the reserved words

-- the word `type`
abbrev pub the_type : Class
the_type = classed.Word word.Type

-- the word `interface`
abbrev pub the_interface : Class
the_interface = classed.Word word.Interface

-- the word `service`
abbrev pub the_service : Class
the_service = classed.Word word.Service

-- the word `inputPort`
abbrev pub the_input_port : Class
the_input_port = classed.Word word.InputPort

-- the word `outputPort`
abbrev pub the_output_port : Class
the_output_port = classed.Word word.OutputPort

-- the word `execution`
abbrev pub the_execution : Class
the_execution = classed.Word word.Execution

-- the word `cset`
abbrev pub the_cset : Class
the_cset = classed.Word word.Cset

-- the word `csets`
abbrev pub the_csets : Class
the_csets = classed.Word word.Csets

-- the word `init`
abbrev pub the_init : Class
the_init = classed.Word word.Init

-- the word `main`
abbrev pub the_main : Class
the_main = classed.Word word.Main

-- the word `scope`
abbrev pub the_scope : Class
the_scope = classed.Word word.Scope

-- the word `install`
abbrev pub the_install : Class
the_install = classed.Word word.Install

-- the word `throw`
abbrev pub the_throw : Class
the_throw = classed.Word word.Throw

-- the word `comp`
abbrev pub the_comp : Class
the_comp = classed.Word word.Comp

-- the word `cH`
abbrev pub the_inner_handler : Class
the_inner_handler = classed.Word word.InnerHandler

-- the word `this`
abbrev pub the_this : Class
the_this = classed.Word word.This

-- the word `nullProcess`
abbrev pub the_null_process : Class
the_null_process = classed.Word word.NullProcess

-- the word `if`
abbrev pub the_if : Class
the_if = classed.Word word.If

-- the word `else`
abbrev pub the_else : Class
the_else = classed.Word word.Else

-- the word `while`
abbrev pub the_while : Class
the_while = classed.Word word.While

-- the word `for`
abbrev pub the_for : Class
the_for = classed.Word word.For

-- the word `undef`
abbrev pub the_undef : Class
the_undef = classed.Word word.Undef

-- the word `is_defined`
abbrev pub the_is_defined : Class
the_is_defined = classed.Word word.IsDefined

-- the word `true`
abbrev pub the_true : Class
the_true = classed.Word word.True

-- the word `false`
abbrev pub the_false : Class
the_false = classed.Word word.False

-- the word `int`
abbrev pub the_int : Class
the_int = classed.Word word.Int

-- the word `long`
abbrev pub the_long : Class
the_long = classed.Word word.Long

-- the word `string`
abbrev pub the_string : Class
the_string = classed.Word word.Str

-- the word `undefined`
abbrev pub the_undefined : Class
the_undefined = classed.Word word.Undefined

-- the word `throws`
abbrev pub the_throws : Class
the_throws = classed.Word word.Throws

-- the word `RequestResponse`
abbrev pub the_request_response : Class
the_request_response = classed.Word word.RequestResponse

-- the word `OneWay`
abbrev pub the_one_way : Class
the_one_way = classed.Word word.OneWay

-- ---- numbers and strings

-- an int
abbrev pub int_number : Class
int_number = classed.Int

-- a long
abbrev pub long_number : Class
long_number = classed.Long

-- a string
abbrev pub quoted_text : Class
quoted_text = classed.Str

-- ---- the signs

-- the sign `->`
abbrev pub sign_arrow : Class
sign_arrow = classed.Sign sign.Arrow

-- the sign `==`
abbrev pub sign_equal : Class
sign_equal = classed.Sign sign.Equal

-- the sign `!=`
abbrev pub sign_not_equal : Class
sign_not_equal = classed.Sign sign.NotEqual

-- the sign `<=`
abbrev pub sign_at_most : Class
sign_at_most = classed.Sign sign.AtMost

-- the sign `>=`
abbrev pub sign_at_least : Class
sign_at_least = classed.Sign sign.AtLeast

-- the sign `<<`
abbrev pub sign_deep_assign : Class
sign_deep_assign = classed.Sign sign.DeepAssign

-- the sign `++`
abbrev pub sign_increment : Class
sign_increment = classed.Sign sign.Increment

-- the sign `--`
abbrev pub sign_decrement : Class
sign_decrement = classed.Sign sign.Decrement

-- the sign `&&`
abbrev pub sign_and : Class
sign_and = classed.Sign sign.And

-- the sign `||`
abbrev pub sign_or : Class
sign_or = classed.Sign sign.Or

-- the sign `{`
abbrev pub sign_open_brace : Class
sign_open_brace = classed.Sign sign.OpenBrace

-- the sign `}`
abbrev pub sign_close_brace : Class
sign_close_brace = classed.Sign sign.CloseBrace

-- the sign `(`
abbrev pub sign_open_paren : Class
sign_open_paren = classed.Sign sign.OpenParen

-- the sign `)`
abbrev pub sign_close_paren : Class
sign_close_paren = classed.Sign sign.CloseParen

-- the sign `[`
abbrev pub sign_open_bracket : Class
sign_open_bracket = classed.Sign sign.OpenBracket

-- the sign `]`
abbrev pub sign_close_bracket : Class
sign_close_bracket = classed.Sign sign.CloseBracket

-- the sign `,`
abbrev pub sign_comma : Class
sign_comma = classed.Sign sign.Comma

-- the sign `;`
abbrev pub sign_semicolon : Class
sign_semicolon = classed.Sign sign.Semicolon

-- the sign `:`
abbrev pub sign_colon : Class
sign_colon = classed.Sign sign.Colon

-- the sign `.`
abbrev pub sign_dot : Class
sign_dot = classed.Sign sign.Dot

-- the sign `|`
abbrev pub sign_bar : Class
sign_bar = classed.Sign sign.Bar

-- the sign `=`
abbrev pub sign_assign : Class
sign_assign = classed.Sign sign.Assign

-- the sign `<`
abbrev pub sign_less : Class
sign_less = classed.Sign sign.Less

-- the sign `>`
abbrev pub sign_greater : Class
sign_greater = classed.Sign sign.Greater

-- the sign `+`
abbrev pub sign_plus : Class
sign_plus = classed.Sign sign.Plus

-- the sign `-`
abbrev pub sign_minus : Class
sign_minus = classed.Sign sign.Minus

-- the sign `*`
abbrev pub sign_star : Class
sign_star = classed.Sign sign.Star

-- the sign `/`
abbrev pub sign_slash : Class
sign_slash = classed.Sign sign.Slash

-- the sign `%`
abbrev pub sign_percent : Class
sign_percent = classed.Sign sign.Percent

-- the sign `!`
abbrev pub sign_not : Class
sign_not = classed.Sign sign.Not

-- the sign `#`
abbrev pub sign_hash : Class
sign_hash = classed.Sign sign.Hash

-- the sign `@`
abbrev pub sign_at : Class
sign_at = classed.Sign sign.At

-- the sign `?`
abbrev pub sign_question : Class
sign_question = classed.Sign sign.Question
