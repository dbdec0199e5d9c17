-- What the errors of `lex` say of a text.
use Rattle.std.specs.Prelude.{◌≡◌, ℕ, ◌<◌, ◌≤◌, List, length, Result, Err}
use Rattle.jolie_tokens.specs.declared.token.Token.{Token}
use Rattle.jolie_tokens.specs.declared.lex_error.LexError.{LexError}
use Rattle.jolie_tokens.specs.declared.lex_error.LexError.TheVariants as error
use Rattle.jolie_tokens.specs.Texts.{IsRefused, longest}

-- the text has that refusal, or memory ran out
abbrev pub IsRefusedOrMemory : List ℕ → LexError → Type 0
IsRefusedOrMemory text (error.Memory cause) = Unit {0}
IsRefusedOrMemory text e = IsRefused text e

-- the text is too long, or is not and has that refusal, or memory ran out
abbrev pub IsCause : List ℕ → LexError → Type 0
IsCause text error.TooLong = longest < length text
IsCause text e = (length text ≤ longest) × IsRefusedOrMemory text e

-- the result is that one, unless memory ran out
abbrev pub UnlessMemory : Result (List Token) LexError → Result (List Token) LexError → Type 0
UnlessMemory (Err (error.Memory cause)) expected = Unit {0}
UnlessMemory result expected = result ≡ expected
