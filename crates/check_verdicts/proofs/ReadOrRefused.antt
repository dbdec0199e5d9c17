-- What a text that is read or refused has.
use Rattle.std.proofs.Common.{◌≡◌, ℕ, ◌<◌, ◌≤◌, List, length, Result, Ok, Err, subst, sym, arith}
use Rattle.std.specs.Prelude.{IsErrOf, ◌↔◌}
use Rattle.jolie_tokens.specs.declared.token.Token.{Token}
use Rattle.jolie_tokens.specs.declared.lex_error.LexError.{LexError}
use Rattle.jolie_tokens.specs.declared.lex_error.LexError.TheVariants as lex
use Rattle.jolie_tokens.specs.Texts.{longest, IsRead}
use Rattle.jolie_tokens.specs.Outcomes.{IsCause}
use Rattle.jolie_ast.specs.declared.tree.Definition.{Definition}
use Rattle.jolie_parse.specs.declared.parse_error.ParseError.{ParseError}
use Rattle.jolie_parse.specs.declared.parse_error.ParseError.TheVariants as parse
use Rattle.jolie_parse.specs.Classes.{spelled}
use Rattle.jolie_parse.specs.Grammar.{IsFile}
use Rattle.jolie_parse.specs.Answers.{IsRefusedAt, IsTooDeepAt}
use Rattle.check_verdicts.specs.declared.refusal.Refusal.{Refusal}
use Rattle.check_verdicts.specs.Verdicts.{IsAccepted, IsRefusedBy, too_long, no_tokens, no_file, too_deep}
use Rattle.check_verdicts.specs.RefusalLines.{refusal_line, IsLexRefusal, IsParseRefusal}

-- a text that has tokens is not too long
pub fits : (r : Result (List Token) LexError) (tokens : List Token) (n : ℕ) → r ≡ Ok tokens → (IsErrOf r lex.TooLong ↔ longest < n) → n ≤ longest
fits r tokens n is exact = let never : longest < n → ⊥ = λ h. let e : r ≡ Err lex.TooLong = exact.1 h in cc in omega arith

-- a text whose tokens are a file
pub accepted : (text : List ℕ) (tokens : List Token) (file : List Definition) → length text ≤ longest → IsRead text tokens → IsFile 64 (spelled text tokens) file → IsAccepted text file
accepted text tokens file fit read derived = record { fits = fit; tokens = tokens; read = read; derived = derived }

-- a text that has no tokens
pub refused_by_lex : (text : List ℕ) (e : LexError) (r : Refusal) → IsCause text e → IsLexRefusal e r → IsRefusedBy text (refusal_line r)
refused_by_lex text lex.TooLong r cause line = subst (λ l. IsRefusedBy text l) (sym line) (too_long cause)
refused_by_lex text (lex.BadByte at) r cause line = subst (λ l. IsRefusedBy text l) (sym line) (no_tokens (lex.BadByte at) cause.0 cause.1)
refused_by_lex text (lex.OpenString at) r cause line = subst (λ l. IsRefusedBy text l) (sym line) (no_tokens (lex.OpenString at) cause.0 cause.1)
refused_by_lex text (lex.OpenComment at) r cause line = subst (λ l. IsRefusedBy text l) (sym line) (no_tokens (lex.OpenComment at) cause.0 cause.1)
refused_by_lex text (lex.BadNumber at) r cause line = subst (λ l. IsRefusedBy text l) (sym line) (no_tokens (lex.BadNumber at) cause.0 cause.1)
refused_by_lex text (lex.Memory why) r cause line = absurd line

-- a text whose tokens are no file
pub refused_by_parse : (text : List ℕ) (tokens : List Token) (result : Result (List Definition) ParseError) (e : ParseError) (r : Refusal) → length text ≤ longest → IsRead text tokens → result ≡ Err e
    → ((at : ℕ) → result ≡ Err (parse.Syntax at) → IsRefusedAt 64 (length text) (spelled text tokens) at)
    → ((at : ℕ) → result ≡ Err (parse.TooDeep at) → IsTooDeepAt 64 (length text) (spelled text tokens) at) → IsParseRefusal e r → IsRefusedBy text (refusal_line r)
refused_by_parse text tokens result (parse.Syntax at) r fit read is syntax deep line = subst (λ l. IsRefusedBy text l) (sym line) (no_file tokens at fit read (syntax at is))
refused_by_parse text tokens result (parse.TooDeep at) r fit read is syntax deep line = subst (λ l. IsRefusedBy text l) (sym line) (too_deep tokens at fit read (deep at is))
refused_by_parse text tokens result (parse.Memory cause) r fit read is syntax deep line = absurd line
