-- What `lex` and `parse` say of bytes, as whether these are a file or begin one.
use Rattle.std.proofs.Common.{◌≡◌, ◌≢◌, ◌<◌, ◌≤◌, inl, inr, ℕ, List, [], ◌∷◌, ◌++◌, length, Result, Ok, Err, arith, sym, subst}
use Rattle.std.specs.Prelude.{IsErrOf, ◌↔◌}
use Rattle.std.proofs.lemmas.List.{append_assoc}
use Rattle.jolie_tokens.specs.declared.token.Token.{Token}
use Rattle.jolie_tokens.specs.declared.lex_error.LexError.{LexError}
use Rattle.jolie_tokens.specs.declared.lex_error.LexError.TheVariants as lex
use Rattle.jolie_tokens.specs.Texts.{longest, IsRead}
use Rattle.jolie_tokens.specs.Outcomes as lexed
use Rattle.jolie_ast.specs.declared.tree.Definition.{Definition}
use Rattle.jolie_parse.specs.declared.parse_error.ParseError.{ParseError}
use Rattle.jolie_parse.specs.declared.parse_error.ParseError.TheVariants as parse
use Rattle.jolie_parse.specs.Classes.{spelled}
use Rattle.jolie_parse.specs.Grammar.{IsFile}
use Rattle.jolie_parse.specs.Answers as parsed
use Rattle.jolie_parse.specs.Answers.{IsRefusedAt}
use Rattle.explain_hints.specs.MayStand.{IsFileOrBegun, MayGoOn, IsNoMemory}

-- ---- the bytes that are tried

-- they are put together of three
pub tried_is : (front sample : List ℕ) → (front ++ 10 ∷ []) ++ sample ≡ front ++ 10 ∷ sample
tried_is front sample = append_assoc front (10 ∷ []) sample

-- ---- what lex says

-- a text that has tokens is not too long
pub fits : (r : Result (List Token) LexError) (tokens : List Token) (n : ℕ) → r ≡ Ok tokens → (IsErrOf r lex.TooLong ↔ longest < n) → n ≤ longest
fits r tokens n is exact = let never : longest < n → ⊥ = λ h. let e : r ≡ Err lex.TooLong = exact.1 h in cc in omega arith

-- an error that is no want of memory leaves no tokens
pub none_read : (e : LexError) → IsNoMemory e → (tokens : List Token) → lexed.UnlessMemory (Err e) (Ok tokens) → ⊥
none_read lex.TooLong told tokens given = cc
none_read (lex.BadByte at) told tokens given = cc
none_read (lex.OpenString at) told tokens given = cc
none_read (lex.OpenComment at) told tokens given = cc
none_read (lex.BadNumber at) told tokens given = cc
none_read (lex.Memory cause) told tokens given = absurd told

-- bytes without tokens can't go on
pub no_tokens : (bytes : List ℕ) (r : Result (List Token) LexError) (e : LexError) → r ≡ Err e → IsNoMemory e
    → ((tokens : List Token) → length bytes ≤ longest → IsRead bytes tokens → lexed.UnlessMemory r (Ok tokens)) → MayGoOn bytes → ⊥
no_tokens bytes r e is told exact may =
    none_read e told may.tokens (subst (λ x. lexed.UnlessMemory x (Ok may.tokens)) is (exact may.tokens may.fits may.read))

-- the tokens that lex gives are the only ones
pub same_tokens : (bytes : List ℕ) (r : Result (List Token) LexError) (tokens others : List Token) → r ≡ Ok tokens
    → ((ts : List Token) → length bytes ≤ longest → IsRead bytes ts → lexed.UnlessMemory r (Ok ts)) → length bytes ≤ longest → IsRead bytes others → tokens ≡ others
same_tokens bytes r tokens others is exact fit read =
    let given : lexed.UnlessMemory (Ok tokens) (Ok others) = subst (λ x. lexed.UnlessMemory x (Ok others)) is (exact others fit read) in
    cc

-- what begins with the tokens that lex gives
begun_so : (bytes : List ℕ) (r : Result (List Token) LexError) (tokens : List Token) → r ≡ Ok tokens
    → ((ts : List Token) → length bytes ≤ longest → IsRead bytes ts → lexed.UnlessMemory r (Ok ts)) → MayGoOn bytes → IsFileOrBegun (length bytes) (spelled bytes tokens)
begun_so bytes r tokens is exact may =
    subst (λ ts. IsFileOrBegun (length bytes) (spelled bytes ts)) (sym (same_tokens bytes r tokens may.tokens is exact may.fits may.read)) may.begun

-- ---- what parse says

-- a file
pub is_file : (bytes : List ℕ) (tokens : List Token) (f : List Definition) → length bytes ≤ longest → IsRead bytes tokens → IsFile 64 (spelled bytes tokens) f → MayGoOn bytes
is_file bytes tokens f fit read derived = record { fits = fit; tokens = tokens; read = read; begun = inl (f, derived) }

-- refused at the end alone
pub begins : (bytes : List ℕ) (tokens : List Token) (q : Result (List Definition) ParseError) (at : ℕ) → length bytes ≤ longest → IsRead bytes tokens → q ≡ Err (parse.Syntax at)
    → ((k : ℕ) → q ≡ Err (parse.Syntax k) → IsRefusedAt 64 (length bytes) (spelled bytes tokens) k) → at ≡ length bytes → MayGoOn bytes
begins bytes tokens q at fit read is syntax ends =
    record { fits = fit; tokens = tokens; read = read; begun = inr (subst (λ k. IsRefusedAt 64 (length bytes) (spelled bytes tokens) k) ends (syntax at is)) }

-- no file, and not refused at the end, where the answer is another
neither : (bytes : List ℕ) (tokens : List Token) (q : Result (List Definition) ParseError)
    → ((f : List Definition) → q ≡ Ok f → ⊥) → (q ≡ Err (parse.Syntax (length bytes)) → ⊥)
    → ((f : List Definition) → IsFile 64 (spelled bytes tokens) f → q ≡ Ok f)
    → (IsRefusedAt 64 (length bytes) (spelled bytes tokens) (length bytes) → q ≡ Err (parse.Syntax (length bytes)))
    → IsFileOrBegun (length bytes) (spelled bytes tokens) → ⊥
neither bytes tokens q no_file no_end complete refused (inl found) = no_file found.0 (complete found.0 found.1)
neither bytes tokens q no_file no_end complete refused (inr begun) = no_end (refused begun)

-- refused at another place than the end
pub stops : (bytes : List ℕ) (r : Result (List Token) LexError) (tokens : List Token) (q : Result (List Definition) ParseError) (e : ParseError) (at : ℕ) → r ≡ Ok tokens
    → ((ts : List Token) → length bytes ≤ longest → IsRead bytes ts → lexed.UnlessMemory r (Ok ts)) → q ≡ Err e → e ≡ parse.Syntax at
    → ((f : List Definition) → IsFile 64 (spelled bytes tokens) f → parsed.UnlessMemory q (Ok f))
    → ((k : ℕ) → IsRefusedAt 64 (length bytes) (spelled bytes tokens) k → parsed.UnlessMemory q (Err (parse.Syntax k))) → at ≢ length bytes → MayGoOn bytes → ⊥
stops bytes r tokens q e at lexes exact fails is complete refused elsewhere may =
    let same : q ≡ Err (parse.Syntax at) = subst (λ x. q ≡ Err x) is fails in
    neither bytes tokens (Err (parse.Syntax at)) (λ f no. cc) (λ end. elsewhere cc)
    (λ f d. subst (λ x. parsed.UnlessMemory x (Ok f)) same (complete f d)) (λ d. subst (λ x. parsed.UnlessMemory x (Err (parse.Syntax (length bytes)))) same (refused (length bytes) d))
    (begun_so bytes r tokens lexes exact may)

-- too deep
pub goes_too_deep : (bytes : List ℕ) (r : Result (List Token) LexError) (tokens : List Token) (q : Result (List Definition) ParseError) (e : ParseError) (at : ℕ) → r ≡ Ok tokens
    → ((ts : List Token) → length bytes ≤ longest → IsRead bytes ts → lexed.UnlessMemory r (Ok ts)) → q ≡ Err e → e ≡ parse.TooDeep at
    → ((f : List Definition) → IsFile 64 (spelled bytes tokens) f → parsed.UnlessMemory q (Ok f))
    → ((k : ℕ) → IsRefusedAt 64 (length bytes) (spelled bytes tokens) k → parsed.UnlessMemory q (Err (parse.Syntax k))) → MayGoOn bytes → ⊥
goes_too_deep bytes r tokens q e at lexes exact fails is complete refused may =
    let same : q ≡ Err (parse.TooDeep at) = subst (λ x. q ≡ Err x) is fails in
    neither bytes tokens (Err (parse.TooDeep at)) (λ f no. cc) (λ end. cc)
    (λ f d. subst (λ x. parsed.UnlessMemory x (Ok f)) same (complete f d)) (λ d. subst (λ x. parsed.UnlessMemory x (Err (parse.Syntax (length bytes)))) same (refused (length bytes) d))
    (begun_so bytes r tokens lexes exact may)
