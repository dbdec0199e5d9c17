-- When `;` is the last token of bytes, and what is advised of a place.
use Rattle.std.proofs.Common.{◌≡◌, ◌<◌, ◌≤◌, ℕ, Bool, true, false, List, length, take, drop, Result, Ok, Err, IfOk, refl, sym, ap, ◌∙◌, subst}
use Rattle.std.specs.Prelude.{nat_eq, codes, IsErrOf, MatchBool, ◌↔◌, Option, None, Some}
use Rattle.std.specs.List.{starts_with}
use Rattle.std.specs.declared.alloc.AllocError.{AllocError}
use Rattle.std.proofs.lemmas.Bool.{false≢true}
use Rattle.jolie_tokens.specs.declared.token.Token.{Token}
use Rattle.jolie_tokens.specs.declared.lex_error.LexError.{LexError}
use Rattle.jolie_tokens.specs.declared.lex_error.LexError.TheVariants as lex
use Rattle.jolie_tokens.specs.Texts.{longest, IsRead}
use Rattle.jolie_tokens.specs.Outcomes.{UnlessMemory}
use Rattle.explain_hints.specs.MayStand.{IsNoMemory}
use Rattle.explain_hints.proofs.Trials.{fits, none_read, same_tokens}
use Rattle.explain_text.specs.declared.advice.Advice.{Advice}
use Rattle.explain_text.specs.declared.advice.Advice.TheVariants as advice
use Rattle.explain_text.specs.Advised.{LastIsSemicolon, EndsInSemicolon, IsBehindSemicolon, IsAdvisedBy}

-- what lex says of bytes that have tokens
abbrev GivesAll : List ℕ → Result (List Token) LexError → Type 0
GivesAll bytes r = (tokens : List Token) → length bytes ≤ longest → IsRead bytes tokens → UnlessMemory r (Ok tokens)

-- bytes end as the tokens that lex gives
pub ends_so : (bytes : List ℕ) (r : Result (List Token) LexError) (tokens : List Token) (b : Bool) → r ≡ Ok tokens → (IsErrOf r lex.TooLong ↔ longest < length bytes)
    → GivesAll bytes r → IsRead bytes tokens → MatchBool b (LastIsSemicolon tokens) (LastIsSemicolon tokens → ⊥) → MatchBool b (EndsInSemicolon bytes) (EndsInSemicolon bytes → ⊥)
ends_so bytes r tokens true is fit all read end =
    record { fits = fits r tokens (length bytes) is fit; tokens = tokens; read = read; last = end }
ends_so bytes r tokens false is fit all read not =
    λ e. not (subst LastIsSemicolon (sym (same_tokens bytes r tokens e.tokens is all e.fits e.read)) e.last)

-- bytes to which lex gives no tokens end in none
pub ends_nowhere : (bytes : List ℕ) (r : Result (List Token) LexError) (e f : LexError) → r ≡ Err e → e ≡ f → IsNoMemory f → GivesAll bytes r → EndsInSemicolon bytes → ⊥
ends_nowhere bytes r e f is same told all x =
    none_read f told x.tokens (subst (λ y. UnlessMemory y (Ok x.tokens)) (is ∙ ap Err same) (all x.tokens x.fits x.read))

-- ---- what is advised of a token that may not stand there

-- the advice that what stands there has
pub advised_so : (found : Option Advice) (text : List ℕ) (at : ℕ) (a : Advice) → found ≡ Some a → IsAdvisedBy found text at (Some a)
advised_so found text at a is = subst (λ f. IsAdvisedBy f text at (Some a)) (sym is) refl

-- what stands there has none
pub advised_else : (found : Option Advice) (text : List ℕ) (at : ℕ) (r : Result (Option Advice) AllocError) → found ≡ None
    → IfOk r (λ advised. IsAdvisedBy None text at advised) → IfOk r (λ advised. IsAdvisedBy found text at advised)
advised_else found text at r is done = subst (λ f. IfOk r (λ advised. IsAdvisedBy f text at advised)) (sym is) done

-- no `}` stands there
pub no_brace : (text : List ℕ) (at : ℕ) → starts_with nat_eq (drop at text) (codes "}") ≡ false → IsBehindSemicolon text at → ⊥
no_brace text at other is = false≢true (sym other ∙ is.0)

-- no `;` stands before it
pub no_end : (text : List ℕ) (at : ℕ) → (EndsInSemicolon (take at text) → ⊥) → IsBehindSemicolon text at → ⊥
no_end text at never is = never is.1

-- `;` stands before a `}`
pub ended : (text : List ℕ) (at : ℕ) → starts_with nat_eq (drop at text) (codes "}") ≡ true → EndsInSemicolon (take at text)
    → IsAdvisedBy None text at (Some advice.Separator)
ended text at brace end = (refl, (brace, end))
