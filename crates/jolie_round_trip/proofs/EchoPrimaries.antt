-- Operands are printed so that they are read again, alone and as operands.
use Rattle.std.proofs.Common.{◌≡◌, ℕ, ℤ, pos, true, List, [], ◌∷◌, refl, ap, subst, ◌∙◌}
use Rattle.jolie_tokens.specs.declared.token.TokenKind.{TokenKind}
use Rattle.jolie_tokens.specs.declared.token.TokenKind.TheVariants as kind
use Rattle.jolie_ast.specs.declared.expression.Expr.{Expr}
use Rattle.jolie_ast.specs.declared.expression.ExprForm.{ExprForm}
use Rattle.jolie_ast.specs.declared.expression.ExprForm.TheVariants as form
use Rattle.jolie_ast.specs.Spacing.{Token}
use Rattle.jolie_ast.specs.PrintedExpressions.{simple, Shown, form_shown, expr_shown, long_token, quoted_token, truth_token}
use Rattle.jolie_ast.specs.PrintedParts.{int_token}
use Rattle.jolie_ast.proofs.PrintedExpressions.{int_shown, long_shown, text_shown, truth_shown}
use Rattle.jolie_parse.specs.declared.class.Class.{Class}
use Rattle.jolie_parse.specs.declared.class.Class.TheVariants as classed
use Rattle.jolie_parse.specs.ClassNames as c
use Rattle.jolie_parse.specs.Classes.{Spelled, class_of, place, has, same}
use Rattle.jolie_parse.specs.Words.{word_of}
use Rattle.jolie_parse.specs.Meanings as means_as
use Rattle.jolie_parse.specs.Meanings.{expression}
use Rattle.jolie_parse.specs.Syntax.{Part, Meant, Syn, Lang, Derives, means}
use Rattle.jolie_parse.specs.Grammar.{whole_number, long_number, quoted_text, truth, path_value, size, defined_test, cast, literal, primary, prefixed_operand, unary}
use Rattle.jolie_round_trip.specs.Placeless.{form_placeless, expr_placeless}
use Rattle.jolie_round_trip.proofs.Lexemes.{IsValid, Every, printed_spelling}
use Rattle.jolie_round_trip.proofs.ClassTokens.{every_has}
use Rattle.jolie_round_trip.proofs.Echo.{Echo, echo_left, echo_right, echo_means}
use Rattle.jolie_round_trip.proofs.Parts.{Printable}
use Rattle.jolie_round_trip.proofs.PlacelessExpressions.{expression_placeless, int_placeless, long_placeless, string_placeless, truth_placeless}
use Rattle.jolie_round_trip.proofs.PrintedForms.{expression_shown}
use Rattle.jolie_round_trip.proofs.Reprints.{Reprints}
use Rattle.jolie_round_trip.proofs.ReprintsTokens.{reprints_among, reprints_kinds}
use Rattle.jolie_round_trip.proofs.ExprLevels.{printable_simple}

-- each phrase whose tokens are valid is read again, alone and as an operand
pub record Shows (w : (r : Part) → Lang (Meant r)) (s : Syn Expr) : Type 0 where
  pub echo : (ts : List Spelled) (v : Expr) → Derives w s ts v → Every IsValid ts → Printable v

-- a phrase of the production is an operand
abbrev pub IsOperand : Syn Expr → Type 0
IsOperand s = (v : Expr) (x : List Token) → Echo expr_placeless s v x → Echo expr_placeless unary v x

pub at_placeless : (at : ℕ) (f g : ExprForm) → form_placeless f ≡ g → expr_placeless (expression at f) ≡ expression 0 g
at_placeless at f g h = expression_placeless at f ∙ ap (expression 0) h

pub at_shown : (at : ℕ) (f : ExprForm) (s : Shown) → form_shown f ≡ s → expr_shown (expression at f) ≡ s
at_shown at f s h = expression_shown at f ∙ h

-- ---- which productions are operands

primary_operand : IsOperand primary
unfolding unary
primary_operand v x a = echo_right a _

whole_operand : IsOperand whole_number
unfolding primary
whole_operand v x a = primary_operand v x (echo_left a _)

long_operand : IsOperand long_number
unfolding primary
long_operand v x a = primary_operand v x (echo_right (echo_left a _) _)

text_operand : IsOperand quoted_text
unfolding primary
text_operand v x a = primary_operand v x (echo_right (echo_right (echo_left a _) _) _)

truth_operand : IsOperand truth
unfolding primary
truth_operand v x a = primary_operand v x (echo_right (echo_right (echo_right (echo_left a _) _) _) _)

pub path_operand : IsOperand path_value
unfolding primary
path_operand v x a = primary_operand v x (echo_right (echo_right (echo_right (echo_right (echo_left a _) _) _) _) _)

pub size_operand : IsOperand size
unfolding primary
size_operand v x a = primary_operand v x (echo_right (echo_right (echo_right (echo_right (echo_right (echo_left a _) _) _) _) _) _)

pub defined_operand : IsOperand defined_test
unfolding primary
defined_operand v x a = primary_operand v x (echo_right (echo_right (echo_right (echo_right (echo_right (echo_right (echo_left a _) _) _) _) _) _) _)

pub cast_operand : IsOperand cast
unfolding primary
cast_operand v x a = primary_operand v x (echo_right (echo_right (echo_right (echo_right (echo_right (echo_right (echo_right (echo_left a _) _) _) _) _) _) _) _)

pub literal_operand : IsOperand literal
unfolding primary
literal_operand v x a = primary_operand v x (echo_right (echo_right (echo_right (echo_right (echo_right (echo_right (echo_right (echo_right (echo_right a _) _) _) _) _) _) _) _) _)

pub prefixed_is_operand : IsOperand prefixed_operand
unfolding unary
prefixed_is_operand v x a = echo_left a _

-- ---- numbers and strings

-- the value of an int
abbrev pub int_of : TokenKind → ℤ
int_of k = elim k [ kind.Int n ↦ n | _ ↦ pos 0 ]

-- the value of a long
abbrev long_of : TokenKind → ℤ
long_of k = elim k [ kind.Long n ↦ n | _ ↦ pos 0 ]

-- the text of a string
abbrev pub text_of : TokenKind → List ℕ
text_of k = elim k [ kind.Str text ↦ text | _ ↦ [] ]

only : (j k : Class) → has (j ∷ []) k ≡ true → j ≡ k
only j k h = every_has (λ z. j ≡ z) (j ∷ []) k (refl, tt) h

pub int_bytes : (k : TokenKind) (bytes : List ℕ) → has (c.int_number ∷ []) (class_of k bytes) ≡ true → printed_spelling k bytes ≡ int_token (int_of k)
int_bytes kind.Word bytes h = let e : classed.Int ≡ classed.Word (word_of bytes) = only classed.Int (classed.Word (word_of bytes)) h in cc
int_bytes (kind.Int n) bytes h = refl
int_bytes (kind.Long n) bytes h = cc
int_bytes (kind.Str text) bytes h = cc
int_bytes (kind.Sign s) bytes h = let e : classed.Int ≡ classed.Sign s = only classed.Int (classed.Sign s) h in cc

pub long_bytes : (k : TokenKind) (bytes : List ℕ) → has (c.long_number ∷ []) (class_of k bytes) ≡ true → printed_spelling k bytes ≡ long_token (long_of k)
long_bytes kind.Word bytes h = let e : classed.Long ≡ classed.Word (word_of bytes) = only classed.Long (classed.Word (word_of bytes)) h in cc
long_bytes (kind.Int n) bytes h = cc
long_bytes (kind.Long n) bytes h = refl
long_bytes (kind.Str text) bytes h = cc
long_bytes (kind.Sign s) bytes h = let e : classed.Long ≡ classed.Sign s = only classed.Long (classed.Sign s) h in cc

pub text_bytes : (k : TokenKind) (bytes : List ℕ) → has (c.quoted_text ∷ []) (class_of k bytes) ≡ true → printed_spelling k bytes ≡ quoted_token (text_of k)
text_bytes kind.Word bytes h = let e : classed.Str ≡ classed.Word (word_of bytes) = only classed.Str (classed.Word (word_of bytes)) h in cc
text_bytes (kind.Int n) bytes h = cc
text_bytes (kind.Long n) bytes h = cc
text_bytes (kind.Str text) bytes h = refl
text_bytes (kind.Sign s) bytes h = let e : classed.Str ≡ classed.Sign s = only classed.Str (classed.Sign s) h in cc

-- ---- operands

module _ {w : (r : Part) → Lang (Meant r)} where
  pub shows_simple : {A B : Type 0} {s : Syn A} {kept : A → B} {p : A → List Token} (f : A → Expr) (k : B → Expr)
      → ((v : A) → expr_placeless (f v) ≡ k (kept v)) → ((v : A) → expr_shown (f v) ≡ simple (p v)) → IsOperand (means f s) → Reprints w s kept p → Shows w (means f s)
  shows_simple {p} f k kept_same shown lift a = record {
    echo = λ ts v d valid.
        subst Printable d.1 (printable_simple (f d.0) (p d.0) (shown d.0) (lift (f d.0) (p d.0) (echo_means (a.echo ts d.0 d.2 valid) expr_placeless f k kept_same)));
  }

  pub whole_shows : Shows w whole_number
  unfolding whole_number
  whole_shows =
      shows_simple (λ t. expression (place t) (form.Int (means_as.int_value t))) (λ k. expression 0 (form.Int (int_of k)))
      (λ t. at_placeless (place t) (form.Int (means_as.int_value t)) _ (int_placeless (means_as.int_value t)))
      (λ t. at_shown (place t) (form.Int (means_as.int_value t)) _ (int_shown (means_as.int_value t)))
      whole_operand (reprints_kinds (c.int_number ∷ []) (λ k. int_token (int_of k)) int_bytes)

  pub long_shows : Shows w long_number
  unfolding long_number
  long_shows =
      shows_simple (λ t. expression (place t) (form.Long (means_as.long_value t))) (λ k. expression 0 (form.Long (long_of k)))
      (λ t. at_placeless (place t) (form.Long (means_as.long_value t)) _ (long_placeless (means_as.long_value t)))
      (λ t. at_shown (place t) (form.Long (means_as.long_value t)) _ (long_shown (means_as.long_value t)))
      long_operand (reprints_kinds (c.long_number ∷ []) (λ k. long_token (long_of k)) long_bytes)

  pub text_shows : Shows w quoted_text
  unfolding quoted_text
  text_shows =
      shows_simple (λ t. expression (place t) (form.Str (means_as.meant_text t))) (λ k. expression 0 (form.Str (text_of k)))
      (λ t. at_placeless (place t) (form.Str (means_as.meant_text t)) _ (string_placeless (means_as.meant_text t)))
      (λ t. at_shown (place t) (form.Str (means_as.meant_text t)) _ (text_shown (means_as.meant_text t)))
      text_operand (reprints_kinds (c.quoted_text ∷ []) (λ k. quoted_token (text_of k)) text_bytes)

  pub truth_shows : Shows w truth
  unfolding truth
  truth_shows =
      shows_simple (λ t. expression (place t) (form.Bool (means_as.is_true t))) (λ k. expression 0 (form.Bool (same k c.the_true)))
      (λ t. at_placeless (place t) (form.Bool (means_as.is_true t)) _ (truth_placeless (means_as.is_true t)))
      (λ t. at_shown (place t) (form.Bool (means_as.is_true t)) _ (truth_shown (means_as.is_true t)))
      truth_operand (reprints_among (c.the_true ∷ c.the_false ∷ []) (λ k. truth_token (same k c.the_true)) ((refl, refl), ((refl, refl), tt)))
