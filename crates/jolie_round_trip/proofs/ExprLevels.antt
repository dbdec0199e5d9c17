-- An operand is an expression of every level; operations stand in parentheses.
use Rattle.std.proofs.Common.{◌≡◌, ℕ, List, [], ◌∷◌, map, Option, Some, None, refl, sym, ap, ◌∙◌, codes}
use Rattle.std.specs.Prelude.{option_map}
use Rattle.std.proofs.lemmas.List.{append-nil}
use Rattle.jolie_tokens.specs.declared.token.TokenKind.TheVariants as kind
use Rattle.jolie_tokens.specs.declared.sign.Sign.TheVariants as sign
use Rattle.jolie_ast.specs.declared.expression.Expr.{Expr, out-Expr}
use Rattle.jolie_ast.specs.declared.expression.ExprForm.{ExprForm}
use Rattle.jolie_ast.specs.declared.expression.ExprForm.TheVariants as form
use Rattle.jolie_ast.specs.declared.expression.ExprForm.TheFolds.{fold_out-Expr}
use Rattle.jolie_ast.specs.declared.expression.Factor.{Factor}
use Rattle.jolie_ast.specs.declared.expression.Term.{Term}
use Rattle.jolie_ast.specs.declared.expression.Member.{Member}
use Rattle.jolie_ast.specs.declared.expression.Path.{Path}
use Rattle.jolie_ast.specs.declared.expression.Step.{Step}
use Rattle.jolie_ast.specs.Spacing.{Token}
use Rattle.jolie_ast.specs.PrintedExpressions.{simple, operation, operand, in_parens, expr_shown, expr_tokens, operand_tokens}
use Rattle.jolie_ast.proofs.PrintedExpressions.{expr_is}
use Rattle.jolie_parse.specs.declared.class.Class.{Class}
use Rattle.jolie_parse.specs.ClassNames as c
use Rattle.jolie_parse.specs.Classes.{Spelled, class, place}
use Rattle.jolie_parse.specs.Meanings as means_as
use Rattle.jolie_parse.specs.Meanings.{expression}
use Rattle.jolie_parse.specs.Syntax.{Syn, means, an_expression, behind, separated, optional}
use Rattle.jolie_parse.specs.Grammar.{whole_number, long_number, quoted_text, truth, path_value, size, defined_test, cast, grouped, literal, primary, prefixed_operand, unary, factor, product, term, sum, comparand, comparison, conjunction, expr}
use Rattle.jolie_round_trip.specs.Placeless as placeless
use Rattle.jolie_round_trip.specs.Placeless.{form_placeless, expr_placeless, factor_placeless, term_placeless, member_placeless, path_placeless, step_placeless}
use Rattle.jolie_round_trip.proofs.Lexemes.{sign_lexeme, sign_printed}
use Rattle.jolie_round_trip.proofs.Echo.{Echo, pair_kept, echo_give, echo_both, echo_left, echo_right, echo_means, echo_of, echo_as, echo_nil}
use Rattle.jolie_round_trip.proofs.EchoTokens.{echo_inside}
use Rattle.jolie_round_trip.proofs.Parts.{Printable}
use Rattle.jolie_round_trip.proofs.PlacelessExpressions.{expression_placeless, product_placeless, sum_placeless, compare_placeless, and_placeless, or_placeless}
use Rattle.jolie_round_trip.proofs.PrintedForms.{expression_shown}

-- ---- an expression of another place

pub out_placeless : (e : Expr) → expr_placeless e ≡ expression 0 (form_placeless (out-Expr e).form)
unfolding form_placeless expr_placeless factor_placeless term_placeless member_placeless path_placeless step_placeless
out_placeless e = fold_out-Expr ExprForm Expr Factor Member Path Step Term placeless.form_level placeless.expr_level placeless.factor_level placeless.member_level placeless.path_level placeless.step_level placeless.term_level e

pub begun_placeless : (at : ℕ) (e : Expr) → expr_placeless (means_as.begun_at at e) ≡ expr_placeless e
begun_placeless at e = expression_placeless at (out-Expr e).form ∙ sym (out_placeless e)

pub begun_shown : (at : ℕ) (e : Expr) → expr_shown (means_as.begun_at at e) ≡ expr_shown e
begun_shown at e = expression_shown at (out-Expr e).form ∙ sym (expr_is e)

-- ---- what is kept of operations

-- of a product
abbrev pub product_kept : Expr × List Factor → Expr
product_kept (e, []) = e
product_kept (e, (q ∷ qs)) = expression 0 (form.Product e (q ∷ qs))

pub product_same : (v : Expr × List Factor) → expr_placeless (means_as.product_of v) ≡ product_kept (pair_kept expr_placeless (map factor_placeless) v)
product_same (e, []) = refl
product_same (e, (q ∷ qs)) = expression_placeless (means_as.start e) (form.Product e (q ∷ qs)) ∙ ap (expression 0) (product_placeless e (q ∷ qs))

-- of a sum
abbrev pub sum_kept : Expr × List Term → Expr
sum_kept (e, []) = e
sum_kept (e, (q ∷ qs)) = expression 0 (form.Sum e (q ∷ qs))

pub sum_same : (v : Expr × List Term) → expr_placeless (means_as.sum_of v) ≡ sum_kept (pair_kept expr_placeless (map term_placeless) v)
sum_same (e, []) = refl
sum_same (e, (q ∷ qs)) = expression_placeless (means_as.start e) (form.Sum e (q ∷ qs)) ∙ ap (expression 0) (sum_placeless e (q ∷ qs))

-- of what an operand is compared with
abbrev pub comparand_kept : Spelled × Expr → Class × Expr
comparand_kept = pair_kept class expr_placeless

-- of a comparison
abbrev pub comparison_kept : Expr × Option (Class × Expr) → Expr
comparison_kept (e, None) = e
comparison_kept (e, Some q) = expression 0 (form.Compare e (means_as.comparison_of q.0) q.1)

pub comparison_same : (v : Expr × Option (Spelled × Expr)) → expr_placeless (means_as.comparison_made v) ≡ comparison_kept (pair_kept expr_placeless (option_map comparand_kept) v)
comparison_same (e, None) = refl
comparison_same (e, Some q) =
    expression_placeless (means_as.start e) (form.Compare e (means_as.comparison_of (class q.0)) q.1) ∙ ap (expression 0) (compare_placeless e (means_as.comparison_of (class q.0)) q.1)

-- of operands with `&&`
abbrev pub and_kept : List Expr → Expr
and_kept [] = expression 0 (form.And [])
and_kept (e ∷ []) = e
and_kept (e ∷ d ∷ es) = expression 0 (form.And (e ∷ d ∷ es))

pub and_same : (es : List Expr) → expr_placeless (means_as.and_of es) ≡ and_kept (map expr_placeless es)
and_same [] = expression_placeless 0 (form.And []) ∙ ap (expression 0) (and_placeless [])
and_same (e ∷ []) = refl
and_same (e ∷ d ∷ es) = expression_placeless (means_as.start e) (form.And (e ∷ d ∷ es)) ∙ ap (expression 0) (and_placeless (e ∷ d ∷ es))

-- of operands with `||`
abbrev pub or_kept : List Expr → Expr
or_kept [] = expression 0 (form.Or [])
or_kept (e ∷ []) = e
or_kept (e ∷ d ∷ es) = expression 0 (form.Or (e ∷ d ∷ es))

pub or_same : (es : List Expr) → expr_placeless (means_as.or_of es) ≡ or_kept (map expr_placeless es)
or_same [] = expression_placeless 0 (form.Or []) ∙ ap (expression 0) (or_placeless [])
or_same (e ∷ []) = refl
or_same (e ∷ d ∷ es) = expression_placeless (means_as.start e) (form.Or (e ∷ d ∷ es)) ∙ ap (expression 0) (or_placeless (e ∷ d ∷ es))

-- ---- one operand alone

module _ (v : Expr) (x : List Token) where
  pub as_product : Echo expr_placeless unary v x → Echo expr_placeless product v x
  unfolding product
  as_product a = echo_as (echo_means (echo_both a (echo_nil factor_placeless factor)) expr_placeless means_as.product_of product_kept product_same) x (append-nil x)

  pub as_sum : Echo expr_placeless product v x → Echo expr_placeless sum v x
  unfolding sum
  as_sum a = echo_as (echo_means (echo_both a (echo_nil term_placeless term)) expr_placeless means_as.sum_of sum_kept sum_same) x (append-nil x)

  pub as_comparison : Echo expr_placeless sum v x → Echo expr_placeless comparison v x
  unfolding comparison
  as_comparison a =
      let none : Echo (option_map comparand_kept) (optional comparand) None [] = echo_right (echo_give (option_map comparand_kept) None) (means Some comparand) in
      echo_as (echo_means (echo_both a none) expr_placeless means_as.comparison_made comparison_kept comparison_same) x (append-nil x)

  one_alone : (k : Class) (s : Syn Expr) → Echo expr_placeless s v x → Echo (map expr_placeless) (separated k s) (v ∷ []) x
  one_alone k s a = echo_as (echo_means (echo_both a (echo_nil expr_placeless (behind k s))) (map expr_placeless) (λ q. q.0 ∷ q.1) (λ z. z.0 ∷ z.1) (λ q. refl)) x (append-nil x)

  pub as_conjunction : Echo expr_placeless comparison v x → Echo expr_placeless conjunction v x
  unfolding conjunction
  as_conjunction a = echo_means (one_alone c.sign_and comparison a) expr_placeless means_as.and_of and_kept and_same

  pub as_expr : Echo expr_placeless conjunction v x → Echo expr_placeless expr v x
  unfolding expr
  as_expr a = echo_means (one_alone c.sign_or conjunction a) expr_placeless means_as.or_of or_kept or_same

  pub product_as_expr : Echo expr_placeless product v x → Echo expr_placeless expr v x
  product_as_expr a = as_expr (as_conjunction (as_comparison (as_sum a)))

  pub unary_as_expr : Echo expr_placeless unary v x → Echo expr_placeless expr v x
  unary_as_expr a = product_as_expr (as_product a)

-- ---- in parentheses

-- a parenthesis at the head of a text
open_paren : Spelled
open_paren = record { token = record { kind = kind.Sign sign.OpenParen; at = 0; len = 1 }; spelling = codes "(" }

in_group : (v : Expr) (x : List Token) → Echo expr_placeless expr v x → Echo expr_placeless grouped v (in_parens x)
unfolding grouped
in_group v x a =
    let e = echo_inside c.sign_open_paren an_expression c.sign_close_paren open_paren v (sign_lexeme sign.OpenParen) (sign_lexeme sign.CloseParen) refl refl a (sign_printed sign.OpenParen) (sign_printed sign.CloseParen) in
    echo_of (echo_means e expr_placeless (λ q. means_as.begun_at (place q.0) q.1) (λ z. z) (λ q. begun_placeless (place q.0) q.1)) v (begun_placeless (place open_paren) v)

grouped_unary : (v : Expr) (x : List Token) → Echo expr_placeless grouped v x → Echo expr_placeless unary v x
unfolding unary primary
grouped_unary v x a =
    echo_right (echo_right (echo_right (echo_right (echo_right (echo_right (echo_right (echo_right (echo_right (echo_left a literal) cast) defined_test) size) path_value) truth) quoted_text) long_number) whole_number) prefixed_operand

pub parenthesized : (v : Expr) (x : List Token) → Echo expr_placeless expr v x → Echo expr_placeless unary v (in_parens x)
parenthesized v x a = grouped_unary v (in_parens x) (in_group v x a)

-- ---- both ways

pub printable_simple : (v : Expr) (x : List Token) → expr_shown v ≡ simple x → Echo expr_placeless unary v x → Printable v
printable_simple v x h a = record {
  alone = echo_as (unary_as_expr v x a) (expr_tokens v) (sym (ap (λ s. s.tokens) h));
  as_operand = echo_as a (operand_tokens v) (sym (ap operand h));
}

pub printable_operation : (v : Expr) (x : List Token) → expr_shown v ≡ operation x → Echo expr_placeless expr v x → Printable v
printable_operation v x h a = record {
  alone = echo_as a (expr_tokens v) (sym (ap (λ s. s.tokens) h));
  as_operand = echo_as (parenthesized v x a) (operand_tokens v) (sym (ap operand h));
}

-- of another place
pub printable_begun : (at : ℕ) (v : Expr) → Printable v → Printable (means_as.begun_at at v)
printable_begun at v a = record {
  alone = echo_as (echo_of a.alone (means_as.begun_at at v) (sym (begun_placeless at v))) (expr_tokens (means_as.begun_at at v)) (sym (ap (λ s. s.tokens) (begun_shown at v)));
  as_operand = echo_as (echo_of a.as_operand (means_as.begun_at at v) (sym (begun_placeless at v))) (operand_tokens (means_as.begun_at at v)) (sym (ap operand (begun_shown at v)));
}
