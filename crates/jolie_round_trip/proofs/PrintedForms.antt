-- How expressions and their parts are printed.
use Rattle.std.proofs.Common.{◌≡◌, ℕ, List, ◌∷◌, ◌++◌, Option, Some, None, codes, ap, ◌∙◌}
use Rattle.std.specs.Prelude.{option_map, flat_map}
use Rattle.jolie_ast.specs.declared.name.Name.{Name}
use Rattle.jolie_ast.specs.declared.expression.Multiplicative.{Multiplicative}
use Rattle.jolie_ast.specs.declared.expression.Additive.{Additive}
use Rattle.jolie_ast.specs.declared.expression.Expr.{Expr, roll-Expr}
use Rattle.jolie_ast.specs.declared.expression.ExprForm.{ExprForm}
use Rattle.jolie_ast.specs.declared.expression.Factor.{roll-Factor}
use Rattle.jolie_ast.specs.declared.expression.Term.{roll-Term}
use Rattle.jolie_ast.specs.declared.expression.Member.{roll-Member}
use Rattle.jolie_ast.specs.declared.expression.Path.{roll-Path}
use Rattle.jolie_ast.specs.declared.expression.Step.{Step, roll-Step}
use Rattle.jolie_ast.specs.PrintedExpressions.{additive_token, multiplicative_token, in_brackets, form_shown, expr_shown, factor_tokens, term_tokens, member_tokens, path_tokens, step_tokens, expr_tokens, operand_tokens, shown}
use Rattle.jolie_ast.specs.PrintedParts.{maybe}
use Rattle.jolie_ast.proofs.Spacing.{mapped_tokens}
use Rattle.jolie_ast.proofs.Folds.{expr_rolls, factor_rolls, term_rolls, member_rolls, path_rolls, step_rolls}

pub expression_shown : (at : ℕ) (f : ExprForm) → expr_shown (roll-Expr (record { at = at; form = f })) ≡ form_shown f
unfolding form_shown expr_shown factor_tokens term_tokens member_tokens path_tokens step_tokens
expression_shown at f = expr_rolls shown (record { at = at; form = f })

pub factor_printed : (operator : Multiplicative) (e : Expr) → factor_tokens (roll-Factor (record { operator = operator; operand = e })) ≡ multiplicative_token operator ∷ operand_tokens e
unfolding form_shown expr_shown factor_tokens term_tokens member_tokens path_tokens step_tokens
factor_printed operator e = factor_rolls shown (record { operator = operator; operand = e })

pub term_printed : (operator : Additive) (e : Expr) → term_tokens (roll-Term (record { operator = operator; operand = e })) ≡ additive_token operator ∷ operand_tokens e
unfolding form_shown expr_shown factor_tokens term_tokens member_tokens path_tokens step_tokens
term_printed operator e = term_rolls shown (record { operator = operator; operand = e })

pub member_printed : (name : Name) (e : Expr) → member_tokens (roll-Member (record { name = name; value = e })) ≡ name.text ∷ (codes "=" ∷ expr_tokens e)
unfolding form_shown expr_shown factor_tokens term_tokens member_tokens path_tokens step_tokens
member_printed name e = member_rolls shown (record { name = name; value = e })

pub path_printed : (first : Step) (rest : List Step) → path_tokens (roll-Path (record { first = first; rest = rest })) ≡ step_tokens first ++ flat_map (λ s. codes "." ∷ step_tokens s) rest
unfolding form_shown expr_shown factor_tokens term_tokens member_tokens path_tokens step_tokens
path_printed first rest = path_rolls shown (record { first = first; rest = rest }) ∙ ap (λ z. step_tokens first ++ z) (mapped_tokens (λ ts. codes "." ∷ ts) step_tokens rest)

pub step_printed : (name : Name) (index : Option Expr) → step_tokens (roll-Step (record { name = name; index = index })) ≡ name.text ∷ maybe (option_map (λ e. in_brackets (expr_tokens e)) index)
unfolding form_shown expr_shown factor_tokens term_tokens member_tokens path_tokens step_tokens
step_printed name None = step_rolls shown (record { name = name; index = None })
step_printed name (Some it) = step_rolls shown (record { name = name; index = Some it })
