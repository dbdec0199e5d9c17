-- The indices of the paths to which messages go are ints, where nothing is refused of the paths.
use Rattle.std.proofs.Common.{◌≡◌, ℕ, Bool, true, false, List, [], ◌∷◌, map, flat_map, Option, None, Some, refl, ap, sym, ◌∙◌}
use Rattle.std.specs.Prelude.{pos, int_le, option_map}
use Rattle.std.proofs.lemmas.Bool.{and_from, false≢true}
use Rattle.jolie_ast.specs.declared.expression.Expr.{Expr, out-Expr}
use Rattle.jolie_ast.specs.declared.expression.ExprForm.{ExprForm, out-ExprForm, roll-ExprForm, roll-out-ExprForm}
use Rattle.jolie_ast.specs.declared.expression.ExprForm.TheOpen.{ExprForm-F}
use Rattle.jolie_ast.specs.declared.expression.ExprForm.TheVariants as form
use Rattle.jolie_ast.specs.declared.expression.Factor.{Factor}
use Rattle.jolie_ast.specs.declared.expression.Member.{Member}
use Rattle.jolie_ast.specs.declared.expression.Path.{Path, out-Path}
use Rattle.jolie_ast.specs.declared.expression.Step.{Step, out-Step}
use Rattle.jolie_ast.specs.declared.expression.Term.{Term}
use Rattle.behaviour_tree.specs.Data.{PathTree}
use Rattle.behaviour_tree.specs.View.{StepView, path_of, step_of}
use Rattle.behaviour_tree.specs.FormedExpressions.{has_ints, is_int, is_target}
use Rattle.check_base.specs.declared.refusal.CheckName.TheVariants.{WrongKind}
use Rattle.check_base.specs.declared.refusal.Refusal.{Refusal}
use Rattle.lower_processes.specs.Expressions.{lowered_expr, lowered_form, lowered_path, lowered_place}
use Rattle.check_processes.specs.ProcessRules.{is_int_literal, wrong_if_written, wrong_index, wrong_path, wrong_step}
use Rattle.service_check.proofs.Emptied.{holds, left_empty, right_empty}
use Rattle.lower_processes.proofs.LoweredExpressions.{expr_is, int_lowered, path_is, step_is}

-- whether a form is an int without a sign
abbrev int_form : ExprForm-F ExprForm Expr Factor Member Path Step Term → Bool
int_form f = elim f as (λ _. Bool) [ ExprForm-F.Int n ↦ int_le (pos 0) n | _ ↦ false ]

literal_means : (x : ExprForm) (f : ExprForm-F ExprForm Expr Factor Member Path Step Term) → out-ExprForm x ≡ f → int_form f ≡ true → is_int (lowered_form x) ≡ true
literal_means x (ExprForm-F.Int n) out e = ap (λ y. is_int (lowered_form y)) (sym (roll-out-ExprForm x) ∙ ap roll-ExprForm out ∙ form.rolls-Int n) ∙ ap is_int (int_lowered n) ∙ e
literal_means x f out e = absurd (false≢true e)

-- an index that is not refused is an int
pub index_means : (x : Expr) → wrong_index x ≡ [] → is_int (lowered_expr x) ≡ true
index_means x e = ap is_int (expr_is x) ∙ literal_means (out-Expr x).form (out-ExprForm (out-Expr x).form) refl (holds (is_int_literal (out-Expr x).form) WrongKind (out-Expr x).at e)

-- an index that may be written
abbrev of_index : Option Expr → List Refusal
of_index o = elim o as (λ _. List Refusal) [ None ↦ [] | Some x ↦ wrong_index x ]

step_means : (name : List ℕ) (index : Option Expr) (rest : PathTree) → of_index index ≡ [] → has_ints rest ≡ true → has_ints (step_of name (option_map lowered_expr index) rest) ≡ true
step_means name None rest e k = k
step_means name (Some x) rest e k = and_from (is_int (lowered_expr x)) (has_ints rest) (index_means x e) k

steps_mean : (ss : List Step) → flat_map wrong_step ss ≡ [] → has_ints (path_of (map lowered_place ss)) ≡ true
steps_mean [] e = refl
steps_mean (s ∷ ss) e =
    ap (λ (v : StepView). has_ints (step_of v.name v.index (path_of (map lowered_place ss)))) (step_is s)
    ∙ step_means (out-Step s).name.text (out-Step s).index (path_of (map lowered_place ss)) (left_empty (wrong_step s) (flat_map wrong_step ss) e) (steps_mean ss (right_empty (wrong_step s) (flat_map wrong_step ss) e))

-- a path that is not refused
pub path_target : (p : Path) → wrong_path p ≡ [] → has_ints (lowered_path p) ≡ true
path_target p e = ap has_ints (path_is p) ∙ steps_mean ((out-Path p).first ∷ (out-Path p).rest) e

-- a path that may be written
pub written_target : (p : Option Path) → wrong_if_written p ≡ [] → is_target (option_map lowered_path p) ≡ true
written_target None e = refl
written_target (Some p) e = path_target p e
