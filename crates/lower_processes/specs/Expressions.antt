-- What the expressions and the paths of a text mean.
use Rattle.std.specs.Prelude.{◌∷◌, Option}
use Rattle.std.specs.Option.{option_map_or}
use Rattle.jolie_trees.specs.declared.root.Root.TheVariants as root
use Rattle.jolie_ast.specs.declared.expression.Additive.{Additive}
use Rattle.jolie_ast.specs.declared.expression.Additive.TheVariants as additive
use Rattle.jolie_ast.specs.declared.expression.Multiplicative.{Multiplicative}
use Rattle.jolie_ast.specs.declared.expression.Multiplicative.TheVariants as multiplicative
use Rattle.jolie_ast.specs.declared.expression.Comparison.{Comparison}
use Rattle.jolie_ast.specs.declared.expression.Comparison.TheVariants as comparison
use Rattle.jolie_ast.specs.declared.expression.CastTarget.{CastTarget}
use Rattle.jolie_ast.specs.declared.expression.CastTarget.TheVariants as target
use Rattle.jolie_ast.specs.declared.expression.ExprForm.TheOpen.{ExprForm-F}
use Rattle.jolie_ast.specs.declared.expression.Expr as ast_expr
use Rattle.jolie_ast.specs.declared.expression.ExprForm.{ExprForm}
use Rattle.jolie_ast.specs.declared.expression.Factor.{Factor}
use Rattle.jolie_ast.specs.declared.expression.Member.{Member}
use Rattle.jolie_ast.specs.declared.expression.Path as ast_path
use Rattle.jolie_ast.specs.declared.expression.Step.{Step}
use Rattle.jolie_ast.specs.declared.expression.Term.{Term}
use Rattle.jolie_ast.specs.Folds.{ExprResults, ExprFold, exprs_are, fold_form, fold_expr, fold_factor, fold_term}
use Rattle.jolie_ast.specs.Folds.{fold_member, fold_path, fold_step}
use Rattle.behaviour_tree.specs.declared.expr.SumOp.{SumOp}
use Rattle.behaviour_tree.specs.declared.expr.SumOp.TheVariants.{Plus, Minus}
use Rattle.behaviour_tree.specs.declared.expr.MulOp.{MulOp}
use Rattle.behaviour_tree.specs.declared.expr.MulOp.TheVariants.{Times, Over, Rest}
use Rattle.behaviour_tree.specs.declared.expr.CompareOp.{CompareOp}
use Rattle.behaviour_tree.specs.declared.expr.CompareOp.TheVariants.{Equal, Unequal, Less, AtMost, More, AtLeast}
use Rattle.behaviour_tree.specs.declared.expr.CastKind.{CastKind}
use Rattle.behaviour_tree.specs.declared.expr.CastKind.TheVariants as kind
use Rattle.behaviour_tree.specs.Data as plain
use Rattle.behaviour_tree.specs.Data.{PathTree, Exp}
use Rattle.behaviour_tree.specs.View.{StepView, SumPartView, MulPartView, MemberView, path_of, exps_of, sum_parts_of}
use Rattle.behaviour_tree.specs.View.{mul_parts_of, member_list_of}

-- the operator of a sum
abbrev pub sum_op : Additive → SumOp
sum_op additive.Plus = Plus
sum_op additive.Minus = Minus

-- the operator of a product
abbrev pub mul_op : Multiplicative → MulOp
mul_op multiplicative.Times = Times
mul_op multiplicative.Divide = Over
mul_op multiplicative.Remainder = Rest

-- the operator of a comparison
abbrev pub compare_op : Comparison → CompareOp
compare_op comparison.Equal = Equal
compare_op comparison.NotEqual = Unequal
compare_op comparison.Less = Less
compare_op comparison.AtMost = AtMost
compare_op comparison.Greater = More
compare_op comparison.AtLeast = AtLeast

-- what a cast makes
abbrev pub cast_kind : CastTarget → CastKind
cast_kind target.Int = kind.Int
cast_kind target.Long = kind.Long
cast_kind target.Str = kind.Text

-- one level of a form
abbrev pub form_level : ExprForm-F Exp Exp MulPartView MemberView PathTree StepView SumPartView → Exp
form_level (ExprForm-F.Int n) = plain.constant (root.Int n)
form_level (ExprForm-F.Long n) = plain.constant (root.Long n)
form_level (ExprForm-F.Str text) = plain.constant (root.Text text)
form_level (ExprForm-F.Bool b) = plain.constant (root.Bool b)
form_level (ExprForm-F.Path p) = plain.at_path p
form_level (ExprForm-F.Size p) = plain.count_at p
form_level (ExprForm-F.IsDefined p) = plain.defined_at p
form_level (ExprForm-F.Cast to operand) = plain.cast (cast_kind to) operand
form_level (ExprForm-F.Literal members) = plain.literal (member_list_of members)
form_level (ExprForm-F.Minus e) = plain.minus e
form_level (ExprForm-F.Not e) = plain.negation e
form_level (ExprForm-F.Product first rest) = plain.product first (mul_parts_of rest)
form_level (ExprForm-F.Sum first rest) = plain.sum first (sum_parts_of rest)
form_level (ExprForm-F.Compare left op right) = plain.compared left (compare_op op) right
form_level (ExprForm-F.And operands) = plain.all_of (exps_of operands)
form_level (ExprForm-F.Or operands) = plain.any_of (exps_of operands)

-- what each part of an expression means
abbrev pub expression_views : ExprResults
expression_views = record (exprs_are Exp) {
  path = PathTree;
  step = StepView;
  member = MemberView;
  factor = MulPartView;
  term = SumPartView;
}

-- what a part means, from what the parts in it mean: an expression is its form
abbrev pub expression_lowering : ExprFold expression_views
expression_lowering = record {
  expr = λ e. e.form;
  form = form_level;
  path = λ p. path_of (p.first ∷ p.rest);
  step = λ s. record { name = s.name.text; index = s.index };
  member = λ m. record { name = m.name.text; value = m.value };
  factor = λ f. record { op = mul_op f.operator; value = f.operand };
  term = λ t. record { op = sum_op t.operator; value = t.operand };
}

-- the expression that an expression of the text means
unfoldable pub lowered_expr : ast_expr.Expr → Exp
lowered_expr = fold_expr expression_lowering

-- the path that a path of the text means
unfoldable pub lowered_path : ast_path.Path → PathTree
lowered_path = fold_path expression_lowering

-- the expression that a form of the text means
unfoldable pub lowered_form : ExprForm → Exp
lowered_form = fold_form expression_lowering

-- the part of a product that a later operand of the text means
unfoldable pub lowered_factor : Factor → MulPartView
lowered_factor = fold_factor expression_lowering

-- the member that a member of the text means
unfoldable pub lowered_member : Member → MemberView
lowered_member = fold_member expression_lowering

-- the step that a step of the text means
unfoldable pub lowered_place : Step → StepView
lowered_place = fold_step expression_lowering

-- the part of a sum that a later operand of the text means
unfoldable pub lowered_term : Term → SumPartView
lowered_term = fold_term expression_lowering

-- an expression that may be left out is void
abbrev pub lowered_if_written : Option ast_expr.Expr → Exp
lowered_if_written value = option_map_or lowered_expr value (plain.constant root.Void)
