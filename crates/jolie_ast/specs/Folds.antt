-- Folds over the tree: what is made of each part, from what is made of the parts that stand in it.
use Rattle.jolie_ast.specs.declared.expression.ExprForm.TheOpen.{Expr-F, ExprForm-F, Factor-F, Member-F, Path-F, Step-F}
use Rattle.jolie_ast.specs.declared.expression.ExprForm.TheOpen.{Term-F}
use Rattle.jolie_ast.specs.declared.expression.ExprForm.TheFolds.{fold-Expr, fold-ExprForm, fold-Factor, fold-Member}
use Rattle.jolie_ast.specs.declared.expression.ExprForm.TheFolds.{fold-Path, fold-Step, fold-Term}
use Rattle.jolie_ast.specs.declared.expression.Expr.{Expr}
use Rattle.jolie_ast.specs.declared.expression.ExprForm.{ExprForm}
use Rattle.jolie_ast.specs.declared.expression.Path.{Path}
use Rattle.jolie_ast.specs.declared.expression.Step.{Step}
use Rattle.jolie_ast.specs.declared.expression.Member.{Member}
use Rattle.jolie_ast.specs.declared.expression.Factor.{Factor}
use Rattle.jolie_ast.specs.declared.expression.Term.{Term}
use Rattle.jolie_ast.specs.declared.process.Otherwise.TheOpen.{Answer-F, Block-F, Branch-F, Handler-F, If-F}
use Rattle.jolie_ast.specs.declared.process.Otherwise.TheOpen.{Input-F, Otherwise-F, Process-F, Reply-F}
use Rattle.jolie_ast.specs.declared.process.Otherwise.TheFolds.{fold-Answer, fold-Block, fold-Branch}
use Rattle.jolie_ast.specs.declared.process.Otherwise.TheFolds.{fold-Handler, fold-If, fold-Input}
use Rattle.jolie_ast.specs.declared.process.Otherwise.TheFolds.{fold-Otherwise, fold-Process, fold-Reply}
use Rattle.jolie_ast.specs.declared.process.Process.{Process}
use Rattle.jolie_ast.specs.declared.process.Block.{Block}
use Rattle.jolie_ast.specs.declared.process.If.{If}
use Rattle.jolie_ast.specs.declared.process.Otherwise.{Otherwise}
use Rattle.jolie_ast.specs.declared.process.Input.{Input}
use Rattle.jolie_ast.specs.declared.process.Reply.{Reply}
use Rattle.jolie_ast.specs.declared.process.Branch.{Branch}
use Rattle.jolie_ast.specs.declared.process.Answer.{Answer}
use Rattle.jolie_ast.specs.declared.process.Handler.{Handler}

-- ---- expressions

-- what a fold makes of each part of an expression
pub record ExprResults : Type 1 where
  pub expr : Type 0
  pub form : Type 0
  pub path : Type 0
  pub step : Type 0
  pub member : Type 0
  pub factor : Type 0
  pub term : Type 0

-- the same of each part
abbrev pub exprs_are : Type 0 → ExprResults
exprs_are A = record {
  expr = A;
  form = A;
  path = A;
  step = A;
  member = A;
  factor = A;
  term = A;
}

-- how it is made of each part, from what is made of those in it
pub record ExprFold (r : ExprResults) : Type 0 where
  pub expr : Expr-F r.form r.expr r.factor r.member r.path r.step r.term → r.expr
  pub form : ExprForm-F r.form r.expr r.factor r.member r.path r.step r.term → r.form
  pub path : Path-F r.form r.expr r.factor r.member r.path r.step r.term → r.path
  pub step : Step-F r.form r.expr r.factor r.member r.path r.step r.term → r.step
  pub member : Member-F r.form r.expr r.factor r.member r.path r.step r.term → r.member
  pub factor : Factor-F r.form r.expr r.factor r.member r.path r.step r.term → r.factor
  pub term : Term-F r.form r.expr r.factor r.member r.path r.step r.term → r.term

-- what a fold makes of an expression
abbrev pub fold_expr : {r : ExprResults} → ExprFold r → Expr → r.expr
fold_expr {r} f =
    fold-Expr r.form r.expr r.factor r.member r.path r.step r.term
    f.form f.expr f.factor f.member f.path f.step f.term

-- what a fold makes of a form of expression
abbrev pub fold_form : {r : ExprResults} → ExprFold r → ExprForm → r.form
fold_form {r} f =
    fold-ExprForm r.form r.expr r.factor r.member r.path r.step r.term
    f.form f.expr f.factor f.member f.path f.step f.term

-- what a fold makes of a path
abbrev pub fold_path : {r : ExprResults} → ExprFold r → Path → r.path
fold_path {r} f =
    fold-Path r.form r.expr r.factor r.member r.path r.step r.term
    f.form f.expr f.factor f.member f.path f.step f.term

-- what a fold makes of a step of a path
abbrev pub fold_step : {r : ExprResults} → ExprFold r → Step → r.step
fold_step {r} f =
    fold-Step r.form r.expr r.factor r.member r.path r.step r.term
    f.form f.expr f.factor f.member f.path f.step f.term

-- what a fold makes of a member of a literal
abbrev pub fold_member : {r : ExprResults} → ExprFold r → Member → r.member
fold_member {r} f =
    fold-Member r.form r.expr r.factor r.member r.path r.step r.term
    f.form f.expr f.factor f.member f.path f.step f.term

-- what a fold makes of a later operand of a product
abbrev pub fold_factor : {r : ExprResults} → ExprFold r → Factor → r.factor
fold_factor {r} f =
    fold-Factor r.form r.expr r.factor r.member r.path r.step r.term
    f.form f.expr f.factor f.member f.path f.step f.term

-- what a fold makes of a later operand of a sum
abbrev pub fold_term : {r : ExprResults} → ExprFold r → Term → r.term
fold_term {r} f =
    fold-Term r.form r.expr r.factor r.member r.path r.step r.term
    f.form f.expr f.factor f.member f.path f.step f.term

-- ---- processes

-- what a fold makes of each part of a process
pub record ProcessResults : Type 1 where
  pub process : Type 0
  pub block : Type 0
  pub conditional : Type 0
  pub otherwise : Type 0
  pub input : Type 0
  pub reply : Type 0
  pub branch : Type 0
  pub answer : Type 0
  pub handler : Type 0

-- the same of each part
abbrev pub all_are : Type 0 → ProcessResults
all_are A = record {
  process = A;
  block = A;
  conditional = A;
  otherwise = A;
  input = A;
  reply = A;
  branch = A;
  answer = A;
  handler = A;
}

-- one level of a part, with what is made of the parts in it
abbrev pub level : ProcessResults
    → (Type 0 → Type 0 → Type 0 → Type 0 → Type 0 → Type 0 → Type 0 → Type 0 → Type 0 → Type 0) → Type 0
level r F = F r.otherwise r.process r.answer r.block r.branch r.handler r.conditional r.input r.reply

-- how it is made of each part, from what is made of those in it
pub record ProcessFold (r : ProcessResults) : Type 0 where
  pub process : level r Process-F → r.process
  pub block : level r Block-F → r.block
  pub conditional : level r If-F → r.conditional
  pub otherwise : level r Otherwise-F → r.otherwise
  pub input : level r Input-F → r.input
  pub reply : level r Reply-F → r.reply
  pub branch : level r Branch-F → r.branch
  pub answer : level r Answer-F → r.answer
  pub handler : level r Handler-F → r.handler

-- what a fold makes of a process
abbrev pub fold_process : {r : ProcessResults} → ProcessFold r → Process → r.process
fold_process {r} f =
    fold-Process r.otherwise r.process r.answer r.block r.branch r.handler r.conditional r.input r.reply
    f.otherwise f.process f.answer f.block f.branch f.handler f.conditional f.input f.reply

-- what a fold makes of a block
abbrev pub fold_block : {r : ProcessResults} → ProcessFold r → Block → r.block
fold_block {r} f =
    fold-Block r.otherwise r.process r.answer r.block r.branch r.handler r.conditional r.input r.reply
    f.otherwise f.process f.answer f.block f.branch f.handler f.conditional f.input f.reply

-- what a fold makes of an `if`
abbrev pub fold_conditional : {r : ProcessResults} → ProcessFold r → If → r.conditional
fold_conditional {r} f =
    fold-If r.otherwise r.process r.answer r.block r.branch r.handler r.conditional r.input r.reply
    f.otherwise f.process f.answer f.block f.branch f.handler f.conditional f.input f.reply

-- what a fold makes of what an `if` does where its test fails
abbrev pub fold_otherwise : {r : ProcessResults} → ProcessFold r → Otherwise → r.otherwise
fold_otherwise {r} f =
    fold-Otherwise r.otherwise r.process r.answer r.block r.branch r.handler r.conditional r.input r.reply
    f.otherwise f.process f.answer f.block f.branch f.handler f.conditional f.input f.reply

-- what a fold makes of an input
abbrev pub fold_input : {r : ProcessResults} → ProcessFold r → Input → r.input
fold_input {r} f =
    fold-Input r.otherwise r.process r.answer r.block r.branch r.handler r.conditional r.input r.reply
    f.otherwise f.process f.answer f.block f.branch f.handler f.conditional f.input f.reply

-- what a fold makes of a reply part
abbrev pub fold_reply : {r : ProcessResults} → ProcessFold r → Reply → r.reply
fold_reply {r} f =
    fold-Reply r.otherwise r.process r.answer r.block r.branch r.handler r.conditional r.input r.reply
    f.otherwise f.process f.answer f.block f.branch f.handler f.conditional f.input f.reply

-- what a fold makes of a branch
abbrev pub fold_branch : {r : ProcessResults} → ProcessFold r → Branch → r.branch
fold_branch {r} f =
    fold-Branch r.otherwise r.process r.answer r.block r.branch r.handler r.conditional r.input r.reply
    f.otherwise f.process f.answer f.block f.branch f.handler f.conditional f.input f.reply

-- what a fold makes of what an output awaits
abbrev pub fold_answer : {r : ProcessResults} → ProcessFold r → Answer → r.answer
fold_answer {r} f =
    fold-Answer r.otherwise r.process r.answer r.block r.branch r.handler r.conditional r.input r.reply
    f.otherwise f.process f.answer f.block f.branch f.handler f.conditional f.input f.reply

-- what a fold makes of a handler
abbrev pub fold_handler : {r : ProcessResults} → ProcessFold r → Handler → r.handler
fold_handler {r} f =
    fold-Handler r.otherwise r.process r.answer r.block r.branch r.handler r.conditional r.input r.reply
    f.otherwise f.process f.answer f.block f.branch f.handler f.conditional f.input f.reply

-- what is made of what an `if` does where its test fails: that of its `if` or block, or this where it does nothing
abbrev pub else_or : {O P N A R H I Y : Type 0} → A → Otherwise-F O P N A R H A I Y → A
else_or none Otherwise-F.«Otherwise::Nothing» = none
else_or none (Otherwise-F.ElseIf conditional) = conditional
else_or none (Otherwise-F.Else block) = block
