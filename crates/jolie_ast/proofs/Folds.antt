-- What a fold makes of a part that is put together.
use Rattle.std.proofs.Common.{◌≡◌}
use Rattle.jolie_ast.specs.declared.expression.ExprForm.TheOpen.{Expr-F, ExprForm-F, Factor-F, Member-F, Path-F, Step-F, Term-F}
use Rattle.jolie_ast.specs.declared.expression.ExprForm.TheFolds.{map-Expr, map-ExprForm, map-Factor, map-Member, map-Path, map-Step, map-Term}
use Rattle.jolie_ast.specs.declared.expression.ExprForm.TheFolds.{fold-roll-Expr, fold-roll-ExprForm, fold-roll-Factor, fold-roll-Member, fold-roll-Path, fold-roll-Step, fold-roll-Term}
use Rattle.jolie_ast.specs.declared.expression.Expr.{Expr, roll-Expr}
use Rattle.jolie_ast.specs.declared.expression.ExprForm.{ExprForm, roll-ExprForm}
use Rattle.jolie_ast.specs.declared.expression.Path.{Path, roll-Path}
use Rattle.jolie_ast.specs.declared.expression.Step.{Step, roll-Step}
use Rattle.jolie_ast.specs.declared.expression.Member.{Member, roll-Member}
use Rattle.jolie_ast.specs.declared.expression.Factor.{Factor, roll-Factor}
use Rattle.jolie_ast.specs.declared.expression.Term.{Term, roll-Term}
use Rattle.jolie_ast.specs.declared.process.Otherwise.TheOpen.{Answer-F, Block-F, Branch-F, Handler-F, If-F, Input-F, Otherwise-F, Process-F, Reply-F}
use Rattle.jolie_ast.specs.declared.process.Otherwise.TheFolds.{map-Answer, map-Block, map-Branch, map-Handler, map-If, map-Input, map-Otherwise, map-Process, map-Reply}
use Rattle.jolie_ast.specs.declared.process.Otherwise.TheFolds.{fold-roll-Answer, fold-roll-Block, fold-roll-Branch, fold-roll-Handler, fold-roll-If, fold-roll-Input, fold-roll-Otherwise, fold-roll-Process, fold-roll-Reply}
use Rattle.jolie_ast.specs.declared.process.Process.{Process, roll-Process}
use Rattle.jolie_ast.specs.declared.process.Block.{Block, roll-Block}
use Rattle.jolie_ast.specs.declared.process.If.{If, roll-If}
use Rattle.jolie_ast.specs.declared.process.Otherwise.{Otherwise, roll-Otherwise}
use Rattle.jolie_ast.specs.declared.process.Input.{Input, roll-Input}
use Rattle.jolie_ast.specs.declared.process.Reply.{Reply, roll-Reply}
use Rattle.jolie_ast.specs.declared.process.Branch.{Branch, roll-Branch}
use Rattle.jolie_ast.specs.declared.process.Answer.{Answer, roll-Answer}
use Rattle.jolie_ast.specs.declared.process.Handler.{Handler, roll-Handler}
use Rattle.jolie_ast.specs.Folds.{ExprResults, ExprFold, fold_expr, fold_form, fold_path, fold_step, fold_member, fold_factor, fold_term}
use Rattle.jolie_ast.specs.Folds.{ProcessResults, ProcessFold, fold_process, fold_block, fold_conditional, fold_otherwise, fold_input, fold_reply, fold_branch, fold_answer, fold_handler}

-- ---- expressions

-- an expression
pub expr_rolls : {r : ExprResults} (f : ExprFold r) (x : Expr-F ExprForm Expr Factor Member Path Step Term) → fold_expr f (roll-Expr x) ≡ f.expr (map-Expr ExprForm Expr Factor Member Path Step Term r.form r.expr r.factor r.member r.path r.step r.term (fold_form f) (fold_expr f) (fold_factor f) (fold_member f) (fold_path f) (fold_step f) (fold_term f) x)
expr_rolls {r} f x = fold-roll-Expr r.form r.expr r.factor r.member r.path r.step r.term f.form f.expr f.factor f.member f.path f.step f.term x

-- a form of expression
pub form_rolls : {r : ExprResults} (f : ExprFold r) (x : ExprForm-F ExprForm Expr Factor Member Path Step Term) → fold_form f (roll-ExprForm x) ≡ f.form (map-ExprForm ExprForm Expr Factor Member Path Step Term r.form r.expr r.factor r.member r.path r.step r.term (fold_form f) (fold_expr f) (fold_factor f) (fold_member f) (fold_path f) (fold_step f) (fold_term f) x)
form_rolls {r} f x = fold-roll-ExprForm r.form r.expr r.factor r.member r.path r.step r.term f.form f.expr f.factor f.member f.path f.step f.term x

-- a path
pub path_rolls : {r : ExprResults} (f : ExprFold r) (x : Path-F ExprForm Expr Factor Member Path Step Term) → fold_path f (roll-Path x) ≡ f.path (map-Path ExprForm Expr Factor Member Path Step Term r.form r.expr r.factor r.member r.path r.step r.term (fold_form f) (fold_expr f) (fold_factor f) (fold_member f) (fold_path f) (fold_step f) (fold_term f) x)
path_rolls {r} f x = fold-roll-Path r.form r.expr r.factor r.member r.path r.step r.term f.form f.expr f.factor f.member f.path f.step f.term x

-- a step of a path
pub step_rolls : {r : ExprResults} (f : ExprFold r) (x : Step-F ExprForm Expr Factor Member Path Step Term) → fold_step f (roll-Step x) ≡ f.step (map-Step ExprForm Expr Factor Member Path Step Term r.form r.expr r.factor r.member r.path r.step r.term (fold_form f) (fold_expr f) (fold_factor f) (fold_member f) (fold_path f) (fold_step f) (fold_term f) x)
step_rolls {r} f x = fold-roll-Step r.form r.expr r.factor r.member r.path r.step r.term f.form f.expr f.factor f.member f.path f.step f.term x

-- a member of a literal
pub member_rolls : {r : ExprResults} (f : ExprFold r) (x : Member-F ExprForm Expr Factor Member Path Step Term) → fold_member f (roll-Member x) ≡ f.member (map-Member ExprForm Expr Factor Member Path Step Term r.form r.expr r.factor r.member r.path r.step r.term (fold_form f) (fold_expr f) (fold_factor f) (fold_member f) (fold_path f) (fold_step f) (fold_term f) x)
member_rolls {r} f x = fold-roll-Member r.form r.expr r.factor r.member r.path r.step r.term f.form f.expr f.factor f.member f.path f.step f.term x

-- a later operand of a product
pub factor_rolls : {r : ExprResults} (f : ExprFold r) (x : Factor-F ExprForm Expr Factor Member Path Step Term) → fold_factor f (roll-Factor x) ≡ f.factor (map-Factor ExprForm Expr Factor Member Path Step Term r.form r.expr r.factor r.member r.path r.step r.term (fold_form f) (fold_expr f) (fold_factor f) (fold_member f) (fold_path f) (fold_step f) (fold_term f) x)
factor_rolls {r} f x = fold-roll-Factor r.form r.expr r.factor r.member r.path r.step r.term f.form f.expr f.factor f.member f.path f.step f.term x

-- a later operand of a sum
pub term_rolls : {r : ExprResults} (f : ExprFold r) (x : Term-F ExprForm Expr Factor Member Path Step Term) → fold_term f (roll-Term x) ≡ f.term (map-Term ExprForm Expr Factor Member Path Step Term r.form r.expr r.factor r.member r.path r.step r.term (fold_form f) (fold_expr f) (fold_factor f) (fold_member f) (fold_path f) (fold_step f) (fold_term f) x)
term_rolls {r} f x = fold-roll-Term r.form r.expr r.factor r.member r.path r.step r.term f.form f.expr f.factor f.member f.path f.step f.term x

-- ---- processes

-- a process
pub process_rolls : {r : ProcessResults} (f : ProcessFold r) (x : Process-F Otherwise Process Answer Block Branch Handler If Input Reply) → fold_process f (roll-Process x) ≡ f.process (map-Process Otherwise Process Answer Block Branch Handler If Input Reply r.otherwise r.process r.answer r.block r.branch r.handler r.conditional r.input r.reply (fold_otherwise f) (fold_process f) (fold_answer f) (fold_block f) (fold_branch f) (fold_handler f) (fold_conditional f) (fold_input f) (fold_reply f) x)
process_rolls {r} f x = fold-roll-Process r.otherwise r.process r.answer r.block r.branch r.handler r.conditional r.input r.reply f.otherwise f.process f.answer f.block f.branch f.handler f.conditional f.input f.reply x

-- a block
pub block_rolls : {r : ProcessResults} (f : ProcessFold r) (x : Block-F Otherwise Process Answer Block Branch Handler If Input Reply) → fold_block f (roll-Block x) ≡ f.block (map-Block Otherwise Process Answer Block Branch Handler If Input Reply r.otherwise r.process r.answer r.block r.branch r.handler r.conditional r.input r.reply (fold_otherwise f) (fold_process f) (fold_answer f) (fold_block f) (fold_branch f) (fold_handler f) (fold_conditional f) (fold_input f) (fold_reply f) x)
block_rolls {r} f x = fold-roll-Block r.otherwise r.process r.answer r.block r.branch r.handler r.conditional r.input r.reply f.otherwise f.process f.answer f.block f.branch f.handler f.conditional f.input f.reply x

-- an `if`
pub conditional_rolls : {r : ProcessResults} (f : ProcessFold r) (x : If-F Otherwise Process Answer Block Branch Handler If Input Reply) → fold_conditional f (roll-If x) ≡ f.conditional (map-If Otherwise Process Answer Block Branch Handler If Input Reply r.otherwise r.process r.answer r.block r.branch r.handler r.conditional r.input r.reply (fold_otherwise f) (fold_process f) (fold_answer f) (fold_block f) (fold_branch f) (fold_handler f) (fold_conditional f) (fold_input f) (fold_reply f) x)
conditional_rolls {r} f x = fold-roll-If r.otherwise r.process r.answer r.block r.branch r.handler r.conditional r.input r.reply f.otherwise f.process f.answer f.block f.branch f.handler f.conditional f.input f.reply x

-- what an `if` does where its test fails
pub otherwise_rolls : {r : ProcessResults} (f : ProcessFold r) (x : Otherwise-F Otherwise Process Answer Block Branch Handler If Input Reply) → fold_otherwise f (roll-Otherwise x) ≡ f.otherwise (map-Otherwise Otherwise Process Answer Block Branch Handler If Input Reply r.otherwise r.process r.answer r.block r.branch r.handler r.conditional r.input r.reply (fold_otherwise f) (fold_process f) (fold_answer f) (fold_block f) (fold_branch f) (fold_handler f) (fold_conditional f) (fold_input f) (fold_reply f) x)
otherwise_rolls {r} f x = fold-roll-Otherwise r.otherwise r.process r.answer r.block r.branch r.handler r.conditional r.input r.reply f.otherwise f.process f.answer f.block f.branch f.handler f.conditional f.input f.reply x

-- an input
pub input_rolls : {r : ProcessResults} (f : ProcessFold r) (x : Input-F Otherwise Process Answer Block Branch Handler If Input Reply) → fold_input f (roll-Input x) ≡ f.input (map-Input Otherwise Process Answer Block Branch Handler If Input Reply r.otherwise r.process r.answer r.block r.branch r.handler r.conditional r.input r.reply (fold_otherwise f) (fold_process f) (fold_answer f) (fold_block f) (fold_branch f) (fold_handler f) (fold_conditional f) (fold_input f) (fold_reply f) x)
input_rolls {r} f x = fold-roll-Input r.otherwise r.process r.answer r.block r.branch r.handler r.conditional r.input r.reply f.otherwise f.process f.answer f.block f.branch f.handler f.conditional f.input f.reply x

-- a reply part
pub reply_rolls : {r : ProcessResults} (f : ProcessFold r) (x : Reply-F Otherwise Process Answer Block Branch Handler If Input Reply) → fold_reply f (roll-Reply x) ≡ f.reply (map-Reply Otherwise Process Answer Block Branch Handler If Input Reply r.otherwise r.process r.answer r.block r.branch r.handler r.conditional r.input r.reply (fold_otherwise f) (fold_process f) (fold_answer f) (fold_block f) (fold_branch f) (fold_handler f) (fold_conditional f) (fold_input f) (fold_reply f) x)
reply_rolls {r} f x = fold-roll-Reply r.otherwise r.process r.answer r.block r.branch r.handler r.conditional r.input r.reply f.otherwise f.process f.answer f.block f.branch f.handler f.conditional f.input f.reply x

-- a branch
pub branch_rolls : {r : ProcessResults} (f : ProcessFold r) (x : Branch-F Otherwise Process Answer Block Branch Handler If Input Reply) → fold_branch f (roll-Branch x) ≡ f.branch (map-Branch Otherwise Process Answer Block Branch Handler If Input Reply r.otherwise r.process r.answer r.block r.branch r.handler r.conditional r.input r.reply (fold_otherwise f) (fold_process f) (fold_answer f) (fold_block f) (fold_branch f) (fold_handler f) (fold_conditional f) (fold_input f) (fold_reply f) x)
branch_rolls {r} f x = fold-roll-Branch r.otherwise r.process r.answer r.block r.branch r.handler r.conditional r.input r.reply f.otherwise f.process f.answer f.block f.branch f.handler f.conditional f.input f.reply x

-- what an output awaits
pub answer_rolls : {r : ProcessResults} (f : ProcessFold r) (x : Answer-F Otherwise Process Answer Block Branch Handler If Input Reply) → fold_answer f (roll-Answer x) ≡ f.answer (map-Answer Otherwise Process Answer Block Branch Handler If Input Reply r.otherwise r.process r.answer r.block r.branch r.handler r.conditional r.input r.reply (fold_otherwise f) (fold_process f) (fold_answer f) (fold_block f) (fold_branch f) (fold_handler f) (fold_conditional f) (fold_input f) (fold_reply f) x)
answer_rolls {r} f x = fold-roll-Answer r.otherwise r.process r.answer r.block r.branch r.handler r.conditional r.input r.reply f.otherwise f.process f.answer f.block f.branch f.handler f.conditional f.input f.reply x

-- a handler
pub handler_rolls : {r : ProcessResults} (f : ProcessFold r) (x : Handler-F Otherwise Process Answer Block Branch Handler If Input Reply) → fold_handler f (roll-Handler x) ≡ f.handler (map-Handler Otherwise Process Answer Block Branch Handler If Input Reply r.otherwise r.process r.answer r.block r.branch r.handler r.conditional r.input r.reply (fold_otherwise f) (fold_process f) (fold_answer f) (fold_block f) (fold_branch f) (fold_handler f) (fold_conditional f) (fold_input f) (fold_reply f) x)
handler_rolls {r} f x = fold-roll-Handler r.otherwise r.process r.answer r.block r.branch r.handler r.conditional r.input r.reply f.otherwise f.process f.answer f.block f.branch f.handler f.conditional f.input f.reply x
