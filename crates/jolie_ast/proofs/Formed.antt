-- Whether a tree is formed, at each form of expression and of process.
use Rattle.std.proofs.Common.{◌≡◌, ℕ, ℤ, Bool, true, ◌&&◌, List, [], ◌∷◌, map, Option, Some, None, refl, ap, sym, ◌∙◌}
use Rattle.std.specs.List.{list_all}
use Rattle.std.proofs.lemmas.List.Folds.{list_all-map}
use Rattle.jolie_ast.specs.declared.name.Name.{Name}
use Rattle.jolie_ast.specs.declared.expression.Additive.{Additive}
use Rattle.jolie_ast.specs.declared.expression.Multiplicative.{Multiplicative}
use Rattle.jolie_ast.specs.declared.expression.Comparison.{Comparison}
use Rattle.jolie_ast.specs.declared.expression.CastTarget.{CastTarget}
use Rattle.jolie_ast.specs.declared.expression.ExprForm.TheOpen.{ExprForm-F}
use Rattle.jolie_ast.specs.declared.expression.ExprForm.TheFolds.{map-ExprForm}
use Rattle.jolie_ast.specs.declared.expression.Expr.{Expr, out-Expr, roll-Expr, roll-out-Expr}
use Rattle.jolie_ast.specs.declared.expression.ExprForm.{ExprForm, roll-ExprForm}
use Rattle.jolie_ast.specs.declared.expression.ExprForm.TheVariants as form
use Rattle.jolie_ast.specs.declared.expression.Factor.{Factor, roll-Factor}
use Rattle.jolie_ast.specs.declared.expression.Term.{Term, roll-Term}
use Rattle.jolie_ast.specs.declared.expression.Member.{Member, roll-Member}
use Rattle.jolie_ast.specs.declared.expression.Path.{Path, roll-Path}
use Rattle.jolie_ast.specs.declared.expression.Step.{Step, roll-Step}
use Rattle.jolie_ast.specs.declared.process.Assignment.{Assignment}
use Rattle.jolie_ast.specs.declared.process.ForStep.{ForStep}
use Rattle.jolie_ast.specs.declared.process.HandlerKey.{HandlerKey}
use Rattle.jolie_ast.specs.declared.process.Otherwise.TheOpen.{Otherwise-F, Process-F}
use Rattle.jolie_ast.specs.declared.process.Otherwise.TheFolds.{map-Otherwise, map-Process}
use Rattle.jolie_ast.specs.declared.process.Process.{Process, roll-Process}
use Rattle.jolie_ast.specs.declared.process.Process.TheVariants as process
use Rattle.jolie_ast.specs.declared.process.Block.{Block, roll-Block}
use Rattle.jolie_ast.specs.declared.process.If.{If, roll-If}
use Rattle.jolie_ast.specs.declared.process.Otherwise.{Otherwise, roll-Otherwise}
use Rattle.jolie_ast.specs.declared.process.Otherwise.TheVariants as otherwise
use Rattle.jolie_ast.specs.declared.process.Input.{Input, roll-Input}
use Rattle.jolie_ast.specs.declared.process.Reply.{Reply, roll-Reply}
use Rattle.jolie_ast.specs.declared.process.Branch.{Branch, roll-Branch}
use Rattle.jolie_ast.specs.declared.process.Answer.{Answer, roll-Answer}
use Rattle.jolie_ast.specs.declared.process.Handler.{Handler, roll-Handler}
use Rattle.jolie_ast.specs.Formed.{has_one, has_two, each, option_all, form_level, form_formed, expr_formed, factor_formed, term_formed, member_formed, path_formed, step_formed, assignment_formed, for_step_formed, process_level, process_formed, block_formed, if_formed, otherwise_formed, input_formed, reply_formed, branch_formed, answer_formed, handler_formed, processes_formed, expressions_formed}
use Rattle.jolie_ast.proofs.Folds.{process_rolls, block_rolls, conditional_rolls, otherwise_rolls, input_rolls, reply_rolls, branch_rolls, answer_rolls, handler_rolls, form_rolls, expr_rolls, factor_rolls, term_rolls, member_rolls, path_rolls, step_rolls}
use Rattle.jolie_ast.specs.Folds.{else_or}

-- ---- lists

has_one-map : {A : Type 0} (test : A → Bool) (parts : List A) → has_one (map test parts) ≡ has_one parts
has_one-map test [] = refl
has_one-map test (a ∷ rest) = refl

has_two-map : {A : Type 0} (test : A → Bool) (parts : List A) → has_two (map test parts) ≡ has_two parts
has_two-map test [] = refl
has_two-map test (a ∷ rest) = has_one-map test rest

each-map : {A : Type 0} (test : A → Bool) (parts : List A) → each (map test parts) ≡ list_all test parts
each-map test parts = list_all-map (λ b. b) test parts

-- one part at least, and each passes
one_and_each : {A : Type 0} (test : A → Bool) (parts : List A) → has_one (map test parts) && each (map test parts) ≡ has_one parts && list_all test parts
one_and_each test parts = ap (λ b. b && each (map test parts)) (has_one-map test parts) ∙ ap (λ b. has_one parts && b) (each-map test parts)

-- two parts at least, and each passes
two_and_each : {A : Type 0} (test : A → Bool) (parts : List A) → has_two (map test parts) && each (map test parts) ≡ has_two parts && list_all test parts
two_and_each test parts = ap (λ b. b && each (map test parts)) (has_two-map test parts) ∙ ap (λ b. has_two parts && b) (each-map test parts)

-- ---- expressions

-- whether a form is formed, by the form that it is made of
form_made : (x : ExprForm-F ExprForm Expr Factor Member Path Step Term) {f : ExprForm} → roll-ExprForm x ≡ f
    → form_formed f ≡ form_level (map-ExprForm ExprForm Expr Factor Member Path Step Term Bool Bool Bool Bool Bool Bool Bool form_formed expr_formed factor_formed member_formed path_formed step_formed term_formed x)
unfolding form_formed expr_formed factor_formed member_formed path_formed step_formed term_formed
form_made x made = ap form_formed (sym made) ∙ form_rolls expressions_formed x

pub int_forms : (n : ℤ) → form_formed (form.Int n) ≡ true
int_forms n = form_made (ExprForm-F.Int n) (form.rolls-Int n)

pub long_forms : (n : ℤ) → form_formed (form.Long n) ≡ true
long_forms n = form_made (ExprForm-F.Long n) (form.rolls-Long n)

pub text_forms : (t : List ℕ) → form_formed (form.Str t) ≡ true
text_forms t = form_made (ExprForm-F.Str t) (form.rolls-Str t)

pub truth_forms : (b : Bool) → form_formed (form.Bool b) ≡ true
truth_forms b = form_made (ExprForm-F.Bool b) (form.rolls-Bool b)

pub path_form_forms : (path : Path) → form_formed (form.Path path) ≡ path_formed path
path_form_forms path = form_made (ExprForm-F.Path path) (form.rolls-Path path)

pub size_forms : (path : Path) → form_formed (form.Size path) ≡ path_formed path
size_forms path = form_made (ExprForm-F.Size path) (form.rolls-Size path)

pub defined_forms : (path : Path) → form_formed (form.IsDefined path) ≡ path_formed path
defined_forms path = form_made (ExprForm-F.IsDefined path) (form.rolls-IsDefined path)

pub cast_forms : (to : CastTarget) (value : Expr) → form_formed (form.Cast to value) ≡ expr_formed value
cast_forms to value = form_made (ExprForm-F.Cast to value) (form.rolls-Cast to value)

pub literal_forms : (members : List Member) → form_formed (form.Literal members) ≡ list_all member_formed members
literal_forms members =
    form_made (ExprForm-F.Literal members) (form.rolls-Literal members)
    ∙ each-map member_formed members

pub minus_forms : (value : Expr) → form_formed (form.Minus value) ≡ expr_formed value
minus_forms value = form_made (ExprForm-F.Minus value) (form.rolls-Minus value)

pub not_forms : (value : Expr) → form_formed (form.Not value) ≡ expr_formed value
not_forms value = form_made (ExprForm-F.Not value) (form.rolls-Not value)

pub product_forms : (first : Expr) (rest : List Factor) → form_formed (form.Product first rest) ≡ expr_formed first && (has_one rest && list_all factor_formed rest)
product_forms first rest =
    form_made (ExprForm-F.Product first rest) (form.rolls-Product first rest)
    ∙ ap (λ b. expr_formed first && b) (one_and_each factor_formed rest)

pub sum_forms : (first : Expr) (rest : List Term) → form_formed (form.Sum first rest) ≡ expr_formed first && (has_one rest && list_all term_formed rest)
sum_forms first rest =
    form_made (ExprForm-F.Sum first rest) (form.rolls-Sum first rest)
    ∙ ap (λ b. expr_formed first && b) (one_and_each term_formed rest)

pub compare_forms : (left : Expr) (compared : Comparison) (right : Expr) → form_formed (form.Compare left compared right) ≡ expr_formed left && expr_formed right
compare_forms left compared right = form_made (ExprForm-F.Compare left compared right) (form.rolls-Compare left compared right)

pub and_forms : (values : List Expr) → form_formed (form.And values) ≡ has_two values && list_all expr_formed values
and_forms values =
    form_made (ExprForm-F.And values) (form.rolls-And values)
    ∙ two_and_each expr_formed values

pub or_forms : (values : List Expr) → form_formed (form.Or values) ≡ has_two values && list_all expr_formed values
or_forms values =
    form_made (ExprForm-F.Or values) (form.rolls-Or values)
    ∙ two_and_each expr_formed values

-- an expression is formed as its form is
pub expr_forms : (e : Expr) → expr_formed e ≡ form_formed (out-Expr e).form
unfolding expr_formed factor_formed form_formed member_formed path_formed step_formed term_formed
expr_forms e =
    ap expr_formed (sym (roll-out-Expr e))
    ∙ expr_rolls expressions_formed (out-Expr e)

pub placed_forms : (at : ℕ) (inner : ExprForm) → expr_formed (roll-Expr (record { at = at; form = inner })) ≡ form_formed inner
unfolding expr_formed factor_formed form_formed member_formed path_formed step_formed term_formed
placed_forms at inner = expr_rolls expressions_formed (record { at = at; form = inner })

pub factor_forms : (operator : Multiplicative) (operand : Expr) → factor_formed (roll-Factor (record { operator = operator; operand = operand })) ≡ expr_formed operand
unfolding expr_formed factor_formed form_formed member_formed path_formed step_formed term_formed
factor_forms operator operand = factor_rolls expressions_formed (record { operator = operator; operand = operand })

pub term_forms : (operator : Additive) (operand : Expr) → term_formed (roll-Term (record { operator = operator; operand = operand })) ≡ expr_formed operand
unfolding expr_formed factor_formed form_formed member_formed path_formed step_formed term_formed
term_forms operator operand = term_rolls expressions_formed (record { operator = operator; operand = operand })

pub member_forms : (name : Name) (value : Expr) → member_formed (roll-Member (record { name = name; value = value })) ≡ expr_formed value
unfolding expr_formed factor_formed form_formed member_formed path_formed step_formed term_formed
member_forms name value = member_rolls expressions_formed (record { name = name; value = value })

pub path_forms : (first : Step) (rest : List Step) → path_formed (roll-Path (record { first = first; rest = rest })) ≡ step_formed first && list_all step_formed rest
unfolding expr_formed factor_formed form_formed member_formed path_formed step_formed term_formed
path_forms first rest =
    path_rolls expressions_formed (record { first = first; rest = rest })
    ∙ ap (λ b. step_formed first && b) (each-map step_formed rest)

pub step_forms : (name : Name) (index : Option Expr) → step_formed (roll-Step (record { name = name; index = index })) ≡ option_all expr_formed index
unfolding expr_formed factor_formed form_formed member_formed path_formed step_formed term_formed
step_forms name None = step_rolls expressions_formed (record { name = name; index = None })
step_forms name (Some e) = step_rolls expressions_formed (record { name = name; index = Some e })

-- ---- processes

-- whether a process is formed, by the form that it is made of
process_made : (x : Process-F Otherwise Process Answer Block Branch Handler If Input Reply) {p : Process} → roll-Process x ≡ p
    → process_formed p ≡ process_level (map-Process Otherwise Process Answer Block Branch Handler If Input Reply Bool Bool Bool Bool Bool Bool Bool Bool Bool otherwise_formed process_formed answer_formed block_formed branch_formed handler_formed if_formed input_formed reply_formed x)
unfolding otherwise_formed process_formed answer_formed block_formed branch_formed handler_formed if_formed input_formed reply_formed
process_made x made = ap process_formed (sym made) ∙ process_rolls processes_formed x

pub nothing_forms : (at : ℕ) → process_formed (process.Nothing at) ≡ true
nothing_forms at = process_made (Process-F.«Process::Nothing» at) (process.rolls-Nothing at)

pub assign_forms : (path : Path) (assignment : Assignment) → process_formed (process.Assign path assignment) ≡ path_formed path && assignment_formed assignment
assign_forms path assignment = process_made (Process-F.Assign path assignment) (process.rolls-Assign path assignment)

pub undef_forms : (at : ℕ) (path : Path) → process_formed (process.Undef at path) ≡ path_formed path
undef_forms at path = process_made (Process-F.Undef at path) (process.rolls-Undef at path)

pub correlate_forms : (at : ℕ) (variable : Name) (value : Expr) → process_formed (process.Correlate at variable value) ≡ expr_formed value
correlate_forms at variable value = process_made (Process-F.Correlate at variable value) (process.rolls-Correlate at variable value)

pub conditional_forms : (i : If) → process_formed (process.If i) ≡ if_formed i
conditional_forms i = process_made (Process-F.If i) (process.rolls-If i)

pub while_forms : (at : ℕ) (test : Expr) (body : Block) → process_formed (process.While at test body) ≡ expr_formed test && block_formed body
while_forms at test body = process_made (Process-F.While at test body) (process.rolls-While at test body)

pub for_forms : (at : ℕ) (path : Path) (first : Expr) (test : Expr) (stepped : Path) (step : ForStep) (body : Block) → process_formed (process.For at path first test stepped step body) ≡ path_formed path && (expr_formed first && (expr_formed test && (path_formed stepped && (for_step_formed step && block_formed body))))
for_forms at path first test stepped step body = process_made (Process-F.For at path first test stepped step body) (process.rolls-For at path first test stepped step body)

pub input_forms : (i : Input) → process_formed (process.Input i) ≡ input_formed i
input_forms i = process_made (Process-F.Input i) (process.rolls-Input i)

pub choice_forms : (at : ℕ) (branches : List Branch) → process_formed (process.Choice at branches) ≡ has_one branches && list_all branch_formed branches
choice_forms at branches =
    process_made (Process-F.Choice at branches) (process.rolls-Choice at branches)
    ∙ one_and_each branch_formed branches

pub output_forms : (operation : Name) (port : Name) (value : Option Expr) (answer : Option Answer) → process_formed (process.Output operation port value answer) ≡ option_all expr_formed value && option_all answer_formed answer
output_forms operation port value None = process_made (Process-F.Output operation port value None) (process.rolls-Output operation port value None)
output_forms operation port value (Some it) = process_made (Process-F.Output operation port value (Some it)) (process.rolls-Output operation port value (Some it))

pub scope_forms : (at : ℕ) (name : Name) (body : Block) → process_formed (process.Scope at name body) ≡ block_formed body
scope_forms at name body = process_made (Process-F.Scope at name body) (process.rolls-Scope at name body)

pub install_forms : (at : ℕ) (handlers : List Handler) → process_formed (process.Install at handlers) ≡ list_all handler_formed handlers
install_forms at handlers =
    process_made (Process-F.Install at handlers) (process.rolls-Install at handlers)
    ∙ each-map handler_formed handlers

pub throw_forms : (at : ℕ) (fault : Name) (value : Option Expr) → process_formed (process.Throw at fault value) ≡ option_all expr_formed value
throw_forms at fault value = process_made (Process-F.Throw at fault value) (process.rolls-Throw at fault value)

pub compensate_forms : (at : ℕ) (scope : Name) → process_formed (process.Compensate at scope) ≡ true
compensate_forms at scope = process_made (Process-F.Compensate at scope) (process.rolls-Compensate at scope)

pub inner_handler_forms : (at : ℕ) → process_formed (process.InnerHandler at) ≡ true
inner_handler_forms at = process_made (Process-F.InnerHandler at) (process.rolls-InnerHandler at)

pub block_statement_forms : (b : Block) → process_formed (process.Block b) ≡ block_formed b
block_statement_forms b = process_made (Process-F.Block b) (process.rolls-Block b)

pub sequence_forms : (ps : List Process) → process_formed (process.Sequence ps) ≡ has_two ps && list_all process_formed ps
sequence_forms ps =
    process_made (Process-F.Sequence ps) (process.rolls-Sequence ps)
    ∙ two_and_each process_formed ps

pub parallel_forms : (ps : List Process) → process_formed (process.Parallel ps) ≡ has_two ps && list_all process_formed ps
parallel_forms ps =
    process_made (Process-F.Parallel ps) (process.rolls-Parallel ps)
    ∙ two_and_each process_formed ps

-- ---- what an `if` does where its test fails

-- whether what an `if` does where its test fails is formed, by the form that it is made of
otherwise_made : (x : Otherwise-F Otherwise Process Answer Block Branch Handler If Input Reply) {o : Otherwise} → roll-Otherwise x ≡ o
    → otherwise_formed o ≡ else_or true (map-Otherwise Otherwise Process Answer Block Branch Handler If Input Reply Bool Bool Bool Bool Bool Bool Bool Bool Bool otherwise_formed process_formed answer_formed block_formed branch_formed handler_formed if_formed input_formed reply_formed x)
unfolding otherwise_formed process_formed answer_formed block_formed branch_formed handler_formed if_formed input_formed reply_formed
otherwise_made x made = ap otherwise_formed (sym made) ∙ otherwise_rolls processes_formed x

pub no_else_forms : otherwise_formed otherwise.Nothing ≡ true
no_else_forms = otherwise_made Otherwise-F.«Otherwise::Nothing» otherwise.rolls-Nothing

pub else_if_forms : (i : If) → otherwise_formed (otherwise.ElseIf i) ≡ if_formed i
else_if_forms i = otherwise_made (Otherwise-F.ElseIf i) (otherwise.rolls-ElseIf i)

pub else_forms : (b : Block) → otherwise_formed (otherwise.Else b) ≡ block_formed b
else_forms b = otherwise_made (Otherwise-F.Else b) (otherwise.rolls-Else b)

-- ---- the parts of processes

pub block_forms : (at : ℕ) (body : Option Process) → block_formed (roll-Block (record { at = at; body = body })) ≡ option_all process_formed body
unfolding answer_formed block_formed branch_formed handler_formed if_formed input_formed otherwise_formed process_formed reply_formed
block_forms at None = block_rolls processes_formed (record { at = at; body = None })
block_forms at (Some it) = block_rolls processes_formed (record { at = at; body = Some it })

pub if_forms : (at : ℕ) (test : Expr) (body : Block) (rest : Otherwise) → if_formed (roll-If (record { at = at; test = test; body = body; otherwise = rest })) ≡ expr_formed test && (block_formed body && otherwise_formed rest)
unfolding answer_formed block_formed branch_formed handler_formed if_formed input_formed otherwise_formed process_formed reply_formed
if_forms at test body rest = conditional_rolls processes_formed (record { at = at; test = test; body = body; otherwise = rest })

pub input_part_forms : (operation : Name) (request : Option Path) (reply : Option Reply) → input_formed (roll-Input (record { operation = operation; request = request; reply = reply })) ≡ option_all path_formed request && option_all reply_formed reply
unfolding answer_formed block_formed branch_formed handler_formed if_formed input_formed otherwise_formed process_formed reply_formed
input_part_forms operation request None = input_rolls processes_formed (record { operation = operation; request = request; reply = None })
input_part_forms operation request (Some it) = input_rolls processes_formed (record { operation = operation; request = request; reply = Some it })

pub reply_forms : (path : Option Path) (body : Block) → reply_formed (roll-Reply (record { path = path; body = body })) ≡ option_all path_formed path && block_formed body
unfolding answer_formed block_formed branch_formed handler_formed if_formed input_formed otherwise_formed process_formed reply_formed
reply_forms path body = reply_rolls processes_formed (record { path = path; body = body })

pub branch_forms : (at : ℕ) (i : Input) (after : Block) → branch_formed (roll-Branch (record { at = at; input = i; after = after })) ≡ input_formed i && block_formed after
unfolding answer_formed block_formed branch_formed handler_formed if_formed input_formed otherwise_formed process_formed reply_formed
branch_forms at i after = branch_rolls processes_formed (record { at = at; input = i; after = after })

pub answer_forms : (path : Option Path) (handlers : Option (List Handler)) → answer_formed (roll-Answer (record { path = path; handlers = handlers })) ≡ option_all path_formed path && option_all (list_all handler_formed) handlers
unfolding answer_formed block_formed branch_formed handler_formed if_formed input_formed otherwise_formed process_formed reply_formed
answer_forms path None = answer_rolls processes_formed (record { path = path; handlers = None })
answer_forms path (Some it) =
    answer_rolls processes_formed (record { path = path; handlers = Some it })
    ∙ ap (λ b. option_all path_formed path && b) (each-map handler_formed it)

pub handler_forms : (key : HandlerKey) (body : Process) → handler_formed (roll-Handler (record { key = key; body = body })) ≡ process_formed body
unfolding answer_formed block_formed branch_formed handler_formed if_formed input_formed otherwise_formed process_formed reply_formed
handler_forms key body = handler_rolls processes_formed (record { key = key; body = body })
