-- What an expression mentions at each form.
use Rattle.std.proofs.Common.{◌≡◌, ℕ, ℤ, Bool, List, [], ◌∷◌, ◌++◌, Option, Some, None, refl, ap, sym, ◌∙◌, map, flat_map}
use Rattle.jolie_ast.specs.declared.name.Name.{Name}
use Rattle.jolie_ast.specs.declared.expression.Comparison.{Comparison}
use Rattle.jolie_ast.specs.declared.expression.CastTarget.{CastTarget}
use Rattle.jolie_ast.specs.declared.expression.ExprForm.TheOpen.{ExprForm-F}
use Rattle.jolie_ast.specs.declared.expression.ExprForm.TheFolds.{map-ExprForm}
use Rattle.jolie_ast.specs.declared.expression.Expr.{Expr, out-Expr, roll-out-Expr}
use Rattle.jolie_ast.specs.declared.expression.ExprForm.{ExprForm, out-ExprForm, roll-ExprForm, roll-out-ExprForm}
use Rattle.jolie_ast.specs.declared.expression.ExprForm.TheVariants as form
use Rattle.jolie_ast.specs.declared.expression.Factor.{Factor, out-Factor, roll-out-Factor}
use Rattle.jolie_ast.specs.declared.expression.Term.{Term, out-Term, roll-out-Term}
use Rattle.jolie_ast.specs.declared.expression.Member.{Member, out-Member, roll-out-Member}
use Rattle.jolie_ast.specs.declared.expression.Path.{Path, out-Path, roll-out-Path}
use Rattle.jolie_ast.specs.declared.expression.Step.{Step, out-Step, roll-Step, roll-out-Step}
use Rattle.explain_notes.specs.declared.role.Role.TheVariants as role
use Rattle.std.specs.Prelude.{not, ◌&&◌, ◌||◌, option_map}
use Rattle.std.specs.List.{list_any}
use Rattle.explain_notes.specs.Mentions.{Seen, fails_at}
use Rattle.jolie_ast.specs.Folds.{fold_expr, fold_factor, fold_form, fold_member, fold_term}
use Rattle.explain_notes.specs.Expressions.{Walked, Worked, casts_number, index_seen, is_order, placed, read_role, walked, form_level, expr_mentions, path_walked, path_mentions, expression_seen}
use Rattle.explain_notes.specs.Parts.{form_mentions, factor_mentions, term_mentions, member_mentions, step_walked, index_mentions, index_after, adds_text, is_number, is_number_in, is_text, is_text_in, may_fail, may_fail_in, texts_join}
use Rattle.explain_notes.proofs.Lists.{mapped_any, mapped_parts}
use Rattle.jolie_ast.proofs.Folds.{form_rolls, expr_rolls, factor_rolls, term_rolls, member_rolls, path_rolls, step_rolls}

-- ---- what is made of each part

abbrev pub worked_form : ExprForm → Worked
worked_form = fold_form expression_seen

abbrev pub worked_expr : Expr → Worked
worked_expr = fold_expr expression_seen

abbrev pub worked_factor : Factor → Worked
worked_factor = fold_factor expression_seen

abbrev pub worked_term : Term → Worked
worked_term = fold_term expression_seen

abbrev pub worked_member : Member → Worked
worked_member = fold_member expression_seen

-- one level of a form, with what is made of its parts
abbrev pub level_of : ExprForm-F ExprForm Expr Factor Member Path Step Term → Worked
level_of x = form_level (map-ExprForm ExprForm Expr Factor Member Path Step Term Worked Worked Worked Worked Walked Walked Worked worked_form worked_expr worked_factor worked_member path_walked step_walked worked_term x)

-- what is made of a form, by the form that it is made of
form_made : (x : ExprForm-F ExprForm Expr Factor Member Path Step Term) {f : ExprForm} → roll-ExprForm x ≡ f → worked_form f ≡ level_of x
unfolding path_walked step_walked
form_made x made = ap worked_form (sym made) ∙ form_rolls expression_seen x

-- what a form mentions, by the form that it is made of
form_seen : (x : ExprForm-F ExprForm Expr Factor Member Path Step Term) {f : ExprForm} → roll-ExprForm x ≡ f → form_mentions f ≡ (level_of x).seen
unfolding form_mentions
form_seen x made = ap (λ (w : Worked). w.seen) (form_made x made)

-- what is made of an expression
expr_made : (e : Expr) → worked_expr e ≡ placed (out-Expr e).at (worked_form (out-Expr e).form)
expr_made e = ap worked_expr (sym (roll-out-Expr e)) ∙ expr_rolls expression_seen (out-Expr e)

-- what is made of a later operand of a sum
term_made : (t : Term) → worked_term t ≡ worked_expr (out-Term t).operand
term_made t = ap worked_term (sym (roll-out-Term t)) ∙ term_rolls expression_seen (out-Term t)

-- ---- what a form shows of its value

number_of_form : (x : ExprForm-F ExprForm Expr Factor Member Path Step Term) → (level_of x).number ≡ is_number_in x
number_of_form (ExprForm-F.Int n) = refl
number_of_form (ExprForm-F.Long n) = refl
number_of_form (ExprForm-F.Str text) = refl
number_of_form (ExprForm-F.Bool b) = refl
number_of_form (ExprForm-F.Path path) = refl
number_of_form (ExprForm-F.Size path) = refl
number_of_form (ExprForm-F.IsDefined path) = refl
number_of_form (ExprForm-F.Cast to value) = refl
number_of_form (ExprForm-F.Literal members) = refl
number_of_form (ExprForm-F.Minus value) = refl
number_of_form (ExprForm-F.Not value) = refl
number_of_form (ExprForm-F.Product first rest) = refl
number_of_form (ExprForm-F.Sum first rest) = refl
number_of_form (ExprForm-F.Compare left compared right) = refl
number_of_form (ExprForm-F.And values) = refl
number_of_form (ExprForm-F.Or values) = refl

text_of_form : (x : ExprForm-F ExprForm Expr Factor Member Path Step Term) → (level_of x).quoted ≡ is_text_in x
text_of_form (ExprForm-F.Int n) = refl
text_of_form (ExprForm-F.Long n) = refl
text_of_form (ExprForm-F.Str text) = refl
text_of_form (ExprForm-F.Bool b) = refl
text_of_form (ExprForm-F.Path path) = refl
text_of_form (ExprForm-F.Size path) = refl
text_of_form (ExprForm-F.IsDefined path) = refl
text_of_form (ExprForm-F.Cast to value) = refl
text_of_form (ExprForm-F.Literal members) = refl
text_of_form (ExprForm-F.Minus value) = refl
text_of_form (ExprForm-F.Not value) = refl
text_of_form (ExprForm-F.Product first rest) = refl
text_of_form (ExprForm-F.Sum first rest) = refl
text_of_form (ExprForm-F.Compare left compared right) = refl
text_of_form (ExprForm-F.And values) = refl
text_of_form (ExprForm-F.Or values) = refl

-- an expression is a number, by its form alone
number_is : (e : Expr) → (worked_expr e).number ≡ is_number e
number_is e =
    ap (λ (w : Worked). w.number) (expr_made e)
    ∙ ap (λ (w : Worked). w.number) (form_made (out-ExprForm (out-Expr e).form) (roll-out-ExprForm (out-Expr e).form))
    ∙ number_of_form (out-ExprForm (out-Expr e).form)

-- a text in quotes
text_is_quoted : (e : Expr) → (worked_expr e).quoted ≡ is_text e
text_is_quoted e =
    ap (λ (w : Worked). w.quoted) (expr_made e)
    ∙ ap (λ (w : Worked). w.quoted) (form_made (out-ExprForm (out-Expr e).form) (roll-out-ExprForm (out-Expr e).form))
    ∙ text_of_form (out-ExprForm (out-Expr e).form)

-- a later operand of a sum
term_is_quoted : (t : Term) → (worked_term t).quoted ≡ adds_text t
term_is_quoted t = ap (λ (w : Worked). w.quoted) (term_made t) ∙ text_is_quoted (out-Term t).operand

-- a sum puts texts together
sum_joins : (first : Expr) (rest : List Term) → (worked_expr first).quoted || list_any (λ (w : Worked). w.quoted) (map worked_term rest) ≡ texts_join first rest
sum_joins first rest =
    ap (λ b. b || list_any (λ (w : Worked). w.quoted) (map worked_term rest)) (text_is_quoted first)
    ∙ ap (λ b. is_text first || b) (mapped_any (λ (w : Worked). w.quoted) worked_term adds_text term_is_quoted rest)

-- it may have no value, by its form alone
fails_of_form : (x : ExprForm-F ExprForm Expr Factor Member Path Step Term) → (level_of x).fails ≡ may_fail_in x
fails_of_form (ExprForm-F.Int n) = refl
fails_of_form (ExprForm-F.Long n) = refl
fails_of_form (ExprForm-F.Str text) = refl
fails_of_form (ExprForm-F.Bool b) = refl
fails_of_form (ExprForm-F.Path path) = refl
fails_of_form (ExprForm-F.Size path) = refl
fails_of_form (ExprForm-F.IsDefined path) = refl
fails_of_form (ExprForm-F.Cast to value) = refl
fails_of_form (ExprForm-F.Literal members) = refl
fails_of_form (ExprForm-F.Minus value) = ap not (number_is value)
fails_of_form (ExprForm-F.Not value) = refl
fails_of_form (ExprForm-F.Product first rest) = refl
fails_of_form (ExprForm-F.Sum first rest) = ap not (sum_joins first rest)
fails_of_form (ExprForm-F.Compare left compared right) =
    ap (λ b. is_order compared && not (b && (worked_expr right).number)) (number_is left)
    ∙ ap (λ b. is_order compared && not (is_number left && b)) (number_is right)
fails_of_form (ExprForm-F.And values) = refl
fails_of_form (ExprForm-F.Or values) = refl

form_fails : (f : ExprForm) → (worked_form f).fails ≡ may_fail f
form_fails f =
    ap (λ (w : Worked). w.fails) (form_made (out-ExprForm f) (roll-out-ExprForm f)) ∙ fails_of_form (out-ExprForm f)

-- ---- what each form mentions

pub int_is : (n : ℤ) → form_mentions (form.Int n) ≡ []
int_is n = form_seen (ExprForm-F.Int n) (form.rolls-Int n)

pub long_is : (n : ℤ) → form_mentions (form.Long n) ≡ []
long_is n = form_seen (ExprForm-F.Long n) (form.rolls-Long n)

pub text_is : (t : List ℕ) → form_mentions (form.Str t) ≡ []
text_is t = form_seen (ExprForm-F.Str t) (form.rolls-Str t)

pub truth_is : (b : Bool) → form_mentions (form.Bool b) ≡ []
truth_is b = form_seen (ExprForm-F.Bool b) (form.rolls-Bool b)

pub cast_is : (to : CastTarget) (value : Expr) → form_mentions (form.Cast to value) ≡ expr_mentions value
unfolding expr_mentions factor_mentions member_mentions term_mentions
cast_is to value = form_seen (ExprForm-F.Cast to value) (form.rolls-Cast to value)

pub literal_is : (members : List Member) → form_mentions (form.Literal members) ≡ flat_map member_mentions members
unfolding expr_mentions factor_mentions member_mentions term_mentions
literal_is members =
    form_seen (ExprForm-F.Literal members) (form.rolls-Literal members)
    ∙ mapped_parts (λ (w : Worked). w.seen) worked_member members

pub minus_is : (value : Expr) → form_mentions (form.Minus value) ≡ expr_mentions value
unfolding expr_mentions factor_mentions member_mentions term_mentions
minus_is value = form_seen (ExprForm-F.Minus value) (form.rolls-Minus value)

pub not_is : (value : Expr) → form_mentions (form.Not value) ≡ expr_mentions value
unfolding expr_mentions factor_mentions member_mentions term_mentions
not_is value = form_seen (ExprForm-F.Not value) (form.rolls-Not value)

pub product_is : (first : Expr) (rest : List Factor) → form_mentions (form.Product first rest) ≡ expr_mentions first ++ flat_map factor_mentions rest
unfolding expr_mentions factor_mentions member_mentions term_mentions
product_is first rest =
    form_seen (ExprForm-F.Product first rest) (form.rolls-Product first rest)
    ∙ ap (λ ms. expr_mentions first ++ ms) (mapped_parts (λ (w : Worked). w.seen) worked_factor rest)

pub sum_is : (first : Expr) (rest : List Term) → form_mentions (form.Sum first rest) ≡ expr_mentions first ++ flat_map term_mentions rest
unfolding expr_mentions factor_mentions member_mentions term_mentions
sum_is first rest =
    form_seen (ExprForm-F.Sum first rest) (form.rolls-Sum first rest)
    ∙ ap (λ ms. expr_mentions first ++ ms) (mapped_parts (λ (w : Worked). w.seen) worked_term rest)

pub compare_is : (left : Expr) (compared : Comparison) (right : Expr) → form_mentions (form.Compare left compared right) ≡ expr_mentions left ++ expr_mentions right
unfolding expr_mentions factor_mentions member_mentions term_mentions
compare_is left compared right = form_seen (ExprForm-F.Compare left compared right) (form.rolls-Compare left compared right)

pub and_is : (values : List Expr) → form_mentions (form.And values) ≡ flat_map expr_mentions values
unfolding expr_mentions factor_mentions member_mentions term_mentions
and_is values =
    form_seen (ExprForm-F.And values) (form.rolls-And values)
    ∙ mapped_parts (λ (w : Worked). w.seen) worked_expr values

pub or_is : (values : List Expr) → form_mentions (form.Or values) ≡ flat_map expr_mentions values
unfolding expr_mentions factor_mentions member_mentions term_mentions
or_is values =
    form_seen (ExprForm-F.Or values) (form.rolls-Or values)
    ∙ mapped_parts (λ (w : Worked). w.seen) worked_expr values

pub expr_is : (e : Expr) → expr_mentions e ≡ fails_at (may_fail (out-Expr e).form) (out-Expr e).at ++ form_mentions (out-Expr e).form
unfolding expr_mentions form_mentions
expr_is e =
    ap (λ (w : Worked). w.seen) (expr_made e)
    ∙ ap (λ b. fails_at b (out-Expr e).at ++ (worked_form (out-Expr e).form).seen) (form_fails (out-Expr e).form)

pub factor_is : (f : Factor) → factor_mentions f ≡ expr_mentions (out-Factor f).operand
unfolding factor_mentions expr_mentions
factor_is f =
    ap (λ (w : Worked). w.seen) (ap worked_factor (sym (roll-out-Factor f)) ∙ factor_rolls expression_seen (out-Factor f))

pub term_is : (t : Term) → term_mentions t ≡ expr_mentions (out-Term t).operand
unfolding term_mentions expr_mentions
term_is t = ap (λ (w : Worked). w.seen) (term_made t)

pub member_is : (m : Member) → member_mentions m ≡ expr_mentions (out-Member m).value
unfolding member_mentions expr_mentions
member_is m =
    ap (λ (w : Worked). w.seen) (ap worked_member (sym (roll-out-Member m)) ∙ member_rolls expression_seen (out-Member m))

-- an index, if one is written
index_is : (at : ℕ) (index : Option Expr) → index_seen at (option_map worked_expr index) ≡ index_after at index
unfolding expr_mentions
index_is at None = refl
index_is at (Some e) = ap (λ b. fails_at (not b) at ++ (worked_expr e).seen) (number_is e)

-- a step of its name and its index, if one is written
step_made : (name : Name) (index : Option Expr) → step_walked (roll-Step (record { name = name; index = index })) ≡ record { name = name; indices = index_seen name.at (option_map worked_expr index); read = role.Read }
unfolding step_walked
step_made name None = step_rolls expression_seen (record { name = name; index = None })
step_made name (Some e) = step_rolls expression_seen (record { name = name; index = Some e })

step_whole : (s : Step) → step_walked s ≡ record { name = (out-Step s).name; indices = index_seen (out-Step s).name.at (option_map worked_expr (out-Step s).index); read = role.Read }
step_whole s = ap step_walked (sym (roll-out-Step s)) ∙ step_made (out-Step s).name (out-Step s).index

pub step_is : (s : Step) → index_mentions s ≡ index_after (out-Step s).name.at (out-Step s).index
step_is s = ap (λ (w : Walked). w.indices) (step_whole s) ∙ index_is (out-Step s).name.at (out-Step s).index

path_made : (p : Path) → path_walked p ≡ record { name = (step_walked (out-Path p).first).name; indices = index_mentions (out-Path p).first ++ flat_map (λ (w : Walked). w.indices) (map step_walked (out-Path p).rest); read = read_role (map step_walked (out-Path p).rest) }
unfolding path_walked step_walked
path_made p =
    ap path_walked (sym (roll-out-Path p))
    ∙ path_rolls expression_seen (out-Path p)

-- the variable of a path is the name of its first step
pub variable_is : (p : Path) → (path_walked p).name ≡ (out-Step (out-Path p).first).name
variable_is p = ap (λ (w : Walked). w.name) (path_made p) ∙ ap (λ (w : Walked). w.name) (step_whole (out-Path p).first)

-- what the indices of a path mention
pub indices_are : (p : Path) → (path_walked p).indices ≡ index_mentions (out-Path p).first ++ flat_map index_mentions (out-Path p).rest
indices_are p =
    ap (λ (w : Walked). w.indices) (path_made p)
    ∙ ap (λ ms. index_mentions (out-Path p).first ++ ms) (mapped_parts (λ (w : Walked). w.indices) step_walked (out-Path p).rest)

-- a step more or less is what the role of a variable that is read hangs on
read_mapped : (steps : List Step) → read_role (map step_walked steps) ≡ read_role steps
read_mapped [] = refl
read_mapped (s ∷ ss) = refl

-- the role of a path's variable where it is read
read_is : (p : Path) → (path_walked p).read ≡ read_role (out-Path p).rest
read_is p = ap (λ (w : Walked). w.read) (path_made p) ∙ read_mapped (out-Path p).rest

-- a path that is read
read_path_is : (p : Path) → walked (path_walked p).read (path_walked p) ≡ path_mentions (read_role (out-Path p).rest) p
read_path_is p = ap (λ r. walked r (path_walked p)) (read_is p)

pub path_form_is : (path : Path) → form_mentions (form.Path path) ≡ path_mentions (read_role (out-Path path).rest) path
path_form_is path = form_seen (ExprForm-F.Path path) (form.rolls-Path path) ∙ read_path_is path

pub size_is : (path : Path) → form_mentions (form.Size path) ≡ path_mentions (read_role (out-Path path).rest) path
size_is path = form_seen (ExprForm-F.Size path) (form.rolls-Size path) ∙ read_path_is path

pub defined_is : (path : Path) → form_mentions (form.IsDefined path) ≡ path_mentions (read_role (out-Path path).rest) path
defined_is path = form_seen (ExprForm-F.IsDefined path) (form.rolls-IsDefined path) ∙ read_path_is path
