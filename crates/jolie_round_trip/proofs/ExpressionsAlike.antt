-- An expression without its places is printed as the expression.
use Rattle.std.proofs.Common.{◌≡◌, ℕ, List, ◌∷◌, ◌++◌, map, flat_map, Option, Some, None, sym, ap, subst, ◌∙◌, codes}
use Rattle.jolie_ast.specs.declared.name.Name.{Name}
use Rattle.jolie_ast.specs.declared.expression.Additive.{Additive}
use Rattle.jolie_ast.specs.declared.expression.Multiplicative.{Multiplicative}
use Rattle.jolie_ast.specs.declared.expression.ExprForm.TheOpen.{ExprForm-F}
use Rattle.jolie_ast.specs.declared.expression.ExprForm.TheFolds.{map-ExprForm, map-Step, ind-Expr}
use Rattle.jolie_ast.specs.declared.expression.Expr.{Expr, roll-Expr}
use Rattle.jolie_ast.specs.declared.expression.ExprForm.{ExprForm, roll-ExprForm}
use Rattle.jolie_ast.specs.declared.expression.ExprForm.TheVariants as form
use Rattle.jolie_ast.specs.declared.expression.Factor.{Factor, roll-Factor}
use Rattle.jolie_ast.specs.declared.expression.Term.{Term, roll-Term}
use Rattle.jolie_ast.specs.declared.expression.Member.{Member, roll-Member}
use Rattle.jolie_ast.specs.declared.expression.Path.{Path, roll-Path}
use Rattle.jolie_ast.specs.declared.expression.Step.{Step, roll-Step}
use Rattle.jolie_ast.specs.PrintedExpressions.{Shown, simple, operation, operand, in_parens, in_brackets, in_braces, additive_token, multiplicative_token, comparison_token, cast_token, form_shown, expr_shown, factor_tokens, member_tokens, path_tokens, step_tokens, term_tokens, expr_tokens, operand_tokens}
use Rattle.jolie_ast.proofs.PrintedExpressions.{path_form_shown, size_shown, defined_shown, cast_shown, literal_shown, minus_shown, not_shown, product_shown, sum_shown, compare_shown, and_shown, or_shown}
use Rattle.jolie_round_trip.specs.Placeless.{name_placeless, form_placeless, expr_placeless, factor_placeless, member_placeless, path_placeless, step_placeless, term_placeless}
use Rattle.jolie_round_trip.proofs.PlacelessExpressions.{int_placeless, long_placeless, string_placeless, truth_placeless, path_form_placeless, size_placeless, is_defined_placeless, cast_placeless, literal_placeless, minus_placeless, not_placeless, product_placeless, sum_placeless, compare_placeless, and_placeless, or_placeless, expression_placeless, factor_rolled, term_rolled, member_rolled, path_rolled, step_rolled}
use Rattle.jolie_round_trip.proofs.PrintedForms.{expression_shown, factor_printed, term_printed, member_printed, path_printed, step_printed}
use Rattle.jolie_round_trip.proofs.ListsAlike.{known_lists, known_separated}

-- ---- what is printed of each is printed of it without places

abbrev FormAlike : ExprForm → Type 0
FormAlike x = form_shown (form_placeless x) ≡ form_shown x

abbrev ExprAlike : Expr → Type 0
ExprAlike x = expr_shown (expr_placeless x) ≡ expr_shown x

abbrev FactorAlike : Factor → Type 0
FactorAlike x = factor_tokens (factor_placeless x) ≡ factor_tokens x

abbrev MemberAlike : Member → Type 0
MemberAlike x = member_tokens (member_placeless x) ≡ member_tokens x

abbrev PathAlike : Path → Type 0
PathAlike x = path_tokens (path_placeless x) ≡ path_tokens x

abbrev StepAlike : Step → Type 0
StepAlike x = step_tokens (step_placeless x) ≡ step_tokens x

abbrev TermAlike : Term → Type 0
TermAlike x = term_tokens (term_placeless x) ≡ term_tokens x

-- ---- things of which this is known

abbrev KnownForm : Type 0
KnownForm = (x : ExprForm) × FormAlike x

abbrev KnownExpr : Type 0
KnownExpr = (x : Expr) × ExprAlike x

abbrev KnownFactor : Type 0
KnownFactor = (x : Factor) × FactorAlike x

abbrev KnownMember : Type 0
KnownMember = (x : Member) × MemberAlike x

abbrev KnownPath : Type 0
KnownPath = (x : Path) × PathAlike x

abbrev KnownStep : Type 0
KnownStep = (x : Step) × StepAlike x

abbrev KnownTerm : Type 0
KnownTerm = (x : Term) × TermAlike x

-- one level of a form of which the parts are known
abbrev KnownParts : Type 0
KnownParts = ExprForm-F KnownForm KnownExpr KnownFactor KnownMember KnownPath KnownStep KnownTerm

-- the form of these parts
abbrev form_of : KnownParts → ExprForm
form_of y =
    roll-ExprForm (map-ExprForm KnownForm KnownExpr KnownFactor KnownMember KnownPath KnownStep KnownTerm ExprForm Expr Factor Member Path Step Term (λ e. e.0) (λ e. e.0) (λ e. e.0) (λ e. e.0) (λ e. e.0) (λ e. e.0) (λ e. e.0) y)

-- ---- one level

form_alike : {x f g : ExprForm} {s t : Shown} → x ≡ f → form_placeless f ≡ g → form_shown g ≡ s → s ≡ t → form_shown f ≡ t → FormAlike x
form_alike rolls left shown same whole = subst FormAlike (sym rolls) (ap form_shown left ∙ shown ∙ same ∙ sym whole)

-- a form that has no place in it
bare_alike : {x f : ExprForm} → x ≡ f → form_placeless f ≡ f → FormAlike x
bare_alike rolls left = subst FormAlike (sym rolls) (ap form_shown left)

form_known : (y : KnownParts) → FormAlike (form_of y)
form_known (ExprForm-F.Int n) = bare_alike (form.rolls-Int n) (int_placeless n)
form_known (ExprForm-F.Long n) = bare_alike (form.rolls-Long n) (long_placeless n)
form_known (ExprForm-F.Str text) = bare_alike (form.rolls-Str text) (string_placeless text)
form_known (ExprForm-F.Bool b) = bare_alike (form.rolls-Bool b) (truth_placeless b)
form_known (ExprForm-F.Path (p, k)) = form_alike (form.rolls-Path p) (path_form_placeless p) (path_form_shown (path_placeless p)) (ap simple k) (path_form_shown p)
form_known (ExprForm-F.Size (p, k)) = form_alike (form.rolls-Size p) (size_placeless p) (size_shown (path_placeless p)) (ap (λ ts. simple (codes "#" ∷ ts)) k) (size_shown p)
form_known (ExprForm-F.IsDefined (p, k)) =
    form_alike (form.rolls-IsDefined p) (is_defined_placeless p) (defined_shown (path_placeless p)) (ap (λ ts. simple (codes "is_defined" ∷ in_parens ts)) k) (defined_shown p)
form_known (ExprForm-F.Cast to (e, k)) =
    form_alike (form.rolls-Cast to e) (cast_placeless to e) (cast_shown to (expr_placeless e)) (ap (λ s. simple (cast_token to ∷ in_parens s.tokens)) k) (cast_shown to e)
form_known (ExprForm-F.Literal members) =
    let ms : List Member = map (λ e. e.0) members in
    form_alike (form.rolls-Literal ms) (literal_placeless ms) (literal_shown (map member_placeless ms))
    (ap (λ ts. simple (in_braces ts)) (known_separated (codes ",") member_placeless member_tokens (λ m k. k) members)) (literal_shown ms)
form_known (ExprForm-F.Minus (e, k)) = form_alike (form.rolls-Minus e) (minus_placeless e) (minus_shown (expr_placeless e)) (ap (λ s. simple (codes "-" ∷ operand s)) k) (minus_shown e)
form_known (ExprForm-F.Not (e, k)) = form_alike (form.rolls-Not e) (not_placeless e) (not_shown (expr_placeless e)) (ap (λ s. simple (codes "!" ∷ operand s)) k) (not_shown e)
form_known (ExprForm-F.Product (e, k) factors) =
    let qs : List Factor = map (λ q. q.0) factors in
    form_alike (form.rolls-Product e qs) (product_placeless e qs) (product_shown (expr_placeless e) (map factor_placeless qs))
    (ap (λ s. operation (operand s ++ flat_map factor_tokens (map factor_placeless qs))) k ∙ ap (λ ts. operation (operand_tokens e ++ ts)) (known_lists factor_placeless factor_tokens (λ q k. k) factors))
    (product_shown e qs)
form_known (ExprForm-F.Sum (e, k) terms) =
    let qs : List Term = map (λ q. q.0) terms in
    form_alike (form.rolls-Sum e qs) (sum_placeless e qs) (sum_shown (expr_placeless e) (map term_placeless qs))
    (ap (λ s. operation (operand s ++ flat_map term_tokens (map term_placeless qs))) k ∙ ap (λ ts. operation (operand_tokens e ++ ts)) (known_lists term_placeless term_tokens (λ q k. k) terms))
    (sum_shown e qs)
form_known (ExprForm-F.Compare (d, j) how (e, k)) =
    form_alike (form.rolls-Compare d how e) (compare_placeless d how e) (compare_shown (expr_placeless d) how (expr_placeless e))
    (ap (λ s. operation (operand s ++ comparison_token how ∷ operand_tokens (expr_placeless e))) j ∙ ap (λ s. operation (operand_tokens d ++ comparison_token how ∷ operand s)) k)
    (compare_shown d how e)
form_known (ExprForm-F.And values) =
    let es : List Expr = map (λ e. e.0) values in
    form_alike (form.rolls-And es) (and_placeless es) (and_shown (map expr_placeless es)) (ap operation (known_separated (codes "&&") expr_placeless operand_tokens (λ e k. ap operand k) values)) (and_shown es)
form_known (ExprForm-F.Or values) =
    let es : List Expr = map (λ e. e.0) values in
    form_alike (form.rolls-Or es) (or_placeless es) (or_shown (map expr_placeless es)) (ap operation (known_separated (codes "||") expr_placeless operand_tokens (λ e k. ap operand k) values)) (or_shown es)

expr_known : (at : ℕ) (f : KnownForm) → ExprAlike (roll-Expr (record { at = at; form = f.0 }))
expr_known at (f, k) = ap expr_shown (expression_placeless at f) ∙ expression_shown 0 (form_placeless f) ∙ k ∙ sym (expression_shown at f)

factor_known : (operator : Multiplicative) (e : KnownExpr) → FactorAlike (roll-Factor (record { operator = operator; operand = e.0 }))
factor_known operator (e, k) = ap factor_tokens (factor_rolled operator e) ∙ factor_printed operator (expr_placeless e) ∙ ap (λ s. multiplicative_token operator ∷ operand s) k ∙ sym (factor_printed operator e)

term_known : (operator : Additive) (e : KnownExpr) → TermAlike (roll-Term (record { operator = operator; operand = e.0 }))
term_known operator (e, k) = ap term_tokens (term_rolled operator e) ∙ term_printed operator (expr_placeless e) ∙ ap (λ s. additive_token operator ∷ operand s) k ∙ sym (term_printed operator e)

member_known : (name : Name) (e : KnownExpr) → MemberAlike (roll-Member (record { name = name; value = e.0 }))
member_known name (e, k) = ap member_tokens (member_rolled name e) ∙ member_printed (name_placeless name) (expr_placeless e) ∙ ap (λ s. name.text ∷ (codes "=" ∷ s.tokens)) k ∙ sym (member_printed name e)

path_known : (first : KnownStep) (rest : List KnownStep) → PathAlike (roll-Path (record { first = first.0; rest = map (λ s. s.0) rest }))
path_known (first, k) rest =
    let steps : List Step = map (λ s. s.0) rest in
    ap path_tokens (path_rolled first steps)
    ∙ path_printed (step_placeless first) (map step_placeless steps)
    ∙ ap (λ ts. ts ++ flat_map (λ s. codes "." ∷ step_tokens s) (map step_placeless steps)) k
    ∙ ap (λ ts. step_tokens first ++ ts) (known_lists step_placeless (λ s. codes "." ∷ step_tokens s) (λ s k. ap (λ ts. codes "." ∷ ts) k) rest)
    ∙ sym (path_printed first steps)

-- a step of a name and an index that is known
abbrev step_of : Name → Option KnownExpr → Step
step_of name index =
    roll-Step (map-Step KnownForm KnownExpr KnownFactor KnownMember KnownPath KnownStep KnownTerm ExprForm Expr Factor Member Path Step Term (λ e. e.0) (λ e. e.0) (λ e. e.0) (λ e. e.0) (λ e. e.0) (λ e. e.0) (λ e. e.0) (record { name = name; index = index }))

step_known : (name : Name) (index : Option KnownExpr) → StepAlike (step_of name index)
step_known name None = ap step_tokens (step_rolled name None) ∙ step_printed (name_placeless name) None ∙ sym (step_printed name None)
step_known name (Some (e, k)) =
    ap step_tokens (step_rolled name (Some e)) ∙ step_printed (name_placeless name) (Some (expr_placeless e)) ∙ ap (λ s. name.text ∷ in_brackets s.tokens) k ∙ sym (step_printed name (Some e))

-- ---- by induction

expr_alike : (x : Expr) → ExprAlike x
expr_alike = ind-Expr FormAlike ExprAlike FactorAlike MemberAlike PathAlike StepAlike TermAlike
    (λ x y is. subst (λ z. FormAlike (roll-ExprForm z)) is (form_known y))
    (λ x y is. subst (λ z. ExprAlike (roll-Expr z)) is (expr_known y.at y.form))
    (λ x y is. subst (λ z. FactorAlike (roll-Factor z)) is (factor_known y.operator y.operand))
    (λ x y is. subst (λ z. MemberAlike (roll-Member z)) is (member_known y.name y.value))
    (λ x y is. subst (λ z. PathAlike (roll-Path z)) is (path_known y.first y.rest))
    (λ x y is. subst (λ z. StepAlike (roll-Step z)) is (step_known y.name y.index))
    (λ x y is. subst (λ z. TermAlike (roll-Term z)) is (term_known y.operator y.operand))

pub expr_tokens_alike : (e : Expr) → expr_tokens (expr_placeless e) ≡ expr_tokens e
expr_tokens_alike e = ap (λ s. s.tokens) (expr_alike e)

-- ---- paths

abbrev path_value : Path → Expr
path_value path = roll-Expr (record { at = 0; form = form.Path path })

value_shown : (path : Path) → expr_shown (path_value path) ≡ simple (path_tokens path)
value_shown path = expression_shown 0 (form.Path path) ∙ path_form_shown path

value_placeless : (path : Path) → expr_placeless (path_value path) ≡ path_value (path_placeless path)
value_placeless path = expression_placeless 0 (form.Path path) ∙ ap (λ f. roll-Expr (record { at = 0; form = f })) (path_form_placeless path)

pub path_alike : (path : Path) → path_tokens (path_placeless path) ≡ path_tokens path
path_alike path = ap (λ s. s.tokens) (sym (value_shown (path_placeless path)) ∙ ap expr_shown (sym (value_placeless path)) ∙ expr_alike (path_value path) ∙ value_shown path)
