use Rattle.std.proofs.Common.{ap, sym, ◌∙◌}
use Rattle.jolie_ast.specs.PrintedExpressions.{Shown, form_shown}
use Rattle.jolie_ast.proofs.PrintedExpressions.{and_shown, cast_shown, compare_shown, defined_shown, int_shown, literal_shown, long_shown, minus_shown, not_shown, or_shown, path_form_shown, product_shown, size_shown, sum_shown, text_shown, truth_shown}
use Rattle.jolie_ast.proofs.print_expression.is_operation.Goals as goal

pub returns-in-Int : goal.returns-in-Int
returns-in-Int c =
    sym (ap (λ f. (form_shown f).several) c.in-Int.is ∙ ap (λ (s : Shown). s.several) (int_shown _))

pub returns-in-Long : goal.returns-in-Long
returns-in-Long c =
    sym (ap (λ f. (form_shown f).several) c.in-Long.is ∙ ap (λ (s : Shown). s.several) (long_shown _))

pub returns-in-Str : goal.returns-in-Str
returns-in-Str c =
    sym (ap (λ f. (form_shown f).several) c.in-Str.is ∙ ap (λ (s : Shown). s.several) (text_shown _))

pub returns-in-Bool : goal.returns-in-Bool
returns-in-Bool c =
    sym (ap (λ f. (form_shown f).several) c.in-Bool.is ∙ ap (λ (s : Shown). s.several) (truth_shown _))

pub returns-in-Path : goal.returns-in-Path
returns-in-Path c =
    sym (ap (λ f. (form_shown f).several) c.in-Path.is ∙ ap (λ (s : Shown). s.several) (path_form_shown _))

pub returns-in-Size : goal.returns-in-Size
returns-in-Size c =
    sym (ap (λ f. (form_shown f).several) c.in-Size.is ∙ ap (λ (s : Shown). s.several) (size_shown _))

pub returns-in-IsDefined : goal.returns-in-IsDefined
returns-in-IsDefined c =
    sym (ap (λ f. (form_shown f).several) c.in-IsDefined.is ∙ ap (λ (s : Shown). s.several) (defined_shown _))

pub returns-in-Cast : goal.returns-in-Cast
returns-in-Cast c =
    sym (ap (λ f. (form_shown f).several) c.in-Cast.is ∙ ap (λ (s : Shown). s.several) (cast_shown _ _))

pub returns-in-Literal : goal.returns-in-Literal
returns-in-Literal c =
    sym (ap (λ f. (form_shown f).several) c.in-Literal.is ∙ ap (λ (s : Shown). s.several) (literal_shown _))

pub returns-in-Minus : goal.returns-in-Minus
returns-in-Minus c =
    sym (ap (λ f. (form_shown f).several) c.in-Minus.is ∙ ap (λ (s : Shown). s.several) (minus_shown _))

pub returns-in-Not : goal.returns-in-Not
returns-in-Not c =
    sym (ap (λ f. (form_shown f).several) c.in-Not.is ∙ ap (λ (s : Shown). s.several) (not_shown _))

pub returns-in-Product : goal.returns-in-Product
returns-in-Product c =
    sym (ap (λ f. (form_shown f).several) c.in-Product.is ∙ ap (λ (s : Shown). s.several) (product_shown _ _))

pub returns-in-Sum : goal.returns-in-Sum
returns-in-Sum c =
    sym (ap (λ f. (form_shown f).several) c.in-Sum.is ∙ ap (λ (s : Shown). s.several) (sum_shown _ _))

pub returns-in-Compare : goal.returns-in-Compare
returns-in-Compare c =
    sym (ap (λ f. (form_shown f).several) c.in-Compare.is ∙ ap (λ (s : Shown). s.several) (compare_shown _ _ _))

pub returns-in-And : goal.returns-in-And
returns-in-And c =
    sym (ap (λ f. (form_shown f).several) c.in-And.is ∙ ap (λ (s : Shown). s.several) (and_shown _))

pub returns-in-Or : goal.returns-in-Or
returns-in-Or c =
    sym (ap (λ f. (form_shown f).several) c.in-Or.is ∙ ap (λ (s : Shown). s.several) (or_shown _))
