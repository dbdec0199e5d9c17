use Rattle.std.proofs.Common.{◌≡◌, [], ◌+◌, ◌*◌, length}
use Rattle.jolie_parse.specs.ClassNames as c
use Rattle.jolie_parse.specs.Grammar as spec
use Rattle.jolie_parse.specs.Syntax.{behind, separated}
use Rattle.jolie_parse.specs.Reading.{read}
use Rattle.jolie_parse.specs.Reads.{more}
use Rattle.jolie_parse.proofs.cursor.Cursor.+expression.Given as goal

abbrev pub decreases-cast : goal.decreases-cast
decreases-cast l = l.levels * 40 + 2

abbrev pub decreases-comparison : goal.decreases-comparison
decreases-comparison l = l.levels * 40 + 24

abbrev pub decreases-comparisons : goal.decreases-comparisons
decreases-comparisons l = l.levels * 40 + 26

abbrev pub invariant-comparisons-loop-operands : goal.invariant-comparisons-loop-operands
invariant-comparisons-loop-operands l = read l.levels (separated c.sign_and spec.comparison) l.fn.self ≡ more l.levels (behind c.sign_and spec.comparison) l.operands l.self

abbrev pub decreases-comparisons-loop-operands : goal.decreases-comparisons-loop-operands
decreases-comparisons-loop-operands l = length l.self

abbrev pub decreases-conjunction : goal.decreases-conjunction
decreases-conjunction l = l.levels * 40 + 27

abbrev pub decreases-conjunctions : goal.decreases-conjunctions
decreases-conjunctions l = l.levels * 40 + 29

abbrev pub invariant-conjunctions-loop-operands : goal.invariant-conjunctions-loop-operands
invariant-conjunctions-loop-operands l = read l.levels (separated c.sign_or spec.conjunction) l.fn.self ≡ more l.levels (behind c.sign_or spec.conjunction) l.operands l.self

abbrev pub decreases-conjunctions-loop-operands : goal.decreases-conjunctions-loop-operands
decreases-conjunctions-loop-operands l = length l.self

abbrev pub decreases-defined_test : goal.decreases-defined_test
decreases-defined_test l = l.levels * 40 + 2

abbrev pub decreases-expression : goal.decreases-expression
decreases-expression l = l.levels * 40 + 30

abbrev pub decreases-expression_in_brackets : goal.decreases-expression_in_brackets
decreases-expression_in_brackets l = l.levels * 40 + 1

abbrev pub decreases-expression_in_parens : goal.decreases-expression_in_parens
decreases-expression_in_parens l = l.levels * 40 + 1

abbrev pub decreases-factor : goal.decreases-factor
decreases-factor l = l.levels * 40 + 18

abbrev pub decreases-factors : goal.decreases-factors
decreases-factors l = l.levels * 40 + 19

abbrev pub invariant-factors-loop-factors : goal.invariant-factors-loop-factors
invariant-factors-loop-factors l = more l.levels spec.factor [] l.fn.self ≡ more l.levels spec.factor l.factors l.self

abbrev pub decreases-factors-loop-factors : goal.decreases-factors-loop-factors
decreases-factors-loop-factors l = length l.self

abbrev pub decreases-grouped : goal.decreases-grouped
decreases-grouped l = l.levels * 40 + 1

abbrev pub decreases-index : goal.decreases-index
decreases-index l = l.levels * 40 + 2

abbrev pub decreases-literal : goal.decreases-literal
decreases-literal l = l.levels * 40 + 1

abbrev pub decreases-member : goal.decreases-member
decreases-member l = l.levels * 40 + 33

abbrev pub decreases-members : goal.decreases-members
decreases-members l = l.levels * 40 + 36

abbrev pub decreases-path : goal.decreases-path
decreases-path l = l.levels * 40 + 6

abbrev pub decreases-path_in_parens : goal.decreases-path_in_parens
decreases-path_in_parens l = l.levels * 40 + 1

abbrev pub decreases-path_parts : goal.decreases-path_parts
decreases-path_parts l = l.levels * 40 + 5

abbrev pub decreases-path_value : goal.decreases-path_value
decreases-path_value l = l.levels * 40 + 7

abbrev pub decreases-prefixed_operand : goal.decreases-prefixed_operand
decreases-prefixed_operand l = l.levels * 40 + 1

abbrev pub decreases-primary : goal.decreases-primary
decreases-primary l = l.levels * 40 + 16

abbrev pub decreases-product : goal.decreases-product
decreases-product l = l.levels * 40 + 20

abbrev pub decreases-size : goal.decreases-size
decreases-size l = l.levels * 40 + 7

abbrev pub decreases-some_members : goal.decreases-some_members
decreases-some_members l = l.levels * 40 + 35

abbrev pub invariant-some_members-loop-members : goal.invariant-some_members-loop-members
invariant-some_members-loop-members l = read l.levels (separated c.sign_comma spec.member) l.fn.self ≡ more l.levels (behind c.sign_comma spec.member) l.members l.self

abbrev pub decreases-some_members-loop-members : goal.decreases-some_members-loop-members
decreases-some_members-loop-members l = length l.self

abbrev pub decreases-step : goal.decreases-step
decreases-step l = l.levels * 40 + 3

abbrev pub decreases-steps : goal.decreases-steps
decreases-steps l = l.levels * 40 + 4

abbrev pub invariant-steps-loop-steps : goal.invariant-steps-loop-steps
invariant-steps-loop-steps l = more l.levels spec.step [] l.fn.self ≡ more l.levels spec.step l.steps l.self

abbrev pub decreases-steps-loop-steps : goal.decreases-steps-loop-steps
decreases-steps-loop-steps l = length l.self

abbrev pub decreases-sum : goal.decreases-sum
decreases-sum l = l.levels * 40 + 23

abbrev pub decreases-term : goal.decreases-term
decreases-term l = l.levels * 40 + 21

abbrev pub decreases-terms : goal.decreases-terms
decreases-terms l = l.levels * 40 + 22

abbrev pub invariant-terms-loop-terms : goal.invariant-terms-loop-terms
invariant-terms-loop-terms l = more l.levels spec.term [] l.fn.self ≡ more l.levels spec.term l.terms l.self

abbrev pub decreases-terms-loop-terms : goal.decreases-terms-loop-terms
decreases-terms-loop-terms l = length l.self

abbrev pub decreases-unary : goal.decreases-unary
decreases-unary l = l.levels * 40 + 17
