-- Whatever the grammar derives is formed.
use Rattle.std.proofs.Common.{◌≡◌, ℕ, zero, suc, inl, inr, Bool, true, false, ◌&&◌, if◌then◌else◌, List, [], ◌∷◌, Option, Some, None, refl, sym, ap, ◌∙◌}
use Rattle.std.specs.List.{list_all}
use Rattle.std.proofs.Math.Bool.{and-true}
use Rattle.jolie_ast.specs.declared.expression.Expr.{Expr, out-Expr}
use Rattle.jolie_ast.specs.declared.expression.ExprForm.{ExprForm}
use Rattle.jolie_ast.specs.declared.expression.ExprForm.TheVariants as form
use Rattle.jolie_ast.specs.declared.expression.Factor.{Factor}
use Rattle.jolie_ast.specs.declared.expression.Term.{Term}
use Rattle.jolie_ast.specs.declared.expression.Member.{Member}
use Rattle.jolie_ast.specs.declared.expression.Path.{Path}
use Rattle.jolie_ast.specs.declared.expression.Step.{Step}
use Rattle.jolie_ast.specs.declared.process.Process.{Process}
use Rattle.jolie_ast.specs.declared.process.Process.TheVariants as process
use Rattle.jolie_ast.specs.declared.process.Assignment.TheVariants as assignment
use Rattle.jolie_ast.specs.declared.process.ForStep.TheVariants as for_step
use Rattle.jolie_ast.specs.declared.process.Otherwise.{Otherwise}
use Rattle.jolie_ast.specs.declared.process.Otherwise.TheVariants as otherwise
use Rattle.jolie_ast.specs.declared.process.Block.{Block}
use Rattle.jolie_ast.specs.declared.process.Input.{Input}
use Rattle.jolie_ast.specs.declared.process.Answer.{Answer}
use Rattle.jolie_ast.specs.declared.process.Branch.{Branch, out-Branch}
use Rattle.jolie_ast.specs.declared.process.Handler.{Handler}
use Rattle.jolie_ast.specs.declared.service.Port.{Port}
use Rattle.jolie_ast.specs.declared.service.Clause.{Clause}
use Rattle.jolie_ast.specs.declared.service.Clause.TheVariants as clause
use Rattle.jolie_ast.specs.declared.tree.Definition.{Definition}
use Rattle.jolie_ast.specs.declared.tree.Definition.TheVariants as definition
use Rattle.jolie_ast.specs.Formed.{option_all, form_formed, expr_formed, factor_formed, term_formed, member_formed, path_formed, step_formed, assignment_formed, for_step_formed, process_formed, block_formed, if_formed, otherwise_formed, input_formed, reply_formed, branch_formed, answer_formed, handler_formed, clause_formed, definition_formed, is_formed}
use Rattle.jolie_ast.proofs.Formed.{int_forms, long_forms, text_forms, truth_forms, path_form_forms, size_forms, defined_forms, cast_forms, literal_forms, minus_forms, not_forms, product_forms, sum_forms, compare_forms, and_forms, or_forms, expr_forms, placed_forms, factor_forms, term_forms, member_forms, path_forms, step_forms, nothing_forms, assign_forms, undef_forms, correlate_forms, conditional_forms, while_forms, for_forms, input_forms, choice_forms, output_forms, scope_forms, install_forms, throw_forms, compensate_forms, inner_handler_forms, block_statement_forms, sequence_forms, parallel_forms, no_else_forms, else_if_forms, else_forms, block_forms, if_forms, input_part_forms, reply_forms, branch_forms, answer_forms, handler_forms}
use Rattle.jolie_parse.specs.declared.class.Class.{Class}
use Rattle.jolie_parse.specs.declared.simple.ForParts.{ForParts}
use Rattle.jolie_parse.specs.declared.process.IfParts.{IfParts}
use Rattle.jolie_parse.specs.ClassNames as c
use Rattle.jolie_parse.specs.Classes.{Spelled, class, place, same}
use Rattle.jolie_parse.specs.Made as made
use Rattle.jolie_parse.specs.Meanings as means_as
use Rattle.jolie_parse.specs.Syntax.{Part, an_expression, an_operand, a_path, maybe_path, maybe_expression, a_body, some_handlers, a_name, an_input, an_else_if, for_parts, throw_parts, some_members, a_type_name, some_bounds, some_fields, some_operations, port_parts, some_variables, some_clauses, Meant, Syn, token, both, many, means, inside, prefix, Lang, behind, separated, some_of, optional, between, ended}
use Rattle.jolie_parse.specs.Grammar.{one, parens, braces, id, word, index, step, path_parts, path, whole_number, long_number, quoted_text, truth, path_value, size, defined_test, cast, grouped, literal, primary, prefixed_operand, unary, factor, product, term, sum, comparand, comparison, conjunction, expr, member, members, block, reply, input_parts, input, branch, choice, answer, output_parts, output, count, change, assign, correlate, last_change, loop_parts, else_parts, if_parts, undefine, conditional, repetition, counted_loop, scope, install, throw, compensate, inner_handler, block_statement, marked_statement, nothing, statement, in_sequence, in_parallel, handler_key, handler, handlers, thrown, execution_clause, port, correlation_set, init_clause, main_clause, clauses, service, type_definition, interface, file_part, file, production, Allowed, IsFile}
use Rattle.jolie_parse.specs.Made.{list_of}
use Rattle.jolie_parse.proofs.Makes.{Makes, any_makes, give_makes, both_makes, second_makes, either_makes, many_makes, means_makes, word_makes, behind_makes, separated_makes, some_of_makes, optional_makes, inside_makes, between_makes, prefix_makes}

-- whether what stands a level further in is formed
abbrev pub part_formed : (r : Part) → Meant r → Bool
part_formed an_expression v = expr_formed v
part_formed an_operand v = expr_formed v
part_formed a_path v = path_formed v
part_formed maybe_path v = option_all path_formed v
part_formed maybe_expression v = option_all expr_formed v
part_formed a_body v = option_all process_formed v
part_formed some_handlers v = list_all handler_formed v
part_formed a_name v = true
part_formed an_input v = input_formed v
part_formed an_else_if v = expr_formed v.test && (block_formed v.body && otherwise_formed v.otherwise)
part_formed for_parts v = path_formed v.path && (expr_formed v.first && (expr_formed v.test && (path_formed v.stepped && for_step_formed v.step)))
part_formed throw_parts v = option_all expr_formed v.1
part_formed some_members v = list_all member_formed v
part_formed a_type_name v = true
part_formed some_bounds v = true
part_formed some_fields v = true
part_formed some_operations v = true
part_formed port_parts v = true
part_formed some_variables v = true
part_formed some_clauses v = list_all clause_formed v

-- ---- expressions and what they are made of

-- an expression is formed as the form that it is made of
made_forms : (at : ℕ) (inner : ExprForm) (b : Bool) → form_formed inner ≡ b → expr_formed (means_as.expression at inner) ≡ b
made_forms at inner b e = placed_forms at inner ∙ e

begun_forms : (at : ℕ) (e : Expr) → expr_formed (means_as.begun_at at e) ≡ expr_formed e
begun_forms at e = made_forms at (out-Expr e).form (expr_formed e) (sym (expr_forms e))

path_made_forms : (t : Spelled) (i : Option Expr) (rest : List Step) → path_formed (means_as.path_of t (i, rest)) ≡ option_all expr_formed i && list_all step_formed rest
path_made_forms t i rest = path_forms (means_as.step_of t i) rest ∙ ap (λ b. b && list_all step_formed rest) (step_forms (means_as.name_of t) i)

prefixed_forms : (b : Bool) (e : Expr) → form_formed (if b then form.Minus e else form.Not e) ≡ expr_formed e
prefixed_forms true e = minus_forms e
prefixed_forms false e = not_forms e

product_of_forms : (e : Expr) (rest : List Factor) → expr_formed (means_as.product_of (e, rest)) ≡ expr_formed e && list_all factor_formed rest
product_of_forms e [] = sym (and-true (expr_formed e))
product_of_forms e (f ∷ rest) = placed_forms (means_as.start e) (form.Product e (f ∷ rest)) ∙ product_forms e (f ∷ rest)

sum_of_forms : (e : Expr) (rest : List Term) → expr_formed (means_as.sum_of (e, rest)) ≡ expr_formed e && list_all term_formed rest
sum_of_forms e [] = sym (and-true (expr_formed e))
sum_of_forms e (t ∷ rest) = placed_forms (means_as.start e) (form.Sum e (t ∷ rest)) ∙ sum_forms e (t ∷ rest)

-- an expression behind a sign that compares
abbrev compared_formed : Spelled × Expr → Bool
compared_formed q = expr_formed q.1

comparison_made_forms : (e : Expr) (o : Option (Spelled × Expr)) → expr_formed (means_as.comparison_made (e, o)) ≡ expr_formed e && option_all compared_formed o
comparison_made_forms e None = sym (and-true (expr_formed e))
comparison_made_forms e (Some q) =
    placed_forms (means_as.start e) (form.Compare e (means_as.comparison_of (class q.0)) q.1) ∙ compare_forms e (means_as.comparison_of (class q.0)) q.1

and_of_forms : (e : Expr) (es : List Expr) → expr_formed (means_as.and_of (e ∷ es)) ≡ list_all expr_formed (e ∷ es)
and_of_forms e [] = sym (and-true (expr_formed e))
and_of_forms e (d ∷ es) = placed_forms (means_as.start e) (form.And (e ∷ d ∷ es)) ∙ and_forms (e ∷ d ∷ es)

or_of_forms : (e : Expr) (es : List Expr) → expr_formed (means_as.or_of (e ∷ es)) ≡ list_all expr_formed (e ∷ es)
or_of_forms e [] = sym (and-true (expr_formed e))
or_of_forms e (d ∷ es) = placed_forms (means_as.start e) (form.Or (e ∷ d ∷ es)) ∙ or_forms (e ∷ d ∷ es)

-- a list that may be missing
list_of_forms : (list : Option (List Member)) → list_all member_formed (list_of list) ≡ option_all (list_all member_formed) list
list_of_forms None = refl
list_of_forms (Some ms) = refl

-- ---- processes and clauses

sequence_of_forms : (p : Process) (ps : List Process) → process_formed (means_as.sequence_of (p ∷ ps)) ≡ list_all process_formed (p ∷ ps)
sequence_of_forms p [] = sym (and-true (process_formed p))
sequence_of_forms p (q ∷ ps) = sequence_forms (p ∷ q ∷ ps)

parallel_of_forms : (p : Process) (ps : List Process) → process_formed (means_as.parallel_of (p ∷ ps)) ≡ list_all process_formed (p ∷ ps)
parallel_of_forms p [] = sym (and-true (process_formed p))
parallel_of_forms p (q ∷ ps) = parallel_forms (p ∷ q ∷ ps)

choice_of_forms : (b : Branch) (bs : List Branch) → process_formed (means_as.choice_of (b ∷ bs)) ≡ list_all branch_formed (b ∷ bs)
choice_of_forms b bs = choice_forms (out-Branch b).at (b ∷ bs)

-- the last of six facts stands apart
last_apart : (p q r s t u : Bool) → p && (q && (r && (s && (t && u)))) ≡ (p && (q && (r && (s && t)))) && u
last_apart false q r s t u = refl
last_apart true false r s t u = refl
last_apart true true false s t u = refl
last_apart true true true false t u = refl
last_apart true true true true t u = refl

for_of_forms : (t : Spelled) (parts : ForParts) (body : Block) → process_formed (means_as.for_of t parts body) ≡ part_formed for_parts parts && block_formed body
for_of_forms t parts body =
    for_forms (place t) parts.path parts.first parts.test parts.stepped parts.step body
    ∙ last_apart (path_formed parts.path) (expr_formed parts.first) (expr_formed parts.test) (path_formed parts.stepped) (for_step_formed parts.step) (block_formed body)

if_of_forms : (t : Spelled) (parts : IfParts) → if_formed (means_as.if_of t parts) ≡ part_formed an_else_if parts
if_of_forms t parts = if_forms (place t) parts.test parts.body parts.otherwise

port_forms : (b : Bool) (p : Port) → clause_formed (if b then clause.InputPort p else clause.OutputPort p) ≡ true
port_forms true p = refl
port_forms false p = refl

-- ---- the productions

module _ (w : (r : Part) → Lang (Meant r)) (h : (r : Part) (ts : List Spelled) (v : Meant r) → w r ts v → part_formed r v ≡ true) where
  in_parens : (r : Part) → Makes w (parens r) (part_formed r)
  in_parens r = between_makes w part_formed h c.sign_open_paren r c.sign_close_paren

  -- a part in parentheses behind a word
  called_makes : {A : Type 0} (ks : List Class) (r : Part) (m : Spelled × Meant r → A) (g : A → Bool) → ((q : Spelled × Meant r) → g (m q) ≡ part_formed r q.1) → Makes w (means m (both (token ks) (parens r))) g
  called_makes ks r m g e = means_makes w (both (token ks) (parens r)) m (λ q. part_formed r q.1) g (second_makes w (token ks) (parens r) (part_formed r) (in_parens r)) e

  -- ---- paths

  index_makes : Makes w index (option_all expr_formed)
  unfolding index
  index_makes =
      optional_makes w (between c.sign_open_bracket an_expression c.sign_close_bracket) expr_formed
      (between_makes w part_formed h c.sign_open_bracket an_expression c.sign_close_bracket)

  step_makes : Makes w step step_formed
  unfolding step
  step_makes =
      behind_makes w c.sign_dot (means (λ q. means_as.step_of q.0 q.1) (both word index)) step_formed
      (means_makes w (both word index) (λ q. means_as.step_of q.0 q.1) (λ q. option_all expr_formed q.1) step_formed
      (second_makes w word index (option_all expr_formed) index_makes) (λ q. step_forms (means_as.name_of q.0) q.1))

  path_parts_make : Makes w path_parts (λ q. option_all expr_formed q.0 && list_all step_formed q.1)
  unfolding path_parts
  path_parts_make = both_makes w index (many step) (option_all expr_formed) (list_all step_formed) index_makes (many_makes w step step_formed step_makes)

  path_makes : Makes w path path_formed
  unfolding path
  path_makes =
      means_makes w (both id path_parts) (λ q. means_as.path_of q.0 q.1) (λ q. option_all expr_formed q.1.0 && list_all step_formed q.1.1) path_formed
      (second_makes w id path_parts (λ q. option_all expr_formed q.0 && list_all step_formed q.1) path_parts_make)
      (λ q. path_made_forms q.0 q.1.0 q.1.1)

  -- ---- operands

  whole_number_makes : Makes w whole_number expr_formed
  unfolding whole_number
  whole_number_makes =
      word_makes w (c.int_number ∷ []) (λ t. means_as.expression (place t) (form.Int (means_as.int_value t))) expr_formed
      (λ t. made_forms (place t) (form.Int (means_as.int_value t)) true (int_forms (means_as.int_value t)))

  long_number_makes : Makes w long_number expr_formed
  unfolding long_number
  long_number_makes =
      word_makes w (c.long_number ∷ []) (λ t. means_as.expression (place t) (form.Long (means_as.long_value t))) expr_formed
      (λ t. made_forms (place t) (form.Long (means_as.long_value t)) true (long_forms (means_as.long_value t)))

  quoted_text_makes : Makes w quoted_text expr_formed
  unfolding quoted_text
  quoted_text_makes =
      word_makes w (c.quoted_text ∷ []) (λ t. means_as.expression (place t) (form.Str (means_as.meant_text t))) expr_formed
      (λ t. made_forms (place t) (form.Str (means_as.meant_text t)) true (text_forms (means_as.meant_text t)))

  truth_makes : Makes w truth expr_formed
  unfolding truth
  truth_makes =
      word_makes w (c.the_true ∷ c.the_false ∷ []) (λ t. means_as.expression (place t) (form.Bool (means_as.is_true t))) expr_formed
      (λ t. made_forms (place t) (form.Bool (means_as.is_true t)) true (truth_forms (means_as.is_true t)))

  path_value_makes : Makes w path_value expr_formed
  unfolding path_value
  path_value_makes =
      means_makes w path made.path_expression path_formed expr_formed path_makes
      (λ p. made_forms (means_as.path_start p) (form.Path p) (path_formed p) (path_form_forms p))

  size_makes : Makes w size expr_formed
  unfolding size
  size_makes =
      means_makes w (both (one c.sign_hash) path) (λ q. means_as.expression (place q.0) (form.Size q.1)) (λ q. path_formed q.1) expr_formed
      (second_makes w (one c.sign_hash) path path_formed path_makes)
      (λ q. made_forms (place q.0) (form.Size q.1) (path_formed q.1) (size_forms q.1))

  defined_test_makes : Makes w defined_test expr_formed
  unfolding defined_test
  defined_test_makes =
      called_makes (c.the_is_defined ∷ []) a_path (λ q. means_as.expression (place q.0) (form.IsDefined q.1)) expr_formed
      (λ q. made_forms (place q.0) (form.IsDefined q.1) (path_formed q.1) (defined_forms q.1))

  cast_makes : Makes w cast expr_formed
  unfolding cast
  cast_makes =
      called_makes (c.the_int ∷ c.the_long ∷ c.the_string ∷ []) an_expression (λ q. means_as.expression (place q.0) (form.Cast (means_as.cast_target (class q.0)) q.1)) expr_formed
      (λ q. made_forms (place q.0) (form.Cast (means_as.cast_target (class q.0)) q.1) (expr_formed q.1) (cast_forms (means_as.cast_target (class q.0)) q.1))

  grouped_makes : Makes w grouped expr_formed
  unfolding grouped
  grouped_makes =
      means_makes w (inside c.sign_open_paren an_expression c.sign_close_paren) (λ q. means_as.begun_at (place q.0) q.1) (λ q. expr_formed q.1) expr_formed
      (inside_makes w part_formed h c.sign_open_paren an_expression c.sign_close_paren)
      (λ q. begun_forms (place q.0) q.1)

  literal_makes : Makes w literal expr_formed
  unfolding literal
  literal_makes =
      means_makes w (inside c.sign_open_brace some_members c.sign_close_brace) (λ q. means_as.expression (place q.0) (form.Literal q.1)) (λ q. list_all member_formed q.1) expr_formed
      (inside_makes w part_formed h c.sign_open_brace some_members c.sign_close_brace)
      (λ q. made_forms (place q.0) (form.Literal q.1) (list_all member_formed q.1) (literal_forms q.1))

  primary_makes : Makes w primary expr_formed
  unfolding primary
  primary_makes ts v d = elim d [
    | inl a ↦ whole_number_makes ts v a
    | inr (inl a) ↦ long_number_makes ts v a
    | inr (inr (inl a)) ↦ quoted_text_makes ts v a
    | inr (inr (inr (inl a))) ↦ truth_makes ts v a
    | inr (inr (inr (inr (inl a)))) ↦ path_value_makes ts v a
    | inr (inr (inr (inr (inr (inl a))))) ↦ size_makes ts v a
    | inr (inr (inr (inr (inr (inr (inl a)))))) ↦ defined_test_makes ts v a
    | inr (inr (inr (inr (inr (inr (inr (inl a))))))) ↦ cast_makes ts v a
    | inr (inr (inr (inr (inr (inr (inr (inr (inl a)))))))) ↦ grouped_makes ts v a
    | inr (inr (inr (inr (inr (inr (inr (inr (inr a)))))))) ↦ literal_makes ts v a
  ]

  -- ---- expressions

  prefixed_operand_makes : Makes w prefixed_operand expr_formed
  unfolding prefixed_operand
  prefixed_operand_makes =
      let minus : Spelled → Bool = λ t. same (class t) c.sign_minus in
      means_makes w (prefix (c.sign_minus ∷ c.sign_not ∷ []) an_operand) means_as.prefixed_of (λ q. expr_formed q.1) expr_formed
      (prefix_makes w part_formed h (c.sign_minus ∷ c.sign_not ∷ []) an_operand)
      (λ q. made_forms (place q.0) (if minus q.0 then form.Minus q.1 else form.Not q.1) (expr_formed q.1) (prefixed_forms (minus q.0) q.1))

  unary_makes : Makes w unary expr_formed
  unfolding unary
  unary_makes = either_makes w prefixed_operand primary expr_formed prefixed_operand_makes primary_makes

  factor_makes : Makes w factor factor_formed
  unfolding factor
  factor_makes =
      let signs : Syn Spelled = token (c.sign_star ∷ c.sign_slash ∷ c.sign_percent ∷ []) in
      means_makes w (both signs unary) means_as.factor_of (λ q. expr_formed q.1) factor_formed
      (second_makes w signs unary expr_formed unary_makes) (λ q. factor_forms (means_as.multiplicative_of (class q.0)) q.1)

  product_makes : Makes w product expr_formed
  unfolding product
  product_makes =
      means_makes w (both unary (many factor)) means_as.product_of (λ q. expr_formed q.0 && list_all factor_formed q.1) expr_formed
      (both_makes w unary (many factor) expr_formed (list_all factor_formed) unary_makes (many_makes w factor factor_formed factor_makes))
      (λ q. product_of_forms q.0 q.1)

  term_makes : Makes w term term_formed
  unfolding term
  term_makes =
      let signs : Syn Spelled = token (c.sign_plus ∷ c.sign_minus ∷ []) in
      means_makes w (both signs product) means_as.term_of (λ q. expr_formed q.1) term_formed
      (second_makes w signs product expr_formed product_makes) (λ q. term_forms (means_as.additive_of (class q.0)) q.1)

  sum_makes : Makes w sum expr_formed
  unfolding sum
  sum_makes =
      means_makes w (both product (many term)) means_as.sum_of (λ q. expr_formed q.0 && list_all term_formed q.1) expr_formed
      (both_makes w product (many term) expr_formed (list_all term_formed) product_makes (many_makes w term term_formed term_makes))
      (λ q. sum_of_forms q.0 q.1)

  comparand_makes : Makes w comparand compared_formed
  unfolding comparand
  comparand_makes =
      second_makes w (token (c.sign_equal ∷ c.sign_not_equal ∷ c.sign_less ∷ c.sign_at_most ∷ c.sign_greater ∷ c.sign_at_least ∷ [])) sum expr_formed sum_makes

  comparison_makes : Makes w comparison expr_formed
  unfolding comparison
  comparison_makes =
      means_makes w (both sum (optional comparand)) means_as.comparison_made (λ q. expr_formed q.0 && option_all compared_formed q.1) expr_formed
      (both_makes w sum (optional comparand) expr_formed (option_all compared_formed) sum_makes (optional_makes w comparand compared_formed comparand_makes))
      (λ q. comparison_made_forms q.0 q.1)

  conjunction_makes : Makes w conjunction expr_formed
  unfolding conjunction
  conjunction_makes =
      means_makes w (separated c.sign_and comparison) means_as.and_of (λ es. expr_formed (means_as.and_of es)) expr_formed
      (separated_makes w c.sign_and comparison expr_formed (λ es. expr_formed (means_as.and_of es)) comparison_makes and_of_forms) (λ es. refl)

  expr_makes : Makes w expr expr_formed
  unfolding expr
  expr_makes =
      means_makes w (separated c.sign_or conjunction) means_as.or_of (λ es. expr_formed (means_as.or_of es)) expr_formed
      (separated_makes w c.sign_or conjunction expr_formed (λ es. expr_formed (means_as.or_of es)) conjunction_makes or_of_forms) (λ es. refl)

  -- an expression behind a sign
  expr_behind : (k : Class) → Makes w (behind k expr) expr_formed
  expr_behind k = behind_makes w k expr expr_formed expr_makes

  member_makes : Makes w member member_formed
  unfolding member
  member_makes =
      let value : Syn Expr = behind c.sign_assign expr in
      means_makes w (both (optional (one c.sign_dot)) (both word value)) _ (λ q. expr_formed q.1.1) member_formed
      (second_makes w (optional (one c.sign_dot)) (both word value) (λ q. expr_formed q.1) (second_makes w word value expr_formed (expr_behind c.sign_assign)))
      (λ q. member_forms (means_as.name_of q.1.0) q.1.1)

  members_make : Makes w members (list_all member_formed)
  unfolding members
  members_make =
      let some : Syn (List Member) = separated c.sign_comma member in
      means_makes w (optional some) list_of (option_all (list_all member_formed)) (list_all member_formed)
      (optional_makes w some (list_all member_formed) (separated_makes w c.sign_comma member member_formed (list_all member_formed) member_makes (λ m ms. refl)))
      list_of_forms

  -- ---- inputs and outputs

  block_makes : Makes w block block_formed
  unfolding block
  block_makes =
      means_makes w (inside c.sign_open_brace a_body c.sign_close_brace) means_as.block_of (λ q. option_all process_formed q.1) block_formed
      (inside_makes w part_formed h c.sign_open_brace a_body c.sign_close_brace) (λ q. block_forms (place q.0) q.1)

  reply_makes : Makes w reply reply_formed
  unfolding reply
  reply_makes =
      means_makes w (both (parens maybe_path) block) made.reply_of (λ q. option_all path_formed q.0 && block_formed q.1) reply_formed
      (both_makes w (parens maybe_path) block (option_all path_formed) block_formed (in_parens maybe_path) block_makes)
      (λ q. reply_forms q.0 q.1)

  input_parts_make : Makes w input_parts (λ q. option_all path_formed q.0 && option_all reply_formed q.1)
  unfolding input_parts
  input_parts_make =
      both_makes w (parens maybe_path) (optional reply) (option_all path_formed) (option_all reply_formed) (in_parens maybe_path) (optional_makes w reply reply_formed reply_makes)

  input_makes : Makes w input input_formed
  unfolding input
  input_makes =
      means_makes w (both id input_parts) (λ q. means_as.input_of q.0 q.1) (λ q. option_all path_formed q.1.0 && option_all reply_formed q.1.1) input_formed
      (second_makes w id input_parts (λ q. option_all path_formed q.0 && option_all reply_formed q.1) input_parts_make)
      (λ q. input_part_forms (means_as.name_of q.0) q.1.0 q.1.1)

  branch_makes : Makes w branch branch_formed
  unfolding branch
  branch_makes =
      let first : Syn (Spelled × Input) = inside c.sign_open_bracket an_input c.sign_close_bracket in
      means_makes w (both first block) means_as.branch_of (λ q. input_formed q.0.1 && block_formed q.1) branch_formed
      (both_makes w first block (λ q. input_formed q.1) block_formed (inside_makes w part_formed h c.sign_open_bracket an_input c.sign_close_bracket) block_makes)
      (λ q. branch_forms (place q.0.0) q.0.1 q.1)

  choice_makes : Makes w choice process_formed
  unfolding choice
  choice_makes =
      means_makes w (some_of branch) means_as.choice_of (λ bs. process_formed (means_as.choice_of bs)) process_formed
      (some_of_makes w branch branch_formed (λ bs. process_formed (means_as.choice_of bs)) branch_makes choice_of_forms) (λ bs. refl)

  answer_makes : Makes w answer answer_formed
  unfolding answer
  answer_makes =
      let some : Syn (List Handler) = between c.sign_open_bracket some_handlers c.sign_close_bracket in
      means_makes w (both (parens maybe_path) (optional some)) made.answer_of
      (λ q. option_all path_formed q.0 && option_all (list_all handler_formed) q.1) answer_formed
      (both_makes w (parens maybe_path) (optional some) (option_all path_formed) (option_all (list_all handler_formed)) (in_parens maybe_path)
      (optional_makes w some (list_all handler_formed) (between_makes w part_formed h c.sign_open_bracket some_handlers c.sign_close_bracket)))
      (λ q. answer_forms q.0 q.1)

  output_parts_make : Makes w output_parts (λ q. option_all expr_formed q.1.0 && option_all answer_formed q.1.1)
  unfolding output_parts
  output_parts_make =
      let rest = both (parens maybe_expression) (optional answer) in
      let f : Option Expr × Option Answer → Bool = λ q. option_all expr_formed q.0 && option_all answer_formed q.1 in
      behind_makes w c.sign_at (both id rest) (λ q. f q.1)
      (second_makes w id rest f
      (both_makes w (parens maybe_expression) (optional answer) (option_all expr_formed) (option_all answer_formed) (in_parens maybe_expression) (optional_makes w answer answer_formed answer_makes)))

  output_makes : Makes w output process_formed
  unfolding output
  output_makes =
      means_makes w (both id output_parts) (λ q. means_as.output_of q.0 q.1) (λ q. option_all expr_formed q.1.1.0 && option_all answer_formed q.1.1.1) process_formed
      (second_makes w id output_parts (λ q. option_all expr_formed q.1.0 && option_all answer_formed q.1.1) output_parts_make)
      (λ q. output_forms (means_as.name_of q.0) (means_as.name_of q.1.0) q.1.1.0 q.1.1.1)

  -- ---- plain statements

  change_makes : Makes w change assignment_formed
  unfolding change count
  change_makes ts v d = elim d [
    | inl a ↦ means_makes w (behind c.sign_assign expr) assignment.Root expr_formed assignment_formed (expr_behind c.sign_assign) (λ e. refl) ts v a
    | inr (inl a) ↦ means_makes w (behind c.sign_deep_assign expr) assignment.Copy expr_formed assignment_formed (expr_behind c.sign_deep_assign) (λ e. refl) ts v a
    | inr (inr a) ↦ word_makes w (c.sign_increment ∷ c.sign_decrement ∷ []) (λ t. assignment.Count (means_as.count_of t)) assignment_formed (λ t. refl) ts v a
  ]

  assign_makes : Makes w assign process_formed
  unfolding assign
  assign_makes =
      means_makes w (both path change) (λ q. process.Assign q.0 q.1) (λ q. path_formed q.0 && assignment_formed q.1) process_formed
      (both_makes w path change path_formed assignment_formed path_makes change_makes) (λ q. assign_forms q.0 q.1)

  undefine_makes : Makes w undefine process_formed
  unfolding undefine
  undefine_makes = called_makes (c.the_undef ∷ []) a_path (λ q. process.Undef (place q.0) q.1) process_formed (λ q. undef_forms (place q.0) q.1)

  correlate_makes : Makes w correlate process_formed
  unfolding correlate
  correlate_makes =
      let name : Syn Spelled = behind c.sign_dot id in
      let value : Syn Expr = behind c.sign_assign expr in
      means_makes w (both (one c.the_csets) (both name value)) (λ q. process.Correlate (place q.0) (means_as.name_of q.1.0) q.1.1) (λ q. expr_formed q.1.1) process_formed
      (second_makes w (one c.the_csets) (both name value) (λ q. expr_formed q.1) (second_makes w name value expr_formed (expr_behind c.sign_assign)))
      (λ q. correlate_forms (place q.0) (means_as.name_of q.1.0) q.1.1)

  install_makes : Makes w install process_formed
  unfolding install
  install_makes = called_makes (c.the_install ∷ []) some_handlers (λ q. process.Install (place q.0) q.1) process_formed (λ q. install_forms (place q.0) q.1)

  throw_makes : Makes w throw process_formed
  unfolding throw
  throw_makes = called_makes (c.the_throw ∷ []) throw_parts (λ q. process.Throw (place q.0) q.1.0 q.1.1) process_formed (λ q. throw_forms (place q.0) q.1.0 q.1.1)

  compensate_makes : Makes w compensate process_formed
  unfolding compensate
  compensate_makes = called_makes (c.the_comp ∷ []) a_name (λ q. process.Compensate (place q.0) q.1) process_formed (λ q. compensate_forms (place q.0) q.1)

  inner_handler_makes : Makes w inner_handler process_formed
  unfolding inner_handler
  inner_handler_makes = word_makes w (c.the_inner_handler ∷ []) (λ t. process.InnerHandler (place t)) process_formed (λ t. inner_handler_forms (place t))

  nothing_makes : Makes w nothing process_formed
  unfolding nothing
  nothing_makes = word_makes w (c.the_null_process ∷ []) (λ t. process.Nothing (place t)) process_formed (λ t. nothing_forms (place t))

  block_statement_makes : Makes w block_statement process_formed
  unfolding block_statement
  block_statement_makes = means_makes w block process.Block block_formed process_formed block_makes block_statement_forms

  -- ---- loops and scopes

  -- a block behind a word and what stands in parentheses
  headed_makes : (k : Class) (r : Part) (m : Spelled × (Meant r × Block) → Process)
      → ((q : Spelled × (Meant r × Block)) → process_formed (m q) ≡ part_formed r q.1.0 && block_formed q.1.1)
      → Makes w (means m (both (one k) (both (parens r) block))) process_formed
  headed_makes k r m e =
      means_makes w (both (one k) (both (parens r) block)) m (λ q. part_formed r q.1.0 && block_formed q.1.1) process_formed
      (second_makes w (one k) (both (parens r) block) (λ q. part_formed r q.0 && block_formed q.1)
      (both_makes w (parens r) block (part_formed r) block_formed (in_parens r) block_makes))
      e

  repetition_makes : Makes w repetition process_formed
  unfolding repetition
  repetition_makes = headed_makes c.the_while an_expression (λ q. process.While (place q.0) q.1.0 q.1.1) (λ q. while_forms (place q.0) q.1.0 q.1.1)

  counted_loop_makes : Makes w counted_loop process_formed
  unfolding counted_loop
  counted_loop_makes = headed_makes c.the_for for_parts (λ q. means_as.for_of q.0 q.1.0 q.1.1) (λ q. for_of_forms q.0 q.1.0 q.1.1)

  scope_makes : Makes w scope process_formed
  unfolding scope
  scope_makes = headed_makes c.the_scope a_name (λ q. process.Scope (place q.0) q.1.0 q.1.1) (λ q. scope_forms (place q.0) q.1.0 q.1.1)

  last_change_makes : Makes w last_change for_step_formed
  unfolding last_change count
  last_change_makes ts v d = elim d [
    | inl a ↦ word_makes w (c.sign_increment ∷ c.sign_decrement ∷ []) (λ t. for_step.Count (means_as.count_of t)) for_step_formed (λ t. refl) ts v a
    | inr a ↦ means_makes w (behind c.sign_assign expr) for_step.Root expr_formed for_step_formed (expr_behind c.sign_assign) (λ e. refl) ts v a
  ]

  loop_parts_make : Makes w loop_parts (part_formed for_parts)
  unfolding loop_parts
  loop_parts_make =
      let stepped : Syn Path = behind c.sign_comma path in
      let test : Syn Expr = behind c.sign_comma expr in
      let first : Syn Expr = behind c.sign_assign expr in
      means_makes w (both path (both first (both test (both stepped last_change)))) _
      (λ q. path_formed q.0 && (expr_formed q.1.0 && (expr_formed q.1.1.0 && (path_formed q.1.1.1.0 && for_step_formed q.1.1.1.1)))) (part_formed for_parts)
      (both_makes w path (both first (both test (both stepped last_change))) path_formed
      (λ q. expr_formed q.0 && (expr_formed q.1.0 && (path_formed q.1.1.0 && for_step_formed q.1.1.1))) path_makes
      (both_makes w first (both test (both stepped last_change)) expr_formed (λ q. expr_formed q.0 && (path_formed q.1.0 && for_step_formed q.1.1)) (expr_behind c.sign_assign)
      (both_makes w test (both stepped last_change) expr_formed (λ q. path_formed q.0 && for_step_formed q.1) (expr_behind c.sign_comma)
      (both_makes w stepped last_change path_formed for_step_formed (behind_makes w c.sign_comma path path_formed path_makes) last_change_makes))))
      (λ q. refl)

  -- ---- `if`

  if_parts_make : (rest : Syn Otherwise) → Makes w rest otherwise_formed → Makes w (if_parts rest) (part_formed an_else_if)
  if_parts_make rest g =
      means_makes w (both (parens an_expression) (both block rest)) (λ q. record { test = q.0; body = q.1.0; otherwise = q.1.1 })
      (λ q. expr_formed q.0 && (block_formed q.1.0 && otherwise_formed q.1.1)) (part_formed an_else_if)
      (both_makes w (parens an_expression) (both block rest) expr_formed (λ q. block_formed q.0 && otherwise_formed q.1) (in_parens an_expression)
      (both_makes w block rest block_formed otherwise_formed block_makes g))
      (λ q. refl)

  conditional_makes : (rest : Syn Otherwise) → Makes w rest otherwise_formed → Makes w (conditional rest) process_formed
  conditional_makes rest g =
      means_makes w (both (one c.the_if) (if_parts rest)) (λ q. process.If (means_as.if_of q.0 q.1)) (λ q. part_formed an_else_if q.1) process_formed
      (second_makes w (one c.the_if) (if_parts rest) (part_formed an_else_if) (if_parts_make rest g))
      (λ q. conditional_forms (means_as.if_of q.0 q.1) ∙ if_of_forms q.0 q.1)

  else_if_makes : Makes w (means (λ q. otherwise.ElseIf (means_as.if_of q.0 q.1)) (behind c.the_else (prefix (c.the_if ∷ []) an_else_if))) otherwise_formed
  else_if_makes =
      let p : Syn (Spelled × IfParts) = prefix (c.the_if ∷ []) an_else_if in
      means_makes w (behind c.the_else p) (λ q. otherwise.ElseIf (means_as.if_of q.0 q.1)) (λ q. part_formed an_else_if q.1) otherwise_formed
      (behind_makes w c.the_else p (λ q. part_formed an_else_if q.1) (prefix_makes w part_formed h (c.the_if ∷ []) an_else_if))
      (λ q. else_if_forms (means_as.if_of q.0 q.1) ∙ if_of_forms q.0 q.1)

  else_parts_make : Makes w else_parts otherwise_formed
  unfolding else_parts
  else_parts_make ts v d = elim d [
    | inl a ↦ else_if_makes ts v a
    | inr (inl a) ↦ means_makes w (behind c.the_else block) otherwise.Else block_formed otherwise_formed (behind_makes w c.the_else block block_formed block_makes) else_forms ts v a
    | inr (inr a) ↦ give_makes w otherwise.Nothing otherwise_formed no_else_forms ts v a
  ]

  -- ---- statements, sequences and parallels

  marked_makes : (rest : Syn Otherwise) → Makes w rest otherwise_formed → Makes w (marked_statement rest) process_formed
  marked_makes rest g ts v d = elim d [
    | inl a ↦ undefine_makes ts v a
    | inr (inl a) ↦ correlate_makes ts v a
    | inr (inr (inl a)) ↦ conditional_makes rest g ts v a
    | inr (inr (inr (inl a))) ↦ repetition_makes ts v a
    | inr (inr (inr (inr (inl a)))) ↦ counted_loop_makes ts v a
    | inr (inr (inr (inr (inr (inl a))))) ↦ choice_makes ts v a
    | inr (inr (inr (inr (inr (inr (inl a)))))) ↦ scope_makes ts v a
    | inr (inr (inr (inr (inr (inr (inr (inl a))))))) ↦ install_makes ts v a
    | inr (inr (inr (inr (inr (inr (inr (inr (inl a)))))))) ↦ throw_makes ts v a
    | inr (inr (inr (inr (inr (inr (inr (inr (inr (inl a))))))))) ↦ compensate_makes ts v a
    | inr (inr (inr (inr (inr (inr (inr (inr (inr (inr (inl a)))))))))) ↦ inner_handler_makes ts v a
    | inr (inr (inr (inr (inr (inr (inr (inr (inr (inr (inr a)))))))))) ↦ block_statement_makes ts v a
  ]

  statement_makes : Makes w statement process_formed
  unfolding statement
  statement_makes ts v d = elim d [
    | inl a ↦ nothing_makes ts v a
    | inr (inl a) ↦ means_makes w input process.Input input_formed process_formed input_makes input_forms ts v a
    | inr (inr (inl a)) ↦ output_makes ts v a
    | inr (inr (inr (inl a))) ↦ assign_makes ts v a
    | inr (inr (inr (inr a))) ↦ marked_makes else_parts else_parts_make ts v a
  ]

  sequence_makes : (s : Syn Process) → Makes w s process_formed → Makes w (in_sequence s) process_formed
  sequence_makes s g =
      means_makes w (separated c.sign_semicolon s) means_as.sequence_of (λ ps. process_formed (means_as.sequence_of ps)) process_formed
      (separated_makes w c.sign_semicolon s process_formed (λ ps. process_formed (means_as.sequence_of ps)) g sequence_of_forms) (λ ps. refl)

  parallel_makes : (s : Syn Process) → Makes w s process_formed → Makes w (in_parallel s) process_formed
  parallel_makes s g =
      means_makes w (separated c.sign_bar (in_sequence s)) means_as.parallel_of (λ ps. process_formed (means_as.parallel_of ps)) process_formed
      (separated_makes w c.sign_bar (in_sequence s) process_formed (λ ps. process_formed (means_as.parallel_of ps)) (sequence_makes s g) parallel_of_forms) (λ ps. refl)

  handler_makes : (s : Syn Process) → Makes w s process_formed → Makes w (handler s) handler_formed
  handler_makes s g =
      let body : Syn Process = behind c.sign_arrow (in_parallel s) in
      means_makes w (both handler_key body) means_as.handler_of (λ q. process_formed q.1) handler_formed
      (second_makes w handler_key body process_formed (behind_makes w c.sign_arrow (in_parallel s) process_formed (parallel_makes s g)))
      (λ q. handler_forms q.0 q.1)

  handlers_make : (s : Syn Process) → Makes w s process_formed → Makes w (handlers s) (list_all handler_formed)
  handlers_make s g = separated_makes w c.sign_comma (handler s) handler_formed (list_all handler_formed) (handler_makes s g) (λ v vs. refl)

  thrown_makes : Makes w thrown (part_formed throw_parts)
  unfolding thrown
  thrown_makes =
      let value : Syn Expr = behind c.sign_comma expr in
      means_makes w (both id (optional value)) (λ q. (means_as.name_of q.0, q.1)) (λ q. option_all expr_formed q.1) (part_formed throw_parts)
      (second_makes w id (optional value) (option_all expr_formed) (optional_makes w value expr_formed (expr_behind c.sign_comma)))
      (λ q. refl)

  -- ---- services and files

  -- a meaning of which nothing is asked
  plain_makes : {A B : Type 0} (s : Syn A) (m : A → B) (g : B → Bool) → ((a : A) → g (m a) ≡ true) → Makes w (means m s) g
  plain_makes s m g e = means_makes w s m (λ _. true) g (any_makes w s) e

  execution_makes : Makes w execution_clause clause_formed
  unfolding execution_clause
  execution_makes =
      plain_makes (both (ended (one c.the_execution) c.sign_colon) (token (c.the_concurrent ∷ c.the_single ∷ [])))
      (λ q. clause.Execution (place q.0) (means_as.execution_of q.1)) clause_formed (λ q. refl)

  port_makes : Makes w port clause_formed
  unfolding port
  port_makes =
      plain_makes (both (token (c.the_input_port ∷ c.the_output_port ∷ [])) (both id (braces port_parts)))
      (λ q. means_as.port_clause q.0 (means_as.port_of q.0 q.1.0 q.1.1)) clause_formed
      (λ q. port_forms (same (class q.0) c.the_input_port) (means_as.port_of q.0 q.1.0 q.1.1))

  correlation_makes : Makes w correlation_set clause_formed
  unfolding correlation_set
  correlation_makes = plain_makes (both (one c.the_cset) (braces some_variables)) (λ q. clause.CorrelationSet (place q.0) q.1) clause_formed (λ q. refl)

  init_makes : Makes w init_clause clause_formed
  unfolding init_clause
  init_makes =
      means_makes w (both (one c.the_init) block) (λ q. clause.Init (place q.0) q.1) (λ q. block_formed q.1) clause_formed
      (second_makes w (one c.the_init) block block_formed block_makes) (λ q. refl)

  main_makes : Makes w main_clause clause_formed
  unfolding main_clause
  main_makes =
      means_makes w (both (one c.the_main) block) (λ q. clause.Main (place q.0) q.1) (λ q. block_formed q.1) clause_formed
      (second_makes w (one c.the_main) block block_formed block_makes) (λ q. refl)

  clauses_make : Makes w clauses clause_formed
  unfolding clauses
  clauses_make ts v d = elim d [
    | inl a ↦ execution_makes ts v a
    | inr (inl a) ↦ port_makes ts v a
    | inr (inr (inl a)) ↦ correlation_makes ts v a
    | inr (inr (inr (inl a))) ↦ init_makes ts v a
    | inr (inr (inr (inr a))) ↦ main_makes ts v a
  ]

  service_makes : Makes w service (λ s. list_all clause_formed s.clauses)
  unfolding service
  service_makes =
      let inner : Syn (List Clause) = braces some_clauses in
      means_makes w (both (one c.the_service) (both id inner)) (λ q. means_as.service_of q.0 q.1.0 q.1.1) (λ q. list_all clause_formed q.1.1) (λ s. list_all clause_formed s.clauses)
      (second_makes w (one c.the_service) (both id inner) (λ q. list_all clause_formed q.1)
      (second_makes w id inner (list_all clause_formed) (between_makes w part_formed h c.sign_open_brace some_clauses c.sign_close_brace)))
      (λ q. refl)

  file_part_makes : Makes w file_part definition_formed
  unfolding file_part
  file_part_makes ts v d = elim d [
    | inl a ↦ plain_makes type_definition definition.Type definition_formed (λ t. refl) ts v a
    | inr (inl a) ↦ plain_makes interface definition.Interface definition_formed (λ i. refl) ts v a
    | inr (inr a) ↦ means_makes w service definition.Service (λ s. list_all clause_formed s.clauses) definition_formed service_makes (λ s. refl) ts v a
  ]

  pub file_makes : Makes w file is_formed
  unfolding file
  file_makes = many_makes w file_part definition_formed file_part_makes

  -- ---- what stands a level further in

  pub part_makes : (r : Part) → Makes w (production r) (part_formed r)
  part_makes an_expression = expr_makes
  part_makes an_operand = unary_makes
  part_makes a_path = path_makes
  part_makes maybe_path = optional_makes w path path_formed path_makes
  part_makes maybe_expression = optional_makes w expr expr_formed expr_makes
  part_makes a_body = optional_makes w (in_parallel statement) process_formed (parallel_makes statement statement_makes)
  part_makes some_handlers = handlers_make statement statement_makes
  part_makes an_input = input_makes
  part_makes an_else_if = if_parts_make else_parts else_parts_make
  part_makes for_parts = loop_parts_make
  part_makes throw_parts = thrown_makes
  part_makes some_members = members_make
  part_makes some_clauses = many_makes w clauses clause_formed clauses_make
  part_makes a_name = any_makes w (production a_name)
  part_makes a_type_name = any_makes w (production a_type_name)
  part_makes some_bounds = any_makes w (production some_bounds)
  part_makes some_fields = any_makes w (production some_fields)
  part_makes some_operations = any_makes w (production some_operations)
  part_makes port_parts = any_makes w (production port_parts)
  part_makes some_variables = any_makes w (production some_variables)

-- ---- files

allowed_formed : (n : ℕ) (r : Part) (ts : List Spelled) (v : Meant r) → Allowed n r ts v → part_formed r v ≡ true
allowed_formed zero r ts v d = absurd d
allowed_formed (suc n) r ts v d = part_makes (Allowed n) (allowed_formed n) r ts v d

-- a file is formed
pub file_formed : (n : ℕ) (ts : List Spelled) (f : List Definition) → IsFile n ts f → is_formed f ≡ true
file_formed n ts f d = file_makes (Allowed n) (allowed_formed n) ts f d
