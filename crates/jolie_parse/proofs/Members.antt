-- The parallels of a file have no more members in all than the file has tokens.
use Rattle.std.proofs.Common.{◌≡◌, ℕ, zero, suc, ◌+◌, ◌≤◌, inl, inr, Bool, true, false, if◌then◌else◌, List, [], ◌∷◌, length, arith, sum_by, Option}
use Rattle.std.specs.Prelude.{option_map}
use Rattle.std.proofs.lemmas.List.Sums.{sum_by-cons, sum_by-le-sum_by}
use Rattle.jolie_ast.specs.declared.process.Process.{Process}
use Rattle.jolie_ast.specs.declared.process.Process.TheVariants as process
use Rattle.jolie_ast.specs.declared.process.Otherwise.{Otherwise}
use Rattle.jolie_ast.specs.declared.process.Otherwise.TheVariants as otherwise
use Rattle.jolie_ast.specs.declared.process.Block.{Block}
use Rattle.jolie_ast.specs.declared.process.Branch.{Branch, out-Branch}
use Rattle.jolie_ast.specs.declared.process.Handler.{Handler}
use Rattle.jolie_ast.specs.declared.service.Port.{Port}
use Rattle.jolie_ast.specs.declared.service.Clause.{Clause}
use Rattle.jolie_ast.specs.declared.service.Clause.TheVariants as clause
use Rattle.jolie_ast.specs.declared.tree.Definition.{Definition}
use Rattle.jolie_ast.specs.declared.tree.Definition.TheVariants as definition
use Rattle.jolie_ast.specs.Members.{optional_count, process_members, block_members, if_members, otherwise_members, input_members, reply_members, branch_members, answer_members, handler_members, clause_members, definition_members, parallel_members}
use Rattle.jolie_ast.proofs.Members.{nothing_counts, assign_counts, undef_counts, correlate_counts, conditional_counts, while_counts, for_counts, input_counts, choice_counts, output_counts, scope_counts, install_counts, throw_counts, compensate_counts, inner_handler_counts, block_statement_counts, sequence_counts, parallel_counts, no_else_counts, else_if_counts, else_counts, block_counts, if_counts, input_part_counts, reply_counts, branch_counts, answer_counts, handler_counts}
use Rattle.jolie_parse.specs.declared.class.Class.{Class}
use Rattle.jolie_parse.specs.ClassNames as c
use Rattle.jolie_parse.specs.Classes.{Spelled, class, place, same, ids}
use Rattle.jolie_parse.specs.Made as made
use Rattle.jolie_parse.specs.Meanings as means_as
use Rattle.jolie_parse.specs.declared.process.IfParts.{IfParts}
use Rattle.jolie_parse.specs.Syntax.{Part, an_expression, an_operand, a_path, maybe_path, maybe_expression, a_body, some_handlers, a_name, an_input, an_else_if, for_parts, throw_parts, some_members, a_type_name, some_bounds, some_fields, some_operations, port_parts, some_variables, some_clauses, Meant, Syn, token, give, both, either, means, inside, prefix, Lang, behind, separated, some_of, optional, between, ended}
use Rattle.jolie_parse.specs.Grammar.{one, parens, braces, id, path, path_parts, expr, block, reply, input_parts, input, branch, choice, answer, output_parts, output, change, assign, correlate, else_parts, if_parts, undefine, conditional, repetition, counted_loop, scope, install, throw, compensate, inner_handler, block_statement, marked_statement, nothing, statement, in_sequence, in_parallel, handler_key, handler, handlers, execution_clause, port, correlation_set, init_clause, main_clause, clauses, service, type_definition, interface, file_part, file, production, Allowed, IsFile}
use Rattle.jolie_parse.proofs.Weights.{Weighs, nothing_weighs, less_weighs, token_weighs, give_weighs, both_weighs, either_weighs, many_weighs, means_weighs, led_weighs, behind_weighs, separated_weighs, some_of_weighs, optional_weighs, inside_weighs, between_weighs, prefix_weighs}

-- how many members the parallels have in what stands a level further in
abbrev pub part_members : (r : Part) → Meant r → ℕ
part_members a_body v = optional_count (option_map process_members v)
part_members some_handlers v = sum_by handler_members v
part_members an_input v = input_members v
part_members an_else_if v = block_members v.body + otherwise_members v.otherwise
part_members some_clauses v = sum_by clause_members v
part_members an_expression v = 0
part_members an_operand v = 0
part_members a_path v = 0
part_members maybe_path v = 0
part_members maybe_expression v = 0
part_members a_name v = 0
part_members for_parts v = 0
part_members throw_parts v = 0
part_members some_members v = 0
part_members a_type_name v = 0
part_members some_bounds v = 0
part_members some_fields v = 0
part_members some_operations v = 0
part_members port_parts v = 0
part_members some_variables v = 0

-- a statement has a token more than that, so that each member of a parallel has one of its own
abbrev pub statement_weight : Process → ℕ
statement_weight p = process_members p + 1

-- ---- lists

-- a further item of a list weighs no less for the token before it
with_tokens : {A : Type 0} (m : A → ℕ) (v : A) (vs : List A) → sum_by m (v ∷ vs) ≤ m v + sum_by (λ z. m z + 1) vs
with_tokens m v vs = omega (arith, sum_by-cons m v vs, sum_by-le-sum_by m (λ z. m z + 1) vs (λ z. omega arith))

-- one of these weighs a token more in all
with_token : {A : Type 0} (m : A → ℕ) (v : A) (vs : List A) → sum_by m (v ∷ vs) + 1 ≤ (m v + 1) + sum_by (λ z. m z + 1) vs
with_token m v vs = omega (arith, with_tokens m v vs)

-- two tokens for each
two_for_each : {A : Type 0} (m : A → ℕ) (vs : List A) → sum_by (λ z. m z + 1 + 1) vs ≡ sum_by m vs + (length vs + length vs)
two_for_each m [] = omega arith
two_for_each m (v ∷ vs) = omega (arith, two_for_each m vs, sum_by-cons m v vs, sum_by-cons (λ z. m z + 1 + 1) v vs)

sequence_weight : (p : Process) (ps : List Process) → statement_weight (means_as.sequence_of (p ∷ ps)) ≤ statement_weight p + sum_by (λ z. statement_weight z + 1) ps
sequence_weight p [] = omega arith
sequence_weight p (q ∷ ps) =
    omega (arith, sequence_counts (p ∷ q ∷ ps), sum_by-cons process_members p (q ∷ ps), two_for_each process_members (q ∷ ps))

parallel_weight : (p : Process) (ps : List Process) → statement_weight (means_as.parallel_of (p ∷ ps)) ≤ statement_weight p + sum_by (λ z. statement_weight z + 1) ps
parallel_weight p [] = omega arith
parallel_weight p (q ∷ ps) =
    omega (arith, parallel_counts (p ∷ q ∷ ps), sum_by-cons process_members p (q ∷ ps), two_for_each process_members (q ∷ ps))

choice_weight : (bs : List Branch) → process_members (means_as.choice_of bs) ≡ sum_by branch_members bs
choice_weight [] = choice_counts 0 []
choice_weight (b ∷ bs) = choice_counts (out-Branch b).at (b ∷ bs)

port_weight : (b : Bool) (p : Port) → clause_members (if b then clause.InputPort p else clause.OutputPort p) ≤ 0
port_weight true p = omega arith
port_weight false p = omega arith

-- ---- the productions

module _ (w : (r : Part) → Lang (Meant r)) (h : (r : Part) (ts : List Spelled) (v : Meant r) → w r ts v → part_members r v ≤ length ts) where
  block_weighs : Weighs w block (λ b. block_members b + 1)
  unfolding block
  block_weighs =
      means_weighs w (inside c.sign_open_brace a_body c.sign_close_brace) means_as.block_of (λ q. part_members a_body q.1 + 2) (λ b. block_members b + 1)
      (inside_weighs w part_members h c.sign_open_brace a_body c.sign_close_brace)
      (λ q. omega (arith, block_counts (place q.0) q.1))

  reply_weighs : Weighs w reply reply_members
  unfolding reply
  reply_weighs =
      means_weighs w (both (parens maybe_path) block) made.reply_of (λ q. 0 + (block_members q.1 + 1)) reply_members
      (both_weighs w (parens maybe_path) block (λ _. 0) (λ b. block_members b + 1) (nothing_weighs w (parens maybe_path)) block_weighs)
      (λ q. omega (arith, reply_counts q.0 q.1))

  input_parts_weigh : Weighs w input_parts (λ q. 0 + optional_count (option_map reply_members q.1))
  unfolding input_parts
  input_parts_weigh =
      both_weighs w (parens maybe_path) (optional reply) (λ _. 0) (λ v. optional_count (option_map reply_members v))
      (nothing_weighs w (parens maybe_path)) (optional_weighs w reply reply_members reply_weighs)

  input_weighs : Weighs w input (λ i. input_members i + 1)
  unfolding input id
  input_weighs =
      means_weighs w (both id input_parts) (λ q. means_as.input_of q.0 q.1) (λ q. (0 + optional_count (option_map reply_members q.1.1)) + 1) (λ i. input_members i + 1)
      (led_weighs w ids input_parts (λ q. 0 + optional_count (option_map reply_members q.1)) input_parts_weigh)
      (λ q. omega (arith, input_part_counts (means_as.name_of q.0) q.1.0 q.1.1))

  branch_weighs : Weighs w branch (λ b. branch_members b + 1)
  unfolding branch
  branch_weighs =
      means_weighs w (both (inside c.sign_open_bracket an_input c.sign_close_bracket) block) means_as.branch_of
      (λ q. (input_members q.0.1 + 2) + (block_members q.1 + 1)) (λ b. branch_members b + 1)
      (both_weighs w (inside c.sign_open_bracket an_input c.sign_close_bracket) block (λ q. input_members q.1 + 2) (λ b. block_members b + 1)
      (inside_weighs w part_members h c.sign_open_bracket an_input c.sign_close_bracket) block_weighs)
      (λ q. omega (arith, branch_counts (place q.0.0) q.0.1 q.1))

  choice_weighs : Weighs w choice statement_weight
  unfolding choice
  choice_weighs =
      means_weighs w (some_of branch) means_as.choice_of (λ bs. sum_by branch_members bs + 1) statement_weight
      (some_of_weighs w branch (λ b. branch_members b + 1) (λ bs. sum_by branch_members bs + 1) branch_weighs (with_token branch_members))
      (λ bs. omega (arith, choice_weight bs))

  answer_weighs : Weighs w answer answer_members
  unfolding answer
  answer_weighs =
      let some : Syn (List Handler) = between c.sign_open_bracket some_handlers c.sign_close_bracket in
      means_weighs w (both (parens maybe_path) (optional some)) made.answer_of
      (λ q. 0 + optional_count (option_map (sum_by handler_members) q.1)) answer_members
      (both_weighs w (parens maybe_path) (optional some) (λ _. 0) (λ v. optional_count (option_map (sum_by handler_members) v))
      (nothing_weighs w (parens maybe_path))
      (optional_weighs w some (sum_by handler_members) (between_weighs w part_members h c.sign_open_bracket some_handlers c.sign_close_bracket)))
      (λ q. omega (arith, answer_counts q.0 q.1))

  output_parts_weigh : Weighs w output_parts (λ q. optional_count (option_map answer_members q.1.1))
  unfolding output_parts id
  output_parts_weigh =
      let rest = both (parens maybe_expression) (optional answer) in
      let m : Option _ → ℕ = λ v. optional_count (option_map answer_members v) in
      less_weighs w output_parts (λ q. ((0 + m q.1.1) + 1) + 1) (λ q. m q.1.1)
      (behind_weighs w c.sign_at (both id rest) (λ q. (0 + m q.1.1) + 1)
      (led_weighs w ids rest (λ q. 0 + m q.1)
      (both_weighs w (parens maybe_expression) (optional answer) (λ _. 0) m (nothing_weighs w (parens maybe_expression)) (optional_weighs w answer answer_members answer_weighs))))
      (λ q. omega arith)

  output_weighs : Weighs w output statement_weight
  unfolding output id
  output_weighs =
      means_weighs w (both id output_parts) (λ q. means_as.output_of q.0 q.1) (λ q. optional_count (option_map answer_members q.1.1.1) + 1) statement_weight
      (led_weighs w ids output_parts (λ q. optional_count (option_map answer_members q.1.1)) output_parts_weigh)
      (λ q. omega (arith, output_counts (means_as.name_of q.0) (means_as.name_of q.1.0) q.1.1.0 q.1.1.1))

  -- a statement of which no part has a parallel and that begins with a token
  plain_weighs : {A : Type 0} (ks : List Class) (s : Syn A) (f : Spelled × A → Process) → ((q : Spelled × A) → process_members (f q) ≡ 0) → Weighs w (means f (both (token ks) s)) statement_weight
  plain_weighs ks s f none =
      means_weighs w (both (token ks) s) f (λ q. 0 + 1) statement_weight (led_weighs w ks s (λ _. 0) (nothing_weighs w s)) (λ q. omega (arith, none q))

  -- one token that is a statement
  word_weighs : (ks : List Class) (f : Spelled → Process) → ((t : Spelled) → process_members (f t) ≡ 0) → Weighs w (means f (token ks)) statement_weight
  word_weighs ks f none = means_weighs w (token ks) f (λ _. 1) statement_weight (token_weighs w ks) (λ t. omega (arith, none t))

  path_weighs : Weighs w path (λ _. 1)
  unfolding path id
  path_weighs =
      means_weighs w (both id path_parts) (λ q. means_as.path_of q.0 q.1) (λ q. 0 + 1) (λ _. 1)
      (led_weighs w ids path_parts (λ _. 0) (nothing_weighs w path_parts)) (λ q. omega arith)

  assign_weighs : Weighs w assign statement_weight
  unfolding assign
  assign_weighs =
      means_weighs w (both path change) (λ q. process.Assign q.0 q.1) (λ q. 1 + 0) statement_weight
      (both_weighs w path change (λ _. 1) (λ _. 0) path_weighs (nothing_weighs w change))
      (λ q. omega (arith, assign_counts q.0 q.1))

  undefine_weighs : Weighs w undefine statement_weight
  unfolding undefine
  undefine_weighs = plain_weighs (c.the_undef ∷ []) (parens a_path) (λ q. process.Undef (place q.0) q.1) (λ q. undef_counts (place q.0) q.1)

  correlate_weighs : Weighs w correlate statement_weight
  unfolding correlate
  correlate_weighs =
      plain_weighs (c.the_csets ∷ []) (both (behind c.sign_dot id) (behind c.sign_assign expr))
      (λ q. process.Correlate (place q.0) (means_as.name_of q.1.0) q.1.1)
      (λ q. correlate_counts (place q.0) (means_as.name_of q.1.0) q.1.1)

  throw_weighs : Weighs w throw statement_weight
  unfolding throw
  throw_weighs = plain_weighs (c.the_throw ∷ []) (parens throw_parts) (λ q. process.Throw (place q.0) q.1.0 q.1.1) (λ q. throw_counts (place q.0) q.1.0 q.1.1)

  compensate_weighs : Weighs w compensate statement_weight
  unfolding compensate
  compensate_weighs = plain_weighs (c.the_comp ∷ []) (parens a_name) (λ q. process.Compensate (place q.0) q.1) (λ q. compensate_counts (place q.0) q.1)

  inner_handler_weighs : Weighs w inner_handler statement_weight
  unfolding inner_handler
  inner_handler_weighs = word_weighs (c.the_inner_handler ∷ []) (λ t. process.InnerHandler (place t)) (λ t. inner_handler_counts (place t))

  nothing_statement_weighs : Weighs w nothing statement_weight
  unfolding nothing
  nothing_statement_weighs = word_weighs (c.the_null_process ∷ []) (λ t. process.Nothing (place t)) (λ t. nothing_counts (place t))

  block_statement_weighs : Weighs w block_statement statement_weight
  unfolding block_statement
  block_statement_weighs = means_weighs w block process.Block (λ b. block_members b + 1) statement_weight block_weighs (λ b. omega (arith, block_statement_counts b))

  install_weighs : Weighs w install statement_weight
  unfolding install
  install_weighs =
      means_weighs w (both (one c.the_install) (parens some_handlers)) (λ q. process.Install (place q.0) q.1) (λ q. sum_by handler_members q.1 + 1) statement_weight
      (led_weighs w (c.the_install ∷ []) (parens some_handlers) (sum_by handler_members) (between_weighs w part_members h c.sign_open_paren some_handlers c.sign_close_paren))
      (λ q. omega (arith, install_counts (place q.0) q.1))

  -- a block behind a word and what stands in parentheses
  headed_weighs : (k : Class) (r : Part) (f : Spelled × (Meant r × Block) → Process) → ((q : Spelled × (Meant r × Block)) → process_members (f q) ≡ block_members q.1.1)
      → Weighs w (means f (both (one k) (both (parens r) block))) statement_weight
  headed_weighs k r f counts =
      means_weighs w (both (one k) (both (parens r) block)) f (λ q. (0 + (block_members q.1.1 + 1)) + 1) statement_weight
      (led_weighs w (k ∷ []) (both (parens r) block) (λ q. 0 + (block_members q.1 + 1))
      (both_weighs w (parens r) block (λ _. 0) (λ b. block_members b + 1) (nothing_weighs w (parens r)) block_weighs))
      (λ q. omega (arith, counts q))

  repetition_weighs : Weighs w repetition statement_weight
  unfolding repetition
  repetition_weighs = headed_weighs c.the_while an_expression (λ q. process.While (place q.0) q.1.0 q.1.1) (λ q. while_counts (place q.0) q.1.0 q.1.1)

  counted_loop_weighs : Weighs w counted_loop statement_weight
  unfolding counted_loop
  counted_loop_weighs =
      headed_weighs c.the_for for_parts (λ q. means_as.for_of q.0 q.1.0 q.1.1)
      (λ q. for_counts (place q.0) q.1.0.path q.1.0.first q.1.0.test q.1.0.stepped q.1.0.step q.1.1)

  scope_weighs : Weighs w scope statement_weight
  unfolding scope
  scope_weighs = headed_weighs c.the_scope a_name (λ q. process.Scope (place q.0) q.1.0 q.1.1) (λ q. scope_counts (place q.0) q.1.0 q.1.1)

  -- ---- `if`

  if_weight : (t : Spelled) (parts : IfParts) → if_members (means_as.if_of t parts) ≡ block_members parts.body + otherwise_members parts.otherwise
  if_weight t parts = if_counts (place t) parts.test parts.body parts.otherwise

  if_parts_weigh : (rest : Syn Otherwise) → Weighs w rest otherwise_members → Weighs w (if_parts rest) (λ p. block_members p.body + otherwise_members p.otherwise)
  if_parts_weigh rest g =
      means_weighs w (both (parens an_expression) (both block rest)) (λ q. record { test = q.0; body = q.1.0; otherwise = q.1.1 })
      (λ q. 0 + ((block_members q.1.0 + 1) + otherwise_members q.1.1)) (λ p. block_members p.body + otherwise_members p.otherwise)
      (both_weighs w (parens an_expression) (both block rest) (λ _. 0) (λ q. (block_members q.0 + 1) + otherwise_members q.1) (nothing_weighs w (parens an_expression))
      (both_weighs w block rest (λ b. block_members b + 1) otherwise_members block_weighs g))
      (λ q. omega arith)

  conditional_weighs : (rest : Syn Otherwise) → Weighs w rest otherwise_members → Weighs w (conditional rest) statement_weight
  conditional_weighs rest g =
      let m : IfParts → ℕ = λ p. block_members p.body + otherwise_members p.otherwise in
      means_weighs w (both (one c.the_if) (if_parts rest)) (λ q. process.If (means_as.if_of q.0 q.1)) (λ q. m q.1 + 1) statement_weight
      (led_weighs w (c.the_if ∷ []) (if_parts rest) m (if_parts_weigh rest g))
      (λ q. omega (arith, conditional_counts (means_as.if_of q.0 q.1), if_weight q.0 q.1))

  else_if_weighs : Weighs w (means (λ q. otherwise.ElseIf (means_as.if_of q.0 q.1)) (behind c.the_else (prefix (c.the_if ∷ []) an_else_if))) otherwise_members
  else_if_weighs =
      let p : Syn (Spelled × IfParts) = prefix (c.the_if ∷ []) an_else_if in
      let m : Spelled × IfParts → ℕ = λ q. part_members an_else_if q.1 + 1 in
      means_weighs w (behind c.the_else p) (λ q. otherwise.ElseIf (means_as.if_of q.0 q.1)) (λ q. m q + 1) otherwise_members
      (behind_weighs w c.the_else p m (prefix_weighs w part_members h (c.the_if ∷ []) an_else_if))
      (λ q. omega (arith, else_if_counts (means_as.if_of q.0 q.1), if_weight q.0 q.1))

  else_parts_weigh : Weighs w else_parts otherwise_members
  unfolding else_parts
  else_parts_weigh =
      let first : Syn Otherwise = means (λ q. otherwise.ElseIf (means_as.if_of q.0 q.1)) (behind c.the_else (prefix (c.the_if ∷ []) an_else_if)) in
      let second : Syn Otherwise = means otherwise.Else (behind c.the_else block) in
      either_weighs w first (either second (give otherwise.Nothing)) otherwise_members else_if_weighs
      (either_weighs w second (give otherwise.Nothing) otherwise_members
      (means_weighs w (behind c.the_else block) otherwise.Else (λ b. (block_members b + 1) + 1) otherwise_members
      (behind_weighs w c.the_else block (λ b. block_members b + 1) block_weighs) (λ b. omega (arith, else_counts b)))
      (give_weighs w otherwise.Nothing otherwise_members no_else_counts))

  -- ---- statements, sequences and parallels

  marked_weighs : (rest : Syn Otherwise) → Weighs w rest otherwise_members → Weighs w (marked_statement rest) statement_weight
  marked_weighs rest g ts v d = elim d [
    | inl a ↦ undefine_weighs ts v a
    | inr (inl a) ↦ correlate_weighs ts v a
    | inr (inr (inl a)) ↦ conditional_weighs rest g ts v a
    | inr (inr (inr (inl a))) ↦ repetition_weighs ts v a
    | inr (inr (inr (inr (inl a)))) ↦ counted_loop_weighs ts v a
    | inr (inr (inr (inr (inr (inl a))))) ↦ choice_weighs ts v a
    | inr (inr (inr (inr (inr (inr (inl a)))))) ↦ scope_weighs ts v a
    | inr (inr (inr (inr (inr (inr (inr (inl a))))))) ↦ install_weighs ts v a
    | inr (inr (inr (inr (inr (inr (inr (inr (inl a)))))))) ↦ throw_weighs ts v a
    | inr (inr (inr (inr (inr (inr (inr (inr (inr (inl a))))))))) ↦ compensate_weighs ts v a
    | inr (inr (inr (inr (inr (inr (inr (inr (inr (inr (inl a)))))))))) ↦ inner_handler_weighs ts v a
    | inr (inr (inr (inr (inr (inr (inr (inr (inr (inr (inr a)))))))))) ↦ block_statement_weighs ts v a
  ]

  input_statement_weighs : Weighs w (means process.Input input) statement_weight
  input_statement_weighs = means_weighs w input process.Input (λ i. input_members i + 1) statement_weight input_weighs (λ i. omega (arith, input_counts i))

  statement_weighs : Weighs w statement statement_weight
  unfolding statement
  statement_weighs ts v d = elim d [
    | inl a ↦ nothing_statement_weighs ts v a
    | inr (inl a) ↦ input_statement_weighs ts v a
    | inr (inr (inl a)) ↦ output_weighs ts v a
    | inr (inr (inr (inl a))) ↦ assign_weighs ts v a
    | inr (inr (inr (inr a))) ↦ marked_weighs else_parts else_parts_weigh ts v a
  ]

  sequence_weighs : (s : Syn Process) → Weighs w s statement_weight → Weighs w (in_sequence s) statement_weight
  sequence_weighs s g =
      means_weighs w (separated c.sign_semicolon s) means_as.sequence_of (λ ps. statement_weight (means_as.sequence_of ps)) statement_weight
      (separated_weighs w c.sign_semicolon s statement_weight (λ ps. statement_weight (means_as.sequence_of ps)) g sequence_weight) (λ ps. omega arith)

  parallel_weighs : (s : Syn Process) → Weighs w s statement_weight → Weighs w (in_parallel s) statement_weight
  parallel_weighs s g =
      means_weighs w (separated c.sign_bar (in_sequence s)) means_as.parallel_of (λ ps. statement_weight (means_as.parallel_of ps)) statement_weight
      (separated_weighs w c.sign_bar (in_sequence s) statement_weight (λ ps. statement_weight (means_as.parallel_of ps)) (sequence_weighs s g) parallel_weight) (λ ps. omega arith)

  body_weighs : (s : Syn Process) → Weighs w s statement_weight → Weighs w (optional (in_parallel s)) (λ v. optional_count (option_map process_members v))
  body_weighs s g =
      optional_weighs w (in_parallel s) process_members (less_weighs w (in_parallel s) statement_weight process_members (parallel_weighs s g) (λ p. omega arith))

  handler_weighs : (s : Syn Process) → Weighs w s statement_weight → Weighs w (handler s) handler_members
  handler_weighs s g =
      let body : Syn Process = behind c.sign_arrow (in_parallel s) in
      means_weighs w (both handler_key body) means_as.handler_of (λ q. 0 + (statement_weight q.1 + 1)) handler_members
      (both_weighs w handler_key body (λ _. 0) (λ p. statement_weight p + 1) (nothing_weighs w handler_key)
      (behind_weighs w c.sign_arrow (in_parallel s) statement_weight (parallel_weighs s g)))
      (λ q. omega (arith, handler_counts q.0 q.1))

  handlers_weigh : (s : Syn Process) → Weighs w s statement_weight → Weighs w (handlers s) (sum_by handler_members)
  handlers_weigh s g = separated_weighs w c.sign_comma (handler s) handler_members (sum_by handler_members) (handler_weighs s g) (with_tokens handler_members)

  -- ---- services and files

  -- a clause that holds no process
  plain_clause_weighs : {A : Type 0} (s : Syn A) (f : A → Clause) → ((a : A) → clause_members (f a) ≤ 0) → Weighs w (means f s) clause_members
  plain_clause_weighs s f none = means_weighs w s f (λ _. 0) clause_members (nothing_weighs w s) none

  execution_weighs : Weighs w execution_clause clause_members
  unfolding execution_clause
  execution_weighs =
      plain_clause_weighs (both (ended (one c.the_execution) c.sign_colon) (token (c.the_concurrent ∷ c.the_single ∷ [])))
      (λ q. clause.Execution (place q.0) (means_as.execution_of q.1)) (λ q. omega arith)

  port_weighs : Weighs w port clause_members
  unfolding port
  port_weighs =
      plain_clause_weighs (both (token (c.the_input_port ∷ c.the_output_port ∷ [])) (both id (braces port_parts)))
      (λ q. means_as.port_clause q.0 (means_as.port_of q.0 q.1.0 q.1.1))
      (λ q. port_weight (same (class q.0) c.the_input_port) (means_as.port_of q.0 q.1.0 q.1.1))

  correlation_weighs : Weighs w correlation_set clause_members
  unfolding correlation_set
  correlation_weighs =
      plain_clause_weighs (both (one c.the_cset) (braces some_variables)) (λ q. clause.CorrelationSet (place q.0) q.1) (λ q. omega arith)

  init_weighs : Weighs w init_clause clause_members
  unfolding init_clause
  init_weighs =
      means_weighs w (both (one c.the_init) block) (λ q. clause.Init (place q.0) q.1) (λ q. (block_members q.1 + 1) + 1) clause_members
      (led_weighs w (c.the_init ∷ []) block (λ b. block_members b + 1) block_weighs) (λ q. omega arith)

  main_weighs : Weighs w main_clause clause_members
  unfolding main_clause
  main_weighs =
      means_weighs w (both (one c.the_main) block) (λ q. clause.Main (place q.0) q.1) (λ q. (block_members q.1 + 1) + 1) clause_members
      (led_weighs w (c.the_main ∷ []) block (λ b. block_members b + 1) block_weighs) (λ q. omega arith)

  clauses_weigh : Weighs w clauses clause_members
  unfolding clauses
  clauses_weigh ts v d = elim d [
    | inl a ↦ execution_weighs ts v a
    | inr (inl a) ↦ port_weighs ts v a
    | inr (inr (inl a)) ↦ correlation_weighs ts v a
    | inr (inr (inr (inl a))) ↦ init_weighs ts v a
    | inr (inr (inr (inr a))) ↦ main_weighs ts v a
  ]

  service_weighs : Weighs w service (λ s. sum_by clause_members s.clauses)
  unfolding service id
  service_weighs =
      let inner : Syn (List Clause) = braces some_clauses in
      means_weighs w (both (one c.the_service) (both id inner)) (λ q. means_as.service_of q.0 q.1.0 q.1.1) (λ q. (sum_by clause_members q.1.1 + 1) + 1) (λ s. sum_by clause_members s.clauses)
      (led_weighs w (c.the_service ∷ []) (both id inner) (λ q. sum_by clause_members q.1 + 1)
      (led_weighs w ids inner (sum_by clause_members) (between_weighs w part_members h c.sign_open_brace some_clauses c.sign_close_brace)))
      (λ q. omega arith)

  file_part_weighs : Weighs w file_part definition_members
  unfolding file_part
  file_part_weighs ts v d = elim d [
    | inl a ↦ means_weighs w type_definition definition.Type (λ _. 0) definition_members (nothing_weighs w type_definition) (λ t. omega arith) ts v a
    | inr (inl a) ↦ means_weighs w interface definition.Interface (λ _. 0) definition_members (nothing_weighs w interface) (λ i. omega arith) ts v a
    | inr (inr a) ↦ means_weighs w service definition.Service (λ s. sum_by clause_members s.clauses) definition_members service_weighs (λ s. omega arith) ts v a
  ]

  pub file_weighs : Weighs w file parallel_members
  unfolding file
  file_weighs = many_weighs w file_part definition_members file_part_weighs

  -- ---- what stands a level further in

  pub part_weighs : (r : Part) → Weighs w (production r) (part_members r)
  part_weighs a_body = body_weighs statement statement_weighs
  part_weighs some_handlers = handlers_weigh statement statement_weighs
  part_weighs an_input = less_weighs w input (λ i. input_members i + 1) input_members input_weighs (λ i. omega arith)
  part_weighs an_else_if = if_parts_weigh else_parts else_parts_weigh
  part_weighs some_clauses = many_weighs w clauses clause_members clauses_weigh
  part_weighs an_expression = nothing_weighs w (production an_expression)
  part_weighs an_operand = nothing_weighs w (production an_operand)
  part_weighs a_path = nothing_weighs w (production a_path)
  part_weighs maybe_path = nothing_weighs w (production maybe_path)
  part_weighs maybe_expression = nothing_weighs w (production maybe_expression)
  part_weighs a_name = nothing_weighs w (production a_name)
  part_weighs for_parts = nothing_weighs w (production for_parts)
  part_weighs throw_parts = nothing_weighs w (production throw_parts)
  part_weighs some_members = nothing_weighs w (production some_members)
  part_weighs a_type_name = nothing_weighs w (production a_type_name)
  part_weighs some_bounds = nothing_weighs w (production some_bounds)
  part_weighs some_fields = nothing_weighs w (production some_fields)
  part_weighs some_operations = nothing_weighs w (production some_operations)
  part_weighs port_parts = nothing_weighs w (production port_parts)
  part_weighs some_variables = nothing_weighs w (production some_variables)

-- ---- files

allowed_few : (n : ℕ) (r : Part) (ts : List Spelled) (v : Meant r) → Allowed n r ts v → part_members r v ≤ length ts
allowed_few zero r ts v d = absurd d
allowed_few (suc n) r ts v d = part_weighs (Allowed n) (allowed_few n) r ts v d

-- a file has at least as many tokens as its parallels have members
pub members_few : (n : ℕ) (ts : List Spelled) (f : List Definition) → IsFile n ts f → parallel_members f ≤ length ts
members_few n ts f d = file_weighs (Allowed n) (allowed_few n) ts f d
