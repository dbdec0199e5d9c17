-- Each part of the factored grammar has a phrase.
use Rattle.std.proofs.Common.{◌≡◌, inl, inr, Bool, true, false, ◌&&◌, ◌||◌, not, [], ◌∷◌, ◌++◌, refl}
use Rattle.jolie_parse.specs.Syntax.{Part, an_input, an_else_if, an_expression, an_operand, a_path, maybe_path, maybe_expression, a_body, some_handlers, a_name, for_parts, throw_parts, some_members, a_type_name, some_bounds, some_fields, some_operations, port_parts, some_variables, some_clauses, Syn, token, give, both, either, many, means, inside, prefix}
use Rattle.jolie_parse.specs.Deciding.{disjoint, covers, later, nullable, first, further}
use Rattle.jolie_parse.specs.Grammar.{id, word, index, step, path_parts, path, whole_number, long_number, quoted_text, truth, path_value, size, defined_test, cast, grouped, literal, primary, prefixed_operand, unary, product, sum, comparand, comparison, conjunction, expr, member, members, block, reply, input_parts, input, branch, choice, answer, output_parts, output, count, change, assign, correlate, last_change, loop_parts, undefine, repetition, counted_loop, scope, install, throw, compensate, inner_handler, block_statement, nothing, handler_key, thrown, name, root_type, type_body, bounds, cardinal, field, defined_type, type_definition, type_named, fault, throws, request_response, one_way, request_responses, one_ways, operation_group, interface, alias, variable, execution_clause, port_body, port, correlation_set, init_clause, main_clause, clauses, service}
use Rattle.jolie_parse.specs.Factored.{named_parts, one_else, one_statement, rule, decided, usable}
use Rattle.jolie_parse.proofs.Sets.{and_left, and_right, or_cases}
use Rattle.jolie_parse.proofs.Samples.{sample, sample_class}
use Rattle.jolie_parse.proofs.OneToken.{rules_decided}
use Rattle.jolie_parse.proofs.Explain.{Some, AllSome, usable_some, both_any, inside_any, prefix_any}

-- it has a phrase with nothing a level further in but parts that have one
abbrev has_phrase : {A : Type 0} → (Part → Bool) → Syn A → Bool
has_phrase ok (token ks) = true
has_phrase ok (give a) = true
has_phrase ok (both s t) = has_phrase ok s && has_phrase ok t
has_phrase ok (either s t) = has_phrase ok s || has_phrase ok t
has_phrase ok (many s) = true
has_phrase ok (means f s) = has_phrase ok s
has_phrase ok (inside o r c) = ok r
has_phrase ok (prefix ks r) = ok r

module _ (ok : Part → Bool) (enough : (r : Part) → ok r ≡ true → Some (rule r)) where
  phrase : {A : Type 0} (s : Syn A) → decided s ≡ true → has_phrase ok s ≡ true → Some s
  phrase (token ks) dec h = let t = usable_some ks dec in (t.0 ∷ [], t.0, (0, (t.1, refl)))
  phrase (give a) dec h = ([], a, (0, (refl, refl)))
  phrase (both s t) dec h =
      let dec2 = and_right (disjoint (first t) (further s)) (decided s && decided t) dec in
      let p = phrase s (and_left (decided s) (decided t) dec2) (and_left (has_phrase ok s) (has_phrase ok t) h) in
      let q = phrase t (and_right (decided s) (decided t) dec2) (and_right (has_phrase ok s) (has_phrase ok t) h) in
      (p.0 ++ q.0, (p.1, q.1), both_any s t p.0 q.0 p.1 q.1 p.2 q.2)
  phrase (either s t) dec h =
      let dec1 = and_right (not (nullable s)) (disjoint (first t) (first s) && (decided s && decided t)) dec in
      let dec2 = and_right (disjoint (first t) (first s)) (decided s && decided t) dec1 in
      elim (or_cases (has_phrase ok s) (has_phrase ok t) h) [
        | inl e ↦ (let p = phrase s (and_left (decided s) (decided t) dec2) e in (p.0, p.1, (p.2.0, inl p.2.1)))
        | inr e ↦ (let p = phrase t (and_right (decided s) (decided t) dec2) e in (p.0, p.1, (p.2.0, inr p.2.1)))
      ]
  phrase (many s) dec h = ([], [], (0, refl))
  phrase (means f s) dec h = let p = phrase s dec h in (p.0, f p.1, (p.2.0, (p.1, refl, p.2.1)))
  phrase (inside o r c) dec h =
      let p = enough r h in
      (sample o ∷ (p.0 ++ sample c ∷ []), (sample o, p.1), inside_any o r c (sample o) (sample c) p.0 p.1 (sample_class o) (sample_class c) p.2)
  phrase (prefix ks r) dec h =
      let p = enough r h in
      let t = usable_some ks (and_left (usable ks) (covers (further (rule r)) (later r)) dec) in
      (t.0 ∷ p.0, (t.0, p.1), prefix_any ks r t.0 p.0 p.1 t.1 p.2)

-- all parts but those that need a bracket
abbrev is_plain : Part → Bool
is_plain an_input = false
is_plain an_else_if = false
is_plain r = true

abbrev no_part : Part → Bool
no_part r = false

plain_has : (r : Part) → is_plain r ≡ true → has_phrase no_part (rule r) ≡ true
unfolding id word index step path_parts path whole_number long_number quoted_text truth path_value size defined_test cast grouped literal primary prefixed_operand unary product sum comparand comparison conjunction expr member members block reply input_parts input branch choice answer output_parts output count change assign correlate last_change loop_parts undefine repetition counted_loop scope install throw compensate inner_handler block_statement nothing handler_key thrown name root_type type_body bounds cardinal field defined_type type_definition type_named fault throws request_response one_way request_responses one_ways operation_group interface alias variable execution_clause port_body port correlation_set init_clause main_clause clauses service named_parts one_else one_statement
plain_has an_input h = cc
plain_has an_else_if h = cc
plain_has an_expression h = refl
plain_has an_operand h = refl
plain_has a_path h = refl
plain_has maybe_path h = refl
plain_has maybe_expression h = refl
plain_has a_body h = refl
plain_has some_handlers h = refl
plain_has a_name h = refl
plain_has for_parts h = refl
plain_has throw_parts h = refl
plain_has some_members h = refl
plain_has a_type_name h = refl
plain_has some_bounds h = refl
plain_has some_fields h = refl
plain_has some_operations h = refl
plain_has port_parts h = refl
plain_has some_variables h = refl
plain_has some_clauses h = refl

plain_phrase : (r : Part) → is_plain r ≡ true → Some (rule r)
plain_phrase r h = phrase no_part (λ r2 h2. let never : ⊥ = cc in absurd never) (rule r) (rules_decided.each r) (plain_has r h)

bracketed_has : (has_phrase is_plain (rule an_input) ≡ true) × (has_phrase is_plain (rule an_else_if) ≡ true)
unfolding id word index step path_parts path whole_number long_number quoted_text truth path_value size defined_test cast grouped literal primary prefixed_operand unary product sum comparand comparison conjunction expr member members block reply input_parts input branch choice answer output_parts output count change assign correlate last_change loop_parts undefine repetition counted_loop scope install throw compensate inner_handler block_statement nothing handler_key thrown name root_type type_body bounds cardinal field defined_type type_definition type_named fault throws request_response one_way request_responses one_ways operation_group interface alias variable execution_clause port_body port correlation_set init_clause main_clause clauses service named_parts one_else one_statement
bracketed_has = (refl, refl)

-- each part has a phrase
pub rules_some : AllSome
rules_some an_input = phrase is_plain plain_phrase (rule an_input) (rules_decided.each an_input) bracketed_has.0
rules_some an_else_if = phrase is_plain plain_phrase (rule an_else_if) (rules_decided.each an_else_if) bracketed_has.1
rules_some an_expression = plain_phrase an_expression refl
rules_some an_operand = plain_phrase an_operand refl
rules_some a_path = plain_phrase a_path refl
rules_some maybe_path = plain_phrase maybe_path refl
rules_some maybe_expression = plain_phrase maybe_expression refl
rules_some a_body = plain_phrase a_body refl
rules_some some_handlers = plain_phrase some_handlers refl
rules_some a_name = plain_phrase a_name refl
rules_some for_parts = plain_phrase for_parts refl
rules_some throw_parts = plain_phrase throw_parts refl
rules_some some_members = plain_phrase some_members refl
rules_some a_type_name = plain_phrase a_type_name refl
rules_some some_bounds = plain_phrase some_bounds refl
rules_some some_fields = plain_phrase some_fields refl
rules_some some_operations = plain_phrase some_operations refl
rules_some port_parts = plain_phrase port_parts refl
rules_some some_variables = plain_phrase some_variables refl
rules_some some_clauses = plain_phrase some_clauses refl
