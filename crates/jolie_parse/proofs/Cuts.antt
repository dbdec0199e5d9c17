-- Statements that stand whole behind a `;` are read past, so that what comes of the tokens is much the same without them.
use Rattle.std.proofs.Common.{◌≡◌, ℕ, zero, suc, ◌≤◌, ◌<◌, ◌+◌, ◌⊎◌, inl, inr, Bool, true, false, ◌&&◌, ◌||◌, not, List, [], ◌∷◌, ◌++◌, length, refl, sym, ap, subst, ◌∙◌, arith, append_assoc, if◌then◌else◌, Some, None}
use Rattle.jolie_parse.specs.declared.class.Class.{Class}
use Rattle.jolie_parse.specs.ClassNames.{sign_semicolon, sign_bar, sign_comma, sign_arrow}
use Rattle.jolie_parse.specs.Classes.{Spelled, class, has, same, begins, open_brackets}
use Rattle.jolie_parse.specs.Syntax.{Part, an_expression, an_operand, a_path, maybe_path, maybe_expression, a_body, some_handlers, a_name, an_input, an_else_if, for_parts, throw_parts, some_members, a_type_name, some_bounds, some_fields, some_operations, port_parts, some_variables, some_clauses, Meant, Syn, token, give, both, either, many, means, inside, prefix, behind, separated, optional}
use Rattle.jolie_parse.specs.Deciding.{first, further, nullable, disjoint}
use Rattle.jolie_parse.specs.Grammar.{id, word, index, step, path_parts, path, whole_number, long_number, quoted_text, truth, path_value, size, defined_test, cast, grouped, literal, primary, prefixed_operand, unary, factor, product, term, sum, comparand, comparison, conjunction, expr, member, members, block, reply, input_parts, input, branch, choice, answer, output_parts, output, count, change, assign, correlate, last_change, loop_parts, undefine, repetition, counted_loop, scope, install, throw, compensate, inner_handler, block_statement, nothing, handler_key, thrown, name, root_type, type_body, bounds, cardinal, field, defined_type, type_definition, type_named, fault, throws, request_response, one_way, request_responses, one_ways, operation_group, interface, alias, variable, execution_clause, port_body, port, correlation_set, init_clause, main_clause, clauses, service, file_part, file}
use Rattle.jolie_parse.specs.Grammar.{in_sequence, in_parallel, handler, handlers}
use Rattle.jolie_parse.specs.Meanings as means_as
use Rattle.jolie_ast.specs.declared.process.Process.{Process}
use Rattle.jolie_ast.specs.declared.process.Handler.{Handler}
use Rattle.jolie_parse.specs.Factored.{named_parts, one_else, one_statement, rule, Within, Nests, decided}
use Rattle.jolie_parse.specs.Reading.{Outcome, got, refused, too_deep, and_then, take_token, repeat, no_level, deepen, enclosed, prefixed, inner, read}
use Rattle.jolie_parse.proofs.SameClasses.{same_eq}
use Rattle.jolie_parse.proofs.Sets.{or_cases, and_left, and_right, not_true, is_false}
use Rattle.jolie_parse.proofs.Complete.{complete, head, many_head, repeat_stops}
use Rattle.jolie_parse.proofs.OneToken.{rules_decided, file_decided}
use Rattle.jolie_parse.proofs.Unique.{Nests_more}
use Rattle.jolie_parse.proofs.Lists.{read_shorter, repeat_fuel, repeat_nil}

-- ---- outcomes

-- it does not open a level too many
abbrev pub NotDeep : {A : Type 0} → Outcome A → Type 0
NotDeep (too_deep r) = ⊥
NotDeep o = Unit {0}

not_deep_then : {A B : Type 0} (o : Outcome A) (f : A → List Spelled → Outcome B) → NotDeep (and_then o f) → NotDeep o
not_deep_then (got a r) f nd = tt
not_deep_then (refused r) f nd = tt
not_deep_then (too_deep r) f nd = nd

not_deep_deepen : {A : Type 0} (o : Outcome A) (k : ℕ) → NotDeep (deepen o k) → NotDeep o
not_deep_deepen (got a r) k nd = tt
not_deep_deepen (refused r) k nd = tt
not_deep_deepen (too_deep r) k nd = nd

-- they differ in what was read alone
abbrev pub Past : {A B : Type 0} → Outcome A → Outcome B → Type 0
Past (got a r) (got b s) = r ≡ s
Past (refused r) (refused s) = r ≡ s
Past (too_deep r) (too_deep s) = r ≡ s
Past _ _ = ⊥

past_itself : {A : Type 0} (o : Outcome A) → Past o o
past_itself (got a r) = refl
past_itself (refused r) = refl
past_itself (too_deep r) = refl

past_map : {A B : Type 0} (o : Outcome A) (f g : A → B) → Past (and_then o (λ v r. got (f v) r)) (and_then o (λ v r. got (g v) r))
past_map (got a r) f g = refl
past_map (refused r) f g = refl
past_map (too_deep r) f g = refl

past_left : {A B C : Type 0} (p : Outcome A) (q : Outcome B) (f : A → C) → Past p q → Past (and_then p (λ v r. got (f v) r)) q
past_left (got a r) (got b s) f h = h
past_left (refused r) (refused s) f h = h
past_left (too_deep r) (too_deep s) f h = h
past_left (got a r) (refused s) f h = h
past_left (got a r) (too_deep s) f h = h
past_left (refused r) (got b s) f h = h
past_left (refused r) (too_deep s) f h = h
past_left (too_deep r) (got b s) f h = h
past_left (too_deep r) (refused s) f h = h

past_both : {A B : Type 0} {o p : Outcome A} {q r : Outcome B} → o ≡ p → q ≡ r → Past p r → Past o q
past_both e g h = rw (e, g) h

-- ---- sets without a semicolon

or_left_false : (a b : Bool) → a || b ≡ false → a ≡ false
or_left_false true b e = e
or_left_false false b e = refl

or_right_false : (a b : Bool) → a || b ≡ false → b ≡ false
or_right_false true b e = cc
or_right_false false b e = e

or_false : (a b : Bool) → a ≡ false → b ≡ false → a || b ≡ false
or_false true b h g = cc
or_false false b h g = g

has_neither : (a b : List Class) (k : Class) → has a k ≡ false → has b k ≡ false → has (a ++ b) k ≡ false
has_neither [] b k h g = g
has_neither (j ∷ js) b k h g =
    or_false (same j k) (has (js ++ b) k) (or_left_false (same j k) (has js k) h)
    (has_neither js b k (or_right_false (same j k) (has js k) h) g)

-- none of its own tokens is a semicolon
abbrev pub free : {A : Type 0} → Syn A → Bool
free (token ks) = not (has ks sign_semicolon)
free (give a) = true
free (both s t) = free s && free t
free (either s t) = free s && free t
free (many s) = free s
free (means f s) = free s
free (inside o r c) = not (has (o ∷ []) sign_semicolon) && not (has (c ∷ []) sign_semicolon)
free (prefix ks r) = not (has ks sign_semicolon)

first_free : {A : Type 0} (s : Syn A) → free s ≡ true → has (first s) sign_semicolon ≡ false
first_free (token ks) h = not_true (has ks sign_semicolon) h
first_free (give a) h = refl
first_free (both s t) h = first_of (nullable s) (first_free s (and_left (free s) (free t) h)) (first_free t (and_right (free s) (free t) h))
  where
    first_of : (b : Bool) → has (first s) sign_semicolon ≡ false → has (first t) sign_semicolon ≡ false → has (if b then first s ++ first t else first s) sign_semicolon ≡ false
    first_of true e g = has_neither (first s) (first t) sign_semicolon e g
    first_of false e g = e
first_free (either s t) h = has_neither (first s) (first t) sign_semicolon (first_free s (and_left (free s) (free t) h)) (first_free t (and_right (free s) (free t) h))
first_free (many s) h = first_free s h
first_free (means f s) h = first_free s h
first_free (inside o r c) h = not_true (has (o ∷ []) sign_semicolon) (and_left (not (has (o ∷ []) sign_semicolon)) _ h)
first_free (prefix ks r) h = not_true (has ks sign_semicolon) h

-- ---- statements, each behind a semicolon

-- a statement behind a semicolon
abbrev pub next_statement : Syn Process
next_statement = behind sign_semicolon one_statement

-- a sequence behind a bar
abbrev pub next_sequence : Syn Process
next_sequence = behind sign_bar (in_sequence one_statement)

-- a handler behind a comma
abbrev pub next_handler : Syn Handler
next_handler = behind sign_comma (handler one_statement)

next_decided : decided next_statement ≡ true
unfolding id word index step path_parts path whole_number long_number quoted_text truth path_value size defined_test cast grouped literal primary prefixed_operand unary factor product term sum comparand comparison conjunction expr member members block reply input_parts input branch choice answer output_parts output count change assign correlate last_change loop_parts undefine repetition counted_loop scope install throw compensate inner_handler block_statement nothing handler_key thrown name root_type type_body bounds cardinal field defined_type type_definition type_named fault throws request_response one_way request_responses one_ways operation_group interface alias variable execution_clause port_body port correlation_set init_clause main_clause clauses service file_part file named_parts one_else one_statement
next_decided = refl

next_apart : has (further next_statement) sign_semicolon ≡ false
unfolding id word index step path_parts path whole_number long_number quoted_text truth path_value size defined_test cast grouped literal primary prefixed_operand unary factor product term sum comparand comparison conjunction expr member members block reply input_parts input branch choice answer output_parts output count change assign correlate last_change loop_parts undefine repetition counted_loop scope install throw compensate inner_handler block_statement nothing handler_key thrown name root_type type_body bounds cardinal field defined_type type_definition type_named fault throws request_response one_way request_responses one_ways operation_group interface alias variable execution_clause port_body port correlation_set init_clause main_clause clauses service file_part file named_parts one_else one_statement
next_apart = refl

statement_decided : decided one_statement ≡ true
unfolding id word index step path_parts path whole_number long_number quoted_text truth path_value size defined_test cast grouped literal primary prefixed_operand unary factor product term sum comparand comparison conjunction expr member members block reply input_parts input branch choice answer output_parts output count change assign correlate last_change loop_parts undefine repetition counted_loop scope install throw compensate inner_handler block_statement nothing handler_key thrown name root_type type_body bounds cardinal field defined_type type_definition type_named fault throws request_response one_way request_responses one_ways operation_group interface alias variable execution_clause port_body port correlation_set init_clause main_clause clauses service file_part file named_parts one_else one_statement
statement_decided = refl

statement_free : free one_statement ≡ true
unfolding id word index step path_parts path whole_number long_number quoted_text truth path_value size defined_test cast grouped literal primary prefixed_operand unary factor product term sum comparand comparison conjunction expr member members block reply input_parts input branch choice answer output_parts output count change assign correlate last_change loop_parts undefine repetition counted_loop scope install throw compensate inner_handler block_statement nothing handler_key thrown name root_type type_body bounds cardinal field defined_type type_definition type_named fault throws request_response one_way request_responses one_ways operation_group interface alias variable execution_clause port_body port correlation_set init_clause main_clause clauses service file_part file named_parts one_else one_statement
statement_free = refl

sequence_decided : decided next_sequence ≡ true
unfolding id word index step path_parts path whole_number long_number quoted_text truth path_value size defined_test cast grouped literal primary prefixed_operand unary factor product term sum comparand comparison conjunction expr member members block reply input_parts input branch choice answer output_parts output count change assign correlate last_change loop_parts undefine repetition counted_loop scope install throw compensate inner_handler block_statement nothing handler_key thrown name root_type type_body bounds cardinal field defined_type type_definition type_named fault throws request_response one_way request_responses one_ways operation_group interface alias variable execution_clause port_body port correlation_set init_clause main_clause clauses service file_part file named_parts one_else one_statement
sequence_decided = refl

body_first : has (first (means Some (in_parallel one_statement))) sign_semicolon ≡ false
unfolding id word index step path_parts path whole_number long_number quoted_text truth path_value size defined_test cast grouped literal primary prefixed_operand unary factor product term sum comparand comparison conjunction expr member members block reply input_parts input branch choice answer output_parts output count change assign correlate last_change loop_parts undefine repetition counted_loop scope install throw compensate inner_handler block_statement nothing handler_key thrown name root_type type_body bounds cardinal field defined_type type_definition type_named fault throws request_response one_way request_responses one_ways operation_group interface alias variable execution_clause port_body port correlation_set init_clause main_clause clauses service file_part file named_parts one_else one_statement
body_first = refl

handler_decided : decided next_handler ≡ true
unfolding id word index step path_parts path whole_number long_number quoted_text truth path_value size defined_test cast grouped literal primary prefixed_operand unary factor product term sum comparand comparison conjunction expr member members block reply input_parts input branch choice answer output_parts output count change assign correlate last_change loop_parts undefine repetition counted_loop scope install throw compensate inner_handler block_statement nothing handler_key thrown name root_type type_body bounds cardinal field defined_type type_definition type_named fault throws request_response one_way request_responses one_ways operation_group interface alias variable execution_clause port_body port correlation_set init_clause main_clause clauses service file_part file named_parts one_else one_statement
handler_decided = refl

key_free : free handler_key ≡ true
unfolding id word index step path_parts path whole_number long_number quoted_text truth path_value size defined_test cast grouped literal primary prefixed_operand unary factor product term sum comparand comparison conjunction expr member members block reply input_parts input branch choice answer output_parts output count change assign correlate last_change loop_parts undefine repetition counted_loop scope install throw compensate inner_handler block_statement nothing handler_key thrown name root_type type_body bounds cardinal field defined_type type_definition type_named fault throws request_response one_way request_responses one_ways operation_group interface alias variable execution_clause port_body port correlation_set init_clause main_clause clauses service file_part file named_parts one_else one_statement
key_free = refl

key_decided : decided handler_key ≡ true
unfolding id word index step path_parts path whole_number long_number quoted_text truth path_value size defined_test cast grouped literal primary prefixed_operand unary factor product term sum comparand comparison conjunction expr member members block reply input_parts input branch choice answer output_parts output count change assign correlate last_change loop_parts undefine repetition counted_loop scope install throw compensate inner_handler block_statement nothing handler_key thrown name root_type type_body bounds cardinal field defined_type type_definition type_named fault throws request_response one_way request_responses one_ways operation_group interface alias variable execution_clause port_body port correlation_set init_clause main_clause clauses service file_part file named_parts one_else one_statement
key_decided = refl

file_free : free file ≡ true
unfolding id word index step path_parts path whole_number long_number quoted_text truth path_value size defined_test cast grouped literal primary prefixed_operand unary factor product term sum comparand comparison conjunction expr member members block reply input_parts input branch choice answer output_parts output count change assign correlate last_change loop_parts undefine repetition counted_loop scope install throw compensate inner_handler block_statement nothing handler_key thrown name root_type type_body bounds cardinal field defined_type type_definition type_named fault throws request_response one_way request_responses one_ways operation_group interface alias variable execution_clause port_body port correlation_set init_clause main_clause clauses service file_part file named_parts one_else one_statement
file_free = refl

free_an_expression : free (rule an_expression) ≡ true
unfolding id word index step path_parts path whole_number long_number quoted_text truth path_value size defined_test cast grouped literal primary prefixed_operand unary factor product term sum comparand comparison conjunction expr member members block reply input_parts input branch choice answer output_parts output count change assign correlate last_change loop_parts undefine repetition counted_loop scope install throw compensate inner_handler block_statement nothing handler_key thrown name root_type type_body bounds cardinal field defined_type type_definition type_named fault throws request_response one_way request_responses one_ways operation_group interface alias variable execution_clause port_body port correlation_set init_clause main_clause clauses service file_part file named_parts one_else one_statement
free_an_expression = refl

free_an_operand : free (rule an_operand) ≡ true
unfolding id word index step path_parts path whole_number long_number quoted_text truth path_value size defined_test cast grouped literal primary prefixed_operand unary factor product term sum comparand comparison conjunction expr member members block reply input_parts input branch choice answer output_parts output count change assign correlate last_change loop_parts undefine repetition counted_loop scope install throw compensate inner_handler block_statement nothing handler_key thrown name root_type type_body bounds cardinal field defined_type type_definition type_named fault throws request_response one_way request_responses one_ways operation_group interface alias variable execution_clause port_body port correlation_set init_clause main_clause clauses service file_part file named_parts one_else one_statement
free_an_operand = refl

free_a_path : free (rule a_path) ≡ true
unfolding id word index step path_parts path whole_number long_number quoted_text truth path_value size defined_test cast grouped literal primary prefixed_operand unary factor product term sum comparand comparison conjunction expr member members block reply input_parts input branch choice answer output_parts output count change assign correlate last_change loop_parts undefine repetition counted_loop scope install throw compensate inner_handler block_statement nothing handler_key thrown name root_type type_body bounds cardinal field defined_type type_definition type_named fault throws request_response one_way request_responses one_ways operation_group interface alias variable execution_clause port_body port correlation_set init_clause main_clause clauses service file_part file named_parts one_else one_statement
free_a_path = refl

free_maybe_path : free (rule maybe_path) ≡ true
unfolding id word index step path_parts path whole_number long_number quoted_text truth path_value size defined_test cast grouped literal primary prefixed_operand unary factor product term sum comparand comparison conjunction expr member members block reply input_parts input branch choice answer output_parts output count change assign correlate last_change loop_parts undefine repetition counted_loop scope install throw compensate inner_handler block_statement nothing handler_key thrown name root_type type_body bounds cardinal field defined_type type_definition type_named fault throws request_response one_way request_responses one_ways operation_group interface alias variable execution_clause port_body port correlation_set init_clause main_clause clauses service file_part file named_parts one_else one_statement
free_maybe_path = refl

free_maybe_expression : free (rule maybe_expression) ≡ true
unfolding id word index step path_parts path whole_number long_number quoted_text truth path_value size defined_test cast grouped literal primary prefixed_operand unary factor product term sum comparand comparison conjunction expr member members block reply input_parts input branch choice answer output_parts output count change assign correlate last_change loop_parts undefine repetition counted_loop scope install throw compensate inner_handler block_statement nothing handler_key thrown name root_type type_body bounds cardinal field defined_type type_definition type_named fault throws request_response one_way request_responses one_ways operation_group interface alias variable execution_clause port_body port correlation_set init_clause main_clause clauses service file_part file named_parts one_else one_statement
free_maybe_expression = refl

free_a_name : free (rule a_name) ≡ true
unfolding id word index step path_parts path whole_number long_number quoted_text truth path_value size defined_test cast grouped literal primary prefixed_operand unary factor product term sum comparand comparison conjunction expr member members block reply input_parts input branch choice answer output_parts output count change assign correlate last_change loop_parts undefine repetition counted_loop scope install throw compensate inner_handler block_statement nothing handler_key thrown name root_type type_body bounds cardinal field defined_type type_definition type_named fault throws request_response one_way request_responses one_ways operation_group interface alias variable execution_clause port_body port correlation_set init_clause main_clause clauses service file_part file named_parts one_else one_statement
free_a_name = refl

free_an_input : free (rule an_input) ≡ true
unfolding id word index step path_parts path whole_number long_number quoted_text truth path_value size defined_test cast grouped literal primary prefixed_operand unary factor product term sum comparand comparison conjunction expr member members block reply input_parts input branch choice answer output_parts output count change assign correlate last_change loop_parts undefine repetition counted_loop scope install throw compensate inner_handler block_statement nothing handler_key thrown name root_type type_body bounds cardinal field defined_type type_definition type_named fault throws request_response one_way request_responses one_ways operation_group interface alias variable execution_clause port_body port correlation_set init_clause main_clause clauses service file_part file named_parts one_else one_statement
free_an_input = refl

free_an_else_if : free (rule an_else_if) ≡ true
unfolding id word index step path_parts path whole_number long_number quoted_text truth path_value size defined_test cast grouped literal primary prefixed_operand unary factor product term sum comparand comparison conjunction expr member members block reply input_parts input branch choice answer output_parts output count change assign correlate last_change loop_parts undefine repetition counted_loop scope install throw compensate inner_handler block_statement nothing handler_key thrown name root_type type_body bounds cardinal field defined_type type_definition type_named fault throws request_response one_way request_responses one_ways operation_group interface alias variable execution_clause port_body port correlation_set init_clause main_clause clauses service file_part file named_parts one_else one_statement
free_an_else_if = refl

free_for_parts : free (rule for_parts) ≡ true
unfolding id word index step path_parts path whole_number long_number quoted_text truth path_value size defined_test cast grouped literal primary prefixed_operand unary factor product term sum comparand comparison conjunction expr member members block reply input_parts input branch choice answer output_parts output count change assign correlate last_change loop_parts undefine repetition counted_loop scope install throw compensate inner_handler block_statement nothing handler_key thrown name root_type type_body bounds cardinal field defined_type type_definition type_named fault throws request_response one_way request_responses one_ways operation_group interface alias variable execution_clause port_body port correlation_set init_clause main_clause clauses service file_part file named_parts one_else one_statement
free_for_parts = refl

free_throw_parts : free (rule throw_parts) ≡ true
unfolding id word index step path_parts path whole_number long_number quoted_text truth path_value size defined_test cast grouped literal primary prefixed_operand unary factor product term sum comparand comparison conjunction expr member members block reply input_parts input branch choice answer output_parts output count change assign correlate last_change loop_parts undefine repetition counted_loop scope install throw compensate inner_handler block_statement nothing handler_key thrown name root_type type_body bounds cardinal field defined_type type_definition type_named fault throws request_response one_way request_responses one_ways operation_group interface alias variable execution_clause port_body port correlation_set init_clause main_clause clauses service file_part file named_parts one_else one_statement
free_throw_parts = refl

free_some_members : free (rule some_members) ≡ true
unfolding id word index step path_parts path whole_number long_number quoted_text truth path_value size defined_test cast grouped literal primary prefixed_operand unary factor product term sum comparand comparison conjunction expr member members block reply input_parts input branch choice answer output_parts output count change assign correlate last_change loop_parts undefine repetition counted_loop scope install throw compensate inner_handler block_statement nothing handler_key thrown name root_type type_body bounds cardinal field defined_type type_definition type_named fault throws request_response one_way request_responses one_ways operation_group interface alias variable execution_clause port_body port correlation_set init_clause main_clause clauses service file_part file named_parts one_else one_statement
free_some_members = refl

free_a_type_name : free (rule a_type_name) ≡ true
unfolding id word index step path_parts path whole_number long_number quoted_text truth path_value size defined_test cast grouped literal primary prefixed_operand unary factor product term sum comparand comparison conjunction expr member members block reply input_parts input branch choice answer output_parts output count change assign correlate last_change loop_parts undefine repetition counted_loop scope install throw compensate inner_handler block_statement nothing handler_key thrown name root_type type_body bounds cardinal field defined_type type_definition type_named fault throws request_response one_way request_responses one_ways operation_group interface alias variable execution_clause port_body port correlation_set init_clause main_clause clauses service file_part file named_parts one_else one_statement
free_a_type_name = refl

free_some_bounds : free (rule some_bounds) ≡ true
unfolding id word index step path_parts path whole_number long_number quoted_text truth path_value size defined_test cast grouped literal primary prefixed_operand unary factor product term sum comparand comparison conjunction expr member members block reply input_parts input branch choice answer output_parts output count change assign correlate last_change loop_parts undefine repetition counted_loop scope install throw compensate inner_handler block_statement nothing handler_key thrown name root_type type_body bounds cardinal field defined_type type_definition type_named fault throws request_response one_way request_responses one_ways operation_group interface alias variable execution_clause port_body port correlation_set init_clause main_clause clauses service file_part file named_parts one_else one_statement
free_some_bounds = refl

free_some_fields : free (rule some_fields) ≡ true
unfolding id word index step path_parts path whole_number long_number quoted_text truth path_value size defined_test cast grouped literal primary prefixed_operand unary factor product term sum comparand comparison conjunction expr member members block reply input_parts input branch choice answer output_parts output count change assign correlate last_change loop_parts undefine repetition counted_loop scope install throw compensate inner_handler block_statement nothing handler_key thrown name root_type type_body bounds cardinal field defined_type type_definition type_named fault throws request_response one_way request_responses one_ways operation_group interface alias variable execution_clause port_body port correlation_set init_clause main_clause clauses service file_part file named_parts one_else one_statement
free_some_fields = refl

free_some_operations : free (rule some_operations) ≡ true
unfolding id word index step path_parts path whole_number long_number quoted_text truth path_value size defined_test cast grouped literal primary prefixed_operand unary factor product term sum comparand comparison conjunction expr member members block reply input_parts input branch choice answer output_parts output count change assign correlate last_change loop_parts undefine repetition counted_loop scope install throw compensate inner_handler block_statement nothing handler_key thrown name root_type type_body bounds cardinal field defined_type type_definition type_named fault throws request_response one_way request_responses one_ways operation_group interface alias variable execution_clause port_body port correlation_set init_clause main_clause clauses service file_part file named_parts one_else one_statement
free_some_operations = refl

free_port_parts : free (rule port_parts) ≡ true
unfolding id word index step path_parts path whole_number long_number quoted_text truth path_value size defined_test cast grouped literal primary prefixed_operand unary factor product term sum comparand comparison conjunction expr member members block reply input_parts input branch choice answer output_parts output count change assign correlate last_change loop_parts undefine repetition counted_loop scope install throw compensate inner_handler block_statement nothing handler_key thrown name root_type type_body bounds cardinal field defined_type type_definition type_named fault throws request_response one_way request_responses one_ways operation_group interface alias variable execution_clause port_body port correlation_set init_clause main_clause clauses service file_part file named_parts one_else one_statement
free_port_parts = refl

free_some_variables : free (rule some_variables) ≡ true
unfolding id word index step path_parts path whole_number long_number quoted_text truth path_value size defined_test cast grouped literal primary prefixed_operand unary factor product term sum comparand comparison conjunction expr member members block reply input_parts input branch choice answer output_parts output count change assign correlate last_change loop_parts undefine repetition counted_loop scope install throw compensate inner_handler block_statement nothing handler_key thrown name root_type type_body bounds cardinal field defined_type type_definition type_named fault throws request_response one_way request_responses one_ways operation_group interface alias variable execution_clause port_body port correlation_set init_clause main_clause clauses service file_part file named_parts one_else one_statement
free_some_variables = refl

free_some_clauses : free (rule some_clauses) ≡ true
unfolding id word index step path_parts path whole_number long_number quoted_text truth path_value size defined_test cast grouped literal primary prefixed_operand unary factor product term sum comparand comparison conjunction expr member members block reply input_parts input branch choice answer output_parts output count change assign correlate last_change loop_parts undefine repetition counted_loop scope install throw compensate inner_handler block_statement nothing handler_key thrown name root_type type_body bounds cardinal field defined_type type_definition type_named fault throws request_response one_way request_responses one_ways operation_group interface alias variable execution_clause port_body port correlation_set init_clause main_clause clauses service file_part file named_parts one_else one_statement
free_some_clauses = refl

-- ---- two readings side by side, of tokens that are the same up to a semicolon, and a third that ends there

module _ (t u : Spelled) (F C : List Spelled) (ht : class t ≡ sign_semicolon) (hu : class u ≡ sign_semicolon) where
  -- the tokens that are left are the same, or the same up to the semicolon
  abbrev pub Rest : List Spelled → List Spelled → Type 0
  Rest r s = (r ≡ s) ⊎ ((x : List Spelled) × (r ≡ x ++ t ∷ F) × (s ≡ x ++ u ∷ C))

  -- the outcomes come to the same, and where neither is at the semicolon yet, the third has as many tokens left up to it
  abbrev pub Similar : {A : Type 0} → Outcome A → Outcome A → Outcome A → Type 0
  Similar {A} o (got a r) (got b s) = (r ≡ s) ⊎ ((x : List Spelled) × (c : A) × (o ≡ got c x) × (r ≡ x ++ t ∷ F) × (s ≡ x ++ u ∷ C))
  Similar {A} o (refused r) (refused s) = Rest r s
  Similar {A} o (too_deep r) (too_deep s) = Rest r s
  Similar {A} o _ _ = ⊥

  past_similar : {A : Type 0} (o p q : Outcome A) → Past p q → Similar o p q
  past_similar o (got a r) (got b s) h = inl h
  past_similar o (refused r) (refused s) h = inl h
  past_similar o (too_deep r) (too_deep s) h = inl h
  past_similar o (got a r) (refused s) h = h
  past_similar o (got a r) (too_deep s) h = h
  past_similar o (refused r) (got b s) h = h
  past_similar o (refused r) (too_deep s) h = h
  past_similar o (too_deep r) (got b s) h = h
  past_similar o (too_deep r) (refused s) h = h

  similar_then : {A B : Type 0} (o p q : Outcome A) (f g h : A → List Spelled → Outcome B) → NotDeep (and_then o f) → Similar o p q
      → ((a b : A) (r : List Spelled) → p ≡ got a r → q ≡ got b r → Past (g a r) (h b r))
      → ((c a b : A) (x : List Spelled) → o ≡ got c x → p ≡ got a (x ++ t ∷ F) → q ≡ got b (x ++ u ∷ C) → NotDeep (f c x) → Similar (f c x) (g a (x ++ t ∷ F)) (h b (x ++ u ∷ C)))
      → Similar (and_then o f) (and_then p g) (and_then q h)
  similar_then o (got a r) (got b s) f g h nd (inl e) past on =
      past_similar (and_then o f) (g a r) (h b s) (rw e (past a b s (ap (got a) e) refl))
  similar_then {A} {B} o (got a r) (got b s) f g h nd (inr (x, c, eo, er, es)) past on =
      rw (eo, er, es) (on c a b x eo (ap (got a) er) (ap (got b) es) (subst (λ (z : Outcome A). NotDeep (and_then z f)) eo nd))
  similar_then o (refused r) (refused s) f g h nd e past on = e
  similar_then o (too_deep r) (too_deep s) f g h nd e past on = e
  similar_then o (got a r) (refused s) f g h nd e past on = absurd e
  similar_then o (got a r) (too_deep s) f g h nd e past on = absurd e
  similar_then o (refused r) (got b s) f g h nd e past on = absurd e
  similar_then o (refused r) (too_deep s) f g h nd e past on = absurd e
  similar_then o (too_deep r) (got b s) f g h nd e past on = absurd e
  similar_then o (too_deep r) (refused s) f g h nd e past on = absurd e

  -- the meaning alone changes
  similar_map : {A B : Type 0} (o p q : Outcome A) (f g h : A → B) → NotDeep (and_then o (λ v r. got (f v) r)) → Similar o p q
      → Similar (and_then o (λ v r. got (f v) r)) (and_then p (λ v r. got (g v) r)) (and_then q (λ v r. got (h v) r))
  similar_map o p q f g h nd s =
      similar_then o p q (λ v r. got (f v) r) (λ v r. got (g v) r) (λ v r. got (h v) r) nd s (λ a b r _ _. refl)
      (λ c a b x _ _ _ _. inr (x, f c, refl, refl, refl))

  similar_if : {A : Type 0} (b b1 b2 : Bool) (o1 o2 p1 p2 q1 q2 : Outcome A) → b1 ≡ b → b2 ≡ b
      → (NotDeep o1 → Similar o1 p1 q1) → (NotDeep o2 → Similar o2 p2 q2) → NotDeep (if b then o1 else o2)
      → Similar (if b then o1 else o2) (if b1 then p1 else p2) (if b2 then q1 else q2)
  similar_if true b1 b2 o1 o2 p1 p2 q1 q2 e1 e2 h g nd = rw (e1, e2) (h nd)
  similar_if false b1 b2 o1 o2 p1 p2 q1 q2 e1 e2 h g nd = rw (e1, e2) (g nd)

  -- ---- the next token

  full_front : (ks : List Class) (x : List Spelled) → has ks sign_semicolon ≡ false → begins ks (x ++ t ∷ F) ≡ begins ks x
  full_front ks [] h = ap (has ks) ht ∙ h
  full_front ks (a ∷ x) h = refl

  cut_front : (ks : List Class) (x : List Spelled) → has ks sign_semicolon ≡ false → begins ks (x ++ u ∷ C) ≡ begins ks x
  cut_front ks [] h = ap (has ks) hu ∙ h
  cut_front ks (a ∷ x) h = refl

  no_level_rest : {A : Type 0} (o : Outcome A) (ks : List Class) (r s : List Spelled) → has ks sign_semicolon ≡ false → Rest r s
      → Similar o (no_level {A = A} ks r) (no_level {A = A} ks s)
  no_level_rest o ks r s h (inl e) = rw e (past_similar o (no_level ks s) (no_level ks s) (past_itself (no_level ks s)))
  no_level_rest o ks r s h (inr (x, er, es)) = rw (er, es, full_front ks x h, cut_front ks x h) (each (begins ks x))
    where
      each : (b : Bool) → Similar o (if b then too_deep (x ++ t ∷ F) else refused (x ++ t ∷ F)) (if b then too_deep (x ++ u ∷ C) else refused (x ++ u ∷ C))
      each true = inr (x, refl, refl)
      each false = inr (x, refl, refl)

  similar_deepen : {A : Type 0} (o p q : Outcome A) (k n : ℕ) → Similar o p q → Similar (deepen o k) (deepen p n) (deepen q n)
  similar_deepen o (got a r) (got b s) k n (inl e) = inl e
  similar_deepen {A} o (got a r) (got b s) k n (inr (x, c, eo, er, es)) = inr (x, c, ap (λ (z : Outcome A). deepen z k) eo, er, es)
  similar_deepen o (refused r) (refused s) k zero e = no_level_rest (deepen o k) open_brackets r s refl e
  similar_deepen o (refused r) (refused s) k (suc n) e = e
  similar_deepen o (too_deep r) (too_deep s) k n e = e
  similar_deepen o (got a r) (refused s) k n e = absurd e
  similar_deepen o (got a r) (too_deep s) k n e = absurd e
  similar_deepen o (refused r) (got b s) k n e = absurd e
  similar_deepen o (refused r) (too_deep s) k n e = absurd e
  similar_deepen o (too_deep r) (got b s) k n e = absurd e
  similar_deepen o (too_deep r) (refused s) k n e = absurd e

  -- ---- tokens

  token_some : (ks : List Class) (a : Spelled) (x : List Spelled) → Similar (take_token ks (a ∷ x)) (take_token ks (a ∷ (x ++ t ∷ F))) (take_token ks (a ∷ (x ++ u ∷ C)))
  token_some ks a x = each (has ks (class a))
    where
      each : (b : Bool) → Similar (if b then got a x else refused (a ∷ x)) (if b then got a (x ++ t ∷ F) else refused (a ∷ (x ++ t ∷ F))) (if b then got a (x ++ u ∷ C) else refused (a ∷ (x ++ u ∷ C)))
      each true = inr (x, a, refl, refl, refl)
      each false = inr (a ∷ x, refl, refl)

  token_free : (ks : List Class) → has ks sign_semicolon ≡ false → (x : List Spelled) → Similar (take_token ks x) (take_token ks (x ++ t ∷ F)) (take_token ks (x ++ u ∷ C))
  token_free ks h [] =
      let et : has ks (class t) ≡ false = ap (has ks) ht ∙ h in
      let eu : has ks (class u) ≡ false = ap (has ks) hu ∙ h in
      rw (et, eu) (inr ([], refl, refl))
  token_free ks h (a ∷ x) = token_some ks a x

  -- ---- phrases in a row

  repeat_similar : {A : Type 0} (one0 one1 : List Spelled → Outcome A) (ks : List Class)
      → ((ts r : List Spelled) (v : A) → one0 ts ≡ got v r → length r < length ts) → ((ts r : List Spelled) (v : A) → one1 ts ≡ got v r → length r < length ts)
      → ((a : Spelled) (x : List Spelled) → NotDeep (one0 (a ∷ x)) → Similar (one0 (a ∷ x)) (one1 (a ∷ (x ++ t ∷ F))) (one1 (a ∷ (x ++ u ∷ C))))
      → ((i j l : ℕ) → length (t ∷ F) ≤ j → length (u ∷ C) ≤ l → Similar (repeat one0 ks i []) (repeat one1 ks j (t ∷ F)) (repeat one1 ks l (u ∷ C)))
      → (i j l : ℕ) (x : List Spelled) → length x ≤ i → length (x ++ t ∷ F) ≤ j → length (x ++ u ∷ C) ≤ l → NotDeep (repeat one0 ks i x)
      → Similar (repeat one0 ks i x) (repeat one1 ks j (x ++ t ∷ F)) (repeat one1 ks l (x ++ u ∷ C))
  repeat_similar one0 one1 ks sh0 sh1 item stop i j l [] li lj ll nd = stop i j l lj ll
  repeat_similar one0 one1 ks sh0 sh1 item stop zero j l (a ∷ x) li lj ll nd = let no : ⊥ = omega arith in absurd no
  repeat_similar one0 one1 ks sh0 sh1 item stop (suc i) zero l (a ∷ x) li lj ll nd = let no : ⊥ = omega arith in absurd no
  repeat_similar one0 one1 ks sh0 sh1 item stop (suc i) (suc j) zero (a ∷ x) li lj ll nd = let no : ⊥ = omega arith in absurd no
  repeat_similar one0 one1 ks sh0 sh1 item stop (suc i) (suc j) (suc l) (a ∷ x) li lj ll nd =
      similar_if (has ks (class a)) (has ks (class a)) (has ks (class a)) _ _ _ _ _ _ refl refl
      (λ nd2. similar_then (one0 (a ∷ x)) (one1 (a ∷ (x ++ t ∷ F))) (one1 (a ∷ (x ++ u ∷ C)))
      (λ v r. and_then (repeat one0 ks i r) (λ more rest. got (v ∷ more) rest)) (λ v r. and_then (repeat one1 ks j r) (λ more rest. got (v ∷ more) rest))
      (λ v r. and_then (repeat one1 ks l r) (λ more rest. got (v ∷ more) rest)) nd2
      (item a x (not_deep_then (one0 (a ∷ x)) _ nd2))
      (λ v w r ep eq.
      let s1 = sh1 (a ∷ (x ++ t ∷ F)) r v ep in
      let s2 = sh1 (a ∷ (x ++ u ∷ C)) r w eq in
      let same = repeat_fuel one1 ks sh1 j l r (omega arith) (omega arith) in
      rw same (past_map (repeat one1 ks l r) (λ more. v ∷ more) (λ more. w ∷ more)))
      (λ c v w z eo ep eq nd3.
      let s0 = sh0 (a ∷ x) z c eo in
      let s1 = sh1 (a ∷ (x ++ t ∷ F)) (z ++ t ∷ F) v ep in
      let s2 = sh1 (a ∷ (x ++ u ∷ C)) (z ++ u ∷ C) w eq in
      similar_map (repeat one0 ks i z) (repeat one1 ks j (z ++ t ∷ F)) (repeat one1 ks l (z ++ u ∷ C)) (λ more. c ∷ more) (λ more. v ∷ more) (λ more. w ∷ more) nd3
      (repeat_similar one0 one1 ks sh0 sh1 item stop i j l z (omega arith) (omega arith) (omega arith) (not_deep_then (repeat one0 ks i z) _ nd3))))
      (λ nd2. inr (a ∷ x, [], refl, refl, refl)) nd

  -- ---- phrases, with k levels in the third reading and n in the others

  module _ (k n : ℕ) where
    abbrev pub GoesAt : {A : Type 0} → Syn A → List Spelled → Type 0
    GoesAt s x = NotDeep (read k s x) → Similar (read k s x) (read n s (x ++ t ∷ F)) (read n s (x ++ u ∷ C))

    abbrev pub Goes : {A : Type 0} → Syn A → Type 0
    Goes s = (x : List Spelled) → GoesAt s x

    both_at : {A B : Type 0} (s : Syn A) (v : Syn B) (x : List Spelled) → GoesAt s x → Goes v → GoesAt (both s v) x
    both_at s v x h g nd =
        similar_then (read k s x) (read n s (x ++ t ∷ F)) (read n s (x ++ u ∷ C))
        (λ a r. and_then (read k v r) (λ b r2. got (a, b) r2)) (λ a r. and_then (read n v r) (λ b r2. got (a, b) r2)) (λ a r. and_then (read n v r) (λ b r2. got (a, b) r2))
        nd (h (not_deep_then (read k s x) _ nd))
        (λ a b r _ _. past_map (read n v r) (λ w. (a, w)) (λ w. (b, w)))
        (λ c a b z _ _ _ nd2. similar_map (read k v z) (read n v (z ++ t ∷ F)) (read n v (z ++ u ∷ C)) (λ w. (c, w)) (λ w. (a, w)) (λ w. (b, w)) nd2 (g z (not_deep_then (read k v z) _ nd2)))

    means_at : {A B : Type 0} (s : Syn A) (f : A → B) (x : List Spelled) → GoesAt s x → GoesAt (means f s) x
    means_at s f x h nd = similar_map (read k s x) (read n s (x ++ t ∷ F)) (read n s (x ++ u ∷ C)) f f f nd (h (not_deep_then (read k s x) _ nd))

    goes_give : {A : Type 0} (a : A) → Goes (give a)
    goes_give a x nd = inr (x, a, refl, refl, refl)

    goes_either : {A : Type 0} (s v : Syn A) → has (first s) sign_semicolon ≡ false → Goes s → Goes v → Goes (either s v)
    goes_either s v h g1 g2 x nd =
        similar_if (begins (first s) x) (begins (first s) (x ++ t ∷ F)) (begins (first s) (x ++ u ∷ C)) _ _ _ _ _ _
        (full_front (first s) x h) (cut_front (first s) x h) (g1 x) (g2 x) nd

    many_at : {A : Type 0} (s : Syn A) → decided s ≡ true → nullable s ≡ false → ((a : Spelled) (x : List Spelled) → GoesAt s (a ∷ x))
        → ((i j l : ℕ) → length (t ∷ F) ≤ j → length (u ∷ C) ≤ l → Similar (repeat (read k s) (first s) i []) (repeat (read n s) (first s) j (t ∷ F)) (repeat (read n s) (first s) l (u ∷ C)))
        → Goes (many s)
    many_at s dec some item stop x nd =
        repeat_similar (read k s) (read n s) (first s) (λ ts r v e. read_shorter k s ts r v dec some e) (λ ts r v e. read_shorter n s ts r v dec some e) item stop
        (length x) (length (x ++ t ∷ F)) (length (x ++ u ∷ C)) x (omega arith) (omega arith) (omega arith) nd

    goes_many : {A : Type 0} (s : Syn A) → decided s ≡ true → nullable s ≡ false → has (first s) sign_semicolon ≡ false → Goes s → Goes (many s)
    goes_many s dec some h g =
        many_at s dec some (λ a x. g (a ∷ x))
        (λ i j l _ _. rw (repeat_nil (read k s) (first s) i, repeat_stops (read n s) (first s) j (t ∷ F) (full_front (first s) [] h), repeat_stops (read n s) (first s) l (u ∷ C) (cut_front (first s) [] h))
        (inr ([], [], refl, refl, refl)))

    -- what stands a level further in, of which there is one in the third reading
    abbrev pub Down : Type 0
    Down = (r : Part) (x : List Spelled) → NotDeep (inner k r x) → Similar (inner k r x) (inner n r (x ++ t ∷ F)) (inner n r (x ++ u ∷ C))

  -- where no level is left in the third reading, one is opened nowhere
  enclosed_unopened : {A : Type 0} (n : ℕ) (inn : List Spelled → Outcome A) (o c : Class) (ts : List Spelled) → begins (o ∷ []) ts ≡ false → enclosed n inn o c ts ≡ refused ts
  enclosed_unopened zero inn o c ts h = rw h refl
  enclosed_unopened (suc n) inn o c [] h = refl
  enclosed_unopened (suc n) inn o c (a ∷ ts) h = rw h refl

  prefixed_unopened : {A : Type 0} (n : ℕ) (inn : List Spelled → Outcome A) (ks : List Class) (ts : List Spelled) → begins ks ts ≡ false → prefixed n inn ks ts ≡ refused ts
  prefixed_unopened zero inn ks ts h = rw h refl
  prefixed_unopened (suc n) inn ks [] h = refl
  prefixed_unopened (suc n) inn ks (a ∷ ts) h = rw h refl

  no_level_not : (A : Type 0) (ks : List Class) (x : List Spelled) → NotDeep (no_level {A = A} ks x) → begins ks x ≡ false
  no_level_not A ks x nd = is_false (begins ks x) (λ yes. rw yes at nd)

  unopened : {A : Type 0} (o p q : Outcome A) (x : List Spelled) → p ≡ refused (x ++ t ∷ F) → q ≡ refused (x ++ u ∷ C) → Similar o p q
  unopened o p q x ep eq = rw (ep, eq) (inr (x, refl, refl))

  inside_none : (n : ℕ) (o : Class) (r : Part) (c : Class) → has (o ∷ []) sign_semicolon ≡ false → Goes 0 n (inside o r c)
  inside_none n o r c h x nd =
      let stop = no_level_not _ (o ∷ []) x nd in
      unopened (read 0 (inside o r c) x) (enclosed n (inner n r) o c (x ++ t ∷ F)) (enclosed n (inner n r) o c (x ++ u ∷ C)) x
      (enclosed_unopened n (inner n r) o c (x ++ t ∷ F) (full_front (o ∷ []) x h ∙ stop)) (enclosed_unopened n (inner n r) o c (x ++ u ∷ C) (cut_front (o ∷ []) x h ∙ stop))

  prefix_none : (n : ℕ) (ks : List Class) (r : Part) → has ks sign_semicolon ≡ false → Goes 0 n (prefix ks r)
  prefix_none n ks r h x nd =
      let stop = no_level_not _ ks x nd in
      unopened (read 0 (prefix ks r) x) (prefixed n (inner n r) ks (x ++ t ∷ F)) (prefixed n (inner n r) ks (x ++ u ∷ C)) x
      (prefixed_unopened n (inner n r) ks (x ++ t ∷ F) (full_front ks x h ∙ stop)) (prefixed_unopened n (inner n r) ks (x ++ u ∷ C) (cut_front ks x h ∙ stop))

  -- a part and the bracket that closes
  abbrev pub body : ℕ → (r : Part) → Class → Spelled → List Spelled → Outcome (Spelled × Meant r)
  body k r c a z = and_then (inner k r z) (λ v r2. and_then (take_token (c ∷ []) r2) (λ _ r3. got (a, v) r3))

  body_similar : (k n : ℕ) → Down k n → (r : Part) (c : Class) → has (c ∷ []) sign_semicolon ≡ false → (a : Spelled) (x : List Spelled)
      → NotDeep (body k r c a x) → Similar (body k r c a x) (body n r c a (x ++ t ∷ F)) (body n r c a (x ++ u ∷ C))
  body_similar k n down r c h a x nd =
      similar_then (inner k r x) (inner n r (x ++ t ∷ F)) (inner n r (x ++ u ∷ C)) (λ v r2. and_then (take_token (c ∷ []) r2) (λ _ r3. got (a, v) r3))
      (λ v r2. and_then (take_token (c ∷ []) r2) (λ _ r3. got (a, v) r3)) (λ v r2. and_then (take_token (c ∷ []) r2) (λ _ r3. got (a, v) r3)) nd
      (down r x (not_deep_then (inner k r x) _ nd))
      (λ v w z _ _. past_map (take_token (c ∷ []) z) (λ _. (a, v)) (λ _. (a, w)))
      (λ v w w2 z _ _ _ nd2. similar_map (take_token (c ∷ []) z) (take_token (c ∷ []) (z ++ t ∷ F)) (take_token (c ∷ []) (z ++ u ∷ C)) (λ _. (a, v)) (λ _. (a, w)) (λ _. (a, w2)) nd2 (token_free (c ∷ []) h z))

  inside_some : (k n : ℕ) → Down (suc k) (suc n) → (o : Class) (r : Part) (c : Class) → has (o ∷ []) sign_semicolon ≡ false → has (c ∷ []) sign_semicolon ≡ false → Goes (suc k) (suc n) (inside o r c)
  inside_some k n down o r c h g [] nd =
      let et : has (o ∷ []) (class t) ≡ false = ap (has (o ∷ [])) ht ∙ h in
      let eu : has (o ∷ []) (class u) ≡ false = ap (has (o ∷ [])) hu ∙ h in
      rw (et, eu) (inr ([], refl, refl))
  inside_some k n down o r c h g (a ∷ x) nd = each (has (o ∷ []) (class a)) nd
    where
      each : (b : Bool) → NotDeep (and_then (if b then got a x else refused (a ∷ x)) (λ a2 z. deepen (body (suc k) r c a2 z) k))
          → Similar (and_then (if b then got a x else refused (a ∷ x)) (λ a2 z. deepen (body (suc k) r c a2 z) k))
          (and_then (if b then got a (x ++ t ∷ F) else refused (a ∷ (x ++ t ∷ F))) (λ a2 z. deepen (body (suc n) r c a2 z) n))
          (and_then (if b then got a (x ++ u ∷ C) else refused (a ∷ (x ++ u ∷ C))) (λ a2 z. deepen (body (suc n) r c a2 z) n))
      each true nd2 =
          similar_deepen (body (suc k) r c a x) (body (suc n) r c a (x ++ t ∷ F)) (body (suc n) r c a (x ++ u ∷ C)) k n
          (body_similar (suc k) (suc n) down r c g a x (not_deep_deepen (body (suc k) r c a x) k nd2))
      each false nd2 = inr (a ∷ x, refl, refl)

  -- a part behind its prefix
  abbrev pub held : ℕ → (r : Part) → Spelled → List Spelled → Outcome (Spelled × Meant r)
  held k r a z = and_then (inner k r z) (λ v r2. got (a, v) r2)

  prefix_some : (k n : ℕ) → Down (suc k) (suc n) → (ks : List Class) (r : Part) → has ks sign_semicolon ≡ false → Goes (suc k) (suc n) (prefix ks r)
  prefix_some k n down ks r h [] nd =
      let et : has ks (class t) ≡ false = ap (has ks) ht ∙ h in
      let eu : has ks (class u) ≡ false = ap (has ks) hu ∙ h in
      rw (et, eu) (inr ([], refl, refl))
  prefix_some k n down ks r h (a ∷ x) nd = each (has ks (class a)) nd
    where
      each : (b : Bool) → NotDeep (and_then (if b then got a x else refused (a ∷ x)) (λ a2 z. held (suc k) r a2 z))
          → Similar (and_then (if b then got a x else refused (a ∷ x)) (λ a2 z. held (suc k) r a2 z))
          (and_then (if b then got a (x ++ t ∷ F) else refused (a ∷ (x ++ t ∷ F))) (λ a2 z. held (suc n) r a2 z))
          (and_then (if b then got a (x ++ u ∷ C) else refused (a ∷ (x ++ u ∷ C))) (λ a2 z. held (suc n) r a2 z))
      each true nd2 =
          similar_map (inner (suc k) r x) (inner (suc n) r (x ++ t ∷ F)) (inner (suc n) r (x ++ u ∷ C)) (λ v. (a, v)) (λ v. (a, v)) (λ v. (a, v)) nd2
          (down r x (not_deep_then (inner (suc k) r x) _ nd2))
      each false nd2 = inr (a ∷ x, refl, refl)

  -- ---- phrases without a semicolon of their own

  -- what stands a level further in, where there is one in the third reading
  abbrev pub Below : ℕ → ℕ → Type 0
  Below zero n = Unit {0}
  Below (suc k) zero = ⊥
  Below (suc k) (suc n) = Down (suc k) (suc n)

  free_inside : (k n : ℕ) → Below k n → (o : Class) (r : Part) (c : Class) → free (inside o r c) ≡ true → Goes k n (inside o r c)
  free_inside zero n below o r c h = inside_none n o r c (not_true (has (o ∷ []) sign_semicolon) (and_left (not (has (o ∷ []) sign_semicolon)) _ h))
  free_inside (suc k) zero below o r c h = absurd below
  free_inside (suc k) (suc n) below o r c h =
      inside_some k n below o r c (not_true (has (o ∷ []) sign_semicolon) (and_left (not (has (o ∷ []) sign_semicolon)) (not (has (c ∷ []) sign_semicolon)) h))
      (not_true (has (c ∷ []) sign_semicolon) (and_right (not (has (o ∷ []) sign_semicolon)) (not (has (c ∷ []) sign_semicolon)) h))

  free_prefix : (k n : ℕ) → Below k n → (ks : List Class) (r : Part) → free (prefix ks r) ≡ true → Goes k n (prefix ks r)
  free_prefix zero n below ks r h = prefix_none n ks r (not_true (has ks sign_semicolon) h)
  free_prefix (suc k) zero below ks r h = absurd below
  free_prefix (suc k) (suc n) below ks r h = prefix_some k n below ks r (not_true (has ks sign_semicolon) h)

  module _ (k n : ℕ) (below : Below k n) where
    pub by_free : {A : Type 0} (s : Syn A) → free s ≡ true → decided s ≡ true → Goes k n s
    by_free (token ks) h dec x = λ nd. token_free ks (not_true (has ks sign_semicolon) h) x
    by_free (give a) h dec x = goes_give k n a x
    by_free (both s v) h dec x =
        let dec2 = and_right (disjoint (first v) (further s)) (decided s && decided v) dec in
        both_at k n s v x (by_free s (and_left (free s) (free v) h) (and_left (decided s) (decided v) dec2) x) (by_free v (and_right (free s) (free v) h) (and_right (decided s) (decided v) dec2))
    by_free (either s v) h dec x =
        let dec1 = and_right (not (nullable s)) (disjoint (first v) (first s) && (decided s && decided v)) dec in
        let dec2 = and_right (disjoint (first v) (first s)) (decided s && decided v) dec1 in
        let h1 = and_left (free s) (free v) h in
        goes_either k n s v (first_free s h1) (by_free s h1 (and_left (decided s) (decided v) dec2)) (by_free v (and_right (free s) (free v) h) (and_right (decided s) (decided v) dec2)) x
    by_free (many s) h dec x =
        let dec1 = and_right (not (nullable s)) (disjoint (first s) (further s) && decided s) dec in
        let dec2 = and_right (disjoint (first s) (further s)) (decided s) dec1 in
        goes_many k n s dec2 (not_true (nullable s) (and_left (not (nullable s)) _ dec)) (first_free s h) (by_free s h dec2) x
    by_free (means f s) h dec x = means_at k n s f x (by_free s h dec x)
    by_free (inside o r c) h dec x = free_inside k n below o r c h x
    by_free (prefix ks r) h dec x = free_prefix k n below ks r h x

  -- ---- where statements may be left out

  module _ (m : ℕ) (loop : (n : ℕ) → m ≤ n → Past (read n (many next_statement) (t ∷ F)) (read n (many next_statement) (u ∷ C))) where
    module _ (k n : ℕ) (below : Below k n) (le : m ≤ n) where
      statement_goes : Goes k n one_statement
      statement_goes = by_free k n below one_statement statement_free statement_decided

      next_at : (a : Spelled) (x : List Spelled) → GoesAt k n next_statement (a ∷ x)
      next_at a x =
          means_at k n (both (token (sign_semicolon ∷ [])) one_statement) (λ q. q.1) (a ∷ x)
          (both_at k n (token (sign_semicolon ∷ [])) one_statement (a ∷ x) (λ nd. token_some (sign_semicolon ∷ []) a x) statement_goes)

      next_shorter : (l : ℕ) (ts r : List Spelled) (v : Process) → read l next_statement ts ≡ got v r → length r < length ts
      next_shorter l ts r v e = read_shorter l next_statement ts r v next_decided refl e

      turns : (j : ℕ) (r : List Spelled) → length r ≤ j → repeat (read n next_statement) (first next_statement) j r ≡ read n (many next_statement) r
      turns j r lj = repeat_fuel (read n next_statement) (first next_statement) (next_shorter n) j (length r) r lj (omega arith)

      stop_at : (i j l : ℕ) → length (t ∷ F) ≤ j → length (u ∷ C) ≤ l
          → Similar (repeat (read k next_statement) (first next_statement) i []) (repeat (read n next_statement) (first next_statement) j (t ∷ F)) (repeat (read n next_statement) (first next_statement) l (u ∷ C))
      stop_at i j l lj ll =
          past_similar (repeat (read k next_statement) (first next_statement) i []) (repeat (read n next_statement) (first next_statement) j (t ∷ F)) (repeat (read n next_statement) (first next_statement) l (u ∷ C))
          (past_both (turns j (t ∷ F) lj) (turns l (u ∷ C) ll) (loop n le))

      statements_go : Goes k n (many next_statement)
      statements_go = many_at k n next_statement next_decided refl next_at stop_at

      sequence_goes : Goes k n (in_sequence one_statement)
      sequence_goes x =
          means_at k n (separated sign_semicolon one_statement) means_as.sequence_of x
          (means_at k n (both one_statement (many next_statement)) (λ q. q.0 ∷ q.1) x
          (both_at k n one_statement (many next_statement) x (statement_goes x) statements_go))

      next_sequence_goes : Goes k n next_sequence
      next_sequence_goes x =
          means_at k n (both (token (sign_bar ∷ [])) (in_sequence one_statement)) (λ q. q.1) x
          (both_at k n (token (sign_bar ∷ [])) (in_sequence one_statement) x (λ nd. token_free (sign_bar ∷ []) refl x) sequence_goes)

      parallel_goes : Goes k n (in_parallel one_statement)
      parallel_goes x =
          means_at k n (separated sign_bar (in_sequence one_statement)) means_as.parallel_of x
          (means_at k n (both (in_sequence one_statement) (many next_sequence)) (λ q. q.0 ∷ q.1) x
          (both_at k n (in_sequence one_statement) (many next_sequence) x (sequence_goes x) (goes_many k n next_sequence sequence_decided refl refl next_sequence_goes)))

      body_goes : Goes k n (optional (in_parallel one_statement))
      body_goes =
          goes_either k n (means Some (in_parallel one_statement)) (give None) body_first
          (λ x. means_at k n (in_parallel one_statement) Some x (parallel_goes x)) (goes_give k n None)

      behind_arrow_goes : Goes k n (behind sign_arrow (in_parallel one_statement))
      behind_arrow_goes x =
          means_at k n (both (token (sign_arrow ∷ [])) (in_parallel one_statement)) (λ q. q.1) x
          (both_at k n (token (sign_arrow ∷ [])) (in_parallel one_statement) x (λ nd. token_free (sign_arrow ∷ []) refl x) parallel_goes)

      handler_goes : Goes k n (handler one_statement)
      handler_goes x =
          means_at k n (both handler_key (behind sign_arrow (in_parallel one_statement))) means_as.handler_of x
          (both_at k n handler_key (behind sign_arrow (in_parallel one_statement)) x (by_free k n below handler_key key_free key_decided x) behind_arrow_goes)

      next_handler_goes : Goes k n next_handler
      next_handler_goes x =
          means_at k n (both (token (sign_comma ∷ [])) (handler one_statement)) (λ q. q.1) x
          (both_at k n (token (sign_comma ∷ [])) (handler one_statement) x (λ nd. token_free (sign_comma ∷ []) refl x) handler_goes)

      handlers_go : Goes k n (handlers one_statement)
      handlers_go x =
          means_at k n (both (handler one_statement) (many next_handler)) (λ q. q.0 ∷ q.1) x
          (both_at k n (handler one_statement) (many next_handler) x (handler_goes x) (goes_many k n next_handler handler_decided refl refl next_handler_goes))

      rule_goes : (r : Part) → Goes k n (rule r)
      rule_goes a_body = body_goes
      rule_goes some_handlers = handlers_go
      rule_goes an_expression = by_free k n below (rule an_expression) (free_an_expression) (rules_decided.each an_expression)
      rule_goes an_operand = by_free k n below (rule an_operand) (free_an_operand) (rules_decided.each an_operand)
      rule_goes a_path = by_free k n below (rule a_path) (free_a_path) (rules_decided.each a_path)
      rule_goes maybe_path = by_free k n below (rule maybe_path) (free_maybe_path) (rules_decided.each maybe_path)
      rule_goes maybe_expression = by_free k n below (rule maybe_expression) (free_maybe_expression) (rules_decided.each maybe_expression)
      rule_goes a_name = by_free k n below (rule a_name) (free_a_name) (rules_decided.each a_name)
      rule_goes an_input = by_free k n below (rule an_input) (free_an_input) (rules_decided.each an_input)
      rule_goes an_else_if = by_free k n below (rule an_else_if) (free_an_else_if) (rules_decided.each an_else_if)
      rule_goes for_parts = by_free k n below (rule for_parts) (free_for_parts) (rules_decided.each for_parts)
      rule_goes throw_parts = by_free k n below (rule throw_parts) (free_throw_parts) (rules_decided.each throw_parts)
      rule_goes some_members = by_free k n below (rule some_members) (free_some_members) (rules_decided.each some_members)
      rule_goes a_type_name = by_free k n below (rule a_type_name) (free_a_type_name) (rules_decided.each a_type_name)
      rule_goes some_bounds = by_free k n below (rule some_bounds) (free_some_bounds) (rules_decided.each some_bounds)
      rule_goes some_fields = by_free k n below (rule some_fields) (free_some_fields) (rules_decided.each some_fields)
      rule_goes some_operations = by_free k n below (rule some_operations) (free_some_operations) (rules_decided.each some_operations)
      rule_goes port_parts = by_free k n below (rule port_parts) (free_port_parts) (rules_decided.each port_parts)
      rule_goes some_variables = by_free k n below (rule some_variables) (free_some_variables) (rules_decided.each some_variables)
      rule_goes some_clauses = by_free k n below (rule some_clauses) (free_some_clauses) (rules_decided.each some_clauses)

    levels : (k n : ℕ) → k + m ≤ n → Below k n
    levels zero n le = tt
    levels (suc k) zero le = let no : ⊥ = omega arith in absurd no
    levels (suc k) (suc n) le = rule_goes k n (levels k n (omega arith)) (omega arith)

    file_goes : (k n : ℕ) → k + m ≤ n → Goes k n file
    file_goes k n le = by_free k n (levels k n le) file file_free file_decided

-- ---- statements that stand whole are read past

-- the class of a token that is of one class
pub only_class : (j k : Class) → has (j ∷ []) k ≡ true → k ≡ j
only_class j k h = elim (or_cases (same j k) false h) [ inl e ↦ sym (same_eq j k e) | inr e ↦ cc ]

past_turn : (ks : List Class) (one : List Spelled → Outcome Process) (i : ℕ) (z r y : List Spelled) (a : Process) (q : Outcome (List Process))
    → begins ks z ≡ true → one z ≡ got a r → Past (repeat one ks i r) q → Past (repeat one ks (suc i) z) q
past_turn ks one i z r y a q b e h = rw (b, e) (past_left (repeat one ks i r) q (λ more. a ∷ more) h)

module _ (m n : ℕ) (le : m ≤ n) (u : Spelled) (C : List Spelled) (hu : class u ≡ sign_semicolon) where
  semicolon_next : (z : List Spelled) (vs : List Process) → Nests m (many next_statement) z vs → begins (sign_semicolon ∷ []) (z ++ u ∷ C) ≡ true
  semicolon_next [] vs d = ap (has (sign_semicolon ∷ [])) hu
  semicolon_next (a ∷ z) vs d = many_head (Nests m next_statement) (sign_semicolon ∷ []) (head (Within m) next_statement) a z vs d

  not_further : (r : List Spelled) → begins (sign_semicolon ∷ []) r ≡ true → begins (further next_statement) r ≡ false
  not_further [] h = refl
  not_further (a ∷ r) h = ap (has (further next_statement)) (only_class sign_semicolon (class a) h) ∙ next_apart

  past_by : (i j : ℕ) (z : List Spelled) (vs : List Process) → length (z ++ u ∷ C) ≤ i → length (u ∷ C) ≤ j → Nests m (many next_statement) z vs
      → Past (repeat (read n next_statement) (sign_semicolon ∷ []) i (z ++ u ∷ C)) (repeat (read n next_statement) (sign_semicolon ∷ []) j (u ∷ C))
  past_by i j z [] li lj d =
      let same = repeat_fuel (read n next_statement) (sign_semicolon ∷ []) (λ ts r v e. read_shorter n next_statement ts r v next_decided refl e) i j (u ∷ C) (rw d at li) lj in
      rw (d, same) (past_itself (repeat (read n next_statement) (sign_semicolon ∷ []) j (u ∷ C)))
  past_by i j z (v ∷ vs) li lj d =
      let rest = d.1 ++ u ∷ C in
      let regroup : z ++ u ∷ C ≡ d.0 ++ rest = ap (λ w. w ++ u ∷ C) d.2 ∙ append_assoc d.0 d.1 (u ∷ C) in
      let more = semicolon_next d.1 vs d.4 in
      let item : read n next_statement (z ++ u ∷ C) ≡ got v rest =
      ap (read n next_statement) regroup ∙ complete rules_decided n next_statement next_decided d.0 rest v (Nests_more m n next_statement le d.0 v d.3) (not_further rest more) in
      let less = read_shorter n next_statement (z ++ u ∷ C) rest v next_decided refl item in
      turn i (semicolon_next z (v ∷ vs) d) item less li (λ i2 l2. past_by i2 j d.1 vs l2 lj d.4)
    where
      turn : (i : ℕ) {rest : List Spelled} → begins (sign_semicolon ∷ []) (z ++ u ∷ C) ≡ true → read n next_statement (z ++ u ∷ C) ≡ got v rest → length rest < length (z ++ u ∷ C) → length (z ++ u ∷ C) ≤ i
          → ((i2 : ℕ) → length rest ≤ i2 → Past (repeat (read n next_statement) (sign_semicolon ∷ []) i2 rest) (repeat (read n next_statement) (sign_semicolon ∷ []) j (u ∷ C)))
          → Past (repeat (read n next_statement) (sign_semicolon ∷ []) i (z ++ u ∷ C)) (repeat (read n next_statement) (sign_semicolon ∷ []) j (u ∷ C))
      turn zero b item less l h = let no : ⊥ = omega arith in absurd no
      turn (suc i) {rest} b item less l h = past_turn (sign_semicolon ∷ []) (read n next_statement) i (z ++ u ∷ C) rest [] v _ b item (h i (omega arith))

-- With statements left out that stand whole behind a semicolon, each behind one, and before one, reading a file comes to
-- the same, where what stands before them is not too deep with as many levels less as they need.
pub cut_read : (k m n : ℕ) → k + m ≤ n → (x : List Spelled) (t : Spelled) (z : List Spelled) (u : Spelled) (y : List Spelled) (vs : List Process)
    → (ht : class t ≡ sign_semicolon) → (hu : class u ≡ sign_semicolon) → Nests m (many next_statement) (t ∷ z) vs → NotDeep (read k file x)
    → Similar t u (z ++ u ∷ y) y ht hu (read k file x) (read n file (x ++ t ∷ (z ++ u ∷ y))) (read n file (x ++ u ∷ y))
cut_read k m n le x t z u y vs ht hu d nd =
    file_goes t u (z ++ u ∷ y) y ht hu m
    (λ l lm. past_by m l lm u y hu (length (t ∷ (z ++ u ∷ y))) (length (u ∷ y)) (t ∷ z) vs (omega arith) (omega arith) d)
    k n le x nd
