-- One token decides each choice of the factored grammar.
use Rattle.std.proofs.Common.{◌≡◌, true, refl}
use Rattle.jolie_parse.specs.Syntax.{Part, an_expression, an_operand, a_path, maybe_path, maybe_expression, a_body, some_handlers, a_name, an_input, an_else_if, for_parts, throw_parts, some_members, a_type_name, some_bounds, some_fields, some_operations, port_parts, some_variables, some_clauses}
use Rattle.jolie_parse.specs.Grammar.{id, word, index, step, path_parts, path, whole_number, long_number, quoted_text, truth, path_value, size, defined_test, cast, grouped, literal, primary, prefixed_operand, unary, factor, product, term, sum, comparand, comparison, conjunction, expr, member, members, block, reply, input_parts, input, branch, choice, answer, output_parts, output, count, change, assign, correlate, last_change, loop_parts, undefine, repetition, counted_loop, scope, install, throw, compensate, inner_handler, block_statement, nothing, handler_key, thrown, name, root_type, type_body, bounds, cardinal, field, defined_type, type_definition, type_named, fault, throws, request_response, one_way, request_responses, one_ways, operation_group, interface, alias, variable, execution_clause, port_body, port, correlation_set, init_clause, main_clause, clauses, service, file_part, file}
use Rattle.jolie_parse.specs.Factored.{named_parts, one_else, one_statement, rule, decided}
use Rattle.jolie_parse.proofs.Complete.{Decided}

each_decided : (r : Part) → decided (rule r) ≡ true
unfolding id word index step path_parts path whole_number long_number quoted_text truth path_value size defined_test cast grouped literal primary prefixed_operand unary factor product term sum comparand comparison conjunction expr member members block reply input_parts input branch choice answer output_parts output count change assign correlate last_change loop_parts undefine repetition counted_loop scope install throw compensate inner_handler block_statement nothing handler_key thrown name root_type type_body bounds cardinal field defined_type type_definition type_named fault throws request_response one_way request_responses one_ways operation_group interface alias variable execution_clause port_body port correlation_set init_clause main_clause clauses service file_part file named_parts one_else one_statement
each_decided an_expression = refl
each_decided an_operand = refl
each_decided a_path = refl
each_decided maybe_path = refl
each_decided maybe_expression = refl
each_decided a_body = refl
each_decided some_handlers = refl
each_decided a_name = refl
each_decided an_input = refl
each_decided an_else_if = refl
each_decided for_parts = refl
each_decided throw_parts = refl
each_decided some_members = refl
each_decided a_type_name = refl
each_decided some_bounds = refl
each_decided some_fields = refl
each_decided some_operations = refl
each_decided port_parts = refl
each_decided some_variables = refl
each_decided some_clauses = refl

-- each part is decided
pub rules_decided : Decided
rules_decided = record { each = each_decided }

-- so is the whole file
pub file_decided : decided file ≡ true
unfolding id word index step path_parts path whole_number long_number quoted_text truth path_value size defined_test cast grouped literal primary prefixed_operand unary factor product term sum comparand comparison conjunction expr member members block reply input_parts input branch choice answer output_parts output count change assign correlate last_change loop_parts undefine repetition counted_loop scope install throw compensate inner_handler block_statement nothing handler_key thrown name root_type type_body bounds cardinal field defined_type type_definition type_named fault throws request_response one_way request_responses one_ways operation_group interface alias variable execution_clause port_body port correlation_set init_clause main_clause clauses service file_part file named_parts one_else one_statement
file_decided = refl
