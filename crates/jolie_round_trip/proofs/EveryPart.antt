-- Every part, however deep, is printed so that it is read again.
use Rattle.std.proofs.Common.{ℕ, zero, suc, List, refl}
use Rattle.jolie_parse.specs.ClassNames as c
use Rattle.jolie_parse.specs.Classes.{Spelled}
use Rattle.jolie_parse.specs.Syntax.{Part, an_expression, an_operand, a_path, maybe_path, maybe_expression, a_body, some_handlers, a_name, an_input, an_else_if, for_parts, throw_parts, some_members, a_type_name, some_bounds, some_fields, some_operations, port_parts, some_variables, some_clauses, Meant, Lang, Derives}
use Rattle.jolie_parse.specs.Grammar.{production, Allowed}
use Rattle.jolie_round_trip.proofs.Lexemes.{IsValid, Every}
use Rattle.jolie_round_trip.proofs.Parts.{Inner, Echoed}
use Rattle.jolie_round_trip.proofs.Reprints.{reprints_many}
use Rattle.jolie_round_trip.proofs.ReprintsForms.{reprints_optional, reprints_separated}
use Rattle.jolie_round_trip.proofs.ReprintsPaths.{name_reprints, path_reprints}
use Rattle.jolie_round_trip.proofs.EchoOperands.{unary_shows}
use Rattle.jolie_round_trip.proofs.EchoExpressions.{expr_shows, expr_reprints}
use Rattle.jolie_round_trip.proofs.ReprintsMembers.{members_reprint}
use Rattle.jolie_round_trip.proofs.ReprintsInputs.{block_reprints, input_reprints, loop_parts_reprint}
use Rattle.jolie_round_trip.proofs.EchoProcesses.{thrown_reprints, if_parts_reprint, else_parts_reprint, body_reprints, handlers_reprint}
use Rattle.jolie_round_trip.proofs.ReprintsTypes.{type_named_reprints, bounds_reprints, field_reprints}
use Rattle.jolie_round_trip.proofs.ReprintsInterfaces.{operation_group_reprints}
use Rattle.jolie_round_trip.proofs.ReprintsServices.{variable_reprints, port_body_reprints, clauses_reprints}

part_again : {w : (r : Part) → Lang (Meant r)} → Inner w → (r : Part) (ts : List Spelled) (v : Meant r) → Derives w (production r) ts v → Every IsValid ts → Echoed r v
part_again inner an_expression = (expr_shows inner).echo
part_again inner an_operand = (unary_shows inner).echo
part_again inner a_path = (path_reprints inner).echo
part_again inner maybe_path = (reprints_optional (path_reprints inner)).echo
part_again inner maybe_expression = (reprints_optional (expr_reprints inner)).echo
part_again inner a_body = (body_reprints inner).echo
part_again inner some_handlers = (handlers_reprint inner).echo
part_again inner a_name = name_reprints.echo
part_again inner an_input = (input_reprints inner).echo
part_again inner an_else_if = (if_parts_reprint inner (else_parts_reprint inner)).echo
part_again inner for_parts = (loop_parts_reprint inner).echo
part_again inner throw_parts = (thrown_reprints inner).echo
part_again inner some_members = (members_reprint inner).echo
part_again inner a_type_name = type_named_reprints.echo
part_again inner some_bounds = bounds_reprints.echo
part_again inner some_fields = (reprints_many (field_reprints inner)).echo
part_again inner some_operations = (reprints_many (operation_group_reprints inner)).echo
part_again inner port_parts = port_body_reprints.echo
part_again inner some_variables = (reprints_separated c.sign_comma refl variable_reprints).echo
part_again inner some_clauses = (reprints_many (clauses_reprints inner (block_reprints inner))).echo

pub every_part : (n : ℕ) → Inner (Allowed n)
every_part zero r ts v d valid = absurd d
every_part (suc n) r ts v d valid = part_again (every_part n) r ts v d valid
