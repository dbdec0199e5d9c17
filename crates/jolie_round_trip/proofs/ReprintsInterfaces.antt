-- Interfaces are printed so that they are read again.
use Rattle.std.proofs.Common.{◌≡◌, ℕ, List, [], ◌∷◌, ◌++◌, map, Option, Some, None, refl, ap, subst, ◌∙◌, codes}
use Rattle.std.specs.Prelude.{option_map, flat_map, unwrap_or}
use Rattle.std.specs.Option.{option_map_or}
use Rattle.jolie_ast.specs.declared.interface.TypeName.{TypeName}
use Rattle.jolie_ast.specs.declared.interface.Fault.{Fault}
use Rattle.jolie_ast.specs.declared.interface.RequestResponse.{RequestResponse}
use Rattle.jolie_ast.specs.declared.interface.OneWay.{OneWay}
use Rattle.jolie_ast.specs.declared.interface.OperationGroup.{OperationGroup}
use Rattle.jolie_ast.specs.declared.interface.OperationGroup.TheVariants as group
use Rattle.jolie_ast.specs.declared.interface.Interface.{Interface}
use Rattle.jolie_ast.specs.Spacing.{Token}
use Rattle.jolie_ast.specs.PrintedExpressions.{in_parens}
use Rattle.jolie_ast.specs.PrintedParts.{maybe}
use Rattle.jolie_ast.specs.Printed.{type_name_token, fault_tokens, throws_tokens, request_response_tokens, one_way_tokens, group_tokens, interface_tokens}
use Rattle.jolie_parse.specs.ClassNames as c
use Rattle.jolie_parse.specs.Classes.{place}
use Rattle.jolie_parse.specs.Made as made
use Rattle.jolie_parse.specs.Syntax.{Part, Meant, Lang, a_type_name, some_operations, behind, some_of}
use Rattle.jolie_parse.specs.Grammar.{parens, fault, throws, request_response, one_way, request_responses, one_ways, operation_group, interface}
use Rattle.jolie_round_trip.specs.Placeless.{type_name_placeless, fault_placeless, request_response_placeless, one_way_placeless, group_placeless, interface_placeless}
use Rattle.jolie_round_trip.proofs.Echo.{echo_as}
use Rattle.jolie_round_trip.proofs.Parts.{Inner}
use Rattle.jolie_round_trip.proofs.Reprints.{Reprints, reprints_both, reprints_either, reprints_means}
use Rattle.jolie_round_trip.proofs.ReprintsTokens.{reprints_one, reprints_between}
use Rattle.jolie_round_trip.proofs.ReprintsForms.{reprints_behind, reprints_ended, reprints_separated, reprints_some, reprints_optional}
use Rattle.jolie_round_trip.proofs.ReprintsPaths.{id_reprints, name_spelled}

-- a fault of its name and type
abbrev fault_spelled : List ℕ × Option TypeName → Fault
fault_spelled z = record { name = name_spelled z.0; ty = z.1 }

-- the faults behind `throws`, if any are named
abbrev maybe_faults : Option (List Fault) → List Fault
maybe_faults throws = unwrap_or throws []

-- a request-response operation of its name, types and faults
abbrev request_response_spelled : List ℕ × (TypeName × (TypeName × Option (List Fault))) → RequestResponse
request_response_spelled z = record { name = name_spelled z.0; request = z.1.0; response = z.1.1.0; throws = maybe_faults z.1.1.1 }

-- a one-way operation of its name and type
abbrev one_way_spelled : List ℕ × TypeName → OneWay
one_way_spelled z = record { name = name_spelled z.0; request = z.1 }

-- an interface of its name and operations
abbrev interface_spelled : List ℕ × List OperationGroup → Interface
interface_spelled z = record { at = 0; name = name_spelled z.0; groups = z.1 }

-- the tokens of a type in parentheses
abbrev type_parens : TypeName → List Token
type_parens t = in_parens (type_name_token t ∷ [])

data_printed : (ty : Option TypeName) → option_map_or type_parens ty [] ≡ maybe (option_map type_parens ty)
data_printed None = refl
data_printed (Some ty) = refl

throws_printed : (throws : Option (List Fault)) → throws_tokens (maybe_faults throws) ≡ maybe (option_map throws_tokens throws)
throws_printed None = refl
throws_printed (Some faults) = refl

throws_kept : (throws : Option (List Fault)) → map fault_placeless (maybe_faults throws) ≡ maybe_faults (option_map (map fault_placeless) throws)
throws_kept None = refl
throws_kept (Some faults) = refl

some_faults_printed : (faults : List Fault) (parts : Fault × List Fault) → parts.0 ∷ parts.1 ≡ faults → codes "throws" ∷ flat_map fault_tokens faults ≡ throws_tokens faults
some_faults_printed faults parts e = subst (λ fs. codes "throws" ∷ flat_map fault_tokens fs ≡ throws_tokens fs) e refl

module _ {w : (r : Part) → Lang (Meant r)} (inner : Inner w) where
  type_reprints : Reprints w (parens a_type_name) type_name_placeless type_parens
  type_reprints = reprints_between inner c.sign_open_paren a_type_name c.sign_close_paren refl refl

  fault_reprints : Reprints w fault fault_placeless fault_tokens
  unfolding fault
  fault_reprints =
      reprints_means made.fault_of fault_placeless fault_tokens fault_spelled (λ q. refl) (λ q. ap (λ ts. q.0.spelling ∷ ts) (data_printed q.1))
      (reprints_both id_reprints (reprints_optional type_reprints))

  -- the faults behind `throws`, of which there is one at least
  some_faults_reprints : Reprints w (behind c.the_throws (some_of fault)) (map fault_placeless) throws_tokens
  some_faults_reprints =
      let plain = reprints_behind c.the_throws refl (reprints_some fault_reprints) in
      record { echo = λ ts v d valid. echo_as (plain.echo ts v d valid) (throws_tokens v) (some_faults_printed v d.2.4.0 (d.2.4.1 ∙ d.1)) }

  throws_reprints : Reprints w throws (option_map (map fault_placeless)) (λ v. maybe (option_map throws_tokens v))
  unfolding throws
  throws_reprints = reprints_optional some_faults_reprints

  request_response_reprints : Reprints w request_response request_response_placeless request_response_tokens
  unfolding request_response
  request_response_reprints =
      reprints_means (λ q. made.request_response_of q.0 q.1.0 q.1.1.0 q.1.1.1) request_response_placeless request_response_tokens request_response_spelled
      (λ q. ap (λ faults. record { name = name_spelled q.0.spelling; request = type_name_placeless q.1.0; response = type_name_placeless q.1.1.0; throws = faults }) (throws_kept q.1.1.1))
      (λ q. ap (λ ts. q.0.spelling ∷ (type_parens q.1.0 ++ type_parens q.1.1.0 ++ ts)) (throws_printed q.1.1.1))
      (reprints_both id_reprints (reprints_both type_reprints (reprints_both type_reprints throws_reprints)))

  one_way_reprints : Reprints w one_way one_way_placeless one_way_tokens
  unfolding one_way
  one_way_reprints = reprints_means made.one_way_of one_way_placeless one_way_tokens one_way_spelled (λ q. refl) (λ q. refl) (reprints_both id_reprints type_reprints)

  request_responses_reprints : Reprints w request_responses group_placeless group_tokens
  unfolding request_responses
  request_responses_reprints =
      reprints_means (λ q. group.RequestResponse (place q.0) q.1) group_placeless group_tokens (λ z. group.RequestResponse 0 z.1) (λ q. refl) (λ q. refl)
      (reprints_both (reprints_ended c.sign_colon refl (reprints_one c.the_request_response refl)) (reprints_separated c.sign_comma refl request_response_reprints))

  one_ways_reprints : Reprints w one_ways group_placeless group_tokens
  unfolding one_ways
  one_ways_reprints =
      reprints_means (λ q. group.OneWay (place q.0) q.1) group_placeless group_tokens (λ z. group.OneWay 0 z.1) (λ q. refl) (λ q. refl)
      (reprints_both (reprints_ended c.sign_colon refl (reprints_one c.the_one_way refl)) (reprints_separated c.sign_comma refl one_way_reprints))

  pub operation_group_reprints : Reprints w operation_group group_placeless group_tokens
  unfolding operation_group
  operation_group_reprints = reprints_either request_responses_reprints one_ways_reprints

  pub interface_reprints : Reprints w interface interface_placeless interface_tokens
  unfolding interface
  interface_reprints =
      reprints_means (λ q. made.interface_of q.0 q.1.0 q.1.1) interface_placeless interface_tokens (λ z. interface_spelled z.1) (λ q. refl) (λ q. refl)
      (reprints_both (reprints_one c.the_interface refl) (reprints_both id_reprints (reprints_between inner c.sign_open_brace some_operations c.sign_close_brace refl refl)))
