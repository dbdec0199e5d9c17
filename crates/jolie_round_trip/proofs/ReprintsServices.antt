-- Services and files are printed so that they are read again.
use Rattle.std.proofs.Common.{◌≡◌, ℕ, Bool, true, false, List, [], ◌∷◌, ◌++◌, map, Option, Some, None, refl, ap, codes, if◌then◌else◌}
use Rattle.std.specs.Prelude.{option_map, flat_map}
use Rattle.jolie_ast.specs.declared.name.Name.{Name}
use Rattle.jolie_ast.specs.declared.name.Quoted.{Quoted}
use Rattle.jolie_ast.specs.declared.service.Execution.TheVariants as execution
use Rattle.jolie_ast.specs.declared.service.Port.{Port}
use Rattle.jolie_ast.specs.declared.service.Alias.{Alias}
use Rattle.jolie_ast.specs.declared.service.CorrelationVariable.{CorrelationVariable}
use Rattle.jolie_ast.specs.declared.service.Clause.{Clause}
use Rattle.jolie_ast.specs.declared.service.Clause.TheVariants as clause
use Rattle.jolie_ast.specs.declared.service.Service.{Service}
use Rattle.jolie_ast.specs.declared.tree.Definition.TheVariants as definition
use Rattle.jolie_ast.specs.Spacing.{Token, separated}
use Rattle.jolie_ast.specs.PrintedExpressions.{name_tokens, quoted_token}
use Rattle.jolie_ast.specs.PrintedParts.{maybe}
use Rattle.jolie_ast.specs.PrintedProcesses.{block_tokens}
use Rattle.jolie_ast.specs.Printed.{execution_token, protocol_tokens, port_tokens, alias_tokens, variable_tokens, clause_tokens, service_tokens, definition_tokens}
use Rattle.jolie_parse.specs.declared.class.Class.{Class}
use Rattle.jolie_parse.specs.ClassNames as c
use Rattle.jolie_parse.specs.Classes.{Spelled, class, place, same}
use Rattle.jolie_parse.specs.Made as made
use Rattle.jolie_parse.specs.Meanings as means_as
use Rattle.jolie_parse.specs.Syntax.{Part, Meant, Lang, port_parts, some_variables, some_clauses}
use Rattle.jolie_parse.specs.Grammar.{one, block, alias, variable, execution_clause, port_body, port, correlation_set, init_clause, main_clause, clauses, service, file_part, file}
use Rattle.jolie_round_trip.specs.Placeless.{name_placeless, block_placeless, port_placeless, alias_placeless, variable_placeless, clause_placeless, service_placeless, definition_placeless}
use Rattle.jolie_round_trip.proofs.Parts.{Inner, port_parts_placeless, port_parts_tokens}
use Rattle.jolie_round_trip.proofs.Reprints.{Reprints, reprints_both, reprints_either, reprints_means, reprints_many}
use Rattle.jolie_round_trip.proofs.ReprintsTokens.{kind_kept, spelling_kept, reprints_one, reprints_among, reprints_kinds, reprints_between}
use Rattle.jolie_round_trip.proofs.ReprintsForms.{reprints_behind, reprints_ended, reprints_separated, reprints_some, reprints_optional}
use Rattle.jolie_round_trip.proofs.ReprintsPaths.{id_reprints, word_reprints, name_reprints, name_spelled}
use Rattle.jolie_round_trip.proofs.EchoPrimaries.{text_of, text_bytes}
use Rattle.jolie_round_trip.proofs.ReprintsTypes.{type_definition_reprints}
use Rattle.jolie_round_trip.proofs.ReprintsInterfaces.{interface_reprints}

-- ---- correlation variables

-- an alias of its type, the first field and the further ones
abbrev alias_spelled : List ℕ × (List ℕ × List (List ℕ)) → Alias
alias_spelled z = record { ty = name_spelled z.0; first = name_spelled z.1.0; rest = map name_spelled z.1.1 }

-- a correlation variable of its name and aliases
abbrev variable_spelled : List ℕ × List Alias → CorrelationVariable
variable_spelled z = record { name = name_spelled z.0; aliases = z.1 }

names_kept : (ts : List Spelled) → map name_placeless (map means_as.name_of ts) ≡ map name_spelled (map spelling_kept ts)
names_kept [] = refl
names_kept (t ∷ ts) = ap (λ z. name_spelled t.spelling ∷ z) (names_kept ts)

fields_printed : (ts : List Spelled) → flat_map (λ name. codes "." ∷ name_tokens name) (map means_as.name_of ts) ≡ flat_map (λ t. codes "." ∷ (t.spelling ∷ [])) ts
fields_printed [] = refl
fields_printed (t ∷ ts) = ap (λ z. codes "." ∷ (t.spelling ∷ z)) (fields_printed ts)

module _ {w : (r : Part) → Lang (Meant r)} where
  alias_reprints : Reprints w alias alias_placeless alias_tokens
  unfolding alias
  alias_reprints =
      reprints_means (λ q. made.alias_of q.0 q.1.0 q.1.1) alias_placeless alias_tokens alias_spelled
      (λ q. ap (λ z. record { ty = name_spelled q.0.spelling; first = name_spelled q.1.0.spelling; rest = z }) (names_kept q.1.1))
      (λ q. ap (λ z. q.0.spelling ∷ (codes "." ∷ (q.1.0.spelling ∷ z))) (fields_printed q.1.1))
      (reprints_both id_reprints (reprints_both (reprints_behind c.sign_dot refl word_reprints) (reprints_many (reprints_behind c.sign_dot refl word_reprints))))

  pub variable_reprints : Reprints w variable variable_placeless variable_tokens
  unfolding variable
  variable_reprints =
      reprints_means (λ q. made.variable_of q.0 q.1) variable_placeless variable_tokens variable_spelled (λ q. refl) (λ q. refl)
      (reprints_both (reprints_ended c.sign_colon refl id_reprints) (reprints_some alias_reprints))

-- ---- ports

protocol_printed : (protocol : Option Name) → protocol_tokens protocol ≡ maybe (option_map (λ name. codes "protocol" ∷ (codes ":" ∷ name_tokens name)) protocol)
protocol_printed None = refl
protocol_printed (Some name) = refl

-- a string of its text
abbrev quoted_spelled : List ℕ → Quoted
quoted_spelled text = record { text = text; at = 0 }

-- a port of its name and parts
abbrev port_spelled : List ℕ × (Quoted × Option Name × List Name) → Port
port_spelled z = record { at = 0; name = name_spelled z.0; location = z.1.0; protocol = z.1.1; interfaces = z.1.2 }

-- a port of the one kind or the other
abbrev port_of_kind : Bool → Port → Clause
port_of_kind takes_input p = if takes_input then clause.InputPort p else clause.OutputPort p

-- the word of the kind of a port
abbrev port_word : Class → Token
port_word k = if same k c.the_input_port then codes "inputPort" else codes "outputPort"

port_kept : (takes_input : Bool) (p : Port) → clause_placeless (port_of_kind takes_input p) ≡ port_of_kind takes_input (port_placeless p)
port_kept true p = refl
port_kept false p = refl

port_printed : (takes_input : Bool) (p : Port) → clause_tokens (port_of_kind takes_input p) ≡ (if takes_input then codes "inputPort" else codes "outputPort") ∷ port_tokens p
port_printed true p = refl
port_printed false p = refl

module _ {w : (r : Part) → Lang (Meant r)} where
  string_reprints : Reprints w (one c.quoted_text) kind_kept (λ t. quoted_token (text_of t.token.kind) ∷ [])
  string_reprints = reprints_kinds (c.quoted_text ∷ []) (λ k. quoted_token (text_of k)) text_bytes

  pub port_body_reprints : Reprints w port_body port_parts_placeless port_parts_tokens
  unfolding port_body
  port_body_reprints =
      reprints_means (λ q. (means_as.quoted q.0, q.1.0, q.1.1)) port_parts_placeless port_parts_tokens (λ z. (quoted_spelled (text_of z.0), z.1.0, z.1.1)) (λ q. refl)
      (λ q. ap (λ ts. codes "location" ∷ (codes ":" ∷ (quoted_token (means_as.meant_text q.0) ∷ (ts ++ codes "interfaces" ∷ (codes ":" ∷ separated (codes ",") name_tokens q.1.1))))) (protocol_printed q.1.0))
      (reprints_both (reprints_behind c.the_location refl (reprints_behind c.sign_colon refl string_reprints))
      (reprints_both (reprints_optional (reprints_behind c.the_protocol refl (reprints_behind c.sign_colon refl name_reprints)))
      (reprints_behind c.the_interfaces refl (reprints_behind c.sign_colon refl (reprints_separated c.sign_comma refl name_reprints)))))

  -- ---- clauses

  execution_reprints : Reprints w execution_clause clause_placeless clause_tokens
  unfolding execution_clause
  execution_reprints =
      reprints_means (λ q. clause.Execution (place q.0) (means_as.execution_of q.1)) clause_placeless clause_tokens (λ z. clause.Execution 0 (if same z.1 c.the_concurrent then execution.Concurrent else execution.Single)) (λ q. refl) (λ q. refl)
      (reprints_both (reprints_ended c.sign_colon refl (reprints_one c.the_execution refl))
      (reprints_among (c.the_concurrent ∷ c.the_single ∷ []) (λ k. execution_token (if same k c.the_concurrent then execution.Concurrent else execution.Single)) ((refl, refl), ((refl, refl), tt))))

module _ {w : (r : Part) → Lang (Meant r)} (inner : Inner w) where
  port_reprints : Reprints w port clause_placeless clause_tokens
  unfolding port
  port_reprints =
      reprints_means (λ q. means_as.port_clause q.0 (means_as.port_of q.0 q.1.0 q.1.1)) clause_placeless clause_tokens (λ z. port_of_kind (same z.0 c.the_input_port) (port_spelled z.1))
      (λ q. port_kept (same (class q.0) c.the_input_port) (means_as.port_of q.0 q.1.0 q.1.1))
      (λ q. port_printed (same (class q.0) c.the_input_port) (means_as.port_of q.0 q.1.0 q.1.1))
      (reprints_both (reprints_among (c.the_input_port ∷ c.the_output_port ∷ []) port_word ((refl, refl), ((refl, refl), tt)))
      (reprints_both id_reprints (reprints_between inner c.sign_open_brace port_parts c.sign_close_brace refl refl)))

  correlation_set_reprints : Reprints w correlation_set clause_placeless clause_tokens
  unfolding correlation_set
  correlation_set_reprints =
      reprints_means (λ q. clause.CorrelationSet (place q.0) q.1) clause_placeless clause_tokens (λ z. clause.CorrelationSet 0 z.1) (λ q. refl) (λ q. refl)
      (reprints_both (reprints_one c.the_cset refl) (reprints_between inner c.sign_open_brace some_variables c.sign_close_brace refl refl))

  -- where blocks are
  module _ (blocks : Reprints w block block_placeless block_tokens) where
    init_reprints : Reprints w init_clause clause_placeless clause_tokens
    unfolding init_clause
    init_reprints =
        reprints_means (λ q. clause.Init (place q.0) q.1) clause_placeless clause_tokens (λ z. clause.Init 0 z.1) (λ q. refl) (λ q. refl) (reprints_both (reprints_one c.the_init refl) blocks)

    main_reprints : Reprints w main_clause clause_placeless clause_tokens
    unfolding main_clause
    main_reprints =
        reprints_means (λ q. clause.Main (place q.0) q.1) clause_placeless clause_tokens (λ z. clause.Main 0 z.1) (λ q. refl) (λ q. refl) (reprints_both (reprints_one c.the_main refl) blocks)

    pub clauses_reprints : Reprints w clauses clause_placeless clause_tokens
    unfolding clauses
    clauses_reprints =
        reprints_either execution_reprints (reprints_either port_reprints (reprints_either correlation_set_reprints (reprints_either init_reprints main_reprints)))

  -- a service of its name and clauses
  abbrev service_spelled : List ℕ × List Clause → Service
  service_spelled z = record { at = 0; name = name_spelled z.0; clauses = z.1 }

  service_reprints : Reprints w service service_placeless service_tokens
  unfolding service
  service_reprints =
      reprints_means (λ q. means_as.service_of q.0 q.1.0 q.1.1) service_placeless service_tokens (λ z. service_spelled z.1) (λ q. refl) (λ q. refl)
      (reprints_both (reprints_one c.the_service refl) (reprints_both id_reprints (reprints_between inner c.sign_open_brace some_clauses c.sign_close_brace refl refl)))

  -- ---- files

  file_part_reprints : Reprints w file_part definition_placeless definition_tokens
  unfolding file_part
  file_part_reprints =
      reprints_either
      (reprints_means definition.Type definition_placeless definition_tokens definition.Type (λ v. refl) (λ v. refl) (type_definition_reprints inner))
      (reprints_either
      (reprints_means definition.Interface definition_placeless definition_tokens definition.Interface (λ v. refl) (λ v. refl) (interface_reprints inner))
      (reprints_means definition.Service definition_placeless definition_tokens definition.Service (λ v. refl) (λ v. refl) service_reprints))

  pub file_reprints : Reprints w file (map definition_placeless) (flat_map definition_tokens)
  unfolding file
  file_reprints = reprints_many file_part_reprints
