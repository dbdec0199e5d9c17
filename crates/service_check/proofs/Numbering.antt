-- Laws of what the checker keeps of the ports, the operations and the variables of a service.
use Rattle.std.proofs.Common.{◌≡◌, ℕ, zero, suc, ◌+◌, ◌<◌, arith, List, [], ◌∷◌, ◌++◌, map, flat_map, length, get_or, take, ap, sym, ◌∙◌, append_assoc, append-nil}
use Rattle.std.specs.List.{filter_map}
use Rattle.std.specs.Option.{option_to_list}
use Rattle.std.proofs.lemmas.List.{map-append, length-map, length-take-le, take_more}
use Rattle.jolie_ast.specs.declared.name.Name.{Name}
use Rattle.jolie_ast.specs.declared.interface.Interface.{Interface}
use Rattle.jolie_ast.specs.declared.service.Clause.{Clause}
use Rattle.jolie_ast.specs.declared.service.Port.{Port}
use Rattle.jolie_ast.specs.declared.service.Service.{Service}
use Rattle.service_check.specs.declared.sides.SidedPort.{SidedPort}
use Rattle.lower_processes.specs.Behaviours.{NumberedPort, Numbering}
use Rattle.check_base.specs.Files.{Operation, Sided, each_once, input_operations, input_port_in, operations_among, port_in, texts_of, variables_of}
use Rattle.check_base.specs.Repeated.{with_texts}
use Rattle.service_check.specs.KeptPorts.{sided, input_operations_among, port_texts}
use Rattle.service_check.specs.Programs.{numbered, numbered_from, numbering}
use Rattle.check_base.proofs.Firsts.{once_taken}
use Rattle.check_base.proofs.Loops.{all_of_found, mapped_each}

-- ---- ports

-- one port more
pub numbered_more : (interfaces : List Interface) (n : ℕ) (ps : List Sided) (p : Sided) → numbered_from interfaces n (ps ++ p ∷ []) ≡ numbered_from interfaces n ps ++ numbered interfaces (n + length ps) p
numbered_more interfaces n [] p =
    let same : n ≡ n + 0 = omega arith in
    append-nil (numbered interfaces n p) ∙ ap (λ m. numbered interfaces m p) same
numbered_more interfaces n (x ∷ xs) p =
    let same : suc n + length xs ≡ n + suc (length xs) = omega arith in
    ap (λ rest. numbered interfaces n x ++ rest) (numbered_more interfaces (suc n) xs p)
    ∙ sym (append_assoc (numbered interfaces n x) (numbered_from interfaces (suc n) xs) (numbered interfaces (suc n + length xs) p))
    ∙ ap (λ m. (numbered interfaces n x ++ numbered_from interfaces (suc n) xs) ++ numbered interfaces m p) same

-- the place of a port among those before
pub port_place : (sides : List SidedPort) (i : ℕ) → i < length sides → 0 + length (map sided (take i sides)) ≡ i
port_place sides i below = omega (arith, length-map (take i sides) sided, length-take-le i sides (omega (arith, below)))

-- a turn of a loop over ports
pub port_turn : (interfaces : List Interface) (k1 k2 : List NumberedPort) (sides : List SidedPort) (i : ℕ) (s : SidedPort) → i < length sides → s ≡ get_or sides i s
    → k1 ≡ numbered_from interfaces 0 (map sided (take i sides)) → k2 ≡ k1 ++ numbered interfaces i (sided s) → k2 ≡ numbered_from interfaces 0 (map sided (take (i + 1) sides))
port_turn interfaces k1 k2 sides i s below item before turn =
    turn
    ∙ ap (λ k. k ++ numbered interfaces i (sided s)) before
    ∙ ap (λ m. numbered_from interfaces 0 (map sided (take i sides)) ++ numbered interfaces m (sided s)) (sym (port_place sides i below))
    ∙ sym (numbered_more interfaces 0 (map sided (take i sides)) (sided s))
    ∙ ap (numbered_from interfaces 0) (sym (map-append sided (take i sides) (s ∷ [])))
    ∙ ap (λ y. numbered_from interfaces 0 (map sided (take i sides ++ y ∷ []))) item
    ∙ ap (λ ss. numbered_from interfaces 0 (map sided ss)) (sym (take_more sides i s below))

-- ---- operations

-- the operations of the input ports, each once
pub inputs_taken : (interfaces : List Interface) (clauses : List Clause)
    → with_texts [] (flat_map (λ c. flat_map (port_texts interfaces) (option_to_list (input_port_in c))) clauses) ≡ texts_of (each_once (input_operations_among interfaces clauses))
inputs_taken interfaces clauses =
    ap (with_texts [])
    (all_of_found (port_texts interfaces) input_port_in clauses
    ∙ sym (mapped_each (λ (o : Operation). o.name.text) (λ (p : Port). operations_among interfaces p.interfaces) (filter_map input_port_in clauses)))
    ∙ once_taken (input_operations_among interfaces clauses)

-- ---- all together

-- what the processes of a service name by numbers, of its parts
abbrev pub numbered_by : List (List ℕ) → List NumberedPort → ℕ → List (List ℕ) → List (List ℕ) → Numbering
numbered_by inputs ports console variables names = record { inputs = inputs; ports = ports; console = console; variables = variables; names = names }

pub numbering_made : (inputs : List (List ℕ)) (ports : List NumberedPort) (console : ℕ) (variables : List (List ℕ)) (interfaces : List Interface) (s : Service)
    → inputs ≡ texts_of (input_operations interfaces s) → ports ≡ numbered_from interfaces zero (filter_map port_in s.clauses)
    → console ≡ length (filter_map port_in s.clauses) → variables ≡ map (λ (n : Name). n.text) (variables_of s)
    → (names : List (List ℕ)) → numbered_by inputs ports console variables names ≡ numbering interfaces names s
numbering_made inputs ports console variables interfaces s same_inputs same_ports same_console same_variables names =
    ap (λ x. numbered_by x ports console variables names) same_inputs
    ∙ ap (λ x. numbered_by (texts_of (input_operations interfaces s)) x console variables names) same_ports
    ∙ ap (λ x. numbered_by (texts_of (input_operations interfaces s)) (numbered_from interfaces zero (filter_map port_in s.clauses)) x variables names) same_console
    ∙ ap (λ x. numbered_by (texts_of (input_operations interfaces s)) (numbered_from interfaces zero (filter_map port_in s.clauses)) (length (filter_map port_in s.clauses)) x names) same_variables
