-- The ports of a service are well formed where nothing is refused of them, and its operations are those that the checker counts.
use Rattle.std.proofs.Common.{◌≡◌, ℕ, zero, suc, Bool, true, false, List, [], ◌∷◌, ◌++◌, map, flat_map, length, Option, None, Some, slice_get, refl, ap, sym, ◌∙◌, bytes_eq}
use Rattle.std.specs.Prelude.{not, ◌&&◌, ◌||◌, is_some, nat_lt, if◌then◌else◌, option_map, unwrap_or}
use Rattle.std.specs.List.{filter_map, list_all}
use Rattle.std.proofs.lemmas.Bool.{and_from, or_left, or_right, not_from_false, false≢true}
use Rattle.std.proofs.lemmas.Slice.Eq.{bytes_eq-Decides}
use Rattle.std.proofs.lemmas.Grind.{flat_map-append}
use Rattle.std.proofs.lemmas.List.{length-map, map-append}
use Rattle.std.proofs.lemmas.List.Folds.{list_all-append, list_any-append, flat_map-map}
use Rattle.jolie_ast.specs.declared.name.Name.{Name}
use Rattle.jolie_ast.specs.declared.interface.Interface.{Interface}
use Rattle.jolie_ast.specs.declared.service.Port.{Port}
use Rattle.jolie_ast.specs.declared.service.Clause.{Clause}
use Rattle.jolie_ast.specs.declared.service.Clause.TheVariants as clause
use Rattle.behaviour_tree.specs.Data.{OperationPart, InterfacePart, PortPart}
use Rattle.behaviour_tree.specs.Locations.{is_local, is_socket}
use Rattle.behaviour_tree.specs.Operations as plain
use Rattle.behaviour_tree.specs.Operations.{mentions, input_interfaces, operations_of}
use Rattle.behaviour_tree.specs.FormedPorts as formed_ports
use Rattle.behaviour_tree.specs.Distinct.{texts_differ, is_in}
use Rattle.behaviour_tree.specs.FormedPorts.{operation_names, is_port, has_once, is_met}
use Rattle.check_base.specs.declared.refusal.CheckName.TheVariants.{DuplicateName, UnknownType, UnknownPort, WrongKind}
use Rattle.check_base.specs.declared.refusal.Refusal.{Refusal}
use Rattle.check_base.specs.Least.{refused, refused_if}
use Rattle.check_base.specs.Repeated.{repeated}
use Rattle.check_base.specs.OnceEach.{firsts_after}
use Rattle.check_base.specs.Files.{Operation, each_once, interface_named, operations_in, operations_named, place_in, port_in, input_port_in, output_port_in, texts_of, interface_names}
use Rattle.check_ports.specs.PortRules.{unknown_interface, operation_at, brought_by, brought, brought_in, operations_repeated, wrong_location, wrong_protocol, port_refused, sided_refused, unmet}
use Rattle.check_ports.specs.PortParts.{brought_unless}
use Rattle.check_base.specs.Console.{console}
use Rattle.lower_types.specs.LoweredInterfaces.{lowered_operation, lowered_interface}
use Rattle.service_check.specs.Programs.{lowered_port_part}
use Rattle.service_check.proofs.Emptied.{left_empty, right_empty, fails, holds, mapped_empty, has_place, in_first, in_last, names_differ}
use Rattle.service_check.proofs.OnceEach.{passed, among_passed, firsts_of_two, first_places, second_differ, two_apart, texts_under, taken_by_interface}
use Rattle.service_check.proofs.WellInterfaces.{all_in}
use Rattle.check_base.proofs.Loops.{mapped_each, mapped_twice}

-- ---- interfaces by their names

place_turn : (m : Interface → InterfacePart) (b : Bool) (i : Interface) (is : List Interface) (p : ℕ) (o : Option Interface) → slice_get (map m is) p ≡ option_map m o
    → slice_get (map m (i ∷ is)) (if b then zero else suc p) ≡ option_map m (if b then Some i else o)
place_turn m true i is p o e = refl
place_turn m false i is p o e = e

-- the interface of a name stands at its place
pub interface_at_place : (m : Interface → InterfacePart) (is : List Interface) (t : List ℕ) → slice_get (map m is) (place_in (interface_names is) t) ≡ option_map m (interface_named is t)
interface_at_place m [] t = refl
interface_at_place m (i ∷ is) t = place_turn m (bytes_eq i.name.text t) i is (place_in (interface_names is) t) (interface_named is t) (interface_at_place m is t)

there_turn : (b : Bool) (x : Interface) (o : Option Interface) (i : Bool) → is_some o ≡ i → is_some (if b then Some x else o) ≡ (b || i)
there_turn true x o i e = refl
there_turn false x o i e = e

-- an interface is found where its name is there
pub interface_is_there : (is : List Interface) (t : List ℕ) → is_some (interface_named is t) ≡ is_in t (interface_names is)
interface_is_there [] t = refl
interface_is_there (i ∷ is) t = there_turn (bytes_eq i.name.text t) i (interface_named is t) (is_in t (interface_names is)) (interface_is_there is t)

operations_there : (m : Operation → OperationPart) (f : Interface → InterfacePart) → ((i : Interface) → (f i).operations ≡ map m (operations_in i)) → (o : Option Interface)
    → plain.operations_in (option_map f o) ≡ map m (unwrap_or (option_map operations_in o) [])
operations_there m f same None = refl
operations_there m f same (Some i) = same i

-- the operations behind the places of interfaces
pub operations_behind : (types names : List (List ℕ)) (is : List Interface) (ts : List (List ℕ))
    → operations_of (map (lowered_interface types names) is) (map (place_in (interface_names is)) ts) ≡ map (lowered_operation types names) (flat_map (operations_named is) ts)
operations_behind types names is [] = refl
operations_behind types names is (t ∷ ts) =
    ap (λ o. plain.operations_in o ++ operations_of (map (lowered_interface types names) is) (map (place_in (interface_names is)) ts)) (interface_at_place (lowered_interface types names) is t)
    ∙ ap (λ os. os ++ operations_of (map (lowered_interface types names) is) (map (place_in (interface_names is)) ts)) (operations_there (lowered_operation types names) (lowered_interface types names) (λ i. refl) (interface_named is t))
    ∙ ap (λ os. map (lowered_operation types names) (operations_named is t) ++ os) (operations_behind types names is ts)
    ∙ sym (map-append (lowered_operation types names) (operations_named is t) (flat_map (operations_named is) ts))

-- ---- what input ports bring

-- the interfaces that a port names
abbrev pub port_names : Port → List (List ℕ)
port_names p = map (λ (n : Name). n.text) p.interfaces

-- the names of the operations of an interface, none where it is among others
abbrev unless : List Interface → List (List ℕ) → List ℕ → List (List ℕ)
unless is earlier t = if is_in t earlier then [] else texts_of (operations_named is t)

unless_turn : (is : List Interface) (b : Bool) (n : Name) → map (λ (m : Name). m.text) (if b then [] else brought_by is n) ≡ (if b then [] else texts_of (operations_named is n.text))
unless_turn is true n = refl
unless_turn is false n = mapped_twice (λ (m : Name). m.text) (operation_at n.at) (operations_named is n.text)

-- what a port brings by name
pub brought_texts : (is : List Interface) (earlier : List (List ℕ)) (ns : List Name) → map (λ (m : Name). m.text) (brought is earlier ns) ≡ flat_map (unless is earlier) (map (λ (n : Name). n.text) ns)
brought_texts is earlier [] = refl
brought_texts is earlier (n ∷ ns) =
    map-append (λ (m : Name). m.text) (brought_unless is earlier n) (brought is earlier ns)
    ∙ ap (λ ts. ts ++ map (λ (m : Name). m.text) (brought is earlier ns)) (unless_turn is (is_in n.text earlier) n)
    ∙ ap (λ ts. unless is earlier n.text ++ ts) (brought_texts is earlier ns)

abbrev has_some : List (List ℕ) → Bool
has_some [] = false
has_some (u ∷ us) = true

-- whether an interface has operations
abbrev brings : List Interface → List ℕ → Bool
brings is t = has_some (texts_of (operations_named is t))

-- an interface that is passed on one side is passed on the other, or has no operation
abbrev Alike : List Interface → List (List ℕ) → List (List ℕ) → List ℕ → Type 0
Alike is earlier before t = brings is t ≡ true → is_in t earlier ≡ is_in t before

nothing_brought : (us : List (List ℕ)) → has_some us ≡ false → us ≡ []
nothing_brought [] e = refl
nothing_brought (u ∷ us) e = absurd (false≢true (sym e))

something_brought : (us : List (List ℕ)) (P : Type 0) → has_some us ≡ true → ((u : List ℕ) → is_in u us ≡ true → P) → P
something_brought [] P e first = absurd (false≢true e)
something_brought (u ∷ us) P e first = first u (in_first u us)

passed_over : (c : Bool) (under : List ℕ → List Operation) (t : List ℕ) (rest : List (List ℕ)) → texts_of (under t) ≡ [] → texts_under under rest ≡ texts_under under ((if c then [] else t ∷ []) ++ rest)
passed_over true under t rest none = refl
passed_over false under t rest none = ap (λ us. us ++ texts_under under rest) (sym none)

once_none : (is : List Interface) (b c : Bool) (t : List ℕ) (ts rest : List (List ℕ)) → texts_of (operations_named is t) ≡ [] → ts ≡ texts_under (operations_named is) rest
    → (if b then [] else texts_of (operations_named is t)) ++ ts ≡ texts_under (operations_named is) ((if c then [] else t ∷ []) ++ rest)
once_none is true c t ts rest none e = e ∙ passed_over c (operations_named is) t rest none
once_none is false c t ts rest none e = ap (λ us. us ++ ts) none ∙ e ∙ passed_over c (operations_named is) t rest none

once_same : (is : List Interface) (b c : Bool) (t : List ℕ) (ts rest : List (List ℕ)) → b ≡ c → ts ≡ texts_under (operations_named is) rest
    → (if b then [] else texts_of (operations_named is t)) ++ ts ≡ texts_under (operations_named is) ((if c then [] else t ∷ []) ++ rest)
once_same is true true t ts rest same e = e
once_same is true false t ts rest same e = absurd (false≢true (sym same))
once_same is false true t ts rest same e = absurd (false≢true same)
once_same is false false t ts rest same e = ap (λ us. texts_of (operations_named is t) ++ us) e

once_turn : (is : List Interface) (some b c : Bool) (t : List ℕ) (ts rest : List (List ℕ)) → brings is t ≡ some → (some ≡ true → b ≡ c) → ts ≡ texts_under (operations_named is) rest
    → (if b then [] else texts_of (operations_named is t)) ++ ts ≡ texts_under (operations_named is) ((if c then [] else t ∷ []) ++ rest)
once_turn is true b c t ts rest has same e = once_same is b c t ts rest (same refl) e
once_turn is false b c t ts rest has same e = once_none is b c t ts rest (nothing_brought (texts_of (operations_named is t)) has) e

-- the operations of one interface of some are among those of all
among_all : (b : Bool) (is : List Interface) (t x u : List ℕ) (ts : List (List ℕ)) → bytes_eq t x ≡ b → (is_in x ts ≡ true → is_in u (texts_under (operations_named is) ts) ≡ true) → (b || is_in x ts) ≡ true
    → is_in u (texts_of (operations_named is x)) ≡ true → is_in u (texts_of (operations_named is t) ++ texts_under (operations_named is) ts) ≡ true
among_all true is t x u ts same further there has =
    list_any-append (λ s. bytes_eq s u) (texts_of (operations_named is t)) (texts_under (operations_named is) ts)
    ∙ or_left (is_in u (texts_of (operations_named is t))) (is_in u (texts_under (operations_named is) ts)) (ap (λ y. is_in u (texts_of (operations_named is y))) ((bytes_eq-Decides t x).0 same) ∙ has)
among_all false is t x u ts other further there has =
    in_last u (texts_of (operations_named is t)) (texts_under (operations_named is) ts) (further there)

in_all : (is : List Interface) (x u : List ℕ) (ts : List (List ℕ)) → is_in x ts ≡ true → is_in u (texts_of (operations_named is x)) ≡ true → is_in u (texts_under (operations_named is) ts) ≡ true
in_all is x u [] there has = absurd (false≢true there)
in_all is x u (t ∷ ts) there has = among_all (bytes_eq t x) is t x u ts refl (λ later. in_all is x u ts later has) there has

-- of interfaces whose operations differ, one that stands again has none
not_again : (b : Bool) (is : List Interface) (t x : List ℕ) (ts : List (List ℕ)) → bytes_eq t x ≡ b → texts_differ (texts_of (operations_named is t) ++ texts_under (operations_named is) ts) ≡ true
    → is_in x ts ≡ true → brings is x ≡ true → b ≡ false
not_again false is t x ts other differ there has = refl
not_again true is t x ts same differ there has =
    something_brought (texts_of (operations_named is x)) (true ≡ false) has
    (λ u h. sym (ap (λ y. is_in u (texts_of (operations_named is y))) ((bytes_eq-Decides t x).0 same) ∙ h)
    ∙ two_apart u (texts_of (operations_named is t)) (texts_under (operations_named is) ts) differ (in_all is x u ts there h))

-- interfaces of a port that has no operation twice
brought_once : (is : List Interface) (earlier before ts : List (List ℕ)) → texts_differ (texts_under (operations_named is) ts) ≡ true → ((x : List ℕ) → is_in x ts ≡ true → Alike is earlier before x)
    → flat_map (unless is earlier) ts ≡ texts_under (operations_named is) (firsts_after before ts)
brought_once is earlier before [] differ same = refl
brought_once is earlier before (t ∷ ts) differ same =
    once_turn is (brings is t) (is_in t earlier) (is_in t before) t (flat_map (unless is earlier) ts) (firsts_after (t ∷ before) ts) refl (same t (in_first t ts))
    (brought_once is earlier (t ∷ before) ts (second_differ (texts_of (operations_named is t)) (texts_under (operations_named is) ts) differ)
    (λ x there has. same x (or_right (bytes_eq t x) (is_in x ts) there) has ∙ ap (λ b. b || is_in x before) (sym (not_again (bytes_eq t x) is t x ts refl differ there has))))

-- the operations of a port differ
pub operations_differ : (is : List Interface) (p : Port) → operations_repeated is p ≡ [] → texts_differ (texts_under (operations_named is) (port_names p)) ≡ true
operations_differ is p once =
    ap texts_differ (sym (brought_texts is [] p.interfaces)) ∙ names_differ DuplicateName (brought is [] p.interfaces) once

-- what input ports bring by name, where none has an operation twice
pub all_brought : (is : List Interface) (earlier before : List (List ℕ)) (ports : List Port) → flat_map (operations_repeated is) ports ≡ [] → ((x : List ℕ) → is_in x earlier ≡ is_in x before)
    → map (λ (m : Name). m.text) (brought_in is earlier ports) ≡ texts_under (operations_named is) (firsts_after before (flat_map port_names ports))
all_brought is earlier before [] once same = refl
all_brought is earlier before (p ∷ ports) once same =
    let ts : List (List ℕ) = port_names p in
    let later : List (List ℕ) = flat_map port_names ports in
    let rest : List Name = brought_in is (earlier ++ ts) ports in
    let differ : texts_differ (texts_under (operations_named is) ts) ≡ true = operations_differ is p (left_empty (operations_repeated is p) (flat_map (operations_repeated is) ports) once) in
    map-append (λ (m : Name). m.text) (brought is earlier p.interfaces) rest
    ∙ ap (λ us. us ++ map (λ (m : Name). m.text) rest) (brought_texts is earlier p.interfaces ∙ brought_once is earlier before ts differ (λ x there has. same x))
    ∙ ap (λ us. texts_under (operations_named is) (firsts_after before ts) ++ us)
    (all_brought is (earlier ++ ts) (passed before ts) ports (right_empty (operations_repeated is p) (flat_map (operations_repeated is) ports) once)
    (λ x. list_any-append (λ t. bytes_eq t x) earlier ts ∙ ap (λ b. b || is_in x ts) (same x) ∙ sym (among_passed x before ts)))
    ∙ sym (flat_map-append (λ t. texts_of (operations_named is t)) (firsts_after before ts) (firsts_after (passed before ts) later))
    ∙ ap (texts_under (operations_named is)) (sym (firsts_of_two before ts later))

-- ---- the operations of a service

-- the ports of clauses as plain data
abbrev pub ports_of : List (List ℕ) → List Clause → List PortPart
ports_of interfaces clauses = map (lowered_port_part interfaces) (filter_map port_in clauses)

-- the interfaces that the input ports among clauses name
abbrev pub names_taken : List Clause → List (List ℕ)
names_taken clauses = flat_map port_names (filter_map input_port_in clauses)

-- the interfaces of input ports are mentioned in their order
pub mentions_are : (interfaces : List (List ℕ)) (clauses : List Clause) → mentions (ports_of interfaces clauses) ≡ map (place_in interfaces) (names_taken clauses)
mentions_are interfaces [] = refl
mentions_are interfaces (clause.InputPort p ∷ clauses) =
    ap (λ ns. ns ++ mentions (ports_of interfaces clauses)) (sym (mapped_twice (place_in interfaces) (λ (n : Name). n.text) p.interfaces))
    ∙ ap (λ ns. map (place_in interfaces) (port_names p) ++ ns) (mentions_are interfaces clauses)
    ∙ sym (map-append (place_in interfaces) (port_names p) (names_taken clauses))
mentions_are interfaces (clause.OutputPort p ∷ clauses) = mentions_are interfaces clauses
mentions_are interfaces (clause.Execution at execution ∷ clauses) = mentions_are interfaces clauses
mentions_are interfaces (clause.CorrelationSet at variables ∷ clauses) = mentions_are interfaces clauses
mentions_are interfaces (clause.Init at body ∷ clauses) = mentions_are interfaces clauses
mentions_are interfaces (clause.Main at body ∷ clauses) = mentions_are interfaces clauses

-- the operations of ports, as they stand
abbrev pub operations_listed : List Interface → List Port → List Operation
operations_listed is ports = flat_map (λ (p : Port). flat_map (λ (n : Name). operations_named is n.text) p.interfaces) ports

listed_by_name : (is : List Interface) (ports : List Port) → operations_listed is ports ≡ flat_map (operations_named is) (flat_map port_names ports)
listed_by_name is [] = refl
listed_by_name is (p ∷ ports) =
    ap (λ os. os ++ operations_listed is ports) (sym (flat_map-map (operations_named is) (λ (n : Name). n.text) p.interfaces))
    ∙ ap (λ os. flat_map (operations_named is) (port_names p) ++ os) (listed_by_name is ports)
    ∙ sym (flat_map-append (operations_named is) (port_names p) (flat_map port_names ports))

-- the names of the operations of the interfaces that input ports name differ
pub taken_names_differ : (is : List Interface) (ports : List Port) → flat_map (operations_repeated is) ports ≡ [] → refused DuplicateName (repeated (brought_in is [] ports)) ≡ []
    → texts_differ (texts_under (operations_named is) (firsts_after [] (flat_map port_names ports))) ≡ true
taken_names_differ is ports once none =
    ap texts_differ (sym (all_brought is [] [] ports once (λ x. refl))) ∙ names_differ DuplicateName (brought_in is [] ports) none

-- the operations of a service are its input operations in order
pub service_operations_are : (types names : List (List ℕ)) (is : List Interface) (clauses : List Clause) → all_in (interface_names is) (names_taken clauses) ≡ true
    → flat_map (operations_repeated is) (filter_map input_port_in clauses) ≡ [] → refused DuplicateName (repeated (brought_in is [] (filter_map input_port_in clauses))) ≡ []
    → operations_of (map (lowered_interface types names) is) (input_interfaces (ports_of (interface_names is) clauses)) ≡ map (lowered_operation types names) (each_once (operations_listed is (filter_map input_port_in clauses)))
service_operations_are types names is clauses known once none =
    let ts : List (List ℕ) = names_taken clauses in
    let pis : List InterfacePart = map (lowered_interface types names) is in
    ap (λ ns. operations_of pis (plain.first_mentions [] ns)) (mentions_are (interface_names is) clauses)
    ∙ ap (operations_of pis) (first_places (interface_names is) [] [] ts known (λ x h. refl))
    ∙ operations_behind types names is (firsts_after [] ts)
    ∙ ap (map (lowered_operation types names))
    (sym (taken_by_interface (operations_named is) [] [] ts (λ t x h there. absurd (false≢true h)) (taken_names_differ is (filter_map input_port_in clauses) once none) (λ x h. refl)))
    ∙ ap (λ os. map (lowered_operation types names) (each_once os)) (sym (listed_by_name is (filter_map input_port_in clauses)))

-- the names of operations that are found by interface
pub names_by_interface : (types names : List (List ℕ)) (is : List Interface) (ts : List (List ℕ)) → operation_names (operations_of (map (lowered_interface types names) is) (map (place_in (interface_names is)) ts)) ≡ texts_under (operations_named is) ts
names_by_interface types names is ts =
    ap operation_names (operations_behind types names is ts)
    ∙ mapped_twice (λ (o : OperationPart). o.name) (lowered_operation types names) (flat_map (operations_named is) ts)
    ∙ mapped_each (λ (o : Operation). o.name.text) (operations_named is) ts

-- the names of the operations of a service differ
pub service_operations_differ : (types names : List (List ℕ)) (is : List Interface) (clauses : List Clause) → all_in (interface_names is) (names_taken clauses) ≡ true
    → flat_map (operations_repeated is) (filter_map input_port_in clauses) ≡ [] → refused DuplicateName (repeated (brought_in is [] (filter_map input_port_in clauses))) ≡ []
    → texts_differ (operation_names (operations_of (map (lowered_interface types names) is) (input_interfaces (ports_of (interface_names is) clauses)))) ≡ true
service_operations_differ types names is clauses known once none =
    let ts : List (List ℕ) = names_taken clauses in
    let pis : List InterfacePart = map (lowered_interface types names) is in
    ap (λ ns. texts_differ (operation_names (operations_of pis (plain.first_mentions [] ns)))) (mentions_are (interface_names is) clauses)
    ∙ ap (λ ns. texts_differ (operation_names (operations_of pis ns))) (first_places (interface_names is) [] [] ts known (λ x h. refl))
    ∙ ap texts_differ (names_by_interface types names is (firsts_after [] ts))
    ∙ taken_names_differ is (filter_map input_port_in clauses) once none

-- ---- the ports one by one

-- an interface that a port names is there
pub known_interface : (is : List Interface) (n : Name) → unknown_interface is n ≡ [] → is_in n.text (interface_names is) ≡ true
known_interface is n e = sym (interface_is_there is n.text) ∙ holds (is_some (interface_named is n.text)) UnknownType n.at e

-- what is refused of a port before its interfaces
abbrev before_interfaces : Port → List Refusal
before_interfaces p = refused_if (bytes_eq p.name.text console) WrongKind p.name.at ++ wrong_location p ++ wrong_protocol p

-- the interfaces of a port of which nothing is refused are there
pub port_known : (is : List Interface) (p : Port) → port_refused is p ≡ [] → all_in (interface_names is) (port_names p) ≡ true
port_known is p e =
    mapped_empty (unknown_interface is) (λ (n : Name). n.text) (λ t. is_in t (interface_names is)) p.interfaces (known_interface is) (right_empty (before_interfaces p) (flat_map (unknown_interface is) p.interfaces) e)

-- their numbers are below
port_numbers : (is : List Interface) (p : Port) (m : ℕ) → m ≡ length (interface_names is) → port_refused is p ≡ [] → list_all (λ n. nat_lt n m) (map (λ (n : Name). place_in (interface_names is) n.text) p.interfaces) ≡ true
port_numbers is p m size e =
    ap (λ k. list_all (λ n. nat_lt n k) (map (λ (n : Name). place_in (interface_names is) n.text) p.interfaces)) size
    ∙ mapped_empty (unknown_interface is) (λ (n : Name). place_in (interface_names is) n.text) (λ k. nat_lt k (length (interface_names is))) p.interfaces
    (λ n h. has_place (interface_names is) n.text (known_interface is n h)) (right_empty (before_interfaces p) (flat_map (unknown_interface is) p.interfaces) e)

-- the name and the location of a port, and the numbers of its interfaces
port_by_itself : (is : List Interface) (p : Port) (m : ℕ) → m ≡ length (interface_names is) → port_refused is p ≡ []
    → (not (bytes_eq p.name.text formed_ports.console) && (is_local p.location.text || is_socket p.location.text) && list_all (λ n. nat_lt n m) (map (λ (n : Name). place_in (interface_names is) n.text) p.interfaces)) ≡ true
port_by_itself is p m size e =
    let named : List Refusal = refused_if (bytes_eq p.name.text console) WrongKind p.name.at in
    let front : named ++ wrong_location p ≡ [] = left_empty (named ++ wrong_location p) (wrong_protocol p) (left_empty (before_interfaces p) (flat_map (unknown_interface is) p.interfaces) e) in
    and_from (not (bytes_eq p.name.text formed_ports.console) && (is_local p.location.text || is_socket p.location.text)) (list_all (λ n. nat_lt n m) (map (λ (n : Name). place_in (interface_names is) n.text) p.interfaces))
    (and_from (not (bytes_eq p.name.text formed_ports.console)) (is_local p.location.text || is_socket p.location.text)
    (not_from_false (bytes_eq p.name.text formed_ports.console) (fails (bytes_eq p.name.text console) WrongKind p.name.at (left_empty named (wrong_location p) front)))
    (holds (is_local p.location.text || is_socket p.location.text) WrongKind p.location.at (right_empty named (wrong_location p) front)))
    (port_numbers is p m size e)

-- the operations of a port, as the program has them
port_has_once : (types names : List (List ℕ)) (is : List Interface) (p : Port) → operations_repeated is p ≡ []
    → texts_differ (operation_names (operations_of (map (lowered_interface types names) is) (map (λ (n : Name). place_in (interface_names is) n.text) p.interfaces))) ≡ true
port_has_once types names is p once =
    ap (λ ns. texts_differ (operation_names (operations_of (map (lowered_interface types names) is) ns))) (sym (mapped_twice (place_in (interface_names is)) (λ (n : Name). n.text) p.interfaces))
    ∙ ap texts_differ (names_by_interface types names is (port_names p))
    ∙ operations_differ is p once

-- an input port
input_port_formed : (types names : List (List ℕ)) (is : List Interface) (locations : List (List ℕ)) (p : Port) → port_refused is p ≡ [] → operations_repeated is p ≡ []
    → is_port (map (lowered_interface types names) is) locations (lowered_port_part (interface_names is) (record { input = true; port = p })) ≡ true
input_port_formed types names is locations p e once =
    let pis : List InterfacePart = map (lowered_interface types names) is in
    let part : PortPart = lowered_port_part (interface_names is) (record { input = true; port = p }) in
    let size : length pis ≡ length (interface_names is) = length-map is (lowered_interface types names) ∙ sym (length-map is (λ (i : Interface). i.name.text)) in
    let itself : Bool = not (bytes_eq p.name.text formed_ports.console) && (is_local p.location.text || is_socket p.location.text) && list_all (λ n. nat_lt n (length pis)) part.interfaces in
    and_from (itself && has_once pis part) (is_met locations part)
    (and_from itself (has_once pis part) (port_by_itself is p (length pis) size e) (port_has_once types names is p once))
    refl

met : (a b : Bool) → (a && not b) ≡ false → (not a || b) ≡ true
met true true e = refl
met true false e = absurd (false≢true (sym e))
met false b e = refl

-- an output port
output_port_formed : (types names : List (List ℕ)) (is : List Interface) (locations : List (List ℕ)) (p : Port) → port_refused is p ≡ [] → operations_repeated is p ≡ [] → unmet locations p ≡ []
    → is_port (map (lowered_interface types names) is) locations (lowered_port_part (interface_names is) (record { input = false; port = p })) ≡ true
output_port_formed types names is locations p e once near =
    let pis : List InterfacePart = map (lowered_interface types names) is in
    let part : PortPart = lowered_port_part (interface_names is) (record { input = false; port = p }) in
    let size : length pis ≡ length (interface_names is) = length-map is (lowered_interface types names) ∙ sym (length-map is (λ (i : Interface). i.name.text)) in
    let itself : Bool = not (bytes_eq p.name.text formed_ports.console) && (is_local p.location.text || is_socket p.location.text) && list_all (λ n. nat_lt n (length pis)) part.interfaces in
    and_from (itself && has_once pis part) (is_met locations part)
    (and_from itself (has_once pis part) (port_by_itself is p (length pis) size e) (port_has_once types names is p once))
    (met (is_local p.location.text) (is_in p.location.text locations) (fails (is_local p.location.text && not (is_in p.location.text locations)) UnknownPort p.location.at near))

-- the ports of clauses of which nothing is refused
pub each_port_formed : (types names : List (List ℕ)) (is : List Interface) (locations : List (List ℕ)) (clauses : List Clause)
    → flat_map (sided_refused is) (filter_map port_in clauses) ≡ [] → flat_map (operations_repeated is) (filter_map input_port_in clauses) ≡ []
    → flat_map (operations_repeated is) (filter_map output_port_in clauses) ≡ [] → flat_map (unmet locations) (filter_map output_port_in clauses) ≡ []
    → list_all (is_port (map (lowered_interface types names) is) locations) (ports_of (interface_names is) clauses) ≡ true
each_port_formed types names is locations [] e once out near = refl
each_port_formed types names is locations (clause.InputPort p ∷ clauses) e once out near =
    and_from (is_port (map (lowered_interface types names) is) locations (lowered_port_part (interface_names is) (record { input = true; port = p }))) (list_all (is_port (map (lowered_interface types names) is) locations) (ports_of (interface_names is) clauses))
    (input_port_formed types names is locations p (left_empty (port_refused is p) (flat_map (sided_refused is) (filter_map port_in clauses)) e) (left_empty (operations_repeated is p) (flat_map (operations_repeated is) (filter_map input_port_in clauses)) once))
    (each_port_formed types names is locations clauses (right_empty (port_refused is p) (flat_map (sided_refused is) (filter_map port_in clauses)) e) (right_empty (operations_repeated is p) (flat_map (operations_repeated is) (filter_map input_port_in clauses)) once) out near)
each_port_formed types names is locations (clause.OutputPort p ∷ clauses) e once out near =
    and_from (is_port (map (lowered_interface types names) is) locations (lowered_port_part (interface_names is) (record { input = false; port = p }))) (list_all (is_port (map (lowered_interface types names) is) locations) (ports_of (interface_names is) clauses))
    (output_port_formed types names is locations p (left_empty (port_refused is p) (flat_map (sided_refused is) (filter_map port_in clauses)) e) (left_empty (operations_repeated is p) (flat_map (operations_repeated is) (filter_map output_port_in clauses)) out) (left_empty (unmet locations p) (flat_map (unmet locations) (filter_map output_port_in clauses)) near))
    (each_port_formed types names is locations clauses (right_empty (port_refused is p) (flat_map (sided_refused is) (filter_map port_in clauses)) e) once (right_empty (operations_repeated is p) (flat_map (operations_repeated is) (filter_map output_port_in clauses)) out) (right_empty (unmet locations p) (flat_map (unmet locations) (filter_map output_port_in clauses)) near))
each_port_formed types names is locations (clause.Execution at execution ∷ clauses) e once out near = each_port_formed types names is locations clauses e once out near
each_port_formed types names is locations (clause.CorrelationSet at variables ∷ clauses) e once out near = each_port_formed types names is locations clauses e once out near
each_port_formed types names is locations (clause.Init at body ∷ clauses) e once out near = each_port_formed types names is locations clauses e once out near
each_port_formed types names is locations (clause.Main at body ∷ clauses) e once out near = each_port_formed types names is locations clauses e once out near

-- the interfaces that the input ports name are there
pub all_known : (is : List Interface) (clauses : List Clause) → flat_map (sided_refused is) (filter_map port_in clauses) ≡ [] → all_in (interface_names is) (names_taken clauses) ≡ true
all_known is [] e = refl
all_known is (clause.InputPort p ∷ clauses) e =
    list_all-append (λ t. is_in t (interface_names is)) (port_names p) (names_taken clauses)
    ∙ and_from (all_in (interface_names is) (port_names p)) (all_in (interface_names is) (names_taken clauses))
    (port_known is p (left_empty (port_refused is p) (flat_map (sided_refused is) (filter_map port_in clauses)) e))
    (all_known is clauses (right_empty (port_refused is p) (flat_map (sided_refused is) (filter_map port_in clauses)) e))
all_known is (clause.OutputPort p ∷ clauses) e = all_known is clauses (right_empty (port_refused is p) (flat_map (sided_refused is) (filter_map port_in clauses)) e)
all_known is (clause.Execution at execution ∷ clauses) e = all_known is clauses e
all_known is (clause.CorrelationSet at variables ∷ clauses) e = all_known is clauses e
all_known is (clause.Init at body ∷ clauses) e = all_known is clauses e
all_known is (clause.Main at body ∷ clauses) e = all_known is clauses e
