-- The interfaces of a file are well formed where nothing is refused of them.
use Rattle.std.proofs.Common.{◌≡◌, ℕ, Bool, true, List, [], ◌∷◌, ◌++◌, map, flat_map, length, Option, None, Some, refl, ap, sym, ◌∙◌, bytes_eq}
use Rattle.std.specs.Prelude.{not, ◌&&◌, ◌||◌, ◌==◌, nat_lt, option_map}
use Rattle.std.specs.List.{list_all}
use Rattle.std.proofs.lemmas.Bool.{and_from, and_parts}
use Rattle.std.proofs.lemmas.List.Folds.{list_all-append}
use Rattle.jolie_ast.specs.declared.name.Name.{Name}
use Rattle.jolie_ast.specs.declared.tree.Definition.{Definition}
use Rattle.jolie_ast.specs.declared.tree.Definition.TheVariants as definition
use Rattle.jolie_ast.specs.declared.types.TypeDefinition.{TypeDefinition}
use Rattle.jolie_ast.specs.declared.interface.Fault.{Fault}
use Rattle.jolie_ast.specs.declared.interface.Interface.{Interface}
use Rattle.jolie_ast.specs.declared.interface.TypeName.{TypeName}
use Rattle.jolie_ast.specs.declared.interface.TypeName.TheVariants as type_name
use Rattle.behaviour_tree.specs.Data.{ThrowsPart, InterfacePart}
use Rattle.behaviour_tree.specs.Operations.{is_among}
use Rattle.behaviour_tree.specs.Distinct.{texts_differ, numbers_differ, is_in}
use Rattle.behaviour_tree.specs.FormedTypes.{is_type, is_type_if_there}
use Rattle.behaviour_tree.specs.FormedInterfaces.{is_fault, is_operation, is_interface}
use Rattle.check_base.specs.declared.refusal.CheckName.TheVariants.{DuplicateName}
use Rattle.check_base.specs.declared.refusal.Refusal.{Refusal}
use Rattle.check_base.specs.Least.{refused}
use Rattle.check_base.specs.Repeated.{repeated}
use Rattle.check_base.specs.Files.{Operation, operations_in, interfaces_of, place_in, type_names}
use Rattle.check_types.specs.TypeRules.{unknown_type_name}
use Rattle.check_types.specs.InterfaceRules.{unknown_if_written, fault_refused, operation_refused, interface_refused}
use Rattle.service_check.specs.Mentioned.{thrown_by, definition_texts}
use Rattle.service_check.specs.MentionedParts.{fault_text}
use Rattle.lower_types.specs.LoweredTypes.{lowered_type, lowered_data}
use Rattle.lower_types.specs.LoweredInterfaces.{lowered_fault, lowered_operation, lowered_interface}
use Rattle.service_check.proofs.Emptied.{left_empty, right_empty, has_place, names_differ}
use Rattle.check_types.proofs.Leading.{same_place}
use Rattle.service_check.proofs.WellTypes.{known_type, place_is_found}
use Rattle.check_base.proofs.Loops.{mapped_twice}

-- ---- numbers of texts

-- all of these texts are among the names
abbrev pub all_in : List (List ℕ) → List (List ℕ) → Bool
all_in names ts = list_all (λ t. is_in t names) ts

-- the texts in front of others that are all among the names
pub front_in : (names ts us : List (List ℕ)) → all_in names (ts ++ us) ≡ true → all_in names ts ≡ true
front_in names ts us e = (and_parts (all_in names ts) (all_in names us) (sym (list_all-append (λ t. is_in t names) ts us) ∙ e)).0

-- and those behind them
pub back_in : (names ts us : List (List ℕ)) → all_in names (ts ++ us) ≡ true → all_in names us ≡ true
back_in names ts us e = (and_parts (all_in names ts) (all_in names us) (sym (list_all-append (λ t. is_in t names) ts us) ∙ e)).1

-- texts that are there have the same place where they are the same
pub places_alike : (names : List (List ℕ)) (s t : List ℕ) → is_in s names ≡ true → is_in t names ≡ true → (place_in names s == place_in names t) ≡ bytes_eq s t
places_alike names s t here there =
    sym (same_place names s t (place_in names s) (place_in names t) (bytes_eq s t) refl (place_is_found names s here) (place_is_found names t there))

-- the place of a text is among those of others where the text is
pub place_among : (names ts : List (List ℕ)) (t : List ℕ) → is_in t names ≡ true → all_in names ts ≡ true → is_among (map (place_in names) ts) (place_in names t) ≡ is_in t ts
place_among names [] t there all = refl
place_among names (s ∷ ts) t there all =
    let parts : (is_in s names ≡ true) × (all_in names ts ≡ true) = and_parts (is_in s names) (all_in names ts) all in
    ap (λ b. b || is_among (map (place_in names) ts) (place_in names t)) (places_alike names s t parts.0 there)
    ∙ ap (λ b. bytes_eq s t || b) (place_among names ts t there parts.1)

-- the places of texts differ as the texts do
pub places_differ : (names ts : List (List ℕ)) → texts_differ ts ≡ true → all_in names ts ≡ true → numbers_differ (map (place_in names) ts) ≡ true
places_differ names [] differ all = refl
places_differ names (t ∷ ts) differ all =
    let apart : (not (is_in t ts) ≡ true) × (texts_differ ts ≡ true) = and_parts (not (is_in t ts)) (texts_differ ts) differ in
    let there : (is_in t names ≡ true) × (all_in names ts ≡ true) = and_parts (is_in t names) (all_in names ts) all in
    and_from (not (is_among (map (place_in names) ts) (place_in names t))) (numbers_differ (map (place_in names) ts))
    (ap not (place_among names ts t there.0 there.1) ∙ apart.0)
    (places_differ names ts apart.1 there.1)

-- ---- operations

-- the type of a name of a type that is not refused
pub type_name_formed : (types : List TypeDefinition) (t : TypeName) → unknown_type_name types t ≡ [] → is_type (length (type_names types)) (lowered_type (type_names types) t) ≡ true
type_name_formed types (type_name.Root at kind) e = refl
type_name_formed types (type_name.Named n) e = has_place (type_names types) n.text (known_type types n e)
type_name_formed types (type_name.Undefined at) e = refl

response_formed : (types : List TypeDefinition) (t : Option TypeName) → unknown_if_written types t ≡ [] → is_type_if_there (length (type_names types)) (option_map (lowered_type (type_names types)) t) ≡ true
response_formed types None e = refl
response_formed types (Some t) e = type_name_formed types t e

data_formed : (types : List TypeDefinition) (t : Option TypeName) → unknown_if_written types t ≡ [] → is_type (length (type_names types)) (lowered_data (type_names types) t) ≡ true
data_formed types None e = refl
data_formed types (Some t) e = type_name_formed types t e

faults_formed : (types : List TypeDefinition) (names : List (List ℕ)) (fs : List Fault) → flat_map (fault_refused types) fs ≡ [] → all_in names (map fault_text fs) ≡ true
    → list_all (is_fault (length (type_names types)) (length names)) (map (lowered_fault (type_names types) names) fs) ≡ true
faults_formed types names [] e all = refl
faults_formed types names (f ∷ fs) e all =
    let there : (is_in f.name.text names ≡ true) × (all_in names (map fault_text fs) ≡ true) = and_parts (is_in f.name.text names) (all_in names (map fault_text fs)) all in
    and_from (is_fault (length (type_names types)) (length names) (lowered_fault (type_names types) names f)) (list_all (is_fault (length (type_names types)) (length names)) (map (lowered_fault (type_names types) names) fs))
    (and_from (nat_lt (place_in names f.name.text) (length names)) (is_type (length (type_names types)) (lowered_data (type_names types) f.ty))
    (has_place names f.name.text there.0) (data_formed types f.ty (left_empty (fault_refused types f) (flat_map (fault_refused types) fs) e)))
    (faults_formed types names fs (right_empty (fault_refused types f) (flat_map (fault_refused types) fs) e) there.1)

fault_numbers : (types names : List (List ℕ)) (fs : List Fault) → map (λ (t : ThrowsPart). t.fault) (map (lowered_fault types names) fs) ≡ map (place_in names) (map fault_text fs)
fault_numbers types names fs = mapped_twice (λ (t : ThrowsPart). t.fault) (lowered_fault types names) fs ∙ sym (mapped_twice (place_in names) fault_text fs)

-- an operation of which nothing is refused, and whose faults are among the names
pub operation_formed : (types : List TypeDefinition) (names : List (List ℕ)) (o : Operation) → operation_refused types o ≡ [] → all_in names (thrown_by o) ≡ true
    → is_operation (length (type_names types)) (length names) (lowered_operation (type_names types) names o) ≡ true
operation_formed types names o e all =
    let twice : List Refusal = refused DuplicateName (repeated (map (λ (f : Fault). f.name) o.throws)) in
    let before : List Refusal = unknown_type_name types o.request ++ unknown_if_written types o.response in
    let faults : List Refusal = flat_map (fault_refused types) o.throws in
    let front : before ++ faults ≡ [] = left_empty (before ++ faults) twice e in
    let first : before ≡ [] = left_empty before faults front in
    let differ : texts_differ (map fault_text o.throws) ≡ true =
    ap texts_differ (sym (mapped_twice (λ (n : Name). n.text) (λ (f : Fault). f.name) o.throws)) ∙ names_differ DuplicateName (map (λ (f : Fault). f.name) o.throws) (right_empty (before ++ faults) twice e) in
    let throws : List ThrowsPart = map (lowered_fault (type_names types) names) o.throws in
    let n : ℕ = length (type_names types) in
    and_from (is_type n (lowered_type (type_names types) o.request) && is_type_if_there n (option_map (lowered_type (type_names types)) o.response) && list_all (is_fault n (length names)) throws)
    (numbers_differ (map (λ (t : ThrowsPart). t.fault) throws))
    (and_from (is_type n (lowered_type (type_names types) o.request) && is_type_if_there n (option_map (lowered_type (type_names types)) o.response)) (list_all (is_fault n (length names)) throws)
    (and_from (is_type n (lowered_type (type_names types) o.request)) (is_type_if_there n (option_map (lowered_type (type_names types)) o.response))
    (type_name_formed types o.request (left_empty (unknown_type_name types o.request) (unknown_if_written types o.response) first))
    (response_formed types o.response (right_empty (unknown_type_name types o.request) (unknown_if_written types o.response) first)))
    (faults_formed types names o.throws (right_empty before faults front) all))
    (ap numbers_differ (fault_numbers (type_names types) names o.throws) ∙ places_differ names (map fault_text o.throws) differ all)

-- ---- interfaces

operations_formed : (types : List TypeDefinition) (names : List (List ℕ)) (os : List Operation) → flat_map (operation_refused types) os ≡ [] → all_in names (flat_map thrown_by os) ≡ true
    → list_all (is_operation (length (type_names types)) (length names)) (map (lowered_operation (type_names types) names) os) ≡ true
operations_formed types names [] e all = refl
operations_formed types names (o ∷ os) e all =
    and_from (is_operation (length (type_names types)) (length names) (lowered_operation (type_names types) names o))
    (list_all (is_operation (length (type_names types)) (length names)) (map (lowered_operation (type_names types) names) os))
    (operation_formed types names o (left_empty (operation_refused types o) (flat_map (operation_refused types) os) e) (front_in names (thrown_by o) (flat_map thrown_by os) all))
    (operations_formed types names os (right_empty (operation_refused types o) (flat_map (operation_refused types) os) e) (back_in names (thrown_by o) (flat_map thrown_by os) all))

-- the faults of the interfaces of a file are among the names that have all that the file mentions
pub all_thrown : (names : List (List ℕ)) (file : List Definition) → all_in names (flat_map definition_texts file) ≡ true
    → all_in names (flat_map (λ (i : Interface). flat_map thrown_by (operations_in i)) (interfaces_of file)) ≡ true
all_thrown names [] all = refl
all_thrown names (definition.Type ty ∷ file) all = all_thrown names file all
all_thrown names (definition.Interface i ∷ file) all =
    let thrown : List (List ℕ) = flat_map thrown_by (operations_in i) in
    let rest : List (List ℕ) = flat_map (λ (i : Interface). flat_map thrown_by (operations_in i)) (interfaces_of file) in
    list_all-append (λ t. is_in t names) thrown rest
    ∙ and_from (all_in names thrown) (all_in names rest) (front_in names thrown (flat_map definition_texts file) all) (all_thrown names file (back_in names thrown (flat_map definition_texts file) all))
all_thrown names (definition.Service s ∷ file) all = all_thrown names file (back_in names (definition_texts (definition.Service s)) (flat_map definition_texts file) all)

each_formed : (types : List TypeDefinition) (names : List (List ℕ)) (is : List Interface) → flat_map (interface_refused types) is ≡ [] → all_in names (flat_map (λ (i : Interface). flat_map thrown_by (operations_in i)) is) ≡ true
    → list_all (is_interface (length (type_names types)) (length names)) (map (lowered_interface (type_names types) names) is) ≡ true
each_formed types names [] e all = refl
each_formed types names (i ∷ is) e all =
    let thrown : List (List ℕ) = flat_map thrown_by (operations_in i) in
    let rest : List (List ℕ) = flat_map (λ (i : Interface). flat_map thrown_by (operations_in i)) is in
    and_from (is_interface (length (type_names types)) (length names) (lowered_interface (type_names types) names i))
    (list_all (is_interface (length (type_names types)) (length names)) (map (lowered_interface (type_names types) names) is))
    (operations_formed types names (operations_in i) (left_empty (interface_refused types i) (flat_map (interface_refused types) is) e) (front_in names thrown rest all))
    (each_formed types names is (right_empty (interface_refused types i) (flat_map (interface_refused types) is) e) (back_in names thrown rest all))

-- the names of interfaces are kept
pub interface_texts : (types names : List (List ℕ)) (is : List Interface) → map (λ (i : InterfacePart). i.name) (map (lowered_interface types names) is) ≡ map (λ (n : Name). n.text) (map (λ (i : Interface). i.name) is)
interface_texts types names is =
    mapped_twice (λ (i : InterfacePart). i.name) (lowered_interface types names) is ∙ sym (mapped_twice (λ (n : Name). n.text) (λ (i : Interface). i.name) is)

-- interfaces of which nothing is refused, among as many types and names as there are
pub interfaces_formed : (types : List TypeDefinition) (names : List (List ℕ)) (is : List Interface) (n : ℕ) → n ≡ length (type_names types)
    → refused DuplicateName (repeated (map (λ (i : Interface). i.name) is)) ≡ [] → flat_map (interface_refused types) is ≡ [] → all_in names (flat_map (λ (i : Interface). flat_map thrown_by (operations_in i)) is) ≡ true
    → (texts_differ (map (λ (i : InterfacePart). i.name) (map (lowered_interface (type_names types) names) is)) && list_all (is_interface n (length names)) (map (lowered_interface (type_names types) names) is)) ≡ true
interfaces_formed types names is n size differ e all =
    and_from (texts_differ (map (λ (i : InterfacePart). i.name) (map (lowered_interface (type_names types) names) is))) (list_all (is_interface n (length names)) (map (lowered_interface (type_names types) names) is))
    (ap texts_differ (interface_texts (type_names types) names is) ∙ names_differ DuplicateName (map (λ (i : Interface). i.name) is) differ)
    (ap (λ m. list_all (is_interface m (length names)) (map (lowered_interface (type_names types) names) is)) size ∙ each_formed types names is e all)
