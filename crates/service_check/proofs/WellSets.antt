-- The correlation sets of a service are well formed where nothing is refused of them.
use Rattle.std.proofs.Common.{◌≡◌, ℕ, Bool, true, false, List, [], ◌∷◌, ◌++◌, map, flat_map, length, refl, ap, sym, ◌∙◌, bytes_eq}
use Rattle.std.specs.Prelude.{not, ◌&&◌, ◌||◌, ◌==◌, if◌then◌else◌}
use Rattle.std.specs.List.{filter_map, list_all, list_any}
use Rattle.std.proofs.lemmas.Bool.{and_from, and_parts, or_left, or_right, or_from, not_from_false, false≢true}
use Rattle.std.proofs.lemmas.List.{map-append}
use Rattle.std.proofs.lemmas.List.Folds.{list_all-append, list_all-map, list_any-append}
use Rattle.std.proofs.lemmas.Slice.Eq.{bytes_eq-Decides}
use Rattle.jolie_ast.specs.declared.name.Name.{Name}
use Rattle.jolie_ast.specs.declared.types.TypeDefinition.{TypeDefinition}
use Rattle.jolie_ast.specs.declared.service.Alias.{Alias}
use Rattle.jolie_ast.specs.declared.service.Clause.{Clause}
use Rattle.jolie_ast.specs.declared.service.Clause.TheVariants as clause
use Rattle.jolie_ast.specs.declared.service.CorrelationVariable.{CorrelationVariable}
use Rattle.jolie_ast.specs.declared.service.Execution.{Execution}
use Rattle.jolie_ast.specs.declared.service.Execution.TheVariants as said
use Rattle.behaviour_tree.specs.Data.{AliasPart, VariablePart, SetPart}
use Rattle.behaviour_tree.specs.Operations.{is_among}
use Rattle.behaviour_tree.specs.FormedSets as formed_sets
use Rattle.behaviour_tree.specs.Distinct.{texts_differ, numbers_differ, is_in}
use Rattle.behaviour_tree.specs.FormedSets.{is_alias, alias_types, is_variable, types_are_apart}
use Rattle.check_base.specs.declared.refusal.CheckName.TheVariants.{DuplicateName, Uncorrelated, TwoSets}
use Rattle.check_base.specs.declared.refusal.Refusal.{Refusal}
use Rattle.check_base.specs.Least.{refused}
use Rattle.check_base.specs.Repeated.{repeated}
use Rattle.check_base.specs.OnceEach.{firsts_after, first_names_after}
use Rattle.check_base.specs.Files.{is_concurrent, place_in, set_in, type_names, set_names}
use Rattle.check_ports.specs.SetRules.{alias_names, alias_texts, set_types, set_texts, all_have, partly, wrong_alias, variable_refused, set_refused, two_sets, types_in_sets, set_of_single}
use Rattle.service_check.specs.Programs.{lowered_alias, lowered_variable, lowered_set, lowered_execution}
use Rattle.service_check.proofs.Emptied.{left_empty, right_empty, holds, mapped_empty, in_first, names_differ}
use Rattle.service_check.proofs.OnceEach.{second_differ, two_apart}
use Rattle.service_check.proofs.WellAliases.{alias_formed, alias_known}
use Rattle.service_check.proofs.WellInterfaces.{all_in, front_in, back_in, place_among, places_differ}
use Rattle.service_check.proofs.WellNames.{is_taken}
use Rattle.service_check.proofs.WellTypes.{lowered_types}
use Rattle.check_base.proofs.Loops.{mapped_each, mapped_twice}

-- ---- lists

pass_turn : (b : Bool) (q : List ℕ → Bool) (t x : List ℕ) (ts : List (List ℕ)) → bytes_eq t x ≡ b → q t ≡ true → (is_in x ts ≡ true → q x ≡ true) → is_in x (t ∷ ts) ≡ true → q x ≡ true
pass_turn true q t x ts same first rest there = sym (ap q ((bytes_eq-Decides t x).0 same)) ∙ first
pass_turn false q t x ts other first rest there = rest (ap (λ b. b || is_in x ts) (sym other) ∙ there)

-- a text passes where all that it is among do
pub one_passes : (q : List ℕ → Bool) (ts : List (List ℕ)) (x : List ℕ) → list_all q ts ≡ true → is_in x ts ≡ true → q x ≡ true
one_passes q [] x all there = absurd (false≢true there)
one_passes q (t ∷ ts) x all there =
    pass_turn (bytes_eq t x) q t x ts refl (and_parts (q t) (list_all q ts) all).0 (λ h. one_passes q ts x (and_parts (q t) (list_all q ts) all).1 h) there

-- all pass where each does
pub all_pass : (q : List ℕ → Bool) (ts : List (List ℕ)) → ((x : List ℕ) → is_in x ts ≡ true → q x ≡ true) → list_all q ts ≡ true
all_pass q [] each = refl
all_pass q (t ∷ ts) each = and_from (q t) (list_all q ts) (each t (in_first t ts)) (all_pass q ts (λ x h. each x (or_right (bytes_eq t x) (is_in x ts) h)))

-- none passes, mapped, where none does
pub none_passes : (q : ℕ → Bool) (f : List ℕ → ℕ) (ts : List (List ℕ)) → ((x : List ℕ) → is_in x ts ≡ true → q (f x) ≡ false) → list_any q (map f ts) ≡ false
none_passes q f [] none = refl
none_passes q f (t ∷ ts) none = or_from (q (f t)) (list_any q (map f ts)) (none t (in_first t ts)) (none_passes q f ts (λ x h. none x (or_right (bytes_eq t x) (is_in x ts) h)))

first_turn : (b : Bool) (n : Name) (rest : List Name) → map (λ (n : Name). n.text) ((if b then [] else n ∷ []) ++ rest) ≡ (if b then [] else n.text ∷ []) ++ map (λ (n : Name). n.text) rest
first_turn true n rest = refl
first_turn false n rest = refl

-- the texts of names that are taken once each
pub first_texts : (before : List (List ℕ)) (ns : List Name) → map (λ (n : Name). n.text) (first_names_after before ns) ≡ firsts_after before (map (λ (n : Name). n.text) ns)
first_texts before [] = refl
first_texts before (n ∷ ns) =
    first_turn (is_in n.text before) n (first_names_after (n.text ∷ before) ns) ∙ ap (λ ts. (if is_in n.text before then [] else n.text ∷ []) ++ ts) (first_texts (n.text ∷ before) ns)

-- ---- the types of a set

-- the types of the aliases of a set
abbrev pub all_texts : List CorrelationVariable → List (List ℕ)
all_texts set = flat_map alias_texts set

-- each is among those that the set names once
pub in_set_texts : (set : List CorrelationVariable) (x : List ℕ) → is_in x (all_texts set) ≡ true → is_in x (set_texts set) ≡ true
in_set_texts set x there =
    ap (is_in x) (first_texts [] (flat_map alias_names set) ∙ ap (firsts_after []) (mapped_each (λ (n : Name). n.text) alias_names set)) ∙ is_taken x [] (all_texts set) refl there

-- each type of a set has an alias for each variable
pub set_complete : (set : List CorrelationVariable) → flat_map (partly set) (set_types set) ≡ [] → (x : List ℕ) → is_in x (all_texts set) ≡ true → all_have x set ≡ true
set_complete set e x there =
    one_passes (λ t. all_have t set) (set_texts set) x
    (mapped_empty (partly set) (λ (n : Name). n.text) (λ t. all_have t set) (set_types set) (λ n h. holds (all_have n.text set) Uncorrelated n.at h) e)
    (in_set_texts set x there)

-- ---- variables

-- the numbers of the types of a variable
pub alias_numbers : (types : List (List ℕ)) (v : CorrelationVariable) → alias_types (lowered_variable types v) ≡ map (place_in types) (alias_texts v)
alias_numbers types v =
    mapped_twice (λ (a : AliasPart). a.ty) (lowered_alias types) v.aliases
    ∙ sym (mapped_twice (λ (n : Name). place_in types n.text) (λ (a : Alias). a.ty) v.aliases)
    ∙ sym (mapped_twice (place_in types) (λ (n : Name). n.text) (alias_names v))

-- those of a set
pub set_numbers : (types : List (List ℕ)) (set : List CorrelationVariable) → flat_map alias_types (map (lowered_variable types) set) ≡ map (place_in types) (all_texts set)
set_numbers types [] = refl
set_numbers types (v ∷ set) =
    ap (λ ns. ns ++ flat_map alias_types (map (lowered_variable types) set)) (alias_numbers types v)
    ∙ ap (λ ns. map (place_in types) (alias_texts v) ++ ns) (set_numbers types set)
    ∙ sym (map-append (place_in types) (alias_texts v) (all_texts set))

-- the types of a variable are there
pub variable_known : (types : List TypeDefinition) (v : CorrelationVariable) → flat_map (wrong_alias types) v.aliases ≡ [] → all_in (type_names types) (alias_texts v) ≡ true
variable_known types v e =
    ap (all_in (type_names types)) (mapped_twice (λ (n : Name). n.text) (λ (a : Alias). a.ty) v.aliases)
    ∙ mapped_empty (wrong_alias types) (λ (a : Alias). a.ty.text) (λ t. is_in t (type_names types)) v.aliases (alias_known types) e

-- so are those of a set
pub set_known : (types : List TypeDefinition) (set : List CorrelationVariable) → flat_map (variable_refused types) set ≡ [] → all_in (type_names types) (all_texts set) ≡ true
set_known types [] e = refl
set_known types (v ∷ set) e =
    let first : List Refusal = flat_map (wrong_alias types) v.aliases in
    let twice : List Refusal = refused DuplicateName (repeated (alias_names v)) in
    list_all-append (λ t. is_in t (type_names types)) (alias_texts v) (all_texts set)
    ∙ and_from (all_in (type_names types) (alias_texts v)) (all_in (type_names types) (all_texts set))
    (variable_known types v (left_empty first twice (left_empty (first ++ twice) (flat_map (variable_refused types) set) e)))
    (set_known types set (right_empty (first ++ twice) (flat_map (variable_refused types) set) e))

-- a variable of a set each of whose types it has an alias of
pub variable_formed : (types : List TypeDefinition) (set : List CorrelationVariable) (v : CorrelationVariable) → all_in (type_names types) (all_texts set) ≡ true → variable_refused types v ≡ []
    → ((x : List ℕ) → is_in x (all_texts set) ≡ true → is_in x (alias_texts v) ≡ true)
    → is_variable (lowered_types types) (lowered_set (type_names types) set) (lowered_variable (type_names types) v) ≡ true
variable_formed types set v known e has =
    let tn : List (List ℕ) = type_names types in
    let first : List Refusal = flat_map (wrong_alias types) v.aliases in
    let twice : List Refusal = refused DuplicateName (repeated (alias_names v)) in
    let here : all_in tn (alias_texts v) ≡ true = variable_known types v (left_empty first twice e) in
    let ns : List ℕ = alias_types (lowered_variable tn v) in
    let all : List ℕ = flat_map alias_types (map (lowered_variable tn) set) in
    and_from (list_all (is_alias (lowered_types types)) (map (lowered_alias tn) v.aliases) && numbers_differ ns) (list_all (λ t. is_among ns t) all)
    (and_from (list_all (is_alias (lowered_types types)) (map (lowered_alias tn) v.aliases)) (numbers_differ ns)
    (mapped_empty (wrong_alias types) (lowered_alias tn) (is_alias (lowered_types types)) v.aliases (alias_formed types) (left_empty first twice e))
    (ap numbers_differ (alias_numbers tn v) ∙ places_differ tn (alias_texts v) (names_differ DuplicateName (alias_names v) (right_empty first twice e)) here))
    (ap (λ ms. list_all (λ t. is_among ms t) all) (alias_numbers tn v)
    ∙ ap (list_all (λ t. is_among (map (place_in tn) (alias_texts v)) t)) (set_numbers tn set)
    ∙ list_all-map (λ t. is_among (map (place_in tn) (alias_texts v)) t) (place_in tn) (all_texts set)
    ∙ all_pass (λ x. is_among (map (place_in tn) (alias_texts v)) (place_in tn x)) (all_texts set)
    (λ x there. place_among tn (alias_texts v) x (one_passes (λ t. is_in t tn) (all_texts set) x known there) here ∙ has x there))

variables_formed : (types : List TypeDefinition) (set vs : List CorrelationVariable) → all_in (type_names types) (all_texts set) ≡ true → flat_map (variable_refused types) vs ≡ []
    → ((x : List ℕ) → is_in x (all_texts set) ≡ true → all_have x vs ≡ true)
    → list_all (is_variable (lowered_types types) (lowered_set (type_names types) set)) (map (lowered_variable (type_names types)) vs) ≡ true
variables_formed types set [] known e has = refl
variables_formed types set (v ∷ vs) known e has =
    and_from (is_variable (lowered_types types) (lowered_set (type_names types) set) (lowered_variable (type_names types) v)) (list_all (is_variable (lowered_types types) (lowered_set (type_names types) set)) (map (lowered_variable (type_names types)) vs))
    (variable_formed types set v known (left_empty (variable_refused types v) (flat_map (variable_refused types) vs) e) (λ x there. (and_parts (is_in x (alias_texts v)) (all_have x vs) (has x there)).0))
    (variables_formed types set vs known (right_empty (variable_refused types v) (flat_map (variable_refused types) vs) e) (λ x there. (and_parts (is_in x (alias_texts v)) (all_have x vs) (has x there)).1))

-- a set whose variables are well formed
abbrev pub has_variables : List TypeDefinition → SetPart → Bool
has_variables types set = list_all (is_variable (lowered_types types) set) set.variables

-- a set of which nothing is refused
pub set_formed : (types : List TypeDefinition) (set : List CorrelationVariable) → set_refused types set ≡ [] → has_variables types (lowered_set (type_names types) set) ≡ true
set_formed types set e =
    let variables : flat_map (variable_refused types) set ≡ [] = left_empty (flat_map (variable_refused types) set) (flat_map (partly set) (set_types set)) e in
    variables_formed types set set (set_known types set variables) variables (set_complete set (right_empty (flat_map (variable_refused types) set) (flat_map (partly set) (set_types set)) e))

-- ---- several sets

-- the types of the aliases of sets
abbrev pub texts_in_all : List (List CorrelationVariable) → List (List ℕ)
texts_in_all sets = flat_map all_texts sets

-- they are there
pub sets_known : (types : List TypeDefinition) (sets : List (List CorrelationVariable)) → flat_map (set_refused types) sets ≡ [] → all_in (type_names types) (texts_in_all sets) ≡ true
sets_known types [] e = refl
sets_known types (set ∷ sets) e =
    list_all-append (λ t. is_in t (type_names types)) (all_texts set) (texts_in_all sets)
    ∙ and_from (all_in (type_names types) (all_texts set)) (all_in (type_names types) (texts_in_all sets))
    (set_known types set (left_empty (flat_map (variable_refused types) set) (flat_map (partly set) (set_types set)) (left_empty (set_refused types set) (flat_map (set_refused types) sets) e)))
    (sets_known types sets (right_empty (set_refused types set) (flat_map (set_refused types) sets) e))

one_set_or_more : (b : Bool) (set : List CorrelationVariable) (sets : List (List CorrelationVariable)) (x : List ℕ) → is_in x (all_texts set) ≡ b → (is_in x (texts_in_all sets) ≡ true → is_in x (types_in_sets sets) ≡ true)
    → (b || is_in x (texts_in_all sets)) ≡ true → (is_in x (set_texts set) || is_in x (types_in_sets sets)) ≡ true
one_set_or_more true set sets x here rest there = or_left (is_in x (set_texts set)) (is_in x (types_in_sets sets)) (in_set_texts set x here)
one_set_or_more false set sets x here rest there = or_right (is_in x (set_texts set)) (is_in x (types_in_sets sets)) (rest there)

-- they are among those that each set names once
in_sets_texts : (sets : List (List CorrelationVariable)) (x : List ℕ) → is_in x (texts_in_all sets) ≡ true → is_in x (types_in_sets sets) ≡ true
in_sets_texts [] x there = absurd (false≢true there)
in_sets_texts (set ∷ sets) x there =
    list_any-append (λ t. bytes_eq t x) (set_texts set) (types_in_sets sets)
    ∙ one_set_or_more (is_in x (all_texts set)) set sets x refl (in_sets_texts sets x) (sym (list_any-append (λ t. bytes_eq t x) (all_texts set) (texts_in_all sets)) ∙ there)

-- the types of sets of which none is in two differ
two_sets_differ : (sets : List (List CorrelationVariable)) → two_sets sets ≡ [] → texts_differ (types_in_sets sets) ≡ true
two_sets_differ sets e = ap texts_differ (sym (mapped_each (λ (n : Name). n.text) set_types sets)) ∙ names_differ TwoSets (flat_map set_types sets) e

not_later : (b : Bool) (x : List ℕ) (set : List CorrelationVariable) (sets : List (List CorrelationVariable)) → is_in x (texts_in_all sets) ≡ b → texts_differ (set_texts set ++ types_in_sets sets) ≡ true
    → is_in x (all_texts set) ≡ true → b ≡ false
not_later false x set sets e differ here = refl
not_later true x set sets e differ here = sym (in_set_texts set x here) ∙ two_apart x (set_texts set) (types_in_sets sets) differ (in_sets_texts sets x e)

-- the numbers of the types of sets
pub sets_numbers : (types : List (List ℕ)) (sets : List (List CorrelationVariable)) → flat_map formed_sets.set_types (map (lowered_set types) sets) ≡ map (place_in types) (texts_in_all sets)
sets_numbers types [] = refl
sets_numbers types (set ∷ sets) =
    ap (λ ns. ns ++ flat_map formed_sets.set_types (map (lowered_set types) sets)) (set_numbers types set)
    ∙ ap (λ ns. map (place_in types) (all_texts set) ++ ns) (sets_numbers types sets)
    ∙ sym (map-append (place_in types) (all_texts set) (texts_in_all sets))

-- no type is in two of the sets
pub sets_apart : (types : List (List ℕ)) (sets : List (List CorrelationVariable)) → all_in types (texts_in_all sets) ≡ true → texts_differ (types_in_sets sets) ≡ true → types_are_apart (map (lowered_set types) sets) ≡ true
sets_apart types [] known differ = refl
sets_apart types (set ∷ sets) known differ =
    let later : List ℕ = flat_map formed_sets.set_types (map (lowered_set types) sets) in
    and_from (not (list_any (λ t. is_among later t) (formed_sets.set_types (lowered_set types set)))) (types_are_apart (map (lowered_set types) sets))
    (not_from_false (list_any (λ t. is_among later t) (formed_sets.set_types (lowered_set types set)))
    (ap (λ ns. list_any (λ t. is_among ns t) (formed_sets.set_types (lowered_set types set))) (sets_numbers types sets)
    ∙ ap (list_any (λ t. is_among (map (place_in types) (texts_in_all sets)) t)) (set_numbers types set)
    ∙ none_passes (λ t. is_among (map (place_in types) (texts_in_all sets)) t) (place_in types) (all_texts set)
    (λ x there.
    place_among types (texts_in_all sets) x (one_passes (λ t. is_in t types) (all_texts set) x (front_in types (all_texts set) (texts_in_all sets) known) there) (back_in types (all_texts set) (texts_in_all sets) known)
    ∙ not_later (is_in x (texts_in_all sets)) x set sets refl differ there)))
    (sets_apart types sets (back_in types (all_texts set) (texts_in_all sets) known) (second_differ (set_texts set) (types_in_sets sets) differ))

-- the variables of sets keep their names
pub variable_names : (types : List (List ℕ)) (sets : List (List CorrelationVariable)) → map (λ (v : VariablePart). v.name) (formed_sets.variables_of (map (lowered_set types) sets)) ≡ map (λ (n : Name). n.text) (flat_map set_names sets)
variable_names types [] = refl
variable_names types (set ∷ sets) =
    map-append (λ (v : VariablePart). v.name) (map (lowered_variable types) set) (formed_sets.variables_of (map (lowered_set types) sets))
    ∙ ap (λ ts. ts ++ map (λ (v : VariablePart). v.name) (formed_sets.variables_of (map (lowered_set types) sets)))
    (mapped_twice (λ (v : VariablePart). v.name) (lowered_variable types) set ∙ sym (mapped_twice (λ (n : Name). n.text) (λ (v : CorrelationVariable). v.name) set))
    ∙ ap (λ ts. map (λ (n : Name). n.text) (set_names set) ++ ts) (variable_names types sets)
    ∙ sym (map-append (λ (n : Name). n.text) (set_names set) (flat_map set_names sets))

-- a service whose sessions run one alone has no set
single_has_none : (clauses : List Clause) → flat_map (set_of_single false) clauses ≡ [] → filter_map set_in clauses ≡ []
single_has_none [] e = refl
single_has_none (clause.InputPort p ∷ clauses) e = single_has_none clauses e
single_has_none (clause.OutputPort p ∷ clauses) e = single_has_none clauses e
single_has_none (clause.Execution at execution ∷ clauses) e = single_has_none clauses e
single_has_none (clause.CorrelationSet at variables ∷ clauses) e = cc
single_has_none (clause.Init at body ∷ clauses) e = single_has_none clauses e
single_has_none (clause.Main at body ∷ clauses) e = single_has_none clauses e

-- sets are those of a service whose sessions run beside each other
pub has_sets : (types : List (List ℕ)) (execution : Execution) (clauses : List Clause) → flat_map (set_of_single (is_concurrent execution)) clauses ≡ []
    → (formed_sets.is_concurrent (lowered_execution execution) || (length (map (lowered_set types) (filter_map set_in clauses)) == 0)) ≡ true
has_sets types said.Concurrent clauses e = refl
has_sets types said.Single clauses e = ap (λ sets. length (map (lowered_set types) sets) == 0) (single_has_none clauses e)

-- the sets of clauses of which nothing is refused
pub sets_formed : (types : List TypeDefinition) (execution : Execution) (clauses : List Clause) → refused DuplicateName (repeated (flat_map set_names (filter_map set_in clauses))) ≡ []
    → flat_map (set_refused types) (filter_map set_in clauses) ≡ [] → two_sets (filter_map set_in clauses) ≡ [] → flat_map (set_of_single (is_concurrent execution)) clauses ≡ []
    → ((formed_sets.is_concurrent (lowered_execution execution) || (length (map (lowered_set (type_names types)) (filter_map set_in clauses)) == 0))
    && texts_differ (map (λ (v : VariablePart). v.name) (formed_sets.variables_of (map (lowered_set (type_names types)) (filter_map set_in clauses))))
    && list_all (has_variables types) (map (lowered_set (type_names types)) (filter_map set_in clauses))
    && types_are_apart (map (lowered_set (type_names types)) (filter_map set_in clauses))) ≡ true
sets_formed types execution clauses names each apart single =
    let sets : List SetPart = map (lowered_set (type_names types)) (filter_map set_in clauses) in
    let one : Bool = formed_sets.is_concurrent (lowered_execution execution) || (length sets == 0) in
    let two : Bool = texts_differ (map (λ (v : VariablePart). v.name) (formed_sets.variables_of sets)) in
    and_from (one && two && list_all (has_variables types) sets) (types_are_apart sets)
    (and_from (one && two) (list_all (has_variables types) sets)
    (and_from one two (has_sets (type_names types) execution clauses single)
    (ap texts_differ (variable_names (type_names types) (filter_map set_in clauses)) ∙ names_differ DuplicateName (flat_map set_names (filter_map set_in clauses)) names))
    (mapped_empty (set_refused types) (lowered_set (type_names types)) (has_variables types) (filter_map set_in clauses) (set_formed types) each))
    (sets_apart (type_names types) (filter_map set_in clauses) (sets_known types (filter_map set_in clauses) each) (two_sets_differ (filter_map set_in clauses) apart))
