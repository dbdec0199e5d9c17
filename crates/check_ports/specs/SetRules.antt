-- What is refused of the correlation sets of a service.
use Rattle.std.specs.Prelude.{ℕ, pos, Bool, true, false, not, ◌&&◌, List, [], ◌∷◌, ◌++◌, map, flat_map}
use Rattle.std.specs.Prelude.{bytes_eq, if◌then◌else◌, Option, None, Some, option_and_then}
use Rattle.std.specs.List.{list_all, find}
use Rattle.std.specs.Ordering.{int_eq}
use Rattle.jolie_ast.specs.declared.name.Name.{Name}
use Rattle.jolie_ast.specs.declared.types.TypeDefinition.{TypeDefinition}
use Rattle.jolie_ast.specs.declared.types.RootKind.{RootKind}
use Rattle.jolie_ast.specs.declared.types.RootKind.TheVariants as root
use Rattle.jolie_ast.specs.declared.types.Cardinality.{Cardinality}
use Rattle.jolie_ast.specs.declared.types.Cardinality.TheVariants as cardinality
use Rattle.jolie_ast.specs.declared.types.TypeBody.{TypeBody, out-TypeBody}
use Rattle.jolie_ast.specs.declared.types.TypeBody.TheOpen.{TypeBody-F}
use Rattle.jolie_ast.specs.declared.types.Field.{Field, out-Field}
use Rattle.jolie_ast.specs.declared.service.Alias.{Alias}
use Rattle.jolie_ast.specs.declared.service.CorrelationVariable.{CorrelationVariable}
use Rattle.jolie_ast.specs.declared.service.Clause.{Clause}
use Rattle.jolie_ast.specs.declared.service.Clause.TheVariants as clause
use Rattle.jolie_ast.specs.declared.service.Service.{Service}
use Rattle.behaviour_tree.specs.Distinct.{is_in}
use Rattle.check_base.specs.declared.refusal.CheckName.TheVariants.{DuplicateName, UnknownType, WrongKind, Uncorrelated}
use Rattle.check_base.specs.declared.refusal.CheckName.TheVariants.{TwoSets}
use Rattle.check_base.specs.declared.refusal.Refusal.{Refusal}
use Rattle.check_base.specs.Repeated.{repeated, first_names}
use Rattle.check_base.specs.Least.{refused, refused_if}
use Rattle.check_base.specs.Files.{type_named, sets_of, execution_of, is_concurrent, body_of, variables_of}
use Rattle.check_base.specs.TypeNames.{behind_names}

-- ---- aliases

-- a field that stands exactly once
abbrev pub is_once : Option Cardinality → Bool
is_once None = true
is_once (Some (cardinality.Between least (Some most))) = int_eq least (pos 1) && int_eq most (pos 1)
is_once _ = false

-- the first field of a name
abbrev pub field_named : List Field → List ℕ → Option Field
field_named fields name = find (λ (f : Field). bytes_eq (out-Field f).name.text name) fields

-- the kinds that a variable of a set may have
abbrev pub is_value_kind : RootKind → Bool
is_value_kind root.Void = false
is_value_kind root.Any = false
is_value_kind _ = true

-- the fields of a body
abbrev pub fields_in : TypeBody-F TypeBody Field → List Field
fields_in (TypeBody-F.Root at kind (Some fields)) = fields
fields_in _ = []

-- a root of a kind that a variable may have
abbrev pub is_value : TypeBody-F TypeBody Field → Bool
is_value (TypeBody-F.Root at kind fields) = is_value_kind kind
is_value _ = false

-- a field that stands once, with its type behind the names
abbrev pub once_in : List TypeDefinition → TypeBody → Name → Option TypeBody
once_in types body n =
    option_and_then
    (λ (f : Field). if is_once (out-Field f).cardinality then behind_names types (out-Field f).body else None)
    (field_named (fields_in (out-TypeBody body)) n.text)

-- a chain of fields that stand once, which ends at a root that a variable may have
abbrev pub leads_to_value : List TypeDefinition → Option TypeBody → List Name → Bool
leads_to_value types None path = false
leads_to_value types (Some body) [] = is_value (out-TypeBody body)
leads_to_value types (Some body) (n ∷ path) = leads_to_value types (once_in types body n) path

-- the type that an alias begins at, behind its names
abbrev pub alias_type : List TypeDefinition → Alias → Option TypeBody
alias_type types a =
    option_and_then (λ (ty : TypeDefinition). behind_names types (body_of ty.body))
    (type_named types a.ty.text)

-- an alias that leads to no value
abbrev pub wrong_alias : List TypeDefinition → Alias → List Refusal
wrong_alias types a =
    refused_if (not (leads_to_value types (alias_type types a) (a.first ∷ a.rest))) UnknownType a.ty.at

-- ---- sets

-- the types of the aliases of a variable
abbrev pub alias_names : CorrelationVariable → List Name
alias_names v = map (λ (a : Alias). a.ty) v.aliases

-- the texts of the types of the aliases of a variable
abbrev pub alias_texts : CorrelationVariable → List (List ℕ)
alias_texts v = map (λ (n : Name). n.text) (alias_names v)

-- the types that a set names, each at its first alias there
abbrev pub set_types : List CorrelationVariable → List Name
set_types set = first_names (flat_map alias_names set)

-- the texts of the types that a set names
abbrev pub set_texts : List CorrelationVariable → List (List ℕ)
set_texts set = map (λ (n : Name). n.text) (set_types set)

-- each variable has an alias of the type
abbrev pub all_have : List ℕ → List CorrelationVariable → Bool
all_have ty set = list_all (λ v. is_in ty (alias_texts v)) set

-- a type that is not in all of some tables
abbrev pub partly_among : List (List (List ℕ)) → Name → List Refusal
partly_among tables n = refused_if (not (list_all (is_in n.text) tables)) Uncorrelated n.at

-- a type that has aliases for some variables of a set only
abbrev pub partly : List CorrelationVariable → Name → List Refusal
partly set n = refused_if (not (all_have n.text set)) Uncorrelated n.at

-- what is refused of a variable: an alias that leads to no value, and a type that it has two aliases of
abbrev pub variable_refused : List TypeDefinition → CorrelationVariable → List Refusal
variable_refused types v = flat_map (wrong_alias types) v.aliases ++ refused DuplicateName (repeated (alias_names v))

-- what is refused of a set by itself
abbrev pub set_refused : List TypeDefinition → List CorrelationVariable → List Refusal
set_refused types set = flat_map (variable_refused types) set ++ flat_map (partly set) (set_types set)

-- the names of the types of sets
abbrev pub types_in_sets : List (List CorrelationVariable) → List (List ℕ)
types_in_sets sets = flat_map set_texts sets

-- a type that stands in a second set of the service, at its first alias there
abbrev pub two_sets : List (List CorrelationVariable) → List Refusal
two_sets sets = refused TwoSets (repeated (flat_map set_types sets))

-- a set of a service whose sessions run one alone, at its word
abbrev pub set_of_single : Bool → Clause → List Refusal
set_of_single concurrent (clause.CorrelationSet at variables) = refused_if (not concurrent) WrongKind at
set_of_single concurrent _ = []

-- what is refused of the sets of a service
abbrev pub sets_refused : List TypeDefinition → Service → List Refusal
sets_refused types s =
    refused DuplicateName (repeated (variables_of s))
    ++ flat_map (set_refused types) (sets_of s) ++ two_sets (sets_of s)
    ++ flat_map (set_of_single (is_concurrent (execution_of s))) s.clauses
