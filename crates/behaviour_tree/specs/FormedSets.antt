-- What well-formed correlation sets are.
use Rattle.std.specs.Prelude.{ℕ, Bool, true, false, not, ◌&&◌, ◌||◌, ◌==◌, bytes_eq, if◌then◌else◌, List, [], ◌∷◌}
use Rattle.std.specs.Prelude.{length, map, flat_map, slice_get, Option, None, Some, option_and_then, unwrap_or}
use Rattle.std.specs.List.{list_any, list_all}
use Rattle.behaviour_tree.specs.declared.types.RootKind.{RootKind}
use Rattle.behaviour_tree.specs.declared.types.RootKind.TheVariants as kind
use Rattle.behaviour_tree.specs.declared.program.Execution.{Execution}
use Rattle.behaviour_tree.specs.declared.program.Execution.TheVariants as execution
use Rattle.behaviour_tree.specs.Data.{TypeTree, plain, named, undefined, TypeFields, no_type_fields}
use Rattle.behaviour_tree.specs.Data.{type_field, AliasPart, VariablePart, SetPart, ServicePart}
use Rattle.behaviour_tree.specs.Conforms.{shape}
use Rattle.behaviour_tree.specs.Operations.{is_among}
use Rattle.behaviour_tree.specs.Distinct.{is_some_list, texts_differ, numbers_differ}

-- a kind of root that a variable may have
abbrev pub is_value_kind : RootKind → Bool
is_value_kind kind.Void = false
is_value_kind kind.Bool = true
is_value_kind kind.Int = true
is_value_kind kind.Long = true
is_value_kind kind.Text = true
is_value_kind kind.Any = false

-- the type of a field that stands exactly once, where there is one
abbrev pub once_in : TypeFields → List ℕ → Option TypeTree
once_in no_type_fields name = None
once_in (type_field f least most ty fields) name =
    if bytes_eq f name then (if (least == 1) && (unwrap_or most 0 == 1) then Some ty else None) else once_in fields name

-- the fields of a type
abbrev pub fields_of : TypeTree → TypeFields
fields_of (plain k fields) = fields
fields_of (named n) = no_type_fields
fields_of undefined = no_type_fields

-- a root that a variable may have
abbrev pub is_value : TypeTree → Bool
is_value (plain k fields) = is_value_kind k
is_value (named n) = false
is_value undefined = false

-- the field of a name that stands exactly once, its type behind its numbers
abbrev pub once_at : List TypeTree → TypeTree → List ℕ → Option TypeTree
once_at types ty name = option_and_then (shape types (length types)) (once_in (fields_of ty) name)

-- a chain of fields that stand once, which ends at a root that a variable may have
abbrev pub leads_to_value : List TypeTree → Option TypeTree → List (List ℕ) → Bool
leads_to_value types None path = false
leads_to_value types (Some ty) [] = is_value ty
leads_to_value types (Some ty) (name ∷ path) = leads_to_value types (once_at types ty name) path

-- an alias: it leads from its type to a value, by one field at least
abbrev pub is_alias : List TypeTree → AliasPart → Bool
is_alias types a =
    is_some_list a.path
    && leads_to_value types (option_and_then (shape types (length types)) (slice_get types a.ty)) a.path

-- the types of the aliases of a variable
abbrev pub alias_types : VariablePart → List ℕ
alias_types v = map (λ (a : AliasPart). a.ty) v.aliases

-- the types of a set
abbrev pub set_types : SetPart → List ℕ
set_types set = flat_map alias_types set.variables

-- a variable of a set: its aliases lead to values, and each type of the set has one of it
abbrev pub is_variable : List TypeTree → SetPart → VariablePart → Bool
is_variable types set v =
    list_all (is_alias types) v.aliases && numbers_differ (alias_types v)
    && list_all (λ t. is_among (alias_types v) t) (set_types set)

-- the variables of sets in order
abbrev pub variables_of : List SetPart → List VariablePart
variables_of sets = flat_map (λ (set : SetPart). set.variables) sets

-- no type is in two of the sets
abbrev pub types_are_apart : List SetPart → Bool
types_are_apart [] = true
types_are_apart (set ∷ sets) =
    not (list_any (λ t. is_among (flat_map set_types sets) t) (set_types set)) && types_are_apart sets

-- whether sessions run beside each other
abbrev pub is_concurrent : Execution → Bool
is_concurrent execution.Concurrent = true
is_concurrent execution.Single = false

-- the sets of a service: of one whose sessions run beside each other, with variables that differ, and no type in two of
-- them
abbrev pub are_sets : List TypeTree → ServicePart → Bool
are_sets types s =
    (is_concurrent s.execution || (length s.sets == 0))
    && texts_differ (map (λ (v : VariablePart). v.name) (variables_of s.sets))
    && list_all (λ (set : SetPart). list_all (is_variable types set) set.variables) s.sets
    && types_are_apart s.sets
