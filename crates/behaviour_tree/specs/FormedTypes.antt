-- What well-formed types are.
use Rattle.std.specs.Prelude.{ℕ, suc, Bool, true, not, ◌&&◌, nat_lt, List, [], ◌∷◌, length, slice_get}
use Rattle.std.specs.Prelude.{Option, None, Some, option_and_then}
use Rattle.std.specs.List.{list_all}
use Rattle.behaviour_tree.specs.Data.{TypeTree, plain, named, undefined, TypeFields, no_type_fields, type_field}
use Rattle.behaviour_tree.specs.Distinct.{texts_differ}
use Rattle.behaviour_tree.specs.Leading.{led_to}
use Rattle.behaviour_tree.specs.Operations.{is_among}

-- the names of fields
abbrev pub field_names : TypeFields → List (List ℕ)
field_names no_type_fields = []
field_names (type_field name least most ty fields) = name ∷ field_names fields

abbrev mutual
  -- a type among so many: its numbers are among them, and the fields of one type differ
  pub is_type : ℕ → TypeTree → Bool
  is_type types (plain k fields) = texts_differ (field_names fields) && are_fields types fields
  is_type types (named n) = nat_lt n types
  is_type types undefined = true

  -- fields with such types
  pub are_fields : ℕ → TypeFields → Bool
  are_fields types no_type_fields = true
  are_fields types (type_field name least most ty fields) = is_type types ty && are_fields types fields

-- a type that may be there
abbrev pub is_type_if_there : ℕ → Option TypeTree → Bool
is_type_if_there types None = true
is_type_if_there types (Some ty) = is_type types ty

-- the number that a type is, if it is one
abbrev pub number_in : TypeTree → Option ℕ
number_in (plain k fields) = None
number_in (named n) = Some n
number_in undefined = None

-- the number that the type of a number is, if it is one
abbrev pub next_number : List TypeTree → ℕ → Option ℕ
next_number types n = option_and_then number_in (slice_get types n)

-- the number of a type leads back to itself
abbrev pub number_leads_back : List TypeTree → ℕ → Bool
number_leads_back types n = is_among (led_to (next_number types) (length types) n) n

-- no number of types, from one on, leads back to itself
abbrev pub none_leads_back : List TypeTree → ℕ → List TypeTree → Bool
none_leads_back types n [] = true
none_leads_back types n (ty ∷ rest) = not (number_leads_back types n) && none_leads_back types (suc n) rest

-- the types of a program
abbrev pub are_types : List TypeTree → Bool
are_types types = list_all (is_type (length types)) types && none_leads_back types 0 types
