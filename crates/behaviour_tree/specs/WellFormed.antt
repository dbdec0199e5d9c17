-- What well-formed parts are: each number names something that is there, and no rule is broken that can be told of
-- these parts, which have neither the protocols of ports nor the names of types.
use Rattle.std.specs.Prelude.{ℕ, Bool, true, false, ◌&&◌, bytes_eq, codes, List, [], ◌∷◌, length, map}
use Rattle.std.specs.List.{list_all}
use Rattle.behaviour_tree.specs.Data.{InterfacePart, ServicePart, ProgramParts}
use Rattle.behaviour_tree.specs.Distinct.{is_some_list, texts_differ}
use Rattle.behaviour_tree.specs.FormedTypes.{are_types}
use Rattle.behaviour_tree.specs.FormedInterfaces.{is_interface}
use Rattle.behaviour_tree.specs.FormedPorts.{input_locations}
use Rattle.behaviour_tree.specs.FormedServices.{is_service}
use Rattle.behaviour_tree.specs.FormedNumbers.{are_numbered}

-- ---- names

-- the faults that every program knows, and the outermost scope
abbrev pub standard_names : List (List ℕ)
standard_names =
    codes "IOException" ∷ codes "TypeMismatch" ∷ codes "CorrelationError" ∷ codes "Refused" ∷ codes "UndeclaredFault"
    ∷ codes "ExprFault" ∷ codes "HandlerTooLarge" ∷ codes "StoreTooLarge" ∷ codes "main" ∷ []

-- texts begin with these
abbrev pub begin_with : List (List ℕ) → List (List ℕ) → Bool
begin_with [] texts = true
begin_with (s ∷ ss) [] = false
begin_with (s ∷ ss) (t ∷ ts) = bytes_eq s t && begin_with ss ts

-- the names of faults and scopes: the standard ones first, and none twice
abbrev pub are_names : List (List ℕ) → Bool
are_names names = begin_with standard_names names && texts_differ names

-- ---- the program

-- the interfaces of a program
abbrev pub are_interfaces : ProgramParts → Bool
are_interfaces parts =
    texts_differ (map (λ (i : InterfacePart). i.name) parts.interfaces)
    && list_all (is_interface (length parts.types) (length parts.names)) parts.interfaces

-- the services of a program: there is one, their names differ, and so do the locations of their input ports
abbrev pub are_services : ProgramParts → Bool
are_services parts =
    is_some_list parts.services && texts_differ (map (λ (s : ServicePart). s.name) parts.services)
    && texts_differ (input_locations parts.services)
    && list_all (is_service parts (input_locations parts.services)) parts.services

-- Well-formed parts of a program.
unfoldable pub is_well_formed : ProgramParts → Bool
is_well_formed parts =
    are_names parts.names && are_types parts.types && are_interfaces parts && are_services parts && are_numbered parts
