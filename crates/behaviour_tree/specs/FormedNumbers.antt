-- What a well-formed program has so little of that each thing has a number of 32 bits.
use Rattle.std.specs.Prelude.{ℕ, ◌^◌, Bool, ◌&&◌, nat_lt, List, length, sum_by}
use Rattle.std.specs.List.{list_all}
use Rattle.behaviour_tree.specs.Data.{SetPart, ServicePart, ProgramParts}

-- so many things have numbers of 32 bits, and so has their count
abbrev pub have_numbers : ℕ → Bool
have_numbers count = nat_lt count (2 ^ 32)

-- how many variables correlation sets have in all
abbrev pub count_variables : List SetPart → ℕ
count_variables sets = sum_by (λ (set : SetPart). length set.variables) sets

-- how many correlation sets services have in all
abbrev pub count_sets : List ServicePart → ℕ
count_sets services = sum_by (λ (s : ServicePart). length s.sets) services

-- the ports of a service have numbers, and so have its correlation variables
abbrev pub is_numbered : ServicePart → Bool
is_numbered s = have_numbers (length s.ports) && have_numbers (count_variables s.sets)

-- the names, types, interfaces and services of a program have numbers, and so have the correlation sets of all services
-- and what each service has
abbrev pub are_numbered : ProgramParts → Bool
are_numbered parts =
    have_numbers (length parts.names) && have_numbers (length parts.types) && have_numbers (length parts.interfaces)
    && have_numbers (length parts.services) && have_numbers (count_sets parts.services)
    && list_all is_numbered parts.services
