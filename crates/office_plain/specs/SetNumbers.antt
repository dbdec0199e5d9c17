-- Correlation sets with their numbers over the whole program.
use Rattle.std.specs.Prelude.{ℕ, suc, ◌-◌, List, [], ◌∷◌, take, length, map, nat_lt, sum_by, if◌then◌else◌}
use Rattle.std.specs.Prelude.{option_map, slice_get, unwrap_or}
use Rattle.std.specs.List.{range_with_len}
use Rattle.behaviour_tree.specs.Data.{ServicePart, ProgramParts}
use Rattle.correlation.specs.declared.session.SetOf.{SetOf}
use Rattle.office_core.specs.Keys.{Variable, sets_of}

-- sets of variables with their numbers, the first of which is n; one without a variable is left out
abbrev pub numbered_from : ℕ → List (List Variable) → List SetOf
numbered_from n [] = []
numbered_from n ([] ∷ sets) = numbered_from (suc n) sets
numbered_from n ((v ∷ vs) ∷ sets) =
    record { set = n; variables = map (λ (u : Variable). u.number) (v ∷ vs) } ∷ numbered_from (suc n) sets

-- the set of a number with the variables from one number to another, if there are any
abbrev pub set_from : ℕ → ℕ → ℕ → List SetOf
set_from n first end =
    if nat_lt first end then record { set = n; variables = range_with_len first (end - first) } ∷ [] else []

-- how many sets the services before one have
abbrev pub sets_before : ProgramParts → ℕ → ℕ
sets_before parts d = sum_by (λ (s : ServicePart). length s.sets) (take d parts.services)

-- the sets of a service, numbered over the whole program
abbrev pub numbered_sets : ProgramParts → ℕ → List SetOf
numbered_sets parts d =
    unwrap_or
    (option_map (λ (s : ServicePart). numbered_from (sets_before parts d) (sets_of s)) (slice_get parts.services d))
    []
