-- Refusals, and the one that is given: that with the least place, at a tie the first in the order of the names.
use Rattle.std.specs.Prelude.{ℕ, Bool, ◌&&◌, ◌||◌, ◌==◌, List, [], ◌∷◌, map, nat_lt, nat_le, if◌then◌else◌, Option}
use Rattle.std.specs.Prelude.{None, Some}
use Rattle.check_base.specs.declared.refusal.CheckName.{CheckName}
use Rattle.check_base.specs.declared.refusal.CheckName.TheVariants.{DuplicateName, UnknownType, UnknownPort}
use Rattle.check_base.specs.declared.refusal.CheckName.TheVariants.{UnknownOperation, WrongKind, Uncorrelated, TwoSets}
use Rattle.check_base.specs.declared.refusal.CheckName.TheVariants.{CompOutsideHandler, ChOutsideHandler, NoStart}
use Rattle.check_base.specs.declared.refusal.CheckName.TheVariants.{InitNotAssignment}
use Rattle.check_base.specs.declared.refusal.Refusal.{Refusal}

-- the order of the names
abbrev pub rank : CheckName → ℕ
rank DuplicateName = 0
rank UnknownType = 1
rank UnknownPort = 2
rank UnknownOperation = 3
rank WrongKind = 4
rank Uncorrelated = 5
rank TwoSets = 6
rank CompOutsideHandler = 7
rank ChOutsideHandler = 8
rank NoStart = 9
rank InitNotAssignment = 10

-- a refusal of a name at a place
abbrev pub refusal : CheckName → ℕ → Refusal
refusal name at = record { name = name; at = at }

-- the refusals of a name at places
abbrev pub refused : CheckName → List ℕ → List Refusal
refused name places = map (refusal name) places

-- a refusal of a name at a place where something holds
abbrev pub refused_if : Bool → CheckName → ℕ → List Refusal
refused_if holds name at = if holds then refusal name at ∷ [] else []

-- the place is less, or it is the same and the name is no later
abbrev pub comes_first : Refusal → Refusal → Bool
comes_first a b = nat_lt a.at b.at || ((a.at == b.at) && nat_le (rank a.name) (rank b.name))

-- the first of a refusal and another that may be there
abbrev pub first_of : Refusal → Option Refusal → Refusal
first_of r None = r
first_of r (Some s) = if comes_first r s then r else s

-- the refusal that comes first
abbrev pub least : List Refusal → Option Refusal
least [] = None
least (r ∷ rs) = Some (first_of r (least rs))

-- the first of what is refused so far, if anything is, and one refusal more
abbrev pub offered : Option Refusal → Refusal → Option Refusal
offered None r = Some r
offered (Some so) r = Some (if comes_first so r then so else r)

-- the first of what is refused so far and of more refusals
abbrev pub joined : Option Refusal → List Refusal → Option Refusal
joined so [] = so
joined so (r ∷ rs) = joined (offered so r) rs
