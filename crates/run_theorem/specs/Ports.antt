-- At which locations a program has doors, and to which service each leads.
use Rattle.std.specs.Prelude.{◌≡◌, ℕ, suc, Bool, false, ◌&&◌, List, [], ◌∷◌, ◌++◌, map, nat_eq, Option, None, Some}
use Rattle.std.specs.List.{filter, list_any}
use Rattle.behaviour_tree.specs.Data.{PortPart, ServicePart, ProgramParts}
use Rattle.behaviour_tree.specs.Locations.{is_socket}

-- an input port of a socket
abbrev pub is_door : PortPart → Bool
is_door port = port.input && is_socket port.location

-- the locations of the doors of a service, in the order of the text
abbrev pub locations_of : ServicePart → List (List ℕ)
locations_of service = map (λ (port : PortPart). port.location) (filter is_door service.ports)

-- where a door is to be opened, and the number of the service to which it leads
pub record DoorAt : Type 0 where
  pub service : ℕ
  pub location : List ℕ

-- the doors of services in order, the first of which has the number n
abbrev pub doors_from : ℕ → List ServicePart → List DoorAt
doors_from n [] = []
doors_from n (s ∷ ss) =
    map (λ location. record { service = n; location = location }) (locations_of s) ++ doors_from (suc n) ss

-- the doors of a program, in the order of the text
abbrev pub doors_of : ProgramParts → List DoorAt
doors_of parts = doors_from 0 parts.services

-- a service of that number has a door
abbrev pub has_door : ProgramParts → ℕ → Bool
has_door parts service = list_any (λ (door : DoorAt). nat_eq service door.service) (doors_of parts)

-- a door, by how many doors had been opened before it, and the service to which it leads
pub record Lead : Type 0 where
  pub place : ℕ
  pub service : ℕ

-- a wire tells that it came at the door of this place
abbrev pub is_of_door : Option ℕ → ℕ → Bool
is_of_door None place = false
is_of_door (Some door) place = nat_eq door place

-- a wire that tells this door came at the door of this lead, which leads to this service
abbrev pub is_led : Option ℕ → ℕ → Lead → Bool
is_led door service lead = is_of_door door lead.place && nat_eq service lead.service
