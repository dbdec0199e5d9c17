-- These definitions serve the proofs alone: no promise speaks of them.
-- How the doors of a run are opened and come back, and how its record and its status are made.
use Rattle.std.specs.Prelude.{◌≡◌, ℕ, Bool, not, ◌||◌, if◌then◌else◌, List, [], ◌∷◌, ◌++◌, length, map, count_by}
use Rattle.outside_doors.specs.Returns.{DoorsTold}
use Rattle.std.specs.List.{list_any, filter, items_where_true}
use Rattle.outside_doors.specs.Counts.{DoorTold, Tally, untried, with_opened}
use Rattle.outside_traits.specs.Told.{Lists}
use Rattle.outside_polling.specs.Polls.{PollTold, shut_so}
use Rattle.behaviour_tree.specs.Data.{PortPart}
use Rattle.run_record.specs.declared.record.Record.{Record}
use Rattle.run_record.specs.declared.record.Traffic.{Traffic}
use Rattle.run_theorem.specs.Ports.{DoorAt, is_door}
use Rattle.run_door_front.specs.Keeping.{ListenerTold, ClientTold, Keeping, told_of_wire}
use Rattle.run_door_front.specs.Draining.{Drains}
use Rattle.run_theorem.specs.Used.{Used, RoseBy, tries_at, has_failed}
use Rattle.run_theorem.specs.Used.{with_openings, with_wires, with_doors}

-- ---- doors are opened

-- where a port is
abbrev pub location_in : PortPart → List ℕ
location_in port = port.location

-- a door at a location, to the service of a number
abbrev pub door_to : ℕ → List ℕ → DoorAt
door_to n location = record { service = n; location = location }

-- the doors of ports of the service of a number
abbrev pub doors_at : ℕ → List PortPart → List DoorAt
doors_at n ports = map (door_to n) (map location_in (filter is_door ports))

-- a door that was opened there, after so many others
abbrev pub port_at : ℕ → DoorAt → ListenerTold
port_at place door = record { service = door.service; door = untried place }

-- doors that were opened there one after another, after those that were counted
abbrev pub ports_at : Tally → List DoorAt → List ListenerTold
ports_at tally [] = []
ports_at tally (door ∷ more) = port_at tally.opened door ∷ ports_at (with_opened tally) more

-- doors while they are opened: what they tell, those that were opened, and whether one could not be
pub record Opened : Type 0 where
  pub doors : DoorsTold
  pub ports : List ListenerTold
  pub failed : Bool

-- the same by its parts
abbrev pub opened_by : DoorsTold → List ListenerTold → Bool → Opened
opened_by doors ports failed = record { doors = doors; ports = ports; failed = failed }

-- One try was made to open each of the wanted doors, in order; what could not be opened was left out.
pub record Opens (wanted : List DoorAt) (before now : Opened) : Type 0 where
  pub opened : List Bool
  pub tried : length opened ≡ length wanted
  pub ports : now.ports ≡ before.ports ++ ports_at before.doors.tally (items_where_true opened wanted)
  pub tally : now.doors.tally ≡ with_openings (items_where_true opened wanted) before.doors.tally
  pub tries : Lists before.doors.tries now.doors.tries (tries_at wanted opened)
  pub returned : now.doors.returned ≡ before.doors.returned
  pub came_back : now.doors.returned_doors ≡ before.doors.returned_doors
  pub faults : RoseBy (count_by not opened) before.doors.faults now.doors.faults
  pub failed : now.failed ≡ (before.failed || list_any not opened)

-- ---- doors and wires come back

-- These wires came back.
pub record GivesWires (wires : List PollTold) (before now : DoorsTold) : Type 0 where
  pub tally : now.tally ≡ with_wires wires before.tally
  pub returned : Lists before.returned now.returned wires
  pub came_back : now.returned_doors ≡ before.returned_doors
  pub tries : now.tries ≡ before.tries
  pub faults : now.faults ≡ before.faults

-- These doors came back.
pub record GivesDoors (doors : List DoorTold) (before now : DoorsTold) : Type 0 where
  pub tally : now.tally ≡ with_doors doors before.tally
  pub returned : now.returned ≡ before.returned
  pub came_back : Lists before.returned_doors now.returned_doors doors
  pub tries : now.tries ≡ before.tries
  pub faults : RoseBy (count_by has_failed doors) before.faults now.faults

-- First these wires came back, and then these doors.
pub record GivesBack (wires : List PollTold) (doors : List DoorTold) (before now : DoorsTold) : Type 0 where
  pub mid : DoorsTold
  pub wires_first : GivesWires wires before mid
  pub doors_then : GivesDoors doors mid now

-- the bytes of a connection
abbrev pub traffic_of : ClientTold → Traffic
traffic_of link = record { read = link.seen.kept.read.items; written = link.seen.kept.written.items }

-- what its wire tells, once it is closed
abbrev pub wire_of : ClientTold → PollTold
wire_of link = shut_so (told_of_wire link)

-- what a door tells
abbrev pub door_of : ListenerTold → DoorTold
door_of port = port.door

-- what came back: the bytes of the connections, and whether a door had failed
pub record BackTold : Type 0 where
  pub traffic : List Traffic
  pub failed : Bool

-- The connections and the doors of a front came back once all that was due was written.
pub record Closes (kept : Keeping) (back : BackTold) (before now : DoorsTold) : Type 0 where
  pub ports : List ListenerTold
  pub connections : List ClientTold
  pub drains : Drains kept.halted kept.doors ports kept.connections connections
  pub traffic : back.traffic ≡ map traffic_of connections
  pub failed : back.failed ≡ list_any has_failed (map door_of ports)
  pub gives : GivesBack (map wire_of connections) (map door_of ports) before now

-- ---- the end

-- a door could not be opened, or it came back and had failed
abbrev pub some_failed : Used → Bool
some_failed used = list_any not used.opened || list_any has_failed used.doors

-- the record of a run with the bytes of its connections as its traffic
abbrev pub with_traffic : Record → List Traffic → Record
with_traffic run traffic = record {
  program = run.program;
  history = run.history;
  sessions = run.sessions;
  traffic = traffic;
}

-- the least status of what became of a run: whether its front halted, a door failed, and a session could still act with
-- its whole budget used
abbrev pub status_of : Bool → Bool → Bool → ℕ
status_of halted failed spent = if halted then 5 else (if failed then 7 else (if spent then 6 else 0))
