-- What a front over doors keeps.
use Rattle.std.specs.Prelude.{◌≡◌, ℕ, suc, ◌≤◌, Bool, true, false, ◌&&◌, ◌||◌, if◌then◌else◌, List, [], ◌∷◌, length, map}
use Rattle.std.specs.Prelude.{nat_eq, nat_le, count_by, Option, None, Some, slice_get}
use Rattle.std.specs.List.{list_all, sum_by}
use Rattle.outside_doors.specs.Counts.{DoorTold, untried, has_ended}
use Rattle.outside_polling.specs.Polls.{PollTold}
use Rattle.conn_future.specs.declared.stage.Stage.{Stage}
use Rattle.conn_future.specs.declared.stage.Stage.TheVariants as Stages
use Rattle.conn_future.specs.Stages.{stage_of, IsAnswering}
use Rattle.conn_future.specs.Talking.{Seen}
pub use Rattle.run_theorem.specs.Ports.{Lead, is_of_door, is_led}
pub use Rattle.run_theorem.specs.Through.{most_open}
use Rattle.run_door_front.specs.declared.link.PendingReply.{PendingReply}

-- a door, and the service to which it leads
pub record ListenerTold : Type 0 where
  pub service : ℕ
  pub door : DoorTold

-- A connection, the service of its door, how often its wire has answered that it can move nothing yet, how often in a row
-- up to now and in the longest row that a write has come to, and the request that is pending an answer, where one is.
pub record ClientTold : Type 0 where
  pub service : ℕ
  pub seen : Seen
  pub waits : ℕ
  pub in_a_row : ℕ
  pub longest : ℕ
  pub pending : Option PendingReply

-- what the wire of a connection tells
abbrev pub told_of_wire : ClientTold → PollTold
told_of_wire link =
    record { wire = link.seen.line; waits = link.waits; in_a_row = link.in_a_row; longest = link.longest }

-- What a front over doors keeps: the doors in the order of the text; the connections in the order in which they were
-- accepted, which are called by their numbers in it; those that are open, and those whose request is whole and was not
-- posted yet, in the order in which it became whole; of which connection each posting is, how many connections it
-- accepts at most, whether it halted, and whether memory ran out.
pub record Keeping : Type 0 where
  pub doors : List ListenerTold
  pub connections : List ClientTold
  pub opened : List ℕ
  pub queue : List ℕ
  pub traffics : List ℕ
  pub most : ℕ
  pub halted : Bool
  pub spent : Bool

-- ---- how connections stand

-- how a connection stands
abbrev pub stage_at : ClientTold → Stage
stage_at link = stage_of link.seen.kept.next

-- where a request is whole or a text goes out, the row of its wire is no longer than the longest that a write has come to
abbrev pub IsWithin : ClientTold → Type 0
IsWithin link = IsAnswering (stage_at link) → link.in_a_row ≤ link.longest

-- a connection at this stage is not over
abbrev pub is_open_at : Stage → Bool
is_open_at Stages.Reads = true
is_open_at Stages.Asks = true
is_open_at Stages.Owes = true
is_open_at Stages.Writes = true
is_open_at Stages.Ended = false
is_open_at Stages.Closed = false
is_open_at Stages.ReadFailed = false
is_open_at Stages.WriteFailed = false
is_open_at Stages.Spent = true

-- a request is whole at this stage, and was not posted yet
abbrev pub asks_at : Stage → Bool
asks_at Stages.Asks = true
asks_at stage = false

-- an answer is owed at this stage
abbrev pub owes_at : Stage → Bool
owes_at Stages.Owes = true
owes_at stage = false

-- a connection is not over
abbrev pub is_open : ClientTold → Bool
is_open link = is_open_at (stage_at link)

-- a request of a connection is whole, and was not posted yet
abbrev pub asks : ClientTold → Bool
asks link = asks_at (stage_at link)

-- a request of a connection was posted and has no answer yet
abbrev pub owes : ClientTold → Bool
owes link = owes_at (stage_at link)

-- this is so of a connection, which is there
abbrev pub is_so : (ClientTold → Bool) → Option ClientTold → Bool
is_so p None = false
is_so p (Some link) = p link

-- the connection of a number is open
abbrev pub is_open_there : List ClientTold → ℕ → Bool
is_open_there connections number = is_so is_open (slice_get connections number)

-- the connection of a number asks
abbrev pub asks_there : List ClientTold → ℕ → Bool
asks_there connections number = is_so asks (slice_get connections number)

-- the connection of a number owes
abbrev pub owes_there : List ClientTold → ℕ → Bool
owes_there connections number = is_so owes (slice_get connections number)

-- the numbers of the connections that are open, in order, where the first of all has this number
abbrev pub open_from : ℕ → List ClientTold → List ℕ
open_from n [] = []
open_from n (l ∷ ls) = if is_open l then n ∷ open_from (suc n) ls else open_from (suc n) ls

-- The numbers of the connections that are open stand in order, at most so many as may be; and of those that ask each
-- stands in the queue once, and no other.
pub record IsOrdered (connections : List ClientTold) (opened queue : List ℕ) : Type 0 where
  pub in_order : opened ≡ open_from 0 connections
  pub few : length opened ≤ most_open
  pub queued : (number : ℕ) → count_by (nat_eq number) queue ≡ (if asks_there connections number then 1 else 0)

-- ---- at first

-- a door that was not tried yet
abbrev pub is_new_port : ListenerTold → Type 0
is_new_port port = port.door ≡ untried port.door.place

-- each of the doors was not tried yet
abbrev pub AreNew : List ListenerTold → Type 0
AreNew [] = Unit {0}
AreNew (p ∷ ps) = is_new_port p × AreNew ps

-- Nothing came yet.
pub record IsEmpty (k : Keeping) : Type 0 where
  pub doors : AreNew k.doors
  pub connections : k.connections ≡ []
  pub traffics : k.traffics ≡ []
  pub halted : k.halted ≡ false
  pub spent : k.spent ≡ false

-- ---- doors

-- the services of the doors, in order
abbrev pub services_of : Keeping → List ℕ
services_of k = map (λ (p : ListenerTold). p.service) k.doors

-- how many doors had been opened before each of them
abbrev pub places_of : Keeping → List ℕ
places_of k = map (λ (p : ListenerTold). p.door.place) k.doors

-- that of a door
abbrev pub lead_of : ListenerTold → Lead
lead_of port = record { place = port.door.place; service = port.service }

-- those of the doors, in order
abbrev pub leads_of : Keeping → List Lead
leads_of k = map lead_of k.doors

-- how often was rested, at all doors
abbrev pub rests_at : List ListenerTold → ℕ
rests_at doors = sum_by (λ (p : ListenerTold). p.door.rests) doors

-- how often was rested at all doors, at each since somebody came there last
abbrev pub rests_in_a_row_at : List ListenerTold → ℕ
rests_in_a_row_at doors = sum_by (λ (p : ListenerTold). p.door.rests_in_a_row) doors

-- A door has ended, or it has answered so often that nobody has come yet, and this is the last that it answered, as often
-- in a row.
abbrev pub is_quiet : ℕ → ListenerTold → Bool
is_quiet often port =
    has_ended port.door || (nat_le often port.door.waits && nat_le often port.door.waits_in_a_row)

-- no connection can come any more: as many were accepted as may be, or each door has ended
abbrev pub closed_off : ℕ → List ListenerTold → List ClientTold → Bool
closed_off most doors connections =
    nat_le most (length connections) || list_all (λ (p : ListenerTold). has_ended p.door) doors

-- the same of what a front keeps
abbrev pub no_more : Keeping → Bool
no_more k = closed_off k.most k.doors k.connections

-- how many wires a door gave, if it leads to service n
abbrev pub wires_to : ℕ → ListenerTold → ℕ
wires_to n port = if nat_eq n port.service then port.door.wires else 0

-- a connection leads to service n
abbrev pub leads_to : ℕ → ClientTold → Bool
leads_to n link = nat_eq n link.service

-- To each service lead as many connections as the doors gave wires that lead to it.
abbrev pub AreLed : List ListenerTold → List ClientTold → Type 0
AreLed doors connections = (n : ℕ) → sum_by (wires_to n) doors ≡ count_by (leads_to n) connections
