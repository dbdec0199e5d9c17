-- What a run did with doors: where it opened them, and what came back to them.
use Rattle.std.specs.Prelude.{◌≡◌, ◌≢◌, ◌⊎◌, ◌↔◌, ℕ, ◌+◌, ◌≤◌, ◌==◌, Bool, true, false, not, if◌then◌else◌}
use Rattle.std.specs.Prelude.{List, [], ◌∷◌, length, fold, sum_by, count_by, Option, None, Some, nat_eq}
use Rattle.std.specs.List.{list_any, items_where_true}
use Rattle.std.specs.Io.KnownBytes.{Appends}
use Rattle.outside_doors.specs.Counts.{DoorTold, Tally, added, with_opened, with_door, with_wire}
use Rattle.outside_traits.specs.Told.{Lists, WireTold}
use Rattle.outside_polling.specs.Polls.{PollTold}
use Rattle.outside_doors.specs.Returns.{TryTold, try_told, DoorsTold}
use Rattle.run_record.specs.declared.record.Traffic.{Traffic}
use Rattle.run_theorem.specs.Ports.{DoorAt, Lead, is_led}
use Rattle.run_theorem.specs.Lines.{most_waits}
use Rattle.run_theorem.specs.RunConnections.{RunConnection}
use Rattle.conn_future.specs.declared.stage.Stage.TheVariants as Stages

-- What a run did with doors: for each location whether a door was opened there, what each of these doors told when it
-- came back, and what the wire of each connection told when it came back.
pub record Used : Type 0 where
  pub opened : List Bool
  pub doors : List DoorTold
  pub wires : List PollTold

-- ---- where doors are opened

-- the tries to open a door at these places, in order, by whether it was opened there
abbrev pub tries_at : List DoorAt → List Bool → List TryTold
tries_at (p ∷ ps) (b ∷ bs) = try_told p.location b ∷ tries_at ps bs
tries_at ps bs = []

-- the doors that were opened there and told this when they came back: by how many doors had been opened before each,
-- and the service to which it leads
abbrev pub leads_by : List DoorAt → List DoorTold → List Lead
leads_by (p ∷ ps) (d ∷ ds) = record { place = d.place; service = p.service } ∷ leads_by ps ds
leads_by ps ds = []

-- a connection came at one of these doors, by what its wire told, and leads to the service to which that door leads
abbrev pub came_at_door : List Lead → RunConnection → Bool
came_at_door leads connection = list_any (is_led connection.door connection.service) leads

-- a connection leads to service n
abbrev pub leads_to : ℕ → RunConnection → Bool
leads_to n connection = nat_eq n connection.service

-- how many wires the doors gave that were opened there and lead to service n, by what they told
abbrev pub wires_to : ℕ → List DoorAt → List DoorTold → ℕ
wires_to n [] ds = 0
wires_to n (p ∷ ps) [] = 0
wires_to n (p ∷ ps) (d ∷ ds) = (if nat_eq n p.service then d.wires else 0) + wires_to n ps ds

-- these doors were opened one after another, before the first of which so many had been
abbrev pub AreInOrder : ℕ → List DoorTold → Type 0
AreInOrder n [] = Unit {0}
AreInOrder n (d ∷ ds) = (d.place ≡ n) × AreInOrder (added n 1) ds

-- ---- what doors count

-- doors were opened there
abbrev pub with_openings : List DoorAt → Tally → Tally
with_openings doors tally = fold (λ counts door. with_opened counts) tally doors

-- these wires came back
abbrev pub with_wires : List PollTold → Tally → Tally
with_wires wires tally = fold (λ counts wire. with_wire wire counts) tally wires

-- these doors came back
abbrev pub with_doors : List DoorTold → Tally → Tally
with_doors doors tally = fold (λ counts door. with_door door counts) tally doors

-- a door has failed
abbrev pub has_failed : DoorTold → Bool
has_failed door = not (door.faults == 0)

-- how many doors could not be opened, or came back and had failed
abbrev pub failures_in : Used → ℕ
failures_in used = count_by not used.opened + count_by has_failed used.doors

-- A count of faults rose by one at least for each of so many failures, up to the last value of its type; without one it
-- is as it was.
pub record RoseBy (failures before now : ℕ) : Type 0 where
  pub counted : added before failures ≤ now
  pub unfailed : failures ≡ 0 → now ≡ before

-- One try was made to open each of the wanted doors, in order. All that were opened came back in that order, and
-- as many wires as they gave; and the doors count and tell just this, with a fault for each that was not opened or came
-- back and had failed.
pub record IsUsed (wanted : List DoorAt) (before now : DoorsTold) (used : Used) : Type 0 where
  pub tried : length used.opened ≡ length wanted
  pub back : length used.doors ≡ length (items_where_true used.opened wanted)
  pub in_order : AreInOrder before.tally.opened used.doors
  pub given : sum_by (λ (door : DoorTold). door.wires) used.doors ≡ length used.wires
  pub tally : now.tally
      ≡ with_doors used.doors (with_wires used.wires (with_openings (items_where_true used.opened wanted) before.tally))
  pub tries : Lists before.tries now.tries (tries_at wanted used.opened)
  pub returned : Lists before.returned now.returned used.wires
  pub came_back : Lists before.returned_doors now.returned_doors used.doors
  pub faults : RoseBy (failures_in used) before.faults now.faults

-- ---- wires

-- A wire as it comes: as far as it tells nothing was read or written on it; it has not failed, and it is open.
pub record IsNewLine (line : WireTold) : Type 0 where
  pub nothing_read : line.read ≡ None ⊎ line.read ≡ Some []
  pub unwritten : line.written ≡ None ⊎ line.written ≡ Some []
  pub read_unfailed : line.read_failed ≡ false
  pub write_unfailed : line.write_failed ≡ false
  pub is_open : line.closed ≡ false

-- A wire that came back from a connection which has these bytes: it was made so, and nothing was read or written on it
-- then; it tells the door of its connection; what it told since is these bytes; a read of it has failed exactly where
-- its connection stands as failed in a read, and a write exactly where that stands as failed in a write; and its
-- connection stands as ended only where a read told the end of what comes in.
pub record IsWireOf (IsMade : WireTold → Type 0) (connection : RunConnection) (traffic : Traffic) (wire : WireTold) : Type 0 where
  pub first : WireTold
  pub came : IsMade first
  pub fresh : IsNewLine first
  pub door : wire.door ≡ connection.door
  pub read : Appends first.read wire.read traffic.read
  pub written : Appends first.written wire.written traffic.written
  pub lost : (connection.stage ≡ Stages.ReadFailed) ↔ (wire.read_failed ≡ true)
  pub cut : (connection.stage ≡ Stages.WriteFailed) ↔ (wire.write_failed ≡ true)
  pub ended : (connection.stage ≡ Stages.Ended) → (wire.ended ≡ true)

-- the wires are those of the connections, in order
abbrev pub AreWires : (WireTold → Type 0) → List RunConnection → List Traffic → List PollTold → Type 0
AreWires IsMade [] [] [] = Unit {0}
AreWires IsMade (v ∷ vs) (t ∷ ts) (w ∷ ws) = IsWireOf IsMade v t w.wire × AreWires IsMade vs ts ws
AreWires IsMade vs ts ws = ⊥

-- No text goes out on a connection any more: all that was due on it was written, or a write failed. Or its wire has
-- answered as often as a run looks that it can move nothing yet, and this is the last that it answered, as often in a row.
abbrev pub IsWrittenOut : RunConnection → PollTold → Type 0
IsWrittenOut connection wire =
    (connection.stage ≢ Stages.Writes) ⊎ ((most_waits ≤ wire.waits) × (most_waits ≤ wire.in_a_row))
