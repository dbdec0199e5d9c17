-- How a front over doors comes to its next posting.
use Rattle.std.specs.Prelude.{◌≡◌, ◌≢◌, ◌⊎◌, ℕ, ◌+◌, ◌-◌, ◌^◌, ◌≤◌, ◌<◌, min, Bool, true, false, not, ◌&&◌, ◌||◌}
use Rattle.std.specs.Prelude.{List}
use Rattle.std.specs.Prelude.{[], ◌∷◌, ◌++◌, length, map, if◌then◌else◌, nat_eq}
use Rattle.std.specs.Prelude.{nat_lt, count_by, slice_get, slice_set, Option, None, Some}
use Rattle.std.specs.List.{list_all, list_any, sum_by}
use Rattle.jsonrpc_text.specs.Posted.{posted}
use Rattle.outside_doors.specs.Counts.{added, rested, has_ended}
use Rattle.office_core.specs.declared.front.Posting.{Posting}
use Rattle.run_theorem.specs.declared.front.Next.{Next}
use Rattle.run_theorem.specs.declared.front.Next.TheVariants as next
use Rattle.run_theorem.specs.Calls.{most_postings}
use Rattle.run_theorem.specs.Texts.{posting_of}
use Rattle.run_theorem.specs.RunConnections.{came_with}
use Rattle.conn_future.specs.declared.stage.Stage.TheVariants as Stages
use Rattle.conn_future.specs.Stages.{IsOver, IsUnanswered, IsAtRest}
use Rattle.conn_future.specs.Talking.{IsTalking, TalksOn}
use Rattle.outside_traits.specs.Told.{WireTold}
use Rattle.run_door_front.specs.Keeping.{ListenerTold, ClientTold, Keeping, Lead, lead_of, is_led, rests_at, wires_to}
use Rattle.run_door_front.specs.Keeping.{leads_to, AreLed, stage_at, is_open, asks, owes, asks_there, IsOrdered}
use Rattle.run_door_front.specs.Keeping.{closed_off, rests_in_a_row_at, IsWithin}
use Rattle.run_door_front.specs.Moving.{any_moved}
use Rattle.run_door_front.specs.Exchanged.{IsNewLine, most_open}

-- ---- doors

-- a count did not fall, as far as numbers of 64 bits go
abbrev pub HasNotFallen : ℕ → ℕ → Type 0
HasNotFallen before now = min before (2 ^ 64 - 1) ≤ now

-- nobody came at a door, as far as it counts the wires that it gave
abbrev pub NobodyCame : ListenerTold → ListenerTold → Type 0
NobodyCame before now = (now.door.wires ≡ before.door.wires) × (before.door.wires < 2 ^ 64 - 1)

-- A door goes on: its service and its place stay, an end stays, and its wires, waits and rests do not fall; where nobody
-- came, nor do its waits and rests in a row. At one that has ended nothing is done but to rest.
pub record GoesOn (before now : ListenerTold) : Type 0 where
  pub service : now.service ≡ before.service
  pub place : now.door.place ≡ before.door.place
  pub ended : has_ended before.door ≡ true → has_ended now.door ≡ true
  pub untried : has_ended before.door ≡ true
      → now.door ≡ record before.door { rests = now.door.rests; rests_in_a_row = now.door.rests_in_a_row }
  pub wires : HasNotFallen before.door.wires now.door.wires
  pub waits : HasNotFallen before.door.waits now.door.waits
  pub rests : HasNotFallen before.door.rests now.door.rests
  pub row : NobodyCame before now → HasNotFallen before.door.waits_in_a_row now.door.waits_in_a_row
  pub rests_row : NobodyCame before now → HasNotFallen before.door.rests_in_a_row now.door.rests_in_a_row

-- nobody comes at a door: it has ended, or it answered once more that nobody has come yet, and where nobody came, once
-- more in a row
abbrev pub IsTried : ListenerTold → ListenerTold → Type 0
IsTried before now = (has_ended now.door ≡ true) ⊎ ((added before.door.waits 1 ≤ now.door.waits)
    × (NobodyCame before now → added before.door.waits_in_a_row 1 ≤ now.door.waits_in_a_row))

-- each door goes on
abbrev pub AllGoOn : List ListenerTold → List ListenerTold → Type 0
AllGoOn [] [] = Unit {0}
AllGoOn [] (q ∷ qs) = ⊥
AllGoOn (p ∷ ps) [] = ⊥
AllGoOn (p ∷ ps) (q ∷ qs) = GoesOn p q × AllGoOn ps qs

-- nobody comes at any door
abbrev pub AreTried : List ListenerTold → List ListenerTold → Type 0
AreTried [] [] = Unit {0}
AreTried [] (q ∷ qs) = ⊥
AreTried (p ∷ ps) [] = ⊥
AreTried (p ∷ ps) (q ∷ qs) = IsTried p q × AreTried ps qs

-- a door has ended, or it answered once more, and once more in a row, that nobody has come yet
abbrev pub IsTriedInARow : ListenerTold → ListenerTold → Type 0
IsTriedInARow before now = (has_ended now.door ≡ true) ⊎ ((added before.door.waits 1 ≤ now.door.waits)
    × (added before.door.waits_in_a_row 1 ≤ now.door.waits_in_a_row))

-- the same of each
abbrev pub AreTriedInARow : List ListenerTold → List ListenerTold → Type 0
AreTriedInARow [] [] = Unit {0}
AreTriedInARow [] (q ∷ qs) = ⊥
AreTriedInARow (p ∷ ps) [] = ⊥
AreTriedInARow (p ∷ ps) (q ∷ qs) = IsTriedInARow p q × AreTriedInARow ps qs

-- how many wires a door gave
abbrev pub wires_of : ListenerTold → ℕ
wires_of port = port.door.wires

-- the service to which a door leads
abbrev pub service_of : ListenerTold → ℕ
service_of port = port.service

-- how many doors had been opened before it
abbrev pub place_of : ListenerTold → ℕ
place_of port = port.door.place

-- a door that was rested at
abbrev pub rested_at : ListenerTold → ListenerTold
rested_at port = record port { door = rested port.door }

-- doors after a rest at the first of them
abbrev pub rested_first : List ListenerTold → List ListenerTold
rested_first [] = []
rested_first (p ∷ ps) = rested_at p ∷ ps

-- doors after a rest at the first of them that has not ended
abbrev pub rested_open : List ListenerTold → List ListenerTold
rested_open [] = []
rested_open (p ∷ ps) = if has_ended p.door then p ∷ rested_open ps else rested_at p ∷ ps

-- doors after a rest at the first of them that has not ended, or, where all have, at the first of all
abbrev pub after_rest : List ListenerTold → List ListenerTold
after_rest ps = if list_all (λ (p : ListenerTold). has_ended p.door) ps then rested_first ps else rested_open ps

-- ---- connections

-- each connection that is open waits for an answer
abbrev pub all_owing : List ClientTold → Bool
all_owing links = list_all (λ (link : ClientTold). owes link || not (is_open link)) links

-- A further connection may be taken, where so many were accepted and so many of them are open.
abbrev pub has_room : ℕ → ℕ → ℕ → Bool
has_room most accepted opened = nat_lt accepted most && nat_lt opened most_open

-- No request of a connection was posted yet.
pub record IsNewClient (IsMade : WireTold → Type 0) (link : ClientTold) : Type 0 where
  pub pending : link.pending ≡ None
  pub unowed : stage_at link ≢ Stages.Owes
  pub memory : stage_at link ≢ Stages.Spent
  pub row : IsWithin link
  pub first : WireTold
  pub made : IsMade first
  pub fresh : IsNewLine first
  pub talks : IsTalking first link.seen [] []

-- a connection came at the door of this lead, which leads to its service
abbrev pub came_by : ClientTold → Lead → Bool
came_by link lead = is_led link.seen.line.door link.service lead

-- no request of these connections was posted yet, each of which came at one of these doors and leads to its service
abbrev pub AreNewLinks : (WireTold → Type 0) → List Lead → List ClientTold → Type 0
AreNewLinks IsMade leads [] = Unit {0}
AreNewLinks IsMade leads (l ∷ ls) =
    (list_any (came_by l) leads ≡ true) × IsNewClient IsMade l × AreNewLinks IsMade leads ls

-- Some of these connections came at the first door, those after them at the next, and so on.
abbrev pub CameInOrder : List Lead → List ClientTold → Type 0
CameInOrder [] links = links ≡ []
CameInOrder (d ∷ ds) links = (here : List ClientTold) × (others : List ClientTold) × (links ≡ here ++ others)
    × (list_all (λ link. came_by link d) here ≡ true) × CameInOrder ds others

-- A connection came at one of these doors. Each of those before it in the text has ended by now, or it answered once
-- more since that nobody has come yet: before the connection came or after it.
abbrev pub CameInTurn : List ListenerTold → List ListenerTold → ClientTold → Type 0
CameInTurn [] qs link = ⊥
CameInTurn (p ∷ ps) [] link = ⊥
CameInTurn (p ∷ ps) (q ∷ qs) link = (came_by link (lead_of p) ≡ true) ⊎ (IsTried p q × CameInTurn ps qs link)

-- the same of each
abbrev pub AllInTurn : List ListenerTold → List ListenerTold → List ClientTold → Type 0
AllInTurn ps qs [] = Unit {0}
AllInTurn ps qs (l ∷ ls) = CameInTurn ps qs l × AllInTurn ps qs ls

-- the same of each that came since there were these
abbrev pub NewInTurn : List ListenerTold → List ListenerTold → List ClientTold → List ClientTold → Type 0
NewInTurn ps qs [] now = AllInTurn ps qs now
NewInTurn ps qs (l ∷ ls) [] = ⊥
NewInTurn ps qs (l ∷ ls) (m ∷ ms) = NewInTurn ps qs ls ms

-- A connection goes on while nothing is posted of it and nothing is told to it. Where an answer is pending or a request
-- is whole, or where it is over, it stays as it is.
pub record ClientGoesOn (before now : ClientTold) : Type 0 where
  pub service : now.service ≡ before.service
  pub pending : now.pending ≡ before.pending
  pub rests : IsAtRest (stage_at before) → now ≡ before
  pub unowed : stage_at now ≡ Stages.Owes → stage_at before ≡ Stages.Owes
  pub memory : stage_at now ≡ Stages.Spent → stage_at before ≡ Stages.Spent
  pub waits : HasNotFallen before.waits now.waits
  pub longest : HasNotFallen before.longest now.longest
  pub row : IsWithin before → IsWithin now
  pub talks : TalksOn before.seen now.seen

-- connections go on, and new ones came, at these doors
abbrev pub LinksGoOn : (WireTold → Type 0) → List Lead → List ClientTold → List ClientTold → Type 0
LinksGoOn IsMade leads [] now = AreNewLinks IsMade leads now
LinksGoOn IsMade leads (l ∷ ls) [] = ⊥
LinksGoOn IsMade leads (l ∷ ls) (m ∷ ms) = ClientGoesOn l m × LinksGoOn IsMade leads ls ms

-- ---- connections come

-- doors, the connections that came, and the numbers of those that are open
pub record Doorway : Type 0 where
  pub doors : List ListenerTold
  pub connections : List ClientTold
  pub opened : List ℕ

-- the same by its parts
abbrev pub doorway : List ListenerTold → List ClientTold → List ℕ → Doorway
doorway doors connections opened = record { doors = doors; connections = connections; opened = opened }

-- New connections came at doors, in the order of these.
pub record TakesIn (IsMade : WireTold → Type 0) (most : ℕ) (before now : Doorway) : Type 0 where
  pub goes : AllGoOn before.doors now.doors
  pub more : List ClientTold
  pub grown : now.connections ≡ before.connections ++ more
  pub fresh : AreNewLinks IsMade (map lead_of before.doors) more
  pub in_order : CameInOrder (map lead_of before.doors) more
  pub in_turn : AllInTurn before.doors now.doors more
  pub shut : has_room most (length before.connections) (length before.opened) ≡ false → more ≡ []
  pub ordered : (queue : List ℕ)
      → IsOrdered before.connections before.opened queue → IsOrdered now.connections now.opened queue
  pub as_many : length now.opened ≡ length before.opened + length more
  pub fits : (length more ≡ 0) ⊎ (length now.connections ≤ most)
  pub wires : sum_by wires_of before.doors ≤ length before.connections
      → sum_by wires_of now.doors ≡ sum_by wires_of before.doors + length more
  pub led : sum_by wires_of before.doors ≤ length before.connections → (n : ℕ)
      → sum_by (wires_to n) now.doors ≡ sum_by (wires_to n) before.doors + count_by (leads_to n) more

-- They came until nobody comes or there is no more room.
pub record Accepts (IsMade : WireTold → Type 0) (most : ℕ) (before now : Doorway) : Type 0 where
  pub takes : TakesIn IsMade most before now
  pub tried : (has_room most (length now.connections) (length now.opened) ≡ false) ⊎ AreTried before.doors now.doors

-- ---- connections are polled

-- Nothing comes of a connection for now, whose wire had waited so often before: a request of it has no answer yet, it
-- is over, or its wire could move nothing yet.
abbrev pub IsPaused : ℕ → ClientTold → Type 0
IsPaused waits now = IsUnanswered (stage_at now) ⊎ (IsOver (stage_at now) ⊎ (added waits 1 ≤ now.waits))

-- A connection was polled.
pub record IsPolled (before now : ClientTold) : Type 0 where
  pub goes : ClientGoesOn before now
  pub paused : IsPaused before.waits now

-- connections, and the numbers of those that ask
pub record Lined : Type 0 where
  pub connections : List ClientTold
  pub queue : List ℕ

-- the same by its parts
abbrev pub lined : List ClientTold → List ℕ → Lined
lined connections queue = record { connections = connections; queue = queue }

-- the number of a connection that asks now and did not before, else none
abbrev pub newly : ℕ → ClientTold → ClientTold → List ℕ
newly number before now = if not (asks before) && asks now then number ∷ [] else []

-- The connection of a number was polled, which comes to the end of the queue where it came to ask.
pub record IsPolledAt (number : ℕ) (before now : Lined) : Type 0 where
  pub link : ClientTold
  pub later : ClientTold
  pub there : slice_get before.connections number ≡ Some link
  pub set : now.connections ≡ slice_set before.connections number later
  pub polled : IsPolled link later
  pub line : now.queue ≡ before.queue ++ newly number link later

-- each connection goes on
abbrev pub ClientsGoOn : List ClientTold → List ClientTold → Type 0
ClientsGoOn [] [] = Unit {0}
ClientsGoOn [] (m ∷ ms) = ⊥
ClientsGoOn (l ∷ ls) [] = ⊥
ClientsGoOn (l ∷ ls) (m ∷ ms) = ClientGoesOn l m × ClientsGoOn ls ms

-- connections came to the end of the queue, which did not ask before
pub record LinesUp (connections : List ClientTold) (before now : List ℕ) : Type 0 where
  pub more : List ℕ
  pub line : now ≡ before ++ more
  pub fresh : list_all (λ number. not (asks_there connections number)) more ≡ true

-- of the connections that ask each stands in the queue once, and no other
abbrev pub IsQueue : Lined → Type 0
IsQueue l = (number : ℕ)
    → count_by (nat_eq number) l.queue ≡ (if asks_there l.connections number then 1 else 0)

-- nothing comes of the connection of a number for now
abbrev pub IsPausedAt : List ClientTold → List ClientTold → ℕ → Type 0
IsPausedAt before now number = (link later : ClientTold) → slice_get before number ≡ Some link
    → slice_get now number ≡ Some later → IsPaused link.waits later

-- The connections of these numbers were polled.
pub record Polls (numbers : List ℕ) (before now : Lined) : Type 0 where
  pub goes : ClientsGoOn before.connections now.connections
  pub queued : IsQueue before → IsQueue now
  pub paused : (number : ℕ) → list_any (nat_eq number) numbers ≡ true
      → IsPausedAt before.connections now.connections number
  pub line : LinesUp before.connections before.queue now.queue

-- connections, the numbers of those that are open, and of those that ask
pub record Queued : Type 0 where
  pub connections : List ClientTold
  pub opened : List ℕ
  pub queue : List ℕ

-- the same by its parts
abbrev pub queued : List ClientTold → List ℕ → List ℕ → Queued
queued connections opened queue = record { connections = connections; opened = opened; queue = queue }

-- All open connections were polled.
pub record PollsAll (before now : Queued) : Type 0 where
  pub goes : ClientsGoOn before.connections now.connections
  pub ordered : IsOrdered now.connections now.opened now.queue
  pub paused : (number : ℕ) → IsPausedAt before.connections now.connections number
  pub line : LinesUp before.connections before.queue now.queue
  pub fewer : length now.opened ≤ length before.opened

-- ---- a request is posted

-- The request of a connection, which is whole and has this body, became the posting of this place.
pub record IsAsked (place : ℕ) (body : List ℕ) (before now : ClientTold) : Type 0 where
  pub asked : stage_at before ≡ Stages.Asks
  pub service : now.service ≡ before.service
  pub pending : now.pending ≡ Some (record { place = place; read = posted body })
  pub stage : stage_at now ≡ Stages.Owes
  pub waits : now.waits ≡ before.waits
  pub row : now.in_a_row ≡ before.in_a_row
  pub longest : now.longest ≡ before.longest
  pub talks : (first : WireTold) (bodies : List (List ℕ)) (texts : List (Option (List ℕ)))
      → IsTalking first before.seen bodies texts → IsTalking first now.seen (bodies ++ body ∷ []) texts

-- what a connection hands out then: the posting of what its body says
pub record Answers (place : ℕ) (posting : Posting) (before now : ClientTold) : Type 0 where
  pub body : List ℕ
  pub posts : posting ≡ posting_of (came_with before.service body)
  pub asked : IsAsked place body before now

-- connections, and of which of them each posting is
pub record Listing : Type 0 where
  pub connections : List ClientTold
  pub traffics : List ℕ

-- the same by its parts
abbrev pub listing : List ClientTold → List ℕ → Listing
listing connections traffics = record { connections = connections; traffics = traffics }

-- The connection of a number, which asked, was taken the request of this body.
pub record AsksOne (number : ℕ) (body : List ℕ) (before now : Listing) : Type 0 where
  pub link : ClientTold
  pub later : ClientTold
  pub there : slice_get before.connections number ≡ Some link
  pub asking : stage_at link ≡ Stages.Asks
  pub asked : IsAsked (length before.traffics) body link later
  pub set : now.connections ≡ slice_set before.connections number later

-- The request of the connection of a number is posted.
pub record Hands (number : ℕ) (p : Posting) (before now : Listing) : Type 0 where
  pub body : List ℕ
  pub one : AsksOne number body before now
  pub posting : p ≡ posting_of (came_with one.link.service body)
  pub kept : now.traffics ≡ before.traffics ++ number ∷ []

-- ---- the whole call

-- the doors, the connections, which of these are open and which ask, and of which each posting is
pub record Going : Type 0 where
  pub doors : List ListenerTold
  pub connections : List ClientTold
  pub opened : List ℕ
  pub queue : List ℕ
  pub traffics : List ℕ

-- the same of what a front keeps
abbrev pub going_of : Keeping → Going
going_of k = record {
  doors = k.doors;
  connections = k.connections;
  opened = k.opened;
  queue = k.queue;
  traffics = k.traffics;
}

-- the same by its parts
abbrev pub going : List ListenerTold → List ClientTold → List ℕ → List ℕ → List ℕ → Going
going doors connections opened queue traffics = record {
  doors = doors;
  connections = connections;
  opened = opened;
  queue = queue;
  traffics = traffics;
}

-- Doors and connections went on while nothing was posted; each door before one at which somebody came has ended by now,
-- or it answered once more in this call that nobody has come yet; whoever came to ask stands at the end of the queue.
pub record Goes (IsMade : WireTold → Type 0) (most : ℕ) (before now : Going) : Type 0 where
  pub doors : AllGoOn before.doors now.doors
  pub connections : LinksGoOn IsMade (map lead_of before.doors) before.connections now.connections
  pub in_turn : NewInTurn before.doors now.doors before.connections now.connections
  pub traffics : now.traffics ≡ before.traffics
  pub line : LinesUp before.connections before.queue now.queue
  pub ordered : IsOrdered before.connections before.opened before.queue → IsOrdered now.connections now.opened now.queue
  pub within : length before.connections ≤ most → length now.connections ≤ most
  pub wires : sum_by wires_of before.doors ≡ length before.connections
      → sum_by wires_of now.doors ≡ length now.connections
  pub led : sum_by wires_of before.doors ≡ length before.connections
      → AreLed before.doors before.connections → AreLed now.doors now.connections

-- Nothing comes of a connection for now, whose wire had waited so often before: it waits for an answer, it is over, or
-- its wire could move nothing yet.
abbrev pub HasPaused : ℕ → ClientTold → Type 0
HasPaused waits now = (stage_at now ≡ Stages.Owes) ⊎ (IsOver (stage_at now) ⊎ (added waits 1 ≤ now.waits))

-- the same of each connection, of old ones and of those that came
abbrev pub HavePaused : List ClientTold → List ClientTold → Type 0
HavePaused [] [] = Unit {0}
HavePaused [] (m ∷ ms) = HasPaused 0 m × HavePaused [] ms
HavePaused (l ∷ ls) [] = ⊥
HavePaused (l ∷ ls) (m ∷ ms) = HasPaused l.waits m × HavePaused ls ms

-- They went on, and nothing comes for now: no request is whole, nothing comes of any connection, and nobody comes at
-- any door, or there is no more room.
pub record Rests (IsMade : WireTold → Type 0) (most : ℕ) (before now : Going) : Type 0 where
  pub goes : Goes IsMade most before now
  pub none : now.queue ≡ []
  pub paused : HavePaused before.connections now.connections
  pub tried : (has_room most (length now.connections) (count_by is_open now.connections) ≡ false)
      ⊎ AreTried before.doors now.doors
  pub some : (closed_off most now.doors now.connections && all_owing now.connections) ≡ false

-- They went on until nothing comes any more: no request is whole, no connection can come, and each that is open waits
-- for an answer.
pub record Ends (IsMade : WireTold → Type 0) (most : ℕ) (before now : Going) : Type 0 where
  pub goes : Goes IsMade most before now
  pub none : now.queue ≡ []
  pub over : closed_off most now.doors now.connections ≡ true
  pub owing : all_owing now.connections ≡ true

-- They went on until a request was whole, and the first of the queue is posted.
pub record Posts (IsMade : WireTold → Type 0) (most : ℕ) (p : Posting) (before now : Going) : Type 0 where
  pub fewer : length before.traffics < most_postings
  pub mid : Going
  pub goes : Goes IsMade most before mid
  pub number : ℕ
  pub first : mid.queue ≡ number ∷ now.queue
  pub hands : Hands number p (listing mid.connections mid.traffics) (listing now.connections now.traffics)
  pub doors : now.doors ≡ mid.doors
  pub opened : now.opened ≡ mid.opened

-- There was a rest, at the first door that has not ended, or else at the first of all.
pub record HasRested (before now : List ListenerTold) : Type 0 where
  pub mid : List ListenerTold
  pub rested : now ≡ after_rest mid
  pub goes : AllGoOn before mid

-- A connection waits for an answer, it is over, or its wire could move nothing yet once more, and once more in a row.
abbrev pub HasPausedInARow : ClientTold → ClientTold → Type 0
HasPausedInARow before now = (stage_at now ≡ Stages.Owes) ⊎ (IsOver (stage_at now)
    ⊎ ((added before.waits 1 ≤ now.waits) × (added before.in_a_row 1 ≤ now.in_a_row)))

-- the same of each
abbrev pub HavePausedInARow : List ClientTold → List ClientTold → Type 0
HavePausedInARow [] [] = Unit {0}
HavePausedInARow [] (m ∷ ms) = ⊥
HavePausedInARow (l ∷ ls) [] = ⊥
HavePausedInARow (l ∷ ls) (m ∷ ms) = HasPausedInARow l m × HavePausedInARow ls ms

-- Nobody came or went, and nothing moved, so that nothing came of any connection, once more in a row. Where there were as
-- many wires as connections nobody came at any door, once more in a row, unless there was no more room, and there was a
-- rest, once more in a row.
pub record IsStill (most : ℕ) (before now : Going) : Type 0 where
  pub as_many : length now.connections ≡ length before.connections
  pub as_open : count_by is_open now.connections ≡ count_by is_open before.connections
  pub unmoved : any_moved before.connections now.connections ≡ false
  pub paused : HavePausedInARow before.connections now.connections
  pub tried : sum_by wires_of before.doors ≡ length before.connections
      → (has_room most (length now.connections) (count_by is_open now.connections) ≡ false)
      ⊎ AreTriedInARow before.doors now.doors
  pub rests : sum_by wires_of before.doors ≡ length before.connections
      → added (rests_in_a_row_at before.doors) 1 ≤ rests_in_a_row_at now.doors

-- They went on without a posting, which may still come, and there was a rest.
pub record Stays (IsMade : WireTold → Type 0) (most : ℕ) (before now : Going) : Type 0 where
  pub rests : Rests IsMade most before now
  pub rested : HasRested before.doors now.doors
  pub more : sum_by wires_of before.doors ≡ length before.connections → added (rests_at before.doors) 1 ≤ rests_at now.doors

-- What the call came to: the posting of the request that stands first in the queue, none yet while something moved or
-- nothing did, or nothing any more.
abbrev pub Looks : (WireTold → Type 0) → ℕ → Next → Going → Going → Type 0
Looks IsMade most (next.Posting p) before now = Posts IsMade most p before now
Looks IsMade most next.Moved before now = Stays IsMade most before now
Looks IsMade most next.NotYet before now = Stays IsMade most before now × IsStill most before now
Looks IsMade most next.End before now =
    ((most_postings ≤ length before.traffics) × (now ≡ before)) ⊎ Ends IsMade most before now
