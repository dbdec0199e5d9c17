-- What passed between a front over doors and its run.
use Rattle.std.specs.Prelude.{◌≡◌, ◌≢◌, ◌⊎◌, ℕ, suc, ◌-◌, ◌^◌, ◌<◌, ◌≤◌, ◌||◌, min, Bool, true, false, List, [], ◌∷◌}
use Rattle.std.specs.Prelude.{length, map, take, nat_eq, nat_le, nat_lt, count_by, Option, None, Some, Contains, slice_get}
use Rattle.std.specs.List.{list_all, list_any, sum_by}
use Rattle.std.specs.Io.KnownBytes.{Appends}
use Rattle.outside_traits.specs.Causes.{Rose}
use Rattle.outside_traits.specs.Told.{SinkTold}
use Rattle.behaviour_tree.specs.Data.{ProgramParts}
use Rattle.run_theorem.specs.Exchange.{Asked, Told, Sent, Exchange}
use Rattle.run_theorem.specs.Calls.{most_postings, is_of}
use Rattle.run_theorem.specs.Texts.{Came, posting_of}
use Rattle.run_theorem.specs.Lines.{IsPrefix, IsProperPrefix}
use Rattle.jsonrpc_postings.specs.Told.{response_told}
use Rattle.run_theorem.specs.RunConnections.{RunConnection, came_at, AreTaken}
use Rattle.run_theorem.specs.Served.{Requests}
pub use Rattle.run_theorem.specs.Through.{most_open, Pause, for_answer, for_wire, for_room, at_end}
pub use Rattle.run_theorem.specs.Through.{is_for_wire, is_unended}
pub use Rattle.run_theorem.specs.Used.{IsNewLine}
use Rattle.conn_future.specs.declared.stage.Stage.{Stage}
use Rattle.conn_future.specs.declared.stage.Stage.TheVariants as Stages
use Rattle.conn_future.specs.Stages.{stage_of, IsOver}
use Rattle.conn_future.specs.Talking.{IsTalking}
use Rattle.outside_traits.specs.Told.{WireTold}
use Rattle.run_door_front.specs.declared.link.PendingReply.{PendingReply}
use Rattle.run_door_front.specs.Keeping.{ListenerTold, ClientTold, Keeping, services_of, places_of, leads_of, is_led}
use Rattle.run_door_front.specs.Keeping.{rests_at, rests_in_a_row_at, is_quiet, is_open, no_more, AreLed, IsWithin}

-- the two sides of a front over doors: what it keeps, and the sink of its notes
pub record Sides : Type 0 where
  pub kept : Keeping
  pub notes : SinkTold

-- the same by its parts
abbrev pub sides_of : Keeping → SinkTold → Sides
sides_of kept notes = record { kept = kept; notes = notes }

-- ---- connections

-- a connection owes an answer at this stage exactly where a request of it has none yet
abbrev pub OwesAt : Option PendingReply → Stage → Type 0
OwesAt None stage = stage ≢ Stages.Owes
OwesAt (Some pending) stage = stage ≡ Stages.Owes

-- A connection of a front and what passed on it: it was made with a new wire of its door's, handed out these bodies and
-- was told these texts; memory did not run out; and where it stands as ended, a read told the end of what comes in.
pub record IsClient (IsMade : WireTold → Type 0) (link : ClientTold) (connection : RunConnection) : Type 0 where
  pub service : connection.service ≡ link.service
  pub door : connection.door ≡ link.seen.line.door
  pub stage : connection.stage ≡ stage_of link.seen.kept.next
  pub memory : connection.stage ≢ Stages.Spent
  pub owes : OwesAt link.pending connection.stage
  pub row : IsWithin link
  pub first : WireTold
  pub made : IsMade first
  pub fresh : IsNewLine first
  pub talks : IsTalking first link.seen connection.bodies connection.texts
  pub ended : connection.stage ≡ Stages.Ended → link.seen.line.ended ≡ true

-- what passed on each connection, in order
abbrev pub AreClients : (WireTold → Type 0) → List ClientTold → List RunConnection → Type 0
AreClients IsMade [] [] = Unit {0}
AreClients IsMade [] (v ∷ vs) = ⊥
AreClients IsMade (l ∷ ls) [] = ⊥
AreClients IsMade (l ∷ ls) (v ∷ vs) = IsClient IsMade l v × AreClients IsMade ls vs

-- ---- what was told

-- What a request was told: its posting's place was told this, and the text of that was told to it.
pub record IsHeard (parts : ProgramParts) (heard : List Told) (j : ℕ) (c : Came) (text : Option (Option (List ℕ)))
    : Type 0 where
  pub told : Told
  pub there : Contains heard told
  pub place : told.place ≡ j
  pub sent : text ≡ Some (response_told parts c told.outcomes)

-- The request of a posting waits for its answer: it is the one that its connection owes an answer, after all texts
-- that were told to it.
pub record IsPending (links : List ClientTold) (j : ℕ) (a : Asked) (c : Came) (connection : RunConnection)
    : Type 0 where
  pub link : ClientTold
  pub there : slice_get links a.traffic ≡ Some link
  pub pending : link.pending ≡ Some (record { place = j; read = c.read })
  pub last : a.request ≡ length connection.texts

-- Each posting's request was told what was told of its place, or waits for its answer.
abbrev pub AreHeard : ProgramParts → Keeping → List RunConnection → Requests → List Told → Type 0
AreHeard parts kept connections all heard = (j : ℕ) (a : Asked) (c : Came) (connection : RunConnection)
    → slice_get all.asked j ≡ Some a → slice_get all.came j ≡ Some c → slice_get connections a.traffic ≡ Some connection
    → IsHeard parts heard j c (slice_get connection.texts a.request) ⊎
    (IsPending kept.connections j a c connection × (list_any (λ (t : Told). nat_eq j t.place) heard ≡ false))

-- The requests of a connection came one by one: when one was asked for, each before it on its connection had been told
-- of. There is a count of what had been told by then for each posting.
pub record CameOneByOne (d : Exchange) : Type 0 where
  pub counts : length d.received.seens ≡ length d.received.asked
  pub each : (i j n : ℕ) (a b : Asked) → slice_get d.received.asked i ≡ Some a → slice_get d.received.asked j ≡ Some b
      → a.traffic ≡ b.traffic → i < j → slice_get d.received.seens j ≡ Some n
      → list_any (λ (t : Told). nat_eq i t.place) (take n d.sent.told) ≡ true

-- What had been told when a posting was asked for was heard, whether the front halted later or not.
abbrev pub HeardByThen : List ℕ → List Told → Type 0
HeardByThen seens heard = (j n : ℕ) → slice_get seens j ≡ Some n → n ≤ length heard

-- The notes were written, unless the front halted: then a front of them was, since their sink failed.
pub data HasNoted (first now : SinkTold) (s : Sent) (notes : List ℕ) : Type 0 where
  entire : s.halted ≡ false → now.faults ≡ first.faults → notes ≡ s.noted → HasNoted first now s notes
  in_part : s.halted ≡ true → Rose first.faults now.faults → IsProperPrefix notes s.noted → HasNoted first now s notes

-- What was sent to a front, since its sides were the first; it is its notes alone that halt it.
pub record HasSent (first now : Sides) (s : Sent) : Type 0 where
  pub notes : List ℕ
  pub written : Appends first.notes.written now.notes.written notes
  pub noted : HasNoted first.notes now.notes s notes
  pub halted : s.halted ≡ now.kept.halted
  pub notes_failed : s.notes_failed ≡ s.halted
  pub faults : s.faults ≡ now.notes.faults

-- ---- when there is no posting

-- when the front was asked last the last request of connection k had no answer yet
pub record HadNoAnswer (d : Exchange) (k : ℕ) : Type 0 where
  pub place : ℕ
  pub asked : Asked
  pub there : slice_get d.received.asked place ≡ Some asked
  pub traffic : asked.traffic ≡ k
  pub last : suc asked.request ≡ count_by (is_of k) d.received.asked
  pub untold : list_any (λ (t : Told). nat_eq place t.place) (take d.received.seen d.sent.told) ≡ false

-- how often in a row the front found nothing, as far as it is counted
abbrev pub row_of : Exchange → ℕ
row_of d = min d.received.waits (2 ^ 64 - 1)

-- When the front was asked last, connection k paused so: its last request had no answer; it was not over, and its wire had
-- answered as often as the front found nothing in a row that it can move nothing yet, and this was the last that it had
-- answered, as often in a row; or it was over. Where what is due was written since, a write on it may have come at some time
-- to a row as long.
abbrev pub WasPaused : Bool → Exchange → ℕ → Pause → ClientTold → Type 0
WasPaused drained d k for_answer link = HadNoAnswer d k
WasPaused drained d k for_wire link =
    (is_open link ≡ true) × (row_of d ≤ link.waits) × (row_of d ≤ link.in_a_row)
WasPaused drained d k for_room link = (drained ≡ true) × (row_of d ≤ link.waits) × (row_of d ≤ link.longest)
WasPaused drained d k at_end link = IsOver (stage_of link.seen.kept.next)

-- the same of each connection, the first of which has the number k
abbrev pub WerePaused : Bool → Exchange → ℕ → List Pause → List ClientTold → Type 0
WerePaused drained d k [] [] = Unit {0}
WerePaused drained d k [] (l ∷ ls) = ⊥
WerePaused drained d k (p ∷ ps) [] = ⊥
WerePaused drained d k (p ∷ ps) (l ∷ ls) = WasPaused drained d k p l × WerePaused drained d (suc k) ps ls

-- nobody was let in: as many were accepted as may be, or as many were open as may be at once
abbrev pub is_full : Keeping → List Pause → Bool
is_full kept pauses = nat_le kept.most (length kept.connections) || nat_le most_open (count_by is_unended pauses)

-- The front had no posting: each connection waited for an answer, had a wire that could move nothing, or was over. Where
-- it ended no connection can come any more, and each waited for an answer or was over. As often in a row as it found
-- nothing there was a rest, in all, counted at each door since somebody came there last, and nobody came at any door that
-- has not ended in as many tries in a row, unless nobody was let in.
pub record HadNone (drained : Bool) (kept : Keeping) (d : Exchange) : Type 0 where
  pub pauses : List Pause
  pub each : WerePaused drained d 0 pauses kept.connections
  pub over : d.received.ended ≡ true → (no_more kept ≡ true) × (list_any is_for_wire pauses ≡ false)
  pub rested : row_of d ≤ rests_in_a_row_at kept.doors
  pub quiet : (is_full kept pauses ≡ true) ⊎ (list_all (is_quiet (row_of d)) kept.doors ≡ true)

-- the front had no posting when it was asked last
abbrev pub GaveNone : Exchange → Type 0
GaveNone d = (d.received.ended ≡ true) ⊎ (0 < d.received.waits)

-- ---- all of it

-- What a front over doors received and what was sent to it, since its sides were the first; its wires were made so.
-- What had been noted when it was asked last was taken by the sink of its notes. A door that failed counts as one at
-- which nobody comes any more, and a wire that failed ends its own connection alone, so that no failure of what is
-- read is counted here.
pub record HasExchanged (IsMade : WireTold → Type 0) (parts : ProgramParts) (first now : Sides) (d : Exchange)
    : Type 0 where
  pub services : services_of now.kept ≡ services_of first.kept
  pub in_place : places_of now.kept ≡ places_of first.kept
  pub most : now.kept.most ≡ first.kept.most
  pub within : list_all (λ n. nat_lt n (length parts.services)) (services_of now.kept) ≡ true
  pub connections : List RunConnection
  pub clients : AreClients IsMade now.kept.connections connections
  pub came_in : sum_by (λ (p : ListenerTold). p.door.wires) now.kept.doors ≡ length now.kept.connections
  pub led : AreLed now.kept.doors now.kept.connections
  pub at_doors :
      list_all (λ (v : RunConnection). list_any (is_led v.door v.service) (leads_of now.kept)) connections ≡ true
  pub accepted : length now.kept.connections ≤ now.kept.most
  pub all : Requests
  pub asked : all.asked ≡ d.received.asked
  pub traffics : map (λ (a : Asked). a.traffic) all.asked ≡ now.kept.traffics
  pub taken : AreTaken connections all.asked
  pub came : map (came_at connections) all.asked ≡ map Some all.came
  pub given : d.received.given ≡ map posting_of all.came
  pub heard : List Told
  pub told : IsPrefix heard d.sent.told
  pub all_told : d.sent.halted ≡ false → heard ≡ d.sent.told
  pub heard_by : HeardByThen d.received.seens heard
  pub places : list_all (λ (t : Told). nat_lt t.place (length all.asked)) heard ≡ true
  pub answers : AreHeard parts now.kept connections all heard
  pub one_by_one : CameOneByOne d
  pub sent : HasSent first now d.sent
  pub noted_by_then : IsPrefix d.received.noted sent.notes
  pub left : d.received.left ≡ None
  pub faults : d.received.faults ≡ 0
  pub seen : d.received.seen ≤ length d.sent.told
  -- at each look at which something moved there was a rest
  pub moved : min d.received.moves (2 ^ 64 - 1) ≤ rests_at now.kept.doors

-- Where the front had no posting each connection paused, or there were the most postings.
abbrev pub PausedSo : Bool → Keeping → Exchange → Type 0
PausedSo drained kept d = d.sent.halted ≡ false → GaveNone d
    → HadNone drained kept d ⊎ (most_postings ≤ length d.received.given)

-- Memory ran out in a call: it is known only whether the front halted. What its calls answered is not known then, not
-- even that it was want of memory.
abbrev pub HasRunOut : Keeping → Exchange → Type 0
HasRunOut kept d = (kept.spent ≡ true) × (d.sent.halted ≡ kept.halted)

-- The same, unless memory ran out in a call.
abbrev pub MayHaveExchanged : (WireTold → Type 0) → ProgramParts → Sides → Sides → Exchange → Type 0
MayHaveExchanged IsMade parts first now d =
    HasRunOut now.kept d ⊎ (HasExchanged IsMade parts first now d × PausedSo false now.kept d)
