-- Why a run over connections asked for no posting any more.
use Rattle.std.specs.Prelude.{◌≡◌, ◌⊎◌, ℕ, suc, ◌-◌, ◌^◌, ◌≤◌, Bool, true, false, ◌&&◌, ◌||◌, List, [], ◌∷◌, length}
use Rattle.std.specs.Prelude.{nat_eq, nat_le, Some, count_by, sum_by, slice_get}
use Rattle.std.specs.List.{list_all, list_any}
use Rattle.outside_doors.specs.Counts.{DoorTold, has_ended}
use Rattle.outside_polling.specs.Polls.{PollTold}
use Rattle.office_core.specs.declared.history.Entry.{Entry}
use Rattle.office_core.specs.Limits.{Setting}
use Rattle.run_theorem.specs.Exchange.{Asked}
use Rattle.run_theorem.specs.Calls.{is_of}
use Rattle.run_theorem.specs.Lines.{finished_early, most_waits}
use Rattle.run_theorem.specs.RunConnections.{RunConnection}
use Rattle.run_theorem.specs.Used.{Used}
use Rattle.conn_future.specs.Stages.{IsOver}

-- the most connections that are open at once
abbrev pub most_open : ℕ
most_open = 1024

-- why nothing came of a connection: it waited for an answer, its wire could move nothing, its wire could not take the
-- text that went out on it, or it was over
pub data Pause : Type 0 where
  for_answer : Pause
  for_wire : Pause
  for_room : Pause
  at_end : Pause

-- it waited for its wire
abbrev pub is_for_wire : Pause → Bool
is_for_wire for_answer = false
is_for_wire for_wire = true
is_for_wire for_room = true
is_for_wire at_end = false

-- it was not over
abbrev pub is_unended : Pause → Bool
is_unended for_answer = true
is_unended for_wire = true
is_unended for_room = true
is_unended at_end = false

-- the last request of connection k had no answer before the end: its posting was not finished by then
pub record HadNoAnswer (w : Setting) (h : List Entry) (asked : List Asked) (k : ℕ) : Type 0 where
  pub place : ℕ
  pub whose : Asked
  pub there : slice_get asked place ≡ Some whose
  pub traffic : whose.traffic ≡ k
  pub last : suc whose.request ≡ count_by (is_of k) asked
  pub unfinished : list_any (nat_eq place) (finished_early w h (length asked)) ≡ false

-- What a connection tells by whose pause nothing came of it, where it waited for an answer if this is so. It is not over,
-- and its wire has answered as often as a run looks that it can move nothing yet, and this is the last that it answered, as
-- often in a row. Or its wire has answered so as often, and at some time a write came to as long a row of such answers. Or
-- it is over.
abbrev pub Paused : Type 0 → Pause → RunConnection → PollTold → Type 0
Paused Waited for_answer connection wire = Waited
Paused Waited for_wire connection wire =
    (IsOver connection.stage → ⊥) × (most_waits ≤ wire.waits) × (most_waits ≤ wire.in_a_row)
Paused Waited for_room connection wire = (most_waits ≤ wire.waits) × (most_waits ≤ wire.longest)
Paused Waited at_end connection wire = IsOver connection.stage

-- each connection, the first of which has the number k, paused so
abbrev pub WerePaused : (ℕ → Type 0) → ℕ → List Pause → List RunConnection → List PollTold → Type 0
WerePaused Waited k [] [] [] = Unit {0}
WerePaused Waited k (p ∷ ps) (v ∷ vs) (w ∷ ws) = Paused (Waited k) p v w × WerePaused Waited (suc k) ps vs ws
WerePaused Waited k ps vs ws = ⊥

-- no connection can come any more: as many were accepted as may be, or each door has ended
abbrev pub no_more : ℕ → List RunConnection → List DoorTold → Bool
no_more most connections doors = nat_le most (length connections) || list_all has_ended doors

-- nobody was let in: as many were accepted as may be, or as many were open as may be at once
abbrev pub is_full : ℕ → List RunConnection → List Pause → Bool
is_full most connections pauses = nat_le most (length connections) || nat_le most_open (count_by is_unended pauses)

-- A door has ended, or it has answered as often as a run looks that nobody has come yet, and this is the last that it
-- answered, as often in a row.
abbrev pub is_quiet : DoorTold → Bool
is_quiet door = has_ended door || (nat_le most_waits door.waits && nat_le most_waits door.waits_in_a_row)

-- how often was rested, at all doors
abbrev pub rests_at : List DoorTold → ℕ
rests_at doors = sum_by (λ (door : DoorTold). door.rests) doors

-- how often was rested at all doors, at each since somebody came there last
abbrev pub rests_in_a_row_at : List DoorTold → ℕ
rests_in_a_row_at doors = sum_by (λ (door : DoorTold). door.rests_in_a_row) doors

-- A run ended with its connections: none could come any more, and each waited for an answer or was over.
pub record HasEnded (Waited : ℕ → Type 0) (most : ℕ) (connections : List RunConnection) (used : Used) : Type 0 where
  pub pauses : List Pause
  pub each : WerePaused Waited 0 pauses connections used.wires
  pub closed : no_more most connections used.doors ≡ true
  pub none_for_wire : list_any is_for_wire pauses ≡ false

-- Nothing came any more. There were as many rests as a run looks in a row, in all, counted at each door since somebody
-- came there last. Nobody came at any door that has not ended in as many tries in a row, unless nobody was let in. And each
-- connection waited for an answer, had a wire that could move nothing as often in a row, could at some time take nothing of
-- a text as often in a row, or was over.
pub record FellQuiet (Waited : ℕ → Type 0) (most : ℕ) (connections : List RunConnection) (used : Used) : Type 0 where
  pub pauses : List Pause
  pub each : WerePaused Waited 0 pauses connections used.wires
  pub rests : most_waits ≤ rests_in_a_row_at used.doors
  pub doors : (is_full most connections pauses ≡ true) ⊎ (list_all is_quiet used.doors ≡ true)

-- Why a run asked for no posting any more: it ended with its connections, nothing came any more, or it had rested as
-- often in all as is counted.
pub data IsThrough (Waited : ℕ → Type 0) (most : ℕ) (connections : List RunConnection) (used : Used) : Type 0 where
  ended : HasEnded Waited most connections used → IsThrough Waited most connections used
  quiet : FellQuiet Waited most connections used → IsThrough Waited most connections used
  most_rests : 2 ^ 64 - 1 ≤ rests_at used.doors → IsThrough Waited most connections used
