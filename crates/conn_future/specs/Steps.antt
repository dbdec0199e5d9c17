-- These definitions serve the proofs alone: no promise of a public call speaks of them.
-- What a connection does turn by turn.
use Rattle.std.specs.Prelude.{◌≡◌, ◌⊎◌, ◌<◌, ◌≤◌, ◌+◌, ◌-◌, ◌^◌, ℕ, Bool, true, false, List, [], length}
use Rattle.std.specs.Prelude.{Option, None, Some, Result, Ok, Err}
use Rattle.outside_traits.specs.Told.{WireTold}
use Rattle.outside_polling.specs.Polls.{PollTold, once_more}
use Rattle.http_port.specs.declared.head_reader.Fed.{Fed}
use Rattle.http_port.specs.Talk.{answer}
use Rattle.http_connection.specs.Talking.{log_of}
use Rattle.http_connection.specs.Steps.{IsCarried, IsGoing, IsFed, Called}
use Rattle.http_connection.specs.Steps.{Finishes as FinishesPlain}
use Rattle.conn_future.specs.declared.kept.Kept.{Kept}
use Rattle.conn_future.specs.declared.stage.Ending.{Ending}
use Rattle.conn_future.specs.declared.stage.Standing.{Standing}
use Rattle.conn_future.specs.declared.stage.Standing.TheVariants as Stands
use Rattle.conn_future.specs.declared.turn.Turn.{Turn}
use Rattle.conn_future.specs.declared.turn.Turn.TheVariants as Turns
use Rattle.conn_future.specs.declared.stage.Stage.{Stage}
use Rattle.conn_future.specs.Stages.{IsMoving, IsUnanswered, IsAnswering, IsOver, plain_ending}
use Rattle.conn_future.specs.Outgoing.{Outgoing}
use Rattle.conn_future.specs.Talking.{Seen, plain, IsOut, IsTalking}

-- a text of which nothing is out
abbrev pub outgoing : List ℕ → Outgoing
outgoing text = record { out = []; left = text }

-- how many requests were handed out of which the response is not made yet
abbrev pub unmade : Standing → ℕ
unmade Stands.Waits = 0
unmade (Stands.Holds body close) = 0
unmade (Stands.Owes close) = 1
unmade (Stands.Says close) = 1
unmade (Stands.Sends close) = 0
unmade (Stands.Over ending) = 0
unmade Stands.Spent = 0

-- how much may still be done on a connection: bytes that are read or written, as memory has an end, and one response
abbrev pub left_to_do : Kept → ℕ
left_to_do kept = (2 ^ 63 - length kept.read.items) + (2 ^ 63 - length kept.written.items) + unmade kept.next

-- after a turn that goes on less is left to do
abbrev pub LeavesLess : Turn → Kept → Kept → Type 0
LeavesLess Turns.GoesOn was now = left_to_do now < left_to_do was
LeavesLess Turns.Waits was now = Unit {0}
LeavesLess Turns.Owes was now = Unit {0}
LeavesLess Turns.Over was now = Unit {0}

-- how many bytes were read and written on a connection
abbrev pub passed_on : Kept → ℕ
passed_on kept = length kept.read.items + length kept.written.items

-- What a turn means for how often in a row the wire could move nothing, which is so much before and now: once more where
-- it waits, and as much where it goes on and no byte passed.
abbrev pub KeepsRow : Turn → ℕ → ℕ → Kept → Kept → Type 0
KeepsRow Turns.GoesOn before row was now = ((row ≡ before) × (passed_on now ≡ passed_on was)) ⊎ (passed_on was < passed_on now)
KeepsRow Turns.Waits before row was now = (row ≡ once_more before) × (passed_on now ≡ passed_on was)
KeepsRow Turns.Owes before row was now = Unit {0}
KeepsRow Turns.Over before row was now = Unit {0}

-- how often in a row the wire could move nothing is as it was, up to now and in its longest row
pub record SameRows (before now : PollTold) : Type 0 where
  pub row : now.in_a_row ≡ before.in_a_row
  pub longest : now.longest ≡ before.longest

-- The longest row to which a write came did not fall. Where a request is whole or a text goes out, the row up to now is
-- no longer than that, if it was not so before.
pub record HoldsLongest (from to : Stage) (before now : PollTold) : Type 0 where
  pub later : before.longest ≤ now.longest
  pub holds : (IsAnswering from → before.in_a_row ≤ before.longest) → IsAnswering to → now.in_a_row ≤ now.longest

-- what a connection has read and written is as it was, and where its reader is
pub record IsSame (was now : Kept) : Type 0 where
  pub reader : now.reader ≡ was.reader
  pub read : now.read.items ≡ was.read.items
  pub written : now.written.items ≡ was.written.items

-- What is handed out by how the connection stands, and how it stands then: a request that is held.
abbrev pub HandsOut : Standing → Option (List ℕ) → Standing → Type 0
HandsOut Stands.Waits result next = (result ≡ None) × (next ≡ Stands.Waits)
HandsOut (Stands.Holds body close) result next = (result ≡ Some body) × (next ≡ Stands.Owes close)
HandsOut (Stands.Owes close) result next = (result ≡ None) × (next ≡ Stands.Owes close)
HandsOut (Stands.Says close) result next = (result ≡ None) × (next ≡ Stands.Says close)
HandsOut (Stands.Sends close) result next = (result ≡ None) × (next ≡ Stands.Sends close)
HandsOut (Stands.Over ending) result next = (result ≡ None) × (next ≡ Stands.Over ending)
HandsOut Stands.Spent result next = (result ≡ None) × (next ≡ Stands.Spent)

-- what comes of a connection that owes an answer where it is said: its response is made next
abbrev pub Says : Standing → Standing → Type 0
Says was now = (close : Bool) × (was ≡ Stands.Owes close) × (now ≡ Stands.Says close)

-- A response is made of what was said, and goes out then; or memory ran out.
abbrev pub IsMade : {T E : Type 0} → Bool → Result T E → Kept → Kept → Type 0
IsMade close (Ok x) was now =
    IsSame was now × (now.due ≡ outgoing (answer was.said close)) × (now.next ≡ Stands.Sends close)
IsMade close (Err e) was now = IsSame was now × (now.next ≡ Stands.Spent)

-- what a turn came to: its wire waited once more, or it did not
abbrev pub Stops : Turn → ℕ → ℕ → Stage → Type 0
Stops Turns.GoesOn before now stage = now ≡ before
Stops Turns.Waits before now stage = (now ≡ once_more before) × IsMoving stage
Stops Turns.Owes before now stage = (now ≡ before) × IsUnanswered stage
Stops Turns.Over before now stage = (now ≡ before) × IsOver stage

-- The reader gave this last, of which nothing was done; then what passed goes on.
abbrev pub TakesUp : Fed → Kept → Kept → Type 0
TakesUp fed was now = (first line : WireTold) (bodies : List (List ℕ)) (texts : List (Option (List ℕ)))
    → IsFed first (plain (record { kept = was; line = line })) fed bodies texts
    → IsTalking first (record { kept = now; line = line }) bodies texts

-- A piece was read and not fed; then what passed goes on.
abbrev pub FollowsOn : List ℕ → Kept → Kept → Type 0
FollowsOn piece was now = (first line : WireTold) (bodies : List (List ℕ)) (texts : List (Option (List ℕ)))
    → IsGoing first (plain (record { kept = was; line = line })) piece bodies texts
    → IsTalking first (record { kept = now; line = line }) bodies texts

-- A text was written so far; then what passed goes on.
abbrev pub IsOutOn : Bool → Seen → Seen → Type 0
IsOutOn close was now = (first : WireTold) (bodies : List (List ℕ)) (texts : List (Option (List ℕ)))
    → IsCarried first (plain was) → IsOut close was.kept.due was.kept.reader (log_of (plain was) bodies texts)
    → IsTalking first now bodies texts

-- the wire was called so, by which this was read and written
abbrev pub CallsOn : Seen → Seen → Type 0
CallsOn was now = (first : WireTold) (bodies : List (List ℕ)) (texts : List (Option (List ℕ)))
    → IsTalking first was bodies texts
    → Called was.line.calls now.line.calls (log_of (plain was) bodies texts) (log_of (plain now) bodies texts)

-- The wire was closed, and the connection is over so.
pub record Finishes (ending : Ending) (was now : Seen) : Type 0 where
  pub next : now.kept.next ≡ Stands.Over ending
  pub plainly : FinishesPlain (plain_ending ending) (plain was) (plain now)
