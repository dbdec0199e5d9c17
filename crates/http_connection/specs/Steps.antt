-- These definitions serve the proofs alone: no promise of a public call speaks of them.
-- What a connection does step by step.
use Rattle.std.specs.Prelude.{◌≡◌, ◌<◌, ◌≤◌, ◌+◌, ◌-◌, ◌^◌, ℕ, Bool, true, false, if◌then◌else◌, List, ◌∷◌, ◌++◌, length, take}
use Rattle.std.specs.Prelude.{Option, None, Some, Result, Ok, IsErr}
use Rattle.std.specs.Io.KnownBytes.{Appends}
use Rattle.outside_traits.specs.Told.{Lists}
use Rattle.outside_traits.specs.declared.calls.WireCall.{WireCall}
use Rattle.outside_traits.specs.declared.calls.WireCall.TheVariants.{Read}
use Rattle.http_port.specs.Feeding.{Place, Open, Over, Spent}
use Rattle.http_port.specs.Prompt.{read_in, written_in}
use Rattle.http_port.specs.declared.head_reader.Fed.{Fed}
use Rattle.http_port.specs.declared.head_reader.Fed.TheVariants.{NotYet, Interim, Request, Refused}
use Rattle.http_connection.specs.declared.kept.Kept.{Kept}
use Rattle.http_connection.specs.declared.stage.Ending.{Ending}
use Rattle.http_connection.specs.declared.stage.Standing.{Standing}
use Rattle.http_connection.specs.declared.stage.Standing.TheVariants as Stands
use Rattle.outside_traits.specs.Told.{WireTold}
use Rattle.http_connection.specs.Seen.{Seen, failures_of}
use Rattle.http_connection.specs.Talking.{Log, log, log_of, IsAnswered, HasGiven, IsOpen, cut_behind_failed_write}
use Rattle.http_connection.specs.Prompt.{IsDone}
use Rattle.http_connection.specs.Stages.{is_waiting}

-- what may be handed out: a request that is held, or that none comes any more; or memory ran out
abbrev pub MayHandOut : Standing → Type 0
MayHandOut Stands.Waits = ⊥
MayHandOut (Stands.Holds body close) = Unit {0}
MayHandOut (Stands.Owes close) = ⊥
MayHandOut (Stands.Over ending) = Unit {0}
MayHandOut Stands.Spent = Unit {0}

-- What is handed out by how the connection stands, and how it stands then: a request that is held; none of a connection
-- that is over.
abbrev pub HandsOut : {E : Type 0} → Standing → Result (Option (List ℕ)) E → Standing → Type 0
HandsOut (Stands.Holds body close) result next = (result ≡ Ok (Some body)) × (next ≡ Stands.Owes close)
HandsOut (Stands.Over ending) result next = (result ≡ Ok None) × (next ≡ Stands.Over ending)
HandsOut Stands.Waits result next = ⊥
HandsOut (Stands.Owes close) result next = ⊥
HandsOut Stands.Spent result next = IsErr result × (next ≡ Stands.Spent)

-- an answer may be told: one is owed, or memory ran out
abbrev pub MayTell : Standing → Type 0
MayTell Stands.Waits = ⊥
MayTell (Stands.Holds body close) = ⊥
MayTell (Stands.Owes close) = Unit {0}
MayTell (Stands.Over ending) = ⊥
MayTell Stands.Spent = Unit {0}

-- the head that comes next had its interim line
abbrev pub is_invited : Place → Bool
is_invited (Open left asked) = asked
is_invited Over = false
is_invited Spent = false

-- how many bytes a connection that waits may read yet, as memory has an end
abbrev pub left_to_read : Kept → ℕ
left_to_read kept = if is_waiting kept.next then 2 ^ 63 - length kept.read.items else 0

-- the interim line is asked for
abbrev pub is_interim : Fed → Bool
is_interim NotYet = false
is_interim Interim = true
is_interim (Request body close) = false
is_interim (Refused status) = false

-- all of the text went out; or, where that was cut, a front of it and not all
abbrev pub IsPrefixOf : Bool → List ℕ → List ℕ → Type 0
IsPrefixOf false text went = went ≡ text
IsPrefixOf true text went = (count : ℕ) × (count < length text) × (went ≡ take count text)

-- what a wire tells of its failures behind a text: as before, or, where the text was cut, that a write failed
abbrev pub FailedWhereCut : Bool → WireTold → WireTold → Type 0
FailedWhereCut false before now = failures_of now ≡ failures_of before
FailedWhereCut true before now =
    (now.read_failed ≡ before.read_failed) × (now.write_failed ≡ cut_behind_failed_write before)

-- A wire took so many bytes of the text: all, unless a write failed.
pub record Takes (text : List ℕ) (count : ℕ) (before now : WireTold) : Type 0 where
  pub within : count ≤ length text
  pub taken : Appends before.written now.written (take count text)
  pub unfailed : count ≡ length text → failures_of now ≡ failures_of before
  pub cause : count < length text → FailedWhereCut true before now
  pub given : now.read ≡ before.read
  pub left : now.unread ≡ before.unread
  pub closed : now.closed ≡ before.closed
  pub door : now.door ≡ before.door

-- The text was written and kept, or a front of it and not all where the wire failed.
pub record Sends (text : List ℕ) (cut : Bool) (was now : Seen) : Type 0 where
  pub went : List ℕ
  pub front : IsPrefixOf cut text went
  pub written : now.kept.written.items ≡ was.kept.written.items ++ went
  pub taken : Appends was.line.written now.line.written went
  pub failures : FailedWhereCut cut was.line now.line
  pub given : now.line.read ≡ was.line.read
  pub left : now.line.unread ≡ was.line.unread
  pub closed : now.line.closed ≡ was.line.closed
  pub door : now.line.door ≡ was.line.door
  pub read : now.kept.read.items ≡ was.kept.read.items
  pub reader : now.kept.reader ≡ was.kept.reader
  pub next : now.kept.next ≡ was.kept.next

-- Nothing was written.
pub record Rests (was now : Kept) : Type 0 where
  pub written : now.written.items ≡ was.written.items
  pub read : now.read.items ≡ was.read.items
  pub reader : now.reader ≡ was.reader
  pub next : now.next ≡ was.next

-- The wire was closed, and the connection is over so.
pub record Finishes (ending : Ending) (was now : Seen) : Type 0 where
  pub next : now.kept.next ≡ Stands.Over ending
  pub closed : now.line.closed ≡ true
  pub door : now.line.door ≡ was.line.door
  pub given : now.line.read ≡ was.line.read
  pub taken : now.line.written ≡ was.line.written
  pub failures : failures_of now.line ≡ failures_of was.line
  pub read : now.kept.read.items ≡ was.kept.read.items
  pub written : now.kept.written.items ≡ was.kept.written.items
  pub reader : now.kept.reader ≡ was.kept.reader

-- What was read and written is the open wire's.
pub record IsCarried (first : WireTold) (now : Seen) : Type 0 where
  pub given : Appends first.read now.line.read now.kept.read.items
  pub taken : Appends first.written now.line.written now.kept.written.items
  pub door : now.line.door ≡ first.door
  pub wire : IsOpen first now.kept.read.items now.line

-- All that the reader gave is answered, and this piece was read and not fed.
pub record IsGoing (first : WireTold) (now : Seen) (piece : List ℕ) (bodies : List (List ℕ))
    (texts : List (Option (List ℕ))) : Type 0 where
  pub carried : IsCarried first now
  pub early : List ℕ
  pub whole : now.kept.read.items ≡ early ++ piece
  pub answered : IsAnswered now.kept.reader (log early now.kept.written.items bodies texts)

-- The reader gave this last, of which nothing was done.
pub record IsFed (first : WireTold) (now : Seen) (last : Fed) (bodies : List (List ℕ)) (texts : List (Option (List ℕ)))
    : Type 0 where
  pub carried : IsCarried first now
  pub given : HasGiven last now.kept.reader (log_of now bodies texts)

-- the list begins with this
abbrev pub Front : List ℕ → List ℕ → Type 0
Front all front = (rest : List ℕ) × (all ≡ front ++ rest)

-- What had passed with these first calls of the wire, and that all that is due for it was done.
pub record Stop (was is : Log) (calls : List WireCall) : Type 0 where
  pub came : List ℕ
  pub went : List ℕ
  pub of_read : Front is.read came
  pub of_written : Front is.written went
  pub read : length was.read + read_in calls ≡ length came
  pub written : length was.written + written_in calls ≡ length went
  pub done : IsDone (log came went was.bodies was.texts)

-- A wire that tells its calls was called so, by which this was read and written; before each read all was done.
pub record Called (before now : Option (List WireCall)) (was is : Log) : Type 0 where
  pub calls : List WireCall
  pub came : List ℕ
  pub went : List ℕ
  pub noted : Lists before now calls
  pub read : is.read ≡ was.read ++ came
  pub written : is.written ≡ was.written ++ went
  pub reads : read_in calls ≡ length came
  pub writes : written_in calls ≡ length went
  pub stops : (front after : List WireCall) (count : ℕ) → calls ≡ front ++ Read count ∷ after → Stop was is front
