-- What passed between a connection and its user, as the calls carry it along. What it comes to is said in Law.
use Rattle.std.specs.Prelude.{◌≡◌, ◌<◌, ◌||◌, not, ℕ, Bool, true, false, List, [], ◌∷◌, ◌++◌, length, take}
use Rattle.std.specs.Prelude.{Option, None, Some, IfSome}
use Rattle.std.specs.List.{concat}
use Rattle.std.specs.Io.{StartsWith}
use Rattle.std.specs.Io.KnownBytes.{Appends, Consumes}
use Rattle.http_port.specs.Feeding.{Place, Open, Feeds}
use Rattle.http_port.specs.Connections.{Run}
use Rattle.http_port.specs.Responses.{interim, response}
use Rattle.http_port.specs.Serving.{bodies_in}
use Rattle.http_port.specs.Talk.{answer}
use Rattle.http_port.specs.declared.head_reader.Fed.{Fed}
use Rattle.http_port.specs.declared.head_reader.Fed.TheVariants.{NotYet, Interim, Request, Refused}
use Rattle.http_connection.specs.declared.stage.Stage.{Stage}
use Rattle.http_connection.specs.declared.stage.Stage.TheVariants as Stages
use Rattle.http_connection.specs.declared.stage.Ending.TheVariants as Ends
use Rattle.http_connection.specs.declared.stage.Standing.{Standing}
use Rattle.http_connection.specs.declared.stage.Standing.TheVariants as Stands
use Rattle.http_connection.specs.Stages.{stage_of}
use Rattle.outside_traits.specs.Told.{WireTold}
use Rattle.http_connection.specs.Seen.{Seen, failures_of}

-- What passed on a connection: the bytes that were read and written, the bodies that were handed out, and the texts
-- that were told, each an answer or that there is nothing to say.
pub record Log : Type 0 where
  pub read : List ℕ
  pub written : List ℕ
  pub bodies : List (List ℕ)
  pub texts : List (Option (List ℕ))

-- the same by its parts
abbrev pub log : List ℕ → List ℕ → List (List ℕ) → List (Option (List ℕ)) → Log
log read written bodies texts = record { read = read; written = written; bodies = bodies; texts = texts }

-- what passed on a connection as it is seen
abbrev pub log_of : Seen → List (List ℕ) → List (Option (List ℕ)) → Log
log_of now bodies texts = log now.kept.read.items now.kept.written.items bodies texts

-- To the requests among what a reader gave these texts were told, and all that is due for it was written. Nothing of it
-- closes the connection.
abbrev pub Answered : List Fed → List (Option (List ℕ)) → List ℕ → Type 0
Answered [] texts went = (texts ≡ []) × (went ≡ [])
Answered (NotYet ∷ more) texts went = Answered more texts went
Answered (Interim ∷ more) texts went = (rest : List ℕ) × (went ≡ interim ++ rest) × Answered more texts rest
Answered (Request body close ∷ more) texts went =
    (text : Option (List ℕ)) × (later : List (Option (List ℕ))) × (rest : List ℕ)
    × (close ≡ false) × (texts ≡ text ∷ later) × (went ≡ answer text close ++ rest) × Answered more later rest
Answered (Refused status ∷ more) texts went = ⊥

-- The reader was fed what was read, piece by piece, and all that it gave is answered.
pub record IsAnswered (place : Place) (l : Log) : Type 0 where
  pub pieces : List (List ℕ)
  pub feds : List Fed
  pub whole : concat pieces ≡ l.read
  pub run : Run (Open [] false) pieces feds place
  pub answered : Answered feds l.texts l.written
  pub bodies : bodies_in feds ≡ l.bodies

-- It gave this last, of which nothing was done, and all that it gave before is answered.
pub record HasGiven (last : Fed) (place : Place) (l : Log) : Type 0 where
  pub early : List ℕ
  pub piece : List ℕ
  pub before : Place
  pub whole : l.read ≡ early ++ piece
  pub answered : IsAnswered before (log early l.written l.bodies l.texts)
  pub feeds : Feeds before piece last place

-- what is due for what a reader gave, where this text is told
abbrev pub due : Fed → Option (List ℕ) → List ℕ
due NotYet text = []
due Interim text = interim
due (Request body close) text = answer text close
due (Refused status) text = response status [] true

-- the texts that are told to it
abbrev pub told_to : Fed → Option (List ℕ) → List (Option (List ℕ))
told_to NotYet text = []
told_to Interim text = []
told_to (Request body close) text = text ∷ []
told_to (Refused status) text = []

-- it closes the connection
abbrev pub Closes : Fed → Type 0
Closes NotYet = ⊥
Closes Interim = ⊥
Closes (Request body close) = close ≡ true
Closes (Refused status) = Unit {0}

-- It gave this last, to which this text was told; behind all that is due before, these bytes were written.
pub record HasWritten (last : Fed) (text : Option (List ℕ)) (went : List ℕ) (place : Place) (l : Log) : Type 0 where
  pub early : Log
  pub given : HasGiven last place early
  pub read : l.read ≡ early.read
  pub bodies : l.bodies ≡ early.bodies ++ bodies_in (last ∷ [])
  pub texts : l.texts ≡ early.texts ++ told_to last text
  pub written : l.written ≡ early.written ++ went

-- The request that was handed out last is what the reader gave last.
pub record HasAsked (close : Bool) (place : Place) (l : Log) : Type 0 where
  pub body : List ℕ
  pub early : List (List ℕ)
  pub bodies : l.bodies ≡ early ++ body ∷ []
  pub given : HasGiven (Request body close) place (log l.read l.written early l.texts)

-- What passed on a connection that stands so. Behind a read that failed it is what passes where no more bytes come; a
-- write that failed cut what is due for what the reader gave last.
abbrev pub Passed : Standing → Place → Log → Type 0
Passed Stands.Waits place l = HasGiven NotYet place l
Passed (Stands.Holds body close) place l = HasGiven (Request body close) place l
Passed (Stands.Owes close) place l = HasAsked close place l
Passed (Stands.Over Ends.Ended) place l = HasGiven NotYet place l
Passed (Stands.Over Ends.Closed) place l =
    (last : Fed) × (text : Option (List ℕ)) × Closes last × HasWritten last text (due last text) place l
Passed (Stands.Over Ends.ReadFailed) place l = HasGiven NotYet place l
Passed (Stands.Over Ends.WriteFailed) place l =
    (last : Fed) × (text : Option (List ℕ)) × (count : ℕ) × (count < length (due last text))
    × HasWritten last text (take count (due last text)) place l
Passed Stands.Spent place l = Unit {0}

-- the wire is open, and did not fail since it was as first
pub record IsOpen (first : WireTold) (read : List ℕ) (line : WireTold) : Type 0 where
  pub left : Consumes first.unread line.unread read
  pub failures : failures_of line ≡ failures_of first
  pub closed : line.closed ≡ first.closed

-- it is closed; what was read is a front of what it had
pub record IsShut (first : WireTold) (read : List ℕ) (line : WireTold) : Type 0 where
  pub front : IfSome first.unread (λ all. StartsWith all read)
  pub closed : line.closed ≡ true

-- whether a write of a wire has failed before it was closed, behind one more that fails
abbrev pub cut_behind_failed_write : WireTold → Bool
cut_behind_failed_write line = line.write_failed || not line.closed

-- what the wire tells at a stage, where this was read of it since it was as first
abbrev pub WireTells : Stage → WireTold → List ℕ → WireTold → Type 0
WireTells Stages.Reads first read line = IsOpen first read line
WireTells Stages.Owes first read line = IsOpen first read line
WireTells Stages.Ended first read line =
    IsShut first read line × (failures_of line ≡ failures_of first) × IfSome first.unread (λ all. all ≡ read)
WireTells Stages.Closed first read line = IsShut first read line × (failures_of line ≡ failures_of first)
WireTells Stages.ReadFailed first read line =
    IsShut first read line × (line.read_failed ≡ true) × (line.write_failed ≡ first.write_failed)
WireTells Stages.WriteFailed first read line =
    IsShut first read line × (line.read_failed ≡ first.read_failed) × (line.write_failed ≡ cut_behind_failed_write first)
WireTells Stages.Spent first read line = IsOpen first read line

-- The connection, made with a wire that was as first, has handed out these bodies in order and was told these texts.
pub record IsTalking (first : WireTold) (now : Seen) (bodies : List (List ℕ)) (texts : List (Option (List ℕ)))
    : Type 0 where
  -- what was read and written is what the wire gave and took
  pub given : Appends first.read now.line.read now.kept.read.items
  pub taken : Appends first.written now.line.written now.kept.written.items
  -- it is the same wire: it tells the same door
  pub door : now.line.door ≡ first.door
  pub wire : WireTells (stage_of now.kept.next) first now.kept.read.items now.line
  pub passed : Passed now.kept.next now.kept.reader (log_of now bodies texts)

-- the bodies that an answer hands out
abbrev pub handed : Option (List ℕ) → List (List ℕ)
handed None = []
handed (Some body) = body ∷ []
