-- What holds of all that passes on a connection, whatever the pieces in which its bytes come and whenever its answers
-- do.
use Rattle.std.specs.Prelude.{◌≡◌, ◌+◌, ◌<◌, ◌⊎◌, ℕ, Option, List, [], ◌∷◌, ◌++◌, length, map, take}
use Rattle.std.specs.Io.{StartsWith}
use Rattle.std.specs.Io.KnownBytes.{Appends}
use Rattle.http_port.specs.Connections.{Reading, RequestRead, requests, end_of}
use Rattle.http_port.specs.Connections.{End, Unfinished, WithInterim, Closed, RefusedBy}
use Rattle.http_port.specs.Talk.{talk}
use Rattle.http_connection.specs.declared.stage.Stage.{Stage}
use Rattle.http_connection.specs.declared.stage.Stage.TheVariants as Stages
use Rattle.http_connection.specs.Stages.{stage_of}
use Rattle.outside_traits.specs.Told.{WireTold}
use Rattle.http_connection.specs.Seen.{Seen}
use Rattle.http_connection.specs.Talking.{Log, log_of, WireTells}

-- what bytes hold: their requests in order, and how these end
pub record Holding : Type 0 where
  pub queue : List RequestRead
  pub end : End

-- the same of a reading of them
abbrev pub holding : (bytes : List ℕ) → Reading bytes → Holding
holding bytes reading = record { queue = requests bytes reading; end = end_of bytes reading }

-- the bodies of requests
abbrev pub bodies_of : List RequestRead → List (List ℕ)
bodies_of queue = map (λ (request : RequestRead). request.body) queue

-- what is to be written where these texts are told
abbrev pub talk_of : Holding → List (Option (List ℕ)) → List ℕ
talk_of h texts = talk h.queue h.end texts

-- The bodies are those of the first requests, in order, and a text was told to each but so many of them.
pub record IsInOrder (h : Holding) (l : Log) (owed : ℕ) : Type 0 where
  pub bodies : l.bodies ≡ take (length l.bodies) (bodies_of h.queue)
  pub texts : length l.bodies ≡ length l.texts + owed

-- the bodies are those of all requests, and a text was told to each
pub record IsComplete (h : Holding) (l : Log) : Type 0 where
  pub bodies : l.bodies ≡ bodies_of h.queue
  pub texts : length l.texts ≡ length l.bodies

-- what was written is all that is to be written
abbrev pub IsAllWritten : Holding → Log → Type 0
IsAllWritten h l = l.written ≡ talk_of h l.texts

-- the requests end with nothing that closes the connection
abbrev pub IsUnclosed : End → Type 0
IsUnclosed end = (end ≡ Unfinished) ⊎ (end ≡ WithInterim)

-- the last request or what follows it closes the connection
abbrev pub IsClosing : End → Type 0
IsClosing end = (end ≡ Closed) ⊎ ((status : ℕ) × (end ≡ RefusedBy status))

-- all was done that is due for the bytes, and nothing in them closes the connection
abbrev pub HasEnded : Holding → Log → Type 0
HasEnded h l = IsComplete h l × IsAllWritten h l × IsUnclosed h.end

-- A write failed, which cut what was due last. The bodies are those of the first requests, and a text was
-- told to each; what was written is a front of what is to be written, and not all of it; and all of it was written that
-- stands before the answer of the last request to which a text was told.
pub record IsCutOff (h : Holding) (l : Log) : Type 0 where
  pub in_order : IsInOrder h l 0
  pub front : StartsWith (talk_of h l.texts) l.written
  pub part : length l.written < length (talk_of h l.texts)
  pub before : (early : List (Option (List ℕ))) (last : Option (List ℕ)) → l.texts ≡ early ++ last ∷ []
      → StartsWith l.written (talk_of h early)

-- What passed on a connection whose bytes hold this, by its stage. Behind a read that failed all is done as on one that
-- ended. Where memory ran out nothing is said.
abbrev pub Keeps : Stage → Holding → Log → Type 0
Keeps Stages.Reads h l = IsInOrder h l 0 × IsAllWritten h l
Keeps Stages.Owes h l = IsInOrder h l 1 × IsAllWritten h l
Keeps Stages.Ended h l = HasEnded h l
Keeps Stages.Closed h l = IsComplete h l × IsAllWritten h l × IsClosing h.end
Keeps Stages.ReadFailed h l = HasEnded h l
Keeps Stages.WriteFailed h l = IsCutOff h l
Keeps Stages.Spent h l = Unit {0}

-- what was written stays a front of what is to be written, whatever is told later
abbrev pub StaysFront : Stage → Holding → Log → Type 0
StaysFront Stages.Reads h l = (more : List (Option (List ℕ))) → StartsWith (talk_of h (l.texts ++ more)) l.written
StaysFront Stages.Owes h l = (more : List (Option (List ℕ))) → StartsWith (talk_of h (l.texts ++ more)) l.written
StaysFront Stages.Ended h l = (more : List (Option (List ℕ))) → StartsWith (talk_of h (l.texts ++ more)) l.written
StaysFront Stages.Closed h l = (more : List (Option (List ℕ))) → StartsWith (talk_of h (l.texts ++ more)) l.written
StaysFront Stages.ReadFailed h l = (more : List (Option (List ℕ))) → StartsWith (talk_of h (l.texts ++ more)) l.written
StaysFront Stages.WriteFailed h l = (more : List (Option (List ℕ))) → StartsWith (talk_of h (l.texts ++ more)) l.written
StaysFront Stages.Spent h l = Unit {0}

-- What holds of a connection that was made with a wire as first, handed out these bodies and was told these texts: what
-- was read and written is what the wire gave and took, the wire is closed and failed as the stage says, and in each
-- reading of the bytes what passed is what they hold.
pub record KeepsWord (first : WireTold) (now : Seen) (bodies : List (List ℕ)) (texts : List (Option (List ℕ)))
    : Type 0 where
  pub given : Appends first.read now.line.read now.kept.read.items
  pub taken : Appends first.written now.line.written now.kept.written.items
  pub wire : WireTells (stage_of now.kept.next) first now.kept.read.items now.line
  pub keeps : (reading : Reading now.kept.read.items)
      → ∥ Keeps (stage_of now.kept.next) (holding now.kept.read.items reading) (log_of now bodies texts) ∥₁
  pub front : (reading : Reading now.kept.read.items)
      → ∥ StaysFront (stage_of now.kept.next) (holding now.kept.read.items reading) (log_of now bodies texts) ∥₁
