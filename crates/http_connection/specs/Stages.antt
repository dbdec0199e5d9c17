-- How a connection stands, and what may be asked of it then.
use Rattle.std.specs.Prelude.{◌≡◌, ◌⊎◌, Bool, true, false, Option, None, Some, List, ℕ}
use Rattle.http_connection.specs.declared.stage.Stage.{Stage}
use Rattle.http_connection.specs.declared.stage.Stage.TheVariants.{Reads, Owes, Ended, Closed, Spent}
use Rattle.http_connection.specs.declared.stage.Stage.TheVariants.{ReadFailed, WriteFailed}
use Rattle.http_connection.specs.declared.stage.Ending.{Ending}
use Rattle.http_connection.specs.declared.stage.Ending.TheVariants as Ends
use Rattle.http_connection.specs.declared.stage.Standing.{Standing}
use Rattle.http_connection.specs.declared.stage.Standing.TheVariants as Stands

-- how a connection that is over shows to its user
abbrev pub stage_behind : Ending → Stage
stage_behind Ends.Ended = Ended
stage_behind Ends.Closed = Closed
stage_behind Ends.ReadFailed = ReadFailed
stage_behind Ends.WriteFailed = WriteFailed

-- how a connection shows to its user
abbrev pub stage_of : Standing → Stage
stage_of Stands.Waits = Reads
stage_of (Stands.Holds body close) = Reads
stage_of (Stands.Owes close) = Owes
stage_of (Stands.Over ending) = stage_behind ending
stage_of Stands.Spent = Spent

-- more bytes are to be read before a request is handed out
abbrev pub is_waiting : Standing → Bool
is_waiting Stands.Waits = true
is_waiting (Stands.Holds body close) = false
is_waiting (Stands.Owes close) = false
is_waiting (Stands.Over ending) = false
is_waiting Stands.Spent = false

-- the next request may be asked for; where memory ran out, that is answered again
abbrev pub MayBeAsked : Stage → Type 0
MayBeAsked stage = (stage ≡ Reads) ⊎ (stage ≡ Spent)

-- an answer may be told; where memory ran out, that is answered again
abbrev pub MayBeTold : Stage → Type 0
MayBeTold stage = (stage ≡ Owes) ⊎ (stage ≡ Spent)

-- a call of the wire failed
abbrev pub IsFailed : Stage → Type 0
IsFailed stage = (stage ≡ ReadFailed) ⊎ (stage ≡ WriteFailed)

-- nothing more passes on the connection
abbrev pub IsOver : Stage → Type 0
IsOver stage = (stage ≡ Ended) ⊎ ((stage ≡ Closed) ⊎ IsFailed stage)

-- a request was handed out, which is owed an answer then; or none comes any more
abbrev pub IsBehindAsking : Option (List ℕ) → Stage → Type 0
IsBehindAsking (Some body) stage = stage ≡ Owes
IsBehindAsking None stage = IsOver stage

-- the connection goes on behind an answer, or that closed it, or a write failed
abbrev pub IsBehindTelling : Stage → Type 0
IsBehindTelling stage = (stage ≡ Reads) ⊎ ((stage ≡ Closed) ⊎ (stage ≡ WriteFailed))
