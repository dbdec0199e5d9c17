-- How a connection stands, to its user and in the plain form, over a wire that waits.
use Rattle.std.specs.Prelude.{◌≡◌, ◌⊎◌, ℕ, Result, Ok, Err}
use Rattle.futures.specs.declared.task.Poll.{Poll}
use Rattle.futures.specs.declared.task.Poll.TheVariants.{Ready, Pending}
use Rattle.outside_polling.specs.Polls.{once_more}
use Rattle.conn_future.specs.declared.stage.Stage.{Stage}
use Rattle.conn_future.specs.declared.stage.Stage.TheVariants as Stages
use Rattle.conn_future.specs.declared.stage.Ending.{Ending}
use Rattle.conn_future.specs.declared.stage.Ending.TheVariants as Ends
use Rattle.conn_future.specs.declared.stage.Standing.{Standing}
use Rattle.conn_future.specs.declared.stage.Standing.TheVariants as Stands
use Rattle.http_connection.specs.declared.stage.Ending.{Ending as PlainEnding}
use Rattle.http_connection.specs.declared.stage.Ending.TheVariants as PlainEnds
use Rattle.http_connection.specs.declared.stage.Standing.{Standing as PlainStanding}
use Rattle.http_connection.specs.declared.stage.Standing.TheVariants as Plain

-- how a connection that is over shows to its user
abbrev pub stage_behind : Ending → Stage
stage_behind Ends.Ended = Stages.Ended
stage_behind Ends.Closed = Stages.Closed
stage_behind Ends.ReadFailed = Stages.ReadFailed
stage_behind Ends.WriteFailed = Stages.WriteFailed

-- how a connection shows to its user
abbrev pub stage_of : Standing → Stage
stage_of Stands.Waits = Stages.Reads
stage_of (Stands.Holds body close) = Stages.Asks
stage_of (Stands.Owes close) = Stages.Owes
stage_of (Stands.Says close) = Stages.Writes
stage_of (Stands.Sends close) = Stages.Writes
stage_of (Stands.Over ending) = stage_behind ending
stage_of Stands.Spent = Stages.Spent

-- a request that is whole has no answer yet: it is handed out next, or it was
abbrev pub IsUnanswered : Stage → Type 0
IsUnanswered stage = (stage ≡ Stages.Asks) ⊎ (stage ≡ Stages.Owes)

-- the wire is read or written next
abbrev pub IsMoving : Stage → Type 0
IsMoving stage = (stage ≡ Stages.Reads) ⊎ (stage ≡ Stages.Writes)

-- a request is whole, or a text goes out
abbrev pub IsAnswering : Stage → Type 0
IsAnswering stage = IsUnanswered stage ⊎ (stage ≡ Stages.Writes)

-- a call of the wire failed
abbrev pub IsFailed : Stage → Type 0
IsFailed stage = (stage ≡ Stages.ReadFailed) ⊎ (stage ≡ Stages.WriteFailed)

-- nothing more passes on the connection
abbrev pub IsOver : Stage → Type 0
IsOver stage = (stage ≡ Stages.Ended) ⊎ ((stage ≡ Stages.Closed) ⊎ IsFailed stage)

-- nothing is to be done on the connection: a request that is whole has no answer yet, or nothing more passes
abbrev pub IsAtRest : Stage → Type 0
IsAtRest stage = IsUnanswered stage ⊎ IsOver stage

-- how a connection that is over stands in the plain form
abbrev pub plain_ending : Ending → PlainEnding
plain_ending Ends.Ended = PlainEnds.Ended
plain_ending Ends.Closed = PlainEnds.Closed
plain_ending Ends.ReadFailed = PlainEnds.ReadFailed
plain_ending Ends.WriteFailed = PlainEnds.WriteFailed

-- How a connection stands in the plain form. There a text goes out within one call, in the midst of which it stands as
-- spent: the wire is open, and nothing more is said.
abbrev pub plain_standing : Standing → PlainStanding
plain_standing Stands.Waits = Plain.Waits
plain_standing (Stands.Holds body close) = Plain.Holds body close
plain_standing (Stands.Owes close) = Plain.Owes close
plain_standing (Stands.Says close) = Plain.Spent
plain_standing (Stands.Sends close) = Plain.Spent
plain_standing (Stands.Over ending) = Plain.Over (plain_ending ending)
plain_standing Stands.Spent = Plain.Spent

-- Why a poll ends, where the wire had waited so often before and so often now: the wire can move nothing yet, or a request
-- that is whole has no answer yet; or nothing more passes; or memory ran out.
abbrev pub EndsPoll : {T E : Type 0} → Poll (Result T E) → ℕ → ℕ → Stage → Type 0
EndsPoll Pending before now stage =
    ((now ≡ once_more before) × IsMoving stage) ⊎ ((now ≡ before) × IsUnanswered stage)
EndsPoll (Ready (Ok x)) before now stage = (now ≡ before) × IsOver stage
EndsPoll (Ready (Err e)) before now stage = (now ≡ before) × (stage ≡ Stages.Spent)
