-- What holds of all that passes on a connection, whenever its wire can move something and whenever its answers are told.
use Rattle.std.specs.Prelude.{ℕ, List, Option}
use Rattle.outside_traits.specs.Told.{WireTold}
use Rattle.http_port.specs.Connections.{Reading}
use Rattle.http_connection.specs.Talking.{log_of}
use Rattle.http_connection.specs.Law.{holding, Keeps, StaysFront}
use Rattle.http_connection.specs.Law.{KeepsWord as KeepsPlainWord}
use Rattle.http_connection.specs.declared.stage.Stage.{Stage as PlainStage}
use Rattle.http_connection.specs.declared.stage.Stage.TheVariants as PlainStages
use Rattle.conn_future.specs.declared.stage.Stage.{Stage}
use Rattle.conn_future.specs.declared.stage.Stage.TheVariants as Stages
use Rattle.conn_future.specs.Stages.{stage_of}
use Rattle.conn_future.specs.Talking.{Seen, plain}

-- The stage in the plain form at which the same has passed. Of a connection that reads on it is that of one that ended:
-- all is done that is due for the bytes so far. A request that is whole and was not handed out is still to be asked for
-- there. What is wanting of a text that goes out is wanting where a write failed.
abbrev pub plain_stage : Stage → PlainStage
plain_stage Stages.Reads = PlainStages.Ended
plain_stage Stages.Asks = PlainStages.Reads
plain_stage Stages.Owes = PlainStages.Owes
plain_stage Stages.Writes = PlainStages.WriteFailed
plain_stage Stages.Ended = PlainStages.Ended
plain_stage Stages.Closed = PlainStages.Closed
plain_stage Stages.ReadFailed = PlainStages.ReadFailed
plain_stage Stages.WriteFailed = PlainStages.WriteFailed
plain_stage Stages.Spent = PlainStages.Spent

-- What holds of a connection that was made with a wire as first, handed out these bodies and was told these texts: what
-- holds in the plain form; and what passed on it is what passes there at the stage that is its own. So while a text goes
-- out, of what is to be written a prefix is out, not all of it, and all that stands before the last answer.
pub record KeepsWord (first : WireTold) (now : Seen) (bodies : List (List ℕ)) (texts : List (Option (List ℕ)))
    : Type 0 where
  pub word : KeepsPlainWord first (plain now) bodies texts
  pub keeps : (reading : Reading now.kept.read.items)
      → ∥ Keeps (plain_stage (stage_of now.kept.next)) (holding now.kept.read.items reading) (log_of (plain now) bodies texts) ∥₁
  pub front : (reading : Reading now.kept.read.items)
      → ∥ StaysFront (plain_stage (stage_of now.kept.next)) (holding now.kept.read.items reading) (log_of (plain now) bodies texts) ∥₁
