-- What passes on a connection over a wire that does not wait: what passes in the plain form, and how much of a text is
-- out.
use Rattle.std.specs.Prelude.{◌≡◌, ◌<◌, ℕ, Bool, true, false, List, [], ◌++◌, length, Option}
use Rattle.outside_traits.specs.Told.{WireTold}
use Rattle.outside_polling.specs.Polls.{PollTold}
use Rattle.http_port.specs.Feeding.{Place}
use Rattle.http_port.specs.declared.head_reader.Fed.{Fed}
use Rattle.http_port.specs.declared.head_reader.Fed.TheVariants.{NotYet, Interim, Request, Refused}
use Rattle.http_connection.specs.Seen.{Seen as PlainSeen}
use Rattle.http_connection.specs.Talking.{Log, log_of, due, HasWritten}
use Rattle.http_connection.specs.Talking.{IsTalking as IsPlainTalking}
use Rattle.http_connection.specs.Prompt.{IsPrompt}
use Rattle.conn_future.specs.declared.kept.Kept.{Kept}
use Rattle.conn_future.specs.declared.stage.Stage.TheVariants as Stages
use Rattle.conn_future.specs.declared.stage.Standing.{Standing}
use Rattle.conn_future.specs.declared.stage.Standing.TheVariants as Stands
use Rattle.conn_future.specs.Outgoing.{Outgoing}
use Rattle.conn_future.specs.Stages.{plain_standing, stage_of, IsOver}

-- a connection: what it keeps, and what its wire tells beside its waits
pub record Seen : Type 0 where
  pub kept : Kept
  pub line : WireTold

-- the same by what it keeps and all that its wire tells
abbrev pub seen : Kept → PollTold → Seen
seen kept told = record { kept = kept; line = told.wire }

-- the same connection in the plain form
abbrev pub plain : Seen → PlainSeen
plain now = record {
  kept = record {
    alloc = now.kept.alloc;
    reader = now.kept.reader;
    read = now.kept.read;
    written = now.kept.written;
    next = plain_standing now.kept.next;
  };
  line = now.line;
}

-- whether the connection closes with what is due for what a reader gave
abbrev pub closes_behind : Fed → Bool
closes_behind NotYet = false
closes_behind Interim = false
closes_behind (Request body close) = close
closes_behind (Refused status) = true

-- The reader gave this last, to which this text was told; what goes out is all that is due for it, and so much of it was
-- written, after all that is due before. The connection closes with it or goes on.
pub record IsOut (close : Bool) (sent : Outgoing) (place : Place) (l : Log) : Type 0 where
  pub last : Fed
  pub text : Option (List ℕ)
  pub ending : closes_behind last ≡ close
  pub whole : sent.out ++ sent.left ≡ due last text
  pub written : HasWritten last text sent.out place l

-- How much of a text is out on a connection that stands so: of one that was said none, and nothing is made of it yet;
-- of one that goes out not all.
abbrev pub IsWriting : Standing → Kept → Log → Type 0
IsWriting Stands.Waits kept l = Unit {0}
IsWriting (Stands.Holds body close) kept l = Unit {0}
IsWriting (Stands.Owes close) kept l = Unit {0}
IsWriting (Stands.Says close) kept l =
    (body : List ℕ) × HasWritten (Request body close) kept.said [] kept.reader l
IsWriting (Stands.Sends close) kept l = IsOut close kept.due kept.reader l × (0 < length kept.due.left)
IsWriting (Stands.Over ending) kept l = Unit {0}
IsWriting Stands.Spent kept l = Unit {0}

-- The connection, made with a wire that was as first, has handed out these bodies in order and was told these texts: as
-- in the plain form, and while a text goes out, so much of it is out. Made with an open wire it stands as ended only where
-- a read told the end of what comes in.
pub record IsTalking (first : WireTold) (now : Seen) (bodies : List (List ℕ)) (texts : List (Option (List ℕ)))
    : Type 0 where
  pub talks : IsPlainTalking first (plain now) bodies texts
  pub writing : IsWriting now.kept.next now.kept (log_of (plain now) bodies texts)
  pub ended : first.closed ≡ false → stage_of now.kept.next ≡ Stages.Ended → now.line.ended ≡ true

-- whatever was handed out and told before, it is what was handed out and told then
abbrev pub TalksOn : Seen → Seen → Type 0
TalksOn was now = (first : WireTold) (bodies : List (List ℕ)) (texts : List (Option (List ℕ)))
    → IsTalking first was bodies texts → IsTalking first now bodies texts

-- Nothing that is due waits for more bytes: before each read of the wire all was done that is due for the bytes so far.
abbrev pub StaysPrompt : Seen → Seen → Type 0
StaysPrompt was now = (first : WireTold) (bodies : List (List ℕ)) (texts : List (Option (List ℕ)))
    → IsTalking first was bodies texts
    → IsPrompt was.line.calls now.line.calls (log_of (plain was) bodies texts) (log_of (plain now) bodies texts)

-- What a connection gives that is over: whatever was handed out and told, these are the bytes that passed on it.
abbrev pub Gives : Seen → PollTold → List ℕ → List ℕ → Type 0
Gives was told read written = (first : WireTold) (bodies : List (List ℕ)) (texts : List (Option (List ℕ)))
    → IsTalking first was bodies texts
    → (now : Seen) × IsOver (stage_of now.kept.next) × IsTalking first now bodies texts
    × (now.line ≡ told.wire) × (now.kept.read.items ≡ read) × (now.kept.written.items ≡ written)
