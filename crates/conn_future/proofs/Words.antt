-- What passed is what the bytes hold, also while a text goes out.
use Rattle.std.proofs.Common.{◌≡◌, ℕ, true, List, length, take, sym, refl, ap, ◌∙◌, subst, arith, length-append}
use Rattle.std.specs.Prelude.{Option, None}
use Rattle.std.proofs.Math.Seq.{take-append_seam}
use Rattle.outside_traits.specs.Told.{WireTold}
use Rattle.http_port.specs.Feeding.{Place}
use Rattle.http_port.specs.Connections.{Reading}
use Rattle.http_port.specs.declared.head_reader.Fed.TheVariants.{Request}
use Rattle.http_connection.specs.declared.stage.Stage.{Stage as PlainStage}
use Rattle.http_connection.specs.declared.stage.Stage.TheVariants as PlainStages
use Rattle.http_connection.specs.declared.stage.Ending.TheVariants as PlainEnds
use Rattle.http_connection.specs.declared.stage.Standing.{Standing as PlainStanding}
use Rattle.http_connection.specs.declared.stage.Standing.TheVariants as Plain
use Rattle.http_connection.specs.Seen.{Seen as PlainSeen}
use Rattle.http_connection.specs.Stages.{stage_of as plain_stage_of}
use Rattle.http_connection.specs.Talking.{Log, log_of, HasWritten, Passed, WireTells}
use Rattle.http_connection.specs.Law.{holding, Keeps, StaysFront}
use Rattle.http_connection.specs.Law.{KeepsWord as KeepsPlainWord}
use Rattle.http_connection.proofs.Words.{keeps_word as keeps_plain_word}
use Rattle.conn_future.specs.declared.kept.Kept.{Kept}
use Rattle.conn_future.specs.declared.stage.Ending.TheVariants as Ends
use Rattle.conn_future.specs.declared.stage.Standing.{Standing}
use Rattle.conn_future.specs.declared.stage.Standing.TheVariants as Stands
use Rattle.conn_future.specs.Stages.{plain_standing, stage_of}
use Rattle.conn_future.specs.Talking.{Seen, plain, IsWriting, IsTalking}
use Rattle.conn_future.specs.Law.{plain_stage, KeepsWord}
use Rattle.conn_future.proofs.Writing.{answer_some}

-- What passed on a connection is what passes in the plain form on one that stands so.
record PassedAs (stage : PlainStage) (place : Place) (l : Log) : Type 0 where
  standing : PlainStanding
  shows : plain_stage_of standing ≡ stage
  passed : Passed standing place l

-- It passes there at the stage that is its own: a text that goes out is so far as one that was cut.
passed_as : (next : Standing) (kept : Kept) (l : Log) → Passed (plain_standing next) kept.reader l → IsWriting next kept l
    → PassedAs (plain_stage (stage_of next)) kept.reader l
passed_as Stands.Waits kept l p w = record { standing = Plain.Over PlainEnds.Ended; shows = refl; passed = p }
passed_as (Stands.Holds body close) kept l p w = record { standing = Plain.Holds body close; shows = refl; passed = p }
passed_as (Stands.Owes close) kept l p w = record { standing = Plain.Owes close; shows = refl; passed = p }
passed_as (Stands.Says close) kept l p w = record {
  standing = Plain.Over PlainEnds.WriteFailed;
  shows = refl;
  passed = (Request w.0 close, kept.said, 0, answer_some kept.said close, w.1);
}
passed_as (Stands.Sends close) kept l p w =
    let o = w.0 in record {
      standing = Plain.Over PlainEnds.WriteFailed;
      shows = refl;
      passed = (
        o.last,
        o.text,
        length kept.due.out,
        (let f = ap length o.whole in omega (arith, length-append kept.due.out kept.due.left, w.1)),
        subst (λ v. HasWritten o.last o.text v kept.reader l)
            (sym (ap (take (length kept.due.out)) (sym o.whole) ∙ take-append_seam kept.due.out kept.due.left)) o.written,
      );
    }
passed_as (Stands.Over Ends.Ended) kept l p w = record { standing = Plain.Over PlainEnds.Ended; shows = refl; passed = p }
passed_as (Stands.Over Ends.Closed) kept l p w = record { standing = Plain.Over PlainEnds.Closed; shows = refl; passed = p }
passed_as (Stands.Over Ends.ReadFailed) kept l p w = record { standing = Plain.Over PlainEnds.ReadFailed; shows = refl; passed = p }
passed_as (Stands.Over Ends.WriteFailed) kept l p w = record { standing = Plain.Over PlainEnds.WriteFailed; shows = refl; passed = p }
passed_as Stands.Spent kept l p w = record { standing = Plain.Spent; shows = refl; passed = p }

-- a wire that tells nothing, is closed and failed in both ways: as first and as now it suits each stage
abbrev untold : WireTold
untold = record {
  read = None;
  unread = None;
  written = None;
  calls = None;
  read_failed = true;
  write_failed = true;
  ended = true;
  closed = true;
  door = None;
}

tells_untold : (stage : PlainStage) (read : List ℕ) → WireTells stage untold read untold
tells_untold PlainStages.Reads read = record { left = tt; failures = refl; closed = refl }
tells_untold PlainStages.Owes read = record { left = tt; failures = refl; closed = refl }
tells_untold PlainStages.Ended read = (record { front = tt; closed = refl }, refl, tt)
tells_untold PlainStages.Closed read = (record { front = tt; closed = refl }, refl)
tells_untold PlainStages.ReadFailed read = (record { front = tt; closed = refl }, refl, refl)
tells_untold PlainStages.WriteFailed read = (record { front = tt; closed = refl }, refl, refl)
tells_untold PlainStages.Spent read = record { left = tt; failures = refl; closed = refl }

abbrev as_untold : PlainSeen → PlainStanding → PlainSeen
as_untold now next = record { kept = record now.kept { next = next }; line = untold }

untold_keeps : (now : PlainSeen) (next : PlainStanding) (bodies : List (List ℕ)) (texts : List (Option (List ℕ))) → Passed next now.kept.reader (log_of now bodies texts)
    → KeepsPlainWord untold (as_untold now next) bodies texts
untold_keeps now next bodies texts p = keeps_plain_word untold (as_untold now next) bodies texts (record {
  given = tt;
  taken = tt;
  door = refl;
  wire = tells_untold (plain_stage_of next) now.kept.read.items;
  passed = p;
})

module _ (first : WireTold) (now : Seen) (bodies : List (List ℕ)) (texts : List (Option (List ℕ))) (t : IsTalking first now bodies texts) where
  passed_so : PassedAs (plain_stage (stage_of now.kept.next)) now.kept.reader (log_of (plain now) bodies texts)
  passed_so = passed_as now.kept.next now.kept (log_of (plain now) bodies texts) t.talks.passed t.writing

  keeps_so : (r : Reading now.kept.read.items)
      → ∥ Keeps (plain_stage (stage_of now.kept.next)) (holding now.kept.read.items r) (log_of (plain now) bodies texts) ∥₁
  keeps_so r =
      subst (λ s. ∥ Keeps s (holding now.kept.read.items r) (log_of (plain now) bodies texts) ∥₁) passed_so.shows
      ((untold_keeps (plain now) passed_so.standing bodies texts passed_so.passed).keeps r)

  front_so : (r : Reading now.kept.read.items)
      → ∥ StaysFront (plain_stage (stage_of now.kept.next)) (holding now.kept.read.items r) (log_of (plain now) bodies texts) ∥₁
  front_so r =
      subst (λ s. ∥ StaysFront s (holding now.kept.read.items r) (log_of (plain now) bodies texts) ∥₁) passed_so.shows
      ((untold_keeps (plain now) passed_so.standing bodies texts passed_so.passed).front r)

  pub keeps_word : KeepsWord first now bodies texts
  keeps_word = record {
    word = keeps_plain_word first (plain now) bodies texts t.talks;
    keeps = keeps_so;
    front = front_so;
  }
