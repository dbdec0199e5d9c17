-- What passes where no text goes out: as in the plain form.
use Rattle.std.proofs.Common.{◌≡◌, ℕ, Bool, true, false, List, [], sym, ap, ◌∙◌, subst}
use Rattle.std.specs.Prelude.{Option}
use Rattle.outside_traits.specs.Told.{WireTold}
use Rattle.http_port.specs.Feeding.{Open}
use Rattle.http_port.specs.declared.head_reader.Fed.{Fed}
use Rattle.http_port.specs.declared.head_reader.Fed.TheVariants.{NotYet, Request}
use Rattle.http_connection.specs.declared.stage.Standing.TheVariants as Plain
use Rattle.http_connection.specs.Stages.{stage_of as plain_stage_of}
use Rattle.http_connection.specs.Talking.{IsTalking as IsPlainTalking, WireTells, log_of}
use Rattle.http_connection.specs.Steps.{IsCarried, IsFed, IsGoing}
use Rattle.http_connection.proofs.Passing.{Stays, carried_of, carried_on, fed_on, waiting_fed, waiting_talks, holding_talks, spent_talks, talks_first}
use Rattle.conn_future.specs.declared.stage.Stage.TheVariants as Stages
use Rattle.conn_future.specs.declared.stage.Ending.TheVariants as Ends
use Rattle.conn_future.specs.declared.stage.Standing.{Standing}
use Rattle.conn_future.specs.declared.stage.Standing.TheVariants as Stands
use Rattle.conn_future.specs.Stages.{plain_standing, stage_of}
use Rattle.conn_future.specs.Talking.{Seen, plain, IsWriting, IsTalking}
use Rattle.conn_future.specs.Steps.{IsSame}

-- a connection on which nothing was read or written is as it was in the plain form
pub stays : (was now : Seen) → IsSame was.kept now.kept → now.line ≡ was.line → Stays (plain was) (plain now)
stays was now s line = record { line = line; read = s.read; written = s.written }

-- ---- how it stands then

-- a connection of which all is said in the plain form
pub talks_at : (first : WireTold) (now : Seen) (bodies : List (List ℕ)) (texts : List (Option (List ℕ))) (next : Standing) → now.kept.next ≡ next
    → IsWriting next now.kept (log_of (plain now) bodies texts) → (stage_of next ≡ Stages.Ended → ⊥)
    → IsPlainTalking first (plain now) bodies texts → IsTalking first now bodies texts
talks_at first now bodies texts next e writing unended talks = record {
  talks = talks;
  writing = subst (λ n. IsWriting n now.kept (log_of (plain now) bodies texts)) (sym e) writing;
  ended = λ _ h. absurd (unended (sym (ap stage_of e) ∙ h));
}

pub spent_now : (first : WireTold) (now : Seen) (bodies : List (List ℕ)) (texts : List (Option (List ℕ))) → IsCarried first (plain now) → now.kept.next ≡ Stands.Spent
    → IsTalking first now bodies texts
spent_now first now bodies texts c e =
    talks_at first now bodies texts Stands.Spent e tt (λ h. cc) (spent_talks first (plain now) bodies texts c (ap plain_standing e))

pub waits_now : (first : WireTold) (was now : Seen) (bodies : List (List ℕ)) (texts : List (Option (List ℕ))) → IsFed first (plain was) NotYet bodies texts
    → IsSame was.kept now.kept → now.line ≡ was.line → now.kept.next ≡ Stands.Waits → IsTalking first now bodies texts
waits_now first was now bodies texts f s line e =
    talks_at first now bodies texts Stands.Waits e tt (λ h. cc)
    (waiting_talks first (plain now) bodies texts (fed_on first (plain was) (plain now) NotYet bodies texts f (stays was now s line) s.reader) (ap plain_standing e))

pub holds_now : (first : WireTold) (was now : Seen) (body : List ℕ) (close : Bool) (bodies : List (List ℕ)) (texts : List (Option (List ℕ)))
    → IsFed first (plain was) (Request body close) bodies texts
    → IsSame was.kept now.kept → now.line ≡ was.line → now.kept.next ≡ Stands.Holds body close → IsTalking first now bodies texts
holds_now first was now body close bodies texts f s line e =
    talks_at first now bodies texts (Stands.Holds body close) e tt (λ h. cc)
    (holding_talks first (plain now) body close bodies texts (fed_on first (plain was) (plain now) (Request body close) bodies texts f (stays was now s line) s.reader) (ap plain_standing e))

-- ---- what is carried

-- what is carried by a connection of which the plain form says nothing more
pub carried_spent : (first : WireTold) (now : Seen) (bodies : List (List ℕ)) (texts : List (Option (List ℕ))) → IsTalking first now bodies texts
    → plain_standing now.kept.next ≡ Plain.Spent → IsCarried first (plain now)
carried_spent first now bodies texts t e =
    carried_of first (plain now) bodies texts t.talks (subst (λ n. WireTells (plain_stage_of n) first now.kept.read.items now.line) e t.talks.wire)

-- a connection that waits was given nothing more
pub waits_fed : (first : WireTold) (now : Seen) (bodies : List (List ℕ)) (texts : List (Option (List ℕ))) → IsTalking first now bodies texts
    → now.kept.next ≡ Stands.Waits → IsFed first (plain now) NotYet bodies texts
waits_fed first now bodies texts t e = waiting_fed first (plain now) bodies texts t.talks (ap plain_standing e)

-- it gives up
pub waits_spent : (first : WireTold) (was now : Seen) (bodies : List (List ℕ)) (texts : List (Option (List ℕ))) → IsTalking first was bodies texts
    → was.kept.next ≡ Stands.Waits → IsSame was.kept now.kept → now.line ≡ was.line → now.kept.next ≡ Stands.Spent → IsTalking first now bodies texts
waits_spent first was now bodies texts t w s line e =
    spent_now first now bodies texts (carried_on first (plain was) (plain now) (waits_fed first was bodies texts t w).carried (stays was now s line)) e

-- a connection on which a text goes out gives up
pub spends_sending : (first : WireTold) (was now : Seen) (close : Bool) (bodies : List (List ℕ)) (texts : List (Option (List ℕ))) → IsTalking first was bodies texts
    → was.kept.next ≡ Stands.Sends close → IsSame was.kept now.kept → now.line ≡ was.line → now.kept.next ≡ Stands.Spent → IsTalking first now bodies texts
spends_sending first was now close bodies texts t w s line e =
    spent_now first now bodies texts (carried_on first (plain was) (plain now) (carried_spent first was bodies texts t (ap plain_standing w)) (stays was now s line)) e

-- what was given last is taken up no more
pub fed_spent : (first : WireTold) (was : Seen) (last : Fed) (bodies : List (List ℕ)) (texts : List (Option (List ℕ))) → IsFed first (plain was) last bodies texts
    → was.kept.next ≡ Stands.Spent → IsTalking first was bodies texts
fed_spent first was last bodies texts f e = spent_now first was bodies texts f.carried e

-- what was read is fed no more
pub going_spent : (first : WireTold) (was now : Seen) (piece : List ℕ) (bodies : List (List ℕ)) (texts : List (Option (List ℕ))) → IsGoing first (plain was) piece bodies texts
    → Stays (plain was) (plain now) → now.kept.next ≡ Stands.Spent → IsTalking first now bodies texts
going_spent first was now piece bodies texts h s e = spent_now first now bodies texts (carried_on first (plain was) (plain now) h.carried s) e

-- ---- how a read ends it

pub ended_now : (first : WireTold) (now : Seen) (bodies : List (List ℕ)) (texts : List (Option (List ℕ))) → IsPlainTalking first (plain now) bodies texts
    → (first.closed ≡ false → now.line.ended ≡ true) → now.kept.next ≡ Stands.Over Ends.Ended → IsTalking first now bodies texts
ended_now first now bodies texts talks told e = record {
  talks = talks;
  writing = subst (λ n. IsWriting n now.kept (log_of (plain now) bodies texts)) (sym e) tt;
  ended = λ o _. told o;
}

pub read_failed_now : (first : WireTold) (now : Seen) (bodies : List (List ℕ)) (texts : List (Option (List ℕ))) → IsPlainTalking first (plain now) bodies texts
    → now.kept.next ≡ Stands.Over Ends.ReadFailed → IsTalking first now bodies texts
read_failed_now first now bodies texts talks e = talks_at first now bodies texts (Stands.Over Ends.ReadFailed) e tt (λ h. cc) talks

-- ---- at first

pub first_now : (first : WireTold) (now : Seen) → now.line ≡ first → now.kept.read.items ≡ [] → now.kept.written.items ≡ [] → now.kept.reader ≡ Open [] false
    → now.kept.next ≡ Stands.Waits → IsTalking first now [] []
first_now first now line read written reader e =
    talks_at first now [] [] Stands.Waits e tt (λ h. cc)
    (talks_first first (plain now) line read written reader (ap plain_standing e))
