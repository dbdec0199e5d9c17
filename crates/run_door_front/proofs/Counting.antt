-- How many bodies a connection handed out, by how many texts it was told.
use Rattle.std.proofs.Common.{◌≡◌, ap, ◌∙◌, arith, ℕ, suc, Bool, List, [], ◌∷◌, length, Option, length-append}
use Rattle.http_port.specs.declared.head_reader.Fed.{Fed}
use Rattle.http_port.specs.declared.head_reader.Fed.TheVariants.{NotYet, Interim, Request, Refused}
use Rattle.http_port.specs.Feeding.{Place}
use Rattle.http_port.specs.Serving.{bodies_in}
use Rattle.conn_future.specs.declared.stage.Stage.TheVariants as Stages
use Rattle.conn_future.specs.declared.stage.Ending.TheVariants as Ends
use Rattle.conn_future.specs.declared.stage.Standing.{Standing}
use Rattle.conn_future.specs.declared.stage.Standing.TheVariants as Stands
use Rattle.conn_future.specs.Stages.{stage_of, plain_standing}
use Rattle.conn_future.specs.Talking.{Seen, plain, IsTalking}
use Rattle.outside_traits.specs.Told.{WireTold}
use Rattle.http_connection.specs.Talking.{Log, log, log_of, Answered, HasGiven, HasAsked, Passed}

-- a text was told to each request that was answered
answered_count : (feds : List Fed) (texts : List (Option (List ℕ))) (went : List ℕ) → Answered feds texts went
    → length texts ≡ length (bodies_in feds)
answered_count [] texts went a = ap length a.0
answered_count (NotYet ∷ more) texts went a = answered_count more texts went a
answered_count (Interim ∷ more) texts went a = answered_count more texts a.0 a.2
answered_count (Request body close ∷ more) texts went a = ap length a.4 ∙ ap suc (answered_count more a.1 a.2 a.6)
answered_count (Refused status ∷ more) texts went a = absurd a

given_count : (last : Fed) (place : Place) (l : Log) → HasGiven last place l → length l.texts ≡ length l.bodies
given_count last place l g =
    answered_count g.answered.feds l.texts l.written g.answered.answered ∙ ap length g.answered.bodies

asked_count : (close : Bool) (place : Place) (l : Log) → HasAsked close place l → length l.bodies ≡ suc (length l.texts)
asked_count close place l a =
    let here = given_count (Request a.body close) place (log l.read l.written a.early l.texts) a.given in
    let all = ap length a.bodies ∙ length-append a.early (a.body ∷ []) in
    omega arith

asks_count : (next : Standing) (place : Place) (l : Log) → stage_of next ≡ Stages.Asks → Passed (plain_standing next) place l → length l.texts ≡ length l.bodies
asks_count Stands.Waits place l e p = absurd (let clash : Stages.Reads ≡ Stages.Asks = e in cc)
asks_count (Stands.Holds body close) place l e p = given_count (Request body close) place l p
asks_count (Stands.Owes close) place l e p = absurd (let clash : Stages.Owes ≡ Stages.Asks = e in cc)
asks_count (Stands.Says close) place l e p = absurd (let clash : Stages.Writes ≡ Stages.Asks = e in cc)
asks_count (Stands.Sends close) place l e p = absurd (let clash : Stages.Writes ≡ Stages.Asks = e in cc)
asks_count (Stands.Over Ends.Ended) place l e p = absurd (let clash : Stages.Ended ≡ Stages.Asks = e in cc)
asks_count (Stands.Over Ends.Closed) place l e p = absurd (let clash : Stages.Closed ≡ Stages.Asks = e in cc)
asks_count (Stands.Over Ends.ReadFailed) place l e p = absurd (let clash : Stages.ReadFailed ≡ Stages.Asks = e in cc)
asks_count (Stands.Over Ends.WriteFailed) place l e p = absurd (let clash : Stages.WriteFailed ≡ Stages.Asks = e in cc)
asks_count Stands.Spent place l e p = absurd (let clash : Stages.Spent ≡ Stages.Asks = e in cc)

owes_count : (next : Standing) (place : Place) (l : Log) → stage_of next ≡ Stages.Owes → Passed (plain_standing next) place l → length l.bodies ≡ suc (length l.texts)
owes_count Stands.Waits place l e p = absurd (let clash : Stages.Reads ≡ Stages.Owes = e in cc)
owes_count (Stands.Holds body close) place l e p = absurd (let clash : Stages.Asks ≡ Stages.Owes = e in cc)
owes_count (Stands.Owes close) place l e p = asked_count close place l p
owes_count (Stands.Says close) place l e p = absurd (let clash : Stages.Writes ≡ Stages.Owes = e in cc)
owes_count (Stands.Sends close) place l e p = absurd (let clash : Stages.Writes ≡ Stages.Owes = e in cc)
owes_count (Stands.Over Ends.Ended) place l e p = absurd (let clash : Stages.Ended ≡ Stages.Owes = e in cc)
owes_count (Stands.Over Ends.Closed) place l e p = absurd (let clash : Stages.Closed ≡ Stages.Owes = e in cc)
owes_count (Stands.Over Ends.ReadFailed) place l e p = absurd (let clash : Stages.ReadFailed ≡ Stages.Owes = e in cc)
owes_count (Stands.Over Ends.WriteFailed) place l e p = absurd (let clash : Stages.WriteFailed ≡ Stages.Owes = e in cc)
owes_count Stands.Spent place l e p = absurd (let clash : Stages.Spent ≡ Stages.Owes = e in cc)

-- a connection that asks was told a text to each request
pub texts-where_asks : (first : WireTold) (now : Seen) (bodies : List (List ℕ)) (texts : List (Option (List ℕ))) → IsTalking first now bodies texts
    → stage_of now.kept.next ≡ Stages.Asks → length texts ≡ length bodies
texts-where_asks first now bodies texts t e = asks_count now.kept.next now.kept.reader (log_of (plain now) bodies texts) e t.talks.passed

-- one that owes an answer was told one to each but the last
pub texts-where_owes : (first : WireTold) (now : Seen) (bodies : List (List ℕ)) (texts : List (Option (List ℕ))) → IsTalking first now bodies texts
    → stage_of now.kept.next ≡ Stages.Owes → length bodies ≡ suc (length texts)
texts-where_owes first now bodies texts t e = owes_count now.kept.next now.kept.reader (log_of (plain now) bodies texts) e t.talks.passed
