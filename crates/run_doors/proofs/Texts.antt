-- To a connection no more texts are told than bodies of requests were handed out.
use Rattle.std.proofs.Common.{◌≡◌, ◌≢◌, ◌≤◌, ℕ, suc, ◌+◌, List, [], ◌∷◌, length, refl, ap}
use Rattle.std.proofs.Common.{◌∙◌, arith, length-append, Option}
use Rattle.http_port.specs.Feeding.{Place}
use Rattle.http_port.specs.Serving.{bodies_in}
use Rattle.http_port.specs.declared.head_reader.Fed.{Fed}
use Rattle.http_port.specs.declared.head_reader.Fed.TheVariants.{NotYet, Interim, Request, Refused}
use Rattle.conn_future.specs.declared.kept.Kept.{Kept}
use Rattle.conn_future.specs.declared.stage.Stage.TheVariants as Stages
use Rattle.conn_future.specs.declared.stage.Ending.TheVariants as Ends
use Rattle.conn_future.specs.declared.stage.Standing.{Standing}
use Rattle.conn_future.specs.declared.stage.Standing.TheVariants as Stands
use Rattle.conn_future.specs.Stages.{stage_of, plain_standing}
use Rattle.conn_future.specs.Talking.{Seen, plain, IsWriting, IsTalking}
use Rattle.outside_traits.specs.Told.{WireTold}
use Rattle.http_connection.specs.Talking.{Log, log, log_of, Answered, IsAnswered, HasGiven, HasWritten, HasAsked}
use Rattle.http_connection.specs.Talking.{told_to, Passed}

-- as many texts as requests
answered_long : (feds : List Fed) (texts : List (Option (List ℕ))) (went : List ℕ) → Answered feds texts went
    → length texts ≡ length (bodies_in feds)
answered_long [] texts went a = ap length a.0
answered_long (NotYet ∷ more) texts went a = answered_long more texts went a
answered_long (Interim ∷ more) texts went a = answered_long more texts a.0 a.2
answered_long (Request body close ∷ more) texts went a =
    ap length a.4 ∙ ap suc (answered_long more a.1 a.2 a.6)
answered_long (Refused status ∷ more) texts went a = absurd a

-- all that was given is answered
all_long : (place : Place) (l : Log) → IsAnswered place l → length l.texts ≡ length l.bodies
all_long place l k = answered_long k.feds l.texts l.written k.answered ∙ ap length k.bodies

-- what was given last is not
given_long : (last : Fed) (place : Place) (l : Log) → HasGiven last place l → length l.texts ≡ length l.bodies
given_long last place l k = all_long k.before (log k.early l.written l.bodies l.texts) k.answered

-- one text to a request, none to anything else
last_long : (last : Fed) (text : Option (List ℕ)) → length (told_to last text) ≡ length (bodies_in (last ∷ []))
last_long NotYet text = refl
last_long Interim text = refl
last_long (Request body close) text = refl
last_long (Refused status) text = refl

written_long : (last : Fed) (text : Option (List ℕ)) (went : List ℕ) (place : Place) (l : Log)
    → HasWritten last text went place l → length l.texts ≡ length l.bodies
written_long last text went place l k =
    let a : length l.texts ≡ length k.early.texts + length (told_to last text) =
    ap length k.texts ∙ length-append k.early.texts (told_to last text) in
    let b : length l.bodies ≡ length k.early.bodies + length (bodies_in (last ∷ [])) =
    ap length k.bodies ∙ length-append k.early.bodies (bodies_in (last ∷ [])) in
    let c = given_long last place k.early k.given in
    let e = last_long last text in
    omega (arith, a, b, c, e)

asked_long : (close : _) (place : Place) (l : Log) → HasAsked close place l → length l.texts ≤ length l.bodies
asked_long close place l k =
    let a : length l.bodies ≡ length k.early + 1 = ap length k.bodies ∙ length-append k.early (k.body ∷ []) in
    let b : length l.texts ≡ length k.early = given_long (Request k.body close) place (log l.read l.written k.early l.texts) k.given in
    omega (arith, a, b)

same_is_most : (m n : ℕ) → m ≡ n → m ≤ n
same_is_most m n e = omega (arith, e)

-- by how the connection stands
passed_long : (next : Standing) (kept : Kept) (l : Log) → stage_of next ≢ Stages.Spent → Passed (plain_standing next) kept.reader l → IsWriting next kept l
    → length l.texts ≤ length l.bodies
passed_long Stands.Waits kept l some k w = same_is_most _ _ (given_long NotYet kept.reader l k)
passed_long (Stands.Holds body close) kept l some k w = same_is_most _ _ (given_long (Request body close) kept.reader l k)
passed_long (Stands.Owes close) kept l some k w = asked_long close kept.reader l k
passed_long (Stands.Says close) kept l some k w = same_is_most _ _ (written_long (Request w.0 close) kept.said [] kept.reader l w.1)
passed_long (Stands.Sends close) kept l some k w = same_is_most _ _ (written_long w.0.last w.0.text kept.due.out kept.reader l w.0.written)
passed_long (Stands.Over Ends.Ended) kept l some k w = same_is_most _ _ (given_long NotYet kept.reader l k)
passed_long (Stands.Over Ends.Closed) kept l some k w = same_is_most _ _ (written_long k.0 k.1 _ kept.reader l k.3)
passed_long (Stands.Over Ends.ReadFailed) kept l some k w = same_is_most _ _ (given_long NotYet kept.reader l k)
passed_long (Stands.Over Ends.WriteFailed) kept l some k w = same_is_most _ _ (written_long k.0 k.1 _ kept.reader l k.4)
passed_long Stands.Spent kept l some k w = absurd (some refl)

-- no more texts than bodies
pub texts_within : (first : WireTold) (now : Seen) (bodies : List (List ℕ)) (texts : List (Option (List ℕ)))
    → stage_of now.kept.next ≢ Stages.Spent → IsTalking first now bodies texts → length texts ≤ length bodies
texts_within first now bodies texts some k =
    passed_long now.kept.next now.kept (log_of (plain now) bodies texts) some k.talks.passed k.writing
