-- A request that a session took and did not answer is open, while the run goes on.
use Rattle.std.proofs.Common.{◌≡◌, ℕ, Bool, true, false, not, ◌&&◌, List, [], ◌∷◌, ◌++◌, Option, None, Some, if◌then◌else◌, refl, sym, ap, subst, ◌∙◌}
use Rattle.std.proofs.lemmas.Bool.{and_parts, false≢true}
use Rattle.std.proofs.lemmas.Option.{same_Some}
use Rattle.jolie_trees.specs.Trees.{void_tree}
use Rattle.behaviour_tree.specs.declared.words.Outcome.{Outcome}
use Rattle.behaviour_tree.specs.declared.words.Outcome.TheVariants as outcome
use Rattle.behaviour_tree.specs.declared.words.Reason.TheVariants as reason
use Rattle.office_core.specs.declared.history.Entry.{Entry}
use Rattle.office_core.specs.declared.message.Message.{Message}
use Rattle.office_core.specs.Limits.{Setting}
use Rattle.office_core.specs.Past.{Past, is_running, some_entry, stops}
use Rattle.office_core.specs.Sessions.{has_ended, service_of}
use Rattle.office_core.specs.Boxes.{took, was_taken}
use Rattle.office_core.specs.Accepted.{past_of}
use Rattle.office_core.specs.Answers.{answers_of, by_end, by_session, by_stop, is_open, is_request, replies}
use Rattle.office_core.specs.Legal.{IsLegal}
use Rattle.office_plain.proofs.Lists.{eq_true}
use Rattle.session_turn.specs.Asking.{answers_message, has_response, is_request_to, is_to_answer}
use Rattle.session_turn.proofs.Served.{served}
use Rattle.session_turn.proofs.Taken.{Replies, WentTo, by_taker, none, own_taken, replied_by, took_taken}

not_true : (b : Bool) → not b ≡ true → b ≡ false
not_true true h = sym h
not_true false h = refl

-- ---- the answers that there may be

-- what is answered at once, by whether the message is a request
abbrev once_if : Bool → List Outcome
once_if b = if b then [] else outcome.Value void_tree ∷ []

-- what the end of a session answers, by whether the message is left in its box
abbrev left_if : Bool → List Outcome
left_if b = if b then outcome.Refused reason.SessionEnded ∷ [] else []

-- what the stop of the run answers, by whether it does
abbrev stopped_if : Bool → List Outcome
stopped_if b = if b then outcome.Refused reason.Stopped ∷ [] else []

not_left : (a b c : Bool) → c ≡ true → left_if (a && b && not c) ≡ []
not_left true true c h = ap (λ x. left_if (not x)) h
not_left true false c h = refl
not_left false b c h = refl

not_stopped : (a b : Bool) → b ≡ false → stopped_if (a && b) ≡ []
not_stopped true b h = ap stopped_if h
not_stopped false b h = refl

-- a request that was taken and has no reply has no answer while the run goes on
no_answers : (w : Setting) (past : Past) (n : ℕ) (m : Message) → is_request w m ≡ true → was_taken past n ≡ true
    → replies past n ≡ [] → some_entry past stops ≡ false
    → answers_of w past n m ≡ []
no_answers w past n m request gone unreplied runs =
    let unanswered : by_session w past n m ≡ []
    = ap (λ (os : List Outcome). os ++ by_end w past n m) unreplied
    ∙ not_left (is_request w m) (has_ended past m.session) (was_taken past n) gone in
    ap (λ (b : Bool). once_if b ++ by_session w past n m ++ by_stop w past m (by_session w past n m)) request
    ∙ ap (λ (os : List Outcome). os ++ by_stop w past m os) unanswered
    ∙ not_stopped (is_request w m) (some_entry past stops) runs

-- ---- what the session may answer

-- whether it is a request, by the service of the session that took it
abbrev asked_by : Setting → Message → Option ℕ → Bool
asked_by w m o = elim o [ None ↦ false | Some d ↦ has_response w d m.op ]

-- the same of what is there under a number
abbrev asked_at : Setting → Option ℕ → Option Message → Bool
asked_at w o g = elim g [ None ↦ false | Some m ↦ asked_by w m o ]

-- whether it is open, by its answers
abbrev open_by : Setting → Message → List Outcome → Bool
open_by w m os = elim os [ [] ↦ is_request w m | o ∷ rest ↦ false ]

-- the same of what is there under a number
abbrev open_at : Setting → Past → ℕ → Option Message → Bool
open_at w past n g = elim g [ None ↦ false | Some m ↦ open_by w m (answers_of w past n m) ]

-- a request that a session took and did not answer has no reply
unreplied : (w : Setting) (h : List Entry) (s n : ℕ) → IsLegal w h → WentTo (past_of w h) s n
    → some_entry (past_of w h) (answers_message s n) ≡ false → replies (past_of w h) n ≡ []
unreplied w h s n legal own unanswered = by (replied_by w h n legal)
  where
    by : Replies (past_of w h) n → replies (past_of w h) n ≡ []
    by (none e) = e
    by (by_taker t took_it answered) =
        let other = own_taken w h legal t n took_it in
        let message : own.message ≡ other.message = same_Some own.message other.message (sym own.there ∙ other.there) in
        let same : s ≡ t
        = eq_true s own.message.session own.went ∙ ap (λ (m : Message). m.session) message
        ∙ sym (eq_true t other.message.session other.went) in
        absurd (false≢true
        (sym (subst (λ (i : ℕ). some_entry (past_of w h) (answers_message i n) ≡ false) same unanswered) ∙ answered))

-- it is open
pub is_open_still : (w : Setting) (h : List Entry) (s n : ℕ) → IsLegal w h → is_running (past_of w h) ≡ true
    → is_to_answer w (past_of w h) s n ≡ true
    → is_open w (past_of w h) n ≡ true
is_open_still w h s n legal runs asks =
    let past : Past = past_of w h in
    let parts =
    and_parts (took past s n && not (some_entry past (answers_message s n))) (is_request_to w past s n) asks in
    let front = and_parts (took past s n) (not (some_entry past (answers_message s n))) parts.0 in
    let own = own_taken w h legal s n front.0 in
    let m : Message = own.message in
    let service : service_of w past s ≡ Some m.service
    = ap (service_of w past) (eq_true s m.session own.went) ∙ served w h n m own.there in
    let request : is_request w m ≡ true
    = sym (ap (asked_by w m) service) ∙ sym (ap (asked_at w (service_of w past s)) own.there) ∙ parts.1 in
    let answers : answers_of w past n m ≡ []
    = no_answers w past n m request (took_taken past s n front.0)
    (unreplied w h s n legal own (not_true (some_entry past (answers_message s n)) front.1))
    (not_true (some_entry past stops) runs) in
    ap (open_at w past n) own.there ∙ ap (open_by w m) answers ∙ request

-- and the session took it
pub took_still : (w : Setting) (past : Past) (s n : ℕ) → is_to_answer w past s n ≡ true → took past s n ≡ true
took_still w past s n asks =
    (and_parts (took past s n) (not (some_entry past (answers_message s n)))
    (and_parts (took past s n && not (some_entry past (answers_message s n))) (is_request_to w past s n) asks).0).0
