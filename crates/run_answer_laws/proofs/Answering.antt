-- A request that its session took is answered by it before it ends; and what the stop answers, a live session has.
use Rattle.std.proofs.Common.{◌≡◌, ℕ, zero, suc, ◌+◌, ◌≤◌, Bool, true, false, not, ◌&&◌, ◌||◌, List, [], ◌∷◌, ◌++◌, length, Option, None, Some, is_some, nat_eq, slice_get, if◌then◌else◌, refl, sym, ap, subst, ◌∙◌, arith, eq-eqb, zero-add}
use Rattle.std.specs.List.{filter_map, list_any}
use Rattle.std.proofs.lemmas.Bool.{and_from, false≢true, or_left}
use Rattle.std.proofs.lemmas.Option.{none-some, same_Some}
use Rattle.std.proofs.lemmas.List.Folds.{list_any-append}
use Rattle.jolie_trees.specs.Trees.{void_tree}
use Rattle.behaviour_tree.specs.declared.words.Event.{Event}
use Rattle.behaviour_tree.specs.declared.words.Need.{Need}
use Rattle.behaviour_tree.specs.declared.words.Outcome.{Outcome}
use Rattle.behaviour_tree.specs.declared.words.Outcome.TheVariants as outcome
use Rattle.behaviour_tree.specs.declared.words.Reason.TheVariants as reason
use Rattle.behaviour_tree.specs.WellFormed.{is_well_formed}
use Rattle.session_calculus.specs.After.{Config}
use Rattle.session_calculus.specs.Runs.{TakenStep}
use Rattle.session_calculus.specs.Laws.{AnswersAll, times_asked, times_open, times_replied}
use Rattle.session_calculus.specs.Laws.{EndsAnswered as ClosesRequests}
use Rattle.office_core.specs.declared.history.Entry.{Entry}
use Rattle.office_core.specs.declared.message.Message.{Message}
use Rattle.office_core.specs.Limits.{Setting}
use Rattle.office_core.specs.Past.{Past, nothing_yet, some_entry, stops}
use Rattle.office_core.specs.Sessions.{births, ends, has_ended, service_of}
use Rattle.office_core.specs.Boxes.{box, taken, taken_in, takes, took, was_taken}
use Rattle.office_core.specs.Accepted.{accepted, past_of}
use Rattle.office_core.specs.Answers.{answers, answers_of, by_end, by_session, by_stop, is_request, replies, reply_in}
use Rattle.office_core.specs.Legal.{IsLegal}
use Rattle.office_core.proofs.OneAnswer.{front_nil, rest_nil}
use Rattle.run_record.specs.declared.record.Record.{Record}
use Rattle.run_record.specs.Steps.{Called, calls_of, steps_of}
use Rattle.run_record.specs.Agrees.{AreCalls, IsSession, asked_from}
use Rattle.run_record.specs.Quiet.{before_stop}
use Rattle.run_record.specs.Run.{Hands, IsRun}
use Rattle.run_order_laws.proofs.Growing.{entries_past, legal_front}
use Rattle.session_turn.specs.Asking.{answers_message}
use Rattle.session_turn.proofs.Histories.{own-answers_message, own-ends, own-takes, some_of}
use Rattle.run_answer_laws.specs.Laws.{AnswersBeforeEnd, StopsLive}
use Rattle.run_answer_laws.proofs.Asking.{fits_start, has_answer}
use Rattle.run_answer_laws.proofs.Walking.{some_asked, some_end, some_reply, walk}
use Rattle.run_answer_laws.proofs.Served.{served}
use Rattle.run_answer_laws.proofs.Histories.{all_know, among_replies, find_reply, in_calls, in_numbers, taken_took}
use Rattle.run_answer_laws.proofs.Stopping.{ends_so, messages_before}

-- ---- its session

-- a list as long as another has something wherever that has
same_length : {A B : Type 0} (xs : List A) (ys : List B) (n : ℕ) (x : A) → length ys ≡ length xs
    → slice_get xs n ≡ Some x → (y : B) × (slice_get ys n ≡ Some y)
same_length [] ys n x e h = absurd (none-some x h)
same_length (z ∷ xs) [] n x e h = absurd (short (length xs) e)
  where
    short : (k : ℕ) → 0 ≡ suc k → ⊥
    short k e = omega (arith, e)
same_length (z ∷ xs) (y ∷ ys) zero x e h = (y, refl)
same_length (z ∷ xs) (y ∷ ys) (suc n) x e h = same_length xs ys n x (less (length ys) (length xs) e) h
  where
    less : (k l : ℕ) → suc k ≡ suc l → k ≡ l
    less k l e = omega (arith, e)

replied-some : (replied opens asked before : ℕ) → replied + opens ≡ asked + before → opens ≡ 0 → 1 ≤ asked → 1 ≤ replied
replied-some replied opens asked before e f h = omega (arith, e, f, h)

-- a session that took a request and ended replied to it
reply_there : AnswersAll → ClosesRequests → (w : Setting) (h : List Entry) (n : ℕ) (m : Message) (events : List Event)
    → is_well_formed w.parts ≡ true → IsSession w h m.session events
    → slice_get (accepted w h) n ≡ Some m → is_request w m ≡ true
    → took (past_of w h) m.session n ≡ true → has_ended (past_of w h) m.session ≡ true
    → list_any (answers_message m.session n) h ≡ true
reply_there answered closes w h n m events well is there request taken ended =
    let s : ℕ = m.session in
    let x = is.1 in
    let service : ℕ = x.service in
    let cs : List Called = calls_of w h s in
    let steps : List TakenStep = steps_of events cs in
    let from : Config = x.run.0 in
    let same : service ≡ m.service = same_Some service m.service (sym x.born ∙ served w h n m there) in
    let calls : AreCalls s (asked_from w.parts service from steps) cs
    = subst (λ (ns : List Need). AreCalls s ns cs)
    (ap (λ (o : Option Config). elim o as (λ _. List Need) [ None ↦ [] | Some c ↦ asked_from w.parts service c steps ]) x.run.1)
    x.calls in
    let walks = walk w.parts service s events cs from is.0 x.run.2 calls in
    let asked : 1 ≤ times_asked w.parts service n from steps
    = some_asked w.parts service s n m from is.0 cs steps walks
    (ap (λ (d : ℕ). has_answer w.parts d m.op) same ∙ request)
    (fits_start w.parts service from well x.run.1)
    (all_know w s n m nothing_yet h there)
    (sym (in_calls w s (takes s n) (own-takes s n) nothing_yet h) ∙ sym (some_of w h (takes s n)) ∙ taken) in
    let over : is.0.ended ≡ true
    = some_end w.parts service s from is.0 cs steps walks
    (sym (in_calls w s (ends s) (own-ends s) nothing_yet h) ∙ sym (some_of w h (ends s)) ∙ ended) in
    let replied : 1 ≤ times_replied n steps
    = replied-some (times_replied n steps) (times_open n is.0.form) (times_asked w.parts service n from steps)
    (times_open n from.form) (answered w.parts service steps from is.0 x.run.2 n)
    (closes w.parts service steps is.0 x.run over n) asked in
    in_calls w s (answers_message s n) (own-answers_message s n) nothing_yet h
    ∙ some_reply w.parts service s n from is.0 cs steps walks replied

-- ---- the one answer

head-is : (x y : Outcome) (xs ys : List Outcome) → x ∷ xs ≡ y ∷ ys → x ≡ y
head-is x y xs ys e = ap (λ l. elim l [ [] ↦ x | z ∷ zs ↦ z ]) e

tail-nil : (x y : Outcome) (xs : List Outcome) → x ∷ xs ≡ y ∷ [] → xs ≡ []
tail-nil x y xs e = ap (λ l. elim l as (λ _. List Outcome) [ [] ↦ [] | z ∷ zs ↦ zs ]) e

cons-nil : (x : Outcome) (xs : List Outcome) → x ∷ xs ≡ [] → ⊥
cons-nil x xs e = cc

-- a reply is the answer, where there is one
reply-is : (rs es more : List Outcome) (o answer : Outcome) (k : ℕ) → slice_get rs k ≡ Some answer
    → (rs ++ es) ++ more ≡ o ∷ [] → answer ≡ o
reply-is [] es more o answer k h e = absurd (none-some answer h)
reply-is (r ∷ rs) es more o answer zero h e =
    sym (same_Some r answer h) ∙ head-is r o ((rs ++ es) ++ more) [] e
reply-is (r ∷ rs) es more o answer (suc k) h e =
    let none : rs ≡ [] = front_nil rs es (front_nil (rs ++ es) more (tail-nil r o ((rs ++ es) ++ more) e)) in
    absurd (none-some answer (ap (λ (l : List Outcome). slice_get l k) (sym none) ∙ h))

answers-are : (w : Setting) (past : Past) (n : ℕ) (m : Message) → slice_get past.messages n ≡ Some m
    → is_request w m ≡ true
    → answers w past n ≡ (replies past n ++ by_end w past n m) ++ by_stop w past m (by_session w past n m)
answers-are w past n m there request =
    ap (λ (o : Option Message). elim o as (λ _. List Outcome) [ None ↦ [] | Some x ↦ answers_of w past n x ]) there
    ∙ ap
    (λ (b : Bool). (if b then [] else outcome.Value void_tree ∷ []) ++ by_session w past n m ++ by_stop w past m (by_session w past n m))
    request

-- ---- the first law

pub ends_answered : AnswersAll → ClosesRequests → AnswersBeforeEnd
ends_answered answered closes w budget hands notes_failed run n m well is there request taken ended =
    let h : List Entry = run.history.entries.items in
    let past : Past = past_of w h in
    let at = same_length (births w past) run.sessions m.session m.service is.sessions.all (served w h n m there) in
    let reply = find_reply m.session n h
    (reply_there answered closes w h n m at.0 well (is.sessions.each m.session at.0 at.1) there request taken ended) in
    let one = is.answered n m there in
    let among = among_replies m.session n reply.answer h reply.place reply.there in
    let here : slice_get (replies past n) among.place ≡ Some reply.answer
    = ap (λ (es : List Entry). slice_get (filter_map (reply_in n) es) among.place) (entries_past w h) ∙ among.there in
    let same : reply.answer ≡ one.0
    = reply-is (replies past n) (by_end w past n m) (by_stop w past m (by_session w past n m)) one.0 reply.answer
    among.place here (sym (answers-are w past n m there request) ∙ one.1) in
    record {
      answer = reply.answer;
      place = reply.place;
      there = reply.there;
      only = one.1 ∙ ap (λ (o : Outcome). o ∷ []) (sym same);
    }

-- ---- the second law

-- what the stop answers is a request, and has no answer by its session
record Unanswered (w : Setting) (past : Past) (n : ℕ) (m : Message) : Type 0 where
  pub request : is_request w m ≡ true
  pub none : by_session w past n m ≡ []

stopped-is : (w : Setting) (past : Past) (n : ℕ) (m : Message)
    → by_stop w past m (by_session w past n m) ≡ outcome.Refused reason.Stopped ∷ [] → Unanswered w past n m
stopped-is w past n m h = go (by_session w past n m) refl h
  where
    asks : (a b : Bool) → (if a && b then outcome.Refused reason.Stopped ∷ [] else []) ≡ outcome.Refused reason.Stopped ∷ []
        → a ≡ true
    asks true b e = refl
    asks false b e = absurd (cons-nil (outcome.Refused reason.Stopped) [] (sym e))

    go : (os : List Outcome) → by_session w past n m ≡ os
        → by_stop w past m os ≡ outcome.Refused reason.Stopped ∷ [] → Unanswered w past n m
    go [] q e = record { request = asks (is_request w m) (some_entry past stops) e; none = q }
    go (o ∷ os) q e = absurd (cons-nil (outcome.Refused reason.Stopped) [] (sym e))

-- the history of a run, what happened in it, and what happened before its stop
abbrev items : Record → List Entry
items run = run.history.entries.items

abbrev all_past : Setting → Record → Past
all_past w run = past_of w (items run)

abbrev stop_past : Setting → Record → Past
stop_past w run = past_of w (before_stop (items run))

-- a session that ended left none unanswered
ends-none : AnswersAll → ClosesRequests → (w : Setting) (budget : ℕ) (hands : Hands) (notes_failed : Bool) (run : Record)
    (n : ℕ) (m : Message)
    → is_well_formed w.parts ≡ true → IsRun w budget hands notes_failed run
    → slice_get (accepted w run.history.entries.items) n ≡ Some m
    → Unanswered w (past_of w run.history.entries.items) n m
    → has_ended (past_of w run.history.entries.items) m.session ≡ true → ⊥
ends-none answered closes w budget hands notes_failed run n m well is there owed ended =
    by (took (all_past w run) m.session n) (was_taken (all_past w run) n) refl refl
  where
    by : (a b : Bool) → took (all_past w run) m.session n ≡ a → was_taken (all_past w run) n ≡ b → ⊥
    by true b q r =
        let x = ends_answered answered closes w budget hands notes_failed run n m well is there owed.request q ended in
        let among = among_replies m.session n x.answer (items run) x.place x.there in
        let none : replies (all_past w run) n ≡ [] = front_nil (replies (all_past w run) n) (by_end w (all_past w run) n m) owed.none in
        none-some x.answer
        (ap (λ (l : List Outcome). slice_get l among.place)
        (sym none ∙ ap (λ (es : List Entry). filter_map (reply_in n) es) (entries_past w (items run))) ∙ among.there)
    by false true q r =
        false≢true
        (sym q ∙ some_of w (items run) (takes m.session n)
        ∙ taken_took w n m nothing_yet (items run) is.legal there
        (ap (λ (es : List Entry). list_any (nat_eq n) (filter_map taken_in es)) (sym (entries_past w (items run))) ∙ r))
    by false false q r =
        cons-nil (outcome.Refused reason.SessionEnded) []
        (ap (λ (b : Bool). if b then outcome.Refused reason.SessionEnded ∷ [] else [])
        (sym (and_from (is_request w m && has_ended (all_past w run) m.session) (not (was_taken (all_past w run) n))
        (and_from (is_request w m) (has_ended (all_past w run) m.session) owed.request ended) (ap not r)))
        ∙ rest_nil (replies (all_past w run) n) (by_end w (all_past w run) n m) owed.none)

pub stops_live : AnswersAll → ClosesRequests → StopsLive
stops_live answered closes w budget hands notes_failed run n m well is there stopped =
    let owed = stopped-is w (all_past w run) n m stopped in (
      and_from (is_some (service_of w (stop_past w run) m.session)) (not (has_ended (stop_past w run) m.session))
          (ap (λ (o : Option ℕ). is_some o) (served w (before_stop (items run)) n m here))
          (lives (has_ended (stop_past w run) m.session) refl
          (ends-none answered closes w budget hands notes_failed run n m well is there owed)),
      has (took (stop_past w run) m.session n) refl,
    )
  where
    here : slice_get (stop_past w run).messages n ≡ Some m
    here = ap (λ (ms : List Message). slice_get ms n) (sym (messages_before w (items run) (ends_so w (items run) is.legal))) ∙ there

    later : has_ended (stop_past w run) m.session ≡ true → has_ended (all_past w run) m.session ≡ true
    later e =
        let x = ends_so w (items run) is.legal in
        some_of w (items run) (ends m.session) ∙ ap (list_any (ends m.session)) x.is
        ∙ list_any-append (ends m.session) (before_stop (items run)) x.later
        ∙ or_left (list_any (ends m.session) (before_stop (items run))) (list_any (ends m.session) x.later)
        (sym (some_of w (before_stop (items run)) (ends m.session)) ∙ e)

    lives : (b : Bool) → has_ended (stop_past w run) m.session ≡ b → (has_ended (all_past w run) m.session ≡ true → ⊥) → not b ≡ true
    lives false q ends = refl
    lives true q ends = absurd (ends (later q))

    untaken : (b : Bool) → took (stop_past w run) m.session n ≡ false → was_taken (stop_past w run) n ≡ b → b ≡ false
    untaken false q r = refl
    untaken true q r =
        let x = ends_so w (items run) is.legal in
        absurd
        (false≢true
        (sym q ∙ some_of w (before_stop (items run)) (takes m.session n)
        ∙ taken_took w n m nothing_yet (before_stop (items run))
        (legal_front w (before_stop (items run)) x.later (subst (IsLegal w) x.is is.legal)) here
        (ap (λ (es : List Entry). list_any (nat_eq n) (filter_map taken_in es)) (sym (entries_past w (before_stop (items run)))) ∙ r)))

    has : (b : Bool) → took (stop_past w run) m.session n ≡ b → (b || list_any (nat_eq n) (box (stop_past w run) m.session)) ≡ true
    has true q = refl
    has false q =
        ap (λ (i : ℕ). list_any (nat_eq i) (box (stop_past w run) m.session)) (sym (zero-add n))
        ∙ in_numbers (taken (stop_past w run)) (λ x. nat_eq m.session x.session) 0 (stop_past w run).messages n m here
        (eq-eqb m.session m.session refl)
        (ap (λ (i : ℕ). list_any (nat_eq i) (taken (stop_past w run))) (zero-add n) ∙ untaken (was_taken (stop_past w run) n) q refl)
