-- What brings a session nothing leaves absent what was absent for it.
use Rattle.std.proofs.Common.{◌≡◌, ℕ, zero, suc, Bool, true, false, not, ◌&&◌, List, [], ◌∷◌, ◌++◌, Option, None, Some, refl, sym, ap, ◌∙◌}
use Rattle.std.specs.Prelude.{cond, nat_eq, if◌then◌else◌, option_and_then, slice_get}
use Rattle.std.specs.List.{list_any, filter, filter_map, cons_option}
use Rattle.std.proofs.lemmas.Bool.{and_parts, eq-eqb, eqb-true, false≢true, or_left, or_right}
use Rattle.std.proofs.lemmas.List.{append-nil}
use Rattle.std.proofs.lemmas.List.Elements.{filter-append, filter_map-append}
use Rattle.std.proofs.lemmas.List.Folds.{list_any-append}
use Rattle.std.proofs.lemmas.Option.{none-some}
use Rattle.behaviour_tree.specs.declared.words.Need.{Need}
use Rattle.behaviour_tree.specs.declared.words.Need.TheVariants as need
use Rattle.behaviour_tree.specs.declared.words.Outcome.{Outcome}
use Rattle.behaviour_tree.specs.declared.words.Outcome.TheVariants as outcome
use Rattle.behaviour_tree.specs.declared.words.Reason.TheVariants as reason
use Rattle.reqresp_book.specs.declared.origin.Origin.{Origin}
use Rattle.reqresp_book.specs.declared.origin.Origin.TheVariants as origin
use Rattle.office_core.specs.declared.history.Act.{Act}
use Rattle.office_core.specs.declared.history.Act.TheVariants as act
use Rattle.office_core.specs.declared.history.Entry.{Entry}
use Rattle.office_core.specs.declared.history.Placed.{Placed}
use Rattle.office_core.specs.declared.history.Placed.TheVariants as at
use Rattle.office_core.specs.declared.message.Call.{Call}
use Rattle.office_core.specs.declared.message.Message.{Message}
use Rattle.office_core.specs.Limits.{Setting}
use Rattle.office_core.specs.Past.{Past, stops}
use Rattle.office_core.specs.Sessions.{ends, has_ended}
use Rattle.office_core.specs.Boxes.{numbers_without, queue, taken, taken_in, was_taken}
use Rattle.office_core.specs.Keys.{first}
use Rattle.office_core.specs.Accepted.{accepted_in, then_one, with_message}
use Rattle.office_core.specs.Answers.{answers, answers_of, at_once, by_end, by_session, by_stop, is_request, replies, reply_in}
use Rattle.office_core.specs.Calls.{brought_in, call, calls, is_call, outcome_by, result, sent_in}
use Rattle.office_core.specs.Legal.{IsLegal}
use Rattle.office_core.proofs.Longer.{given_same, past_more, some_same}
use Rattle.office_core.proofs.OneAnswer.{front_nil, message_stays, rest_nil}
use Rattle.office_core.proofs.Sent.{AreSent, IsSent, calls_are_messages}
use Rattle.session_turn.specs.Seen.{Seat, past_at}
use Rattle.session_turn.specs.Turns.{IsAbsent}
use Rattle.run_quiet_laws.specs.Brings.{BringsNothing, is_sent_by, may_answer}
use Rattle.run_quiet_laws.proofs.Once.{same_of}

-- ---- lists

nil_both : {A : Type 0} (xs ys : List A) → xs ≡ [] → ys ≡ [] → xs ++ ys ≡ []
nil_both xs ys e f = ap (λ l. l ++ ys) e ∙ f

-- the first of a list, where there is none
first_none : {A : Type 0} (xs : List A) → first xs ≡ None → xs ≡ []
first_none [] h = refl
first_none (x ∷ xs) h = absurd (none-some x (sym h))

-- one thing, where it is so
abbrev one_if : {A : Type 0} → Bool → A → List A
one_if b x = if b then x ∷ [] else []

-- what is none for want of a test is none where more fail it
none_still : {A : Type 0} (a b c : Bool) (x : A) → (b ≡ true → c ≡ true) → one_if (a && not b) x ≡ []
    → one_if (a && not c) x ≡ []
none_still false b c x f h = refl
none_still true b true x f h = refl
none_still true true false x f h = absurd (false≢true (f refl))
none_still true false false x f h = h

any_there : (f : Message → Bool) (ms : List Message) (n : ℕ) (m : Message) → slice_get ms n ≡ Some m → f m ≡ true
    → list_any f ms ≡ true
any_there f [] n m there is = absurd (none-some m there)
any_there f (x ∷ ms) zero m there is = or_left (f x) (list_any f ms) (ap f (same_of there) ∙ is)
any_there f (x ∷ ms) (suc n) m there is = or_right (f x) (list_any f ms) (any_there f ms n m there is)

-- where the first of a kind stands
record Found (f : Call → Bool) (cs : List Call) (c : Call) : Type 0 where
  pub place : ℕ
  pub there : slice_get cs place ≡ Some c
  pub is : f c ≡ true

found : (f : Call → Bool) (cs : List Call) (c : Call) → first (filter f cs) ≡ Some c → Found f cs c
found f [] c h = absurd (none-some c h)
found f (x ∷ cs) c h = by (f x) refl h (found f cs c)
  where
    by : (b : Bool) → f x ≡ b → first (cond b (x ∷ filter f cs) (filter f cs)) ≡ Some c
        → (first (filter f cs) ≡ Some c → Found f cs c) → Found f (x ∷ cs) c
    by true is g rest = record { place = 0; there = g; is = ap f (sym (same_of g)) ∙ is }
    by false is g rest = let r = rest g in record { place = suc r.place; there = r.there; is = r.is }

-- ---- messages that wait

-- more were taken
without_more : (gone gone' : List ℕ) (is_it : Message → Bool) (n : ℕ) (ms : List Message)
    → ((k : ℕ) → list_any (nat_eq k) gone ≡ true → list_any (nat_eq k) gone' ≡ true)
    → numbers_without gone is_it n ms ≡ [] → numbers_without gone' is_it n ms ≡ []
without_more gone gone' is_it n [] f h = refl
without_more gone gone' is_it n (m ∷ ms) f h =
    nil_both (one_if (is_it m && not (list_any (nat_eq n) gone')) n) (numbers_without gone' is_it (suc n) ms)
    (none_still (is_it m) (list_any (nat_eq n) gone) (list_any (nat_eq n) gone') n (f n)
    (front_nil (one_if (is_it m && not (list_any (nat_eq n) gone)) n) (numbers_without gone is_it (suc n) ms) h))
    (without_more gone gone' is_it (suc n) ms f
    (rest_nil (one_if (is_it m && not (list_any (nat_eq n) gone)) n) (numbers_without gone is_it (suc n) ms) h))

-- one came that is of another kind
without_other : (gone : List ℕ) (is_it : Message → Bool) (n : ℕ) (ms : List Message) (m : Message) → is_it m ≡ false
    → numbers_without gone is_it n ms ≡ [] → numbers_without gone is_it n (ms ++ m ∷ []) ≡ []
without_other gone is_it n [] m other h = ap (λ b. one_if (b && not (list_any (nat_eq n) gone)) n ++ []) other
without_other gone is_it n (x ∷ ms) m other h =
    nil_both (one_if (is_it x && not (list_any (nat_eq n) gone)) n) (numbers_without gone is_it (suc n) (ms ++ m ∷ []))
    (front_nil (one_if (is_it x && not (list_any (nat_eq n) gone)) n) (numbers_without gone is_it (suc n) ms) h)
    (without_other gone is_it (suc n) ms m other
    (rest_nil (one_if (is_it x && not (list_any (nat_eq n) gone)) n) (numbers_without gone is_it (suc n) ms) h))

-- a message that was taken was taken
taken_on : (w : Setting) (past : Past) (e : Entry) (n : ℕ) → list_any (nat_eq n) (taken past) ≡ true
    → list_any (nat_eq n) (taken (then_one w past e)) ≡ true
taken_on w past e n h =
    ap (list_any (nat_eq n)) (filter_map-append taken_in past.entries (e ∷ []))
    ∙ list_any-append (nat_eq n) (taken past) (filter_map taken_in (e ∷ []))
    ∙ or_left (list_any (nat_eq n) (taken past)) (list_any (nat_eq n) (filter_map taken_in (e ∷ []))) h

-- a message for a session, of one of some operations
abbrev is_for : ℕ → List ℕ → Message → Bool
is_for s ops m = nat_eq s m.session && list_any (nat_eq m.op) ops

-- ---- what an entry is that may answer no call of a session

module _ (ms : List Message) (s : ℕ) where
  -- it answers no message that the session sent
  unreplied-by : (n : ℕ) (m : Message) (actor : ℕ) (a : Act) → slice_get ms n ≡ Some m → is_sent_by s m ≡ true
      → may_answer ms s (record { actor = actor; act = a }) ≡ false
      → reply_in n (record { actor = actor; act = a }) ≡ None
  unreplied-by n m actor (act.Reply i o) there mine h = by (nat_eq n i) refl
    where
      by : (b : Bool) → nat_eq n i ≡ b → (if b then Some o else None) ≡ None
      by true is = absurd (false≢true (sym h ∙ ap (λ (g : Option Message). elim g [ None ↦ false | Some x ↦ is_sent_by s x ]) (ap (slice_get ms) (sym (eqb-true n i is)) ∙ there) ∙ mine))
      by false is = refl
  unreplied-by n m actor a there mine h = refl

  -- it does not end a session to which the session sent a message
  unended-by : (n : ℕ) (m : Message) (actor : ℕ) (a : Act) → slice_get ms n ≡ Some m → is_sent_by s m ≡ true
      → may_answer ms s (record { actor = actor; act = a }) ≡ false
      → ends m.session (record { actor = actor; act = a }) ≡ false
  unended-by n m actor act.End there mine h = by (nat_eq m.session actor) refl
    where
      by : (b : Bool) → nat_eq m.session actor ≡ b → b ≡ false
      by false is = refl
      by true is =
          absurd
          (false≢true
          (sym h
          ∙ any_there (λ (x : Message). nat_eq actor x.session && is_sent_by s x) ms n m there
          ((λ i. eq-eqb actor m.session (sym (eqb-true m.session actor is)) i && mine i))))
  unended-by n m actor a there mine h = refl

  -- it does not stop the run
  unstopped-by : (actor : ℕ) (a : Act) → may_answer ms s (record { actor = actor; act = a }) ≡ false
      → stops (record { actor = actor; act = a }) ≡ false
  unstopped-by actor act.Stop h = absurd (false≢true (sym h))
  unstopped-by actor a h = refl

  -- it brings no outcome of a call of the session
  unbrought-by : (c : Call) (actor : ℕ) (a : Act) → c.session ≡ s
      → may_answer ms s (record { actor = actor; act = a }) ≡ false
      → brought_in c (record { actor = actor; act = a }) ≡ None
  unbrought-by c actor (act.Answered t k o) own h = by (is_call t k c) refl
    where
      by : (b : Bool) → is_call t k c ≡ b → (if b then Some o else None) ≡ None
      by false is = refl
      by true is =
          let both = and_parts (nat_eq t c.session) (nat_eq k c.number) is in
          absurd (false≢true (sym h ∙ eq-eqb s t (sym own ∙ sym (eqb-true t c.session both.0))))
  unbrought-by c actor a own h = refl

-- an entry of another sends no call of the session
unsent-by : (s k actor : ℕ) (a : Act) (c : Call) → nat_eq s actor ≡ false
    → sent_in (record { actor = actor; act = a }) ≡ Some c → is_call s k c ≡ false
unsent-by s k actor (act.Send l port op v wants r) c other is =
    ap (is_call s k) (sym (same_of is)) ∙ ap (λ b. b && nat_eq k l) other
unsent-by s k actor a c other is = absurd (none-some c is)

-- ---- what an entry leaves that answers no message

module _ (w : Setting) (past : Past) (e : Entry) where
  -- a message that it does not answer has no answer where it had none
  pub answers_still : (n : ℕ) (m : Message) → reply_in n e ≡ None → ends m.session e ≡ false → stops e ≡ false
      → answers_of w past n m ≡ [] → answers_of w (then_one w past e) n m ≡ []
  answers_still n m unreplied unended unstopped none =
      nil_both (at_once w m ++ by_session w (then_one w past e) n m)
      (by_stop w (then_one w past e) m (by_session w (then_one w past e) n m))
      (nil_both (at_once w m) (by_session w (then_one w past e) n m) at-first by-it) by-none
    where
      both : at_once w m ++ by_session w past n m ≡ []
      both = front_nil (at_once w m ++ by_session w past n m) (by_stop w past m (by_session w past n m)) none

      at-first : at_once w m ≡ []
      at-first = front_nil (at_once w m) (by_session w past n m) both

      was : by_session w past n m ≡ []
      was = rest_nil (at_once w m) (by_session w past n m) both

      replies-on : replies (then_one w past e) n ≡ []
      replies-on =
          given_same w past e (reply_in n) unreplied
          ∙ front_nil (replies past n) (by_end w past n m) was

      ended-on : has_ended (then_one w past e) m.session ≡ has_ended past m.session
      ended-on =
          some_same w past e (ends m.session) unended

      left-on : by_end w (then_one w past e) n m ≡ []
      left-on =
          ap (λ q. one_if (is_request w m && q && not (was_taken (then_one w past e) n)) (outcome.Refused reason.SessionEnded))
          ended-on
          ∙ none_still (is_request w m && has_ended past m.session) (was_taken past n) (was_taken (then_one w past e) n)
          (outcome.Refused reason.SessionEnded) (taken_on w past e n)
          (rest_nil (replies past n) (by_end w past n m) was)

      by-it : by_session w (then_one w past e) n m ≡ []
      by-it = nil_both (replies (then_one w past e) n) (by_end w (then_one w past e) n m) replies-on left-on

      by-none : by_stop w (then_one w past e) m (by_session w (then_one w past e) n m) ≡ []
      by-none =
          ap (by_stop w (then_one w past e) m) by-it
          ∙ ap (λ q. one_if (is_request w m && q) (outcome.Refused reason.Stopped))
          (some_same w past e stops unstopped)
          ∙ ap (by_stop w past m) (sym was)
          ∙ rest_nil (at_once w m ++ by_session w past n m) (by_stop w past m (by_session w past n m)) none

-- ---- what an entry that brings nothing leaves

module _ (w : Setting) (past : Past) (s : ℕ) (e : Entry) (b : BringsNothing w past s e) where
  -- no message waits
  pub queue_on : (ops : List ℕ) → queue past s ops ≡ [] → queue (then_one w past e) s ops ≡ []
  queue_on ops none = go (accepted_in w past e) refl
    where
      now : numbers_without (taken (then_one w past e)) (is_for s ops) 0 past.messages ≡ []
      now =
          without_more (taken past) (taken (then_one w past e)) (is_for s ops) 0 past.messages
          (taken_on w past e) none

      go : (o : Option Message) → accepted_in w past e ≡ o
          → numbers_without (taken (then_one w past e)) (is_for s ops) 0 (with_message past.messages o) ≡ []
      go None is = now
      go (Some m) is =
          without_other (taken (then_one w past e)) (is_for s ops) 0 past.messages m
          (ap (λ q. q && list_any (nat_eq m.op) ops) (b.mail m is)) now

  -- a message that the session sent has no answer
  answers_on : (n : ℕ) (m : Message) → slice_get past.messages n ≡ Some m → is_sent_by s m ≡ true
      → answers_of w past n m ≡ [] → answers_of w (then_one w past e) n m ≡ []
  answers_on n m there mine none =
      answers_still w past e n m (unreplied-by past.messages s n m e.actor e.act there mine b.answer)
      (unended-by past.messages s n m e.actor e.act there mine b.answer)
      (unstopped-by past.messages s e.actor e.act b.answer) none

  -- its calls stay
  call_on : (k : ℕ) → call (then_one w past e) s k ≡ call past s k
  call_on k = go (sent_in e) refl
    where
      go : (o : Option Call) → sent_in e ≡ o → call (then_one w past e) s k ≡ call past s k
      go None is = ap (λ (cs : List Call). first (filter (is_call s k) cs)) (given_same w past e sent_in is)
      go (Some c) is =
          ap (λ (cs : List Call). first (filter (is_call s k) cs)) (filter_map-append sent_in past.entries (e ∷ []))
          ∙ ap first
          (filter-append (is_call s k) (calls past) (cons_option (sent_in e) [])
          ∙ ap (λ (o : Option Call). filter (is_call s k) (calls past) ++ filter (is_call s k) (cons_option o [])) is
          ∙ ap (λ q. filter (is_call s k) (calls past) ++ cond q (c ∷ []) []) (unsent-by s k e.actor e.act c b.other is)
          ∙ append-nil (filter (is_call s k) (calls past)))

  -- a call of it has no outcome
  outcome_on : (c : Call) (p : Placed) → c.session ≡ s
      → ((n : ℕ) → p ≡ at.At n → IsSent past c.session c.number n) → outcome_by w past c p ≡ None
      → outcome_by w (then_one w past e) c p ≡ None
  outcome_on c at.Out own sent none =
      ap first (given_same w past e (brought_in c) (unbrought-by past.messages s c e.actor e.act own b.answer)) ∙ none
  outcome_on c (at.Refused why) own sent none = absurd (none-some (outcome.Refused why) (sym none))
  outcome_on c (at.At n) own sent none =
      ap first
      (at-message (then_one w past e) (message_stays past.messages (accepted_in w past e) n x.message x.there)
      ∙ answers_on n x.message x.there mine (sym (at-message past x.there) ∙ first_none (answers w past n) none))
    where
      x : IsSent past c.session c.number n
      x = sent n refl

      mine : is_sent_by s x.message ≡ true
      mine =
          ap (λ (g : Origin). elim g [ origin.Port j i ↦ false | origin.Session t k ↦ nat_eq s t ]) x.from
          ∙ eq-eqb s c.session (sym own)

      at-message : (q : Past) → slice_get q.messages n ≡ Some x.message → answers w q n ≡ answers_of w q n x.message
      at-message q there =
          ap (λ (g : Option Message). elim g as (λ _. List Outcome) [ None ↦ [] | Some m ↦ answers_of w q n m ]) there

  pub result_on : AreSent past → (k : ℕ) → result w past s k ≡ None → result w (then_one w past e) s k ≡ None
  result_on sent k none =
      ap (option_and_then (λ (c : Call). outcome_by w (then_one w past e) c c.placed)) (call_on k)
      ∙ go (call past s k) refl none
    where
      go : (o : Option Call) → call past s k ≡ o → option_and_then (λ (c : Call). outcome_by w past c c.placed) o ≡ None
          → option_and_then (λ (c : Call). outcome_by w (then_one w past e) c c.placed) o ≡ None
      go None is h = refl
      go (Some c) is h =
          let f = found (is_call s k) (calls past) c is in
          outcome_on c c.placed (sym (eqb-true s c.session (and_parts (nat_eq s c.session) (nat_eq k c.number) f.is).0))
          (λ n went. sent f.place n c f.there went) h

-- after an entry that brings a session nothing, what was absent for it is
pub absent_on : (a : Seat) (h : List Entry) (e : Entry) → IsLegal a.setting h
    → BringsNothing a.setting (past_at a h) a.session e → (n : Need) → IsAbsent a h n → IsAbsent a (h ++ e ∷ []) n
absent_on a h e legal b (need.Take ops) none =
    ap (λ (p : Past). queue p a.session ops) (past_more a.setting h e)
    ∙ queue_on a.setting (past_at a h) a.session e b ops none
absent_on a h e legal b (need.Answer k) none =
    ap (λ (p : Past). result a.setting p a.session k) (past_more a.setting h e)
    ∙ result_on a.setting (past_at a h) a.session e b (calls_are_messages a.setting h legal) k none
absent_on a h e legal b n none = absurd none
