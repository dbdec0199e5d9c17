-- What a session asks of the office, it may ask.
use Rattle.std.proofs.Common.{◌≡◌, ℕ, zero, ◌+◌, ◌≤◌, Bool, true, false, not, ◌&&◌, List, [], ◌∷◌, ◌++◌, length, Option, None, Some, is_some, option_and_then, nat_eq, count_by, refl, sym, ap, subst, ◌∙◌, arith, slice_get}
use Rattle.std.specs.List.{filter, filter_map, list_any}
use Rattle.std.proofs.lemmas.Bool.{false≢true, and_from, and_parts, eqb-true, eq-eqb}
use Rattle.std.proofs.lemmas.List.{append-nil}
use Rattle.std.proofs.lemmas.List.Sums.{length-filter}
use Rattle.jolie_trees.specs.declared.root.Root.{Root}
use Rattle.jolie_trees.specs.Data.{Tree}
use Rattle.behaviour_tree.specs.declared.words.Kind.TheVariants as kind
use Rattle.behaviour_tree.specs.declared.words.Event.{Event}
use Rattle.behaviour_tree.specs.declared.words.Need.{Need}
use Rattle.behaviour_tree.specs.declared.words.Need.TheVariants as need
use Rattle.behaviour_tree.specs.declared.words.Given.{Given}
use Rattle.behaviour_tree.specs.declared.words.Given.TheVariants as given
use Rattle.behaviour_tree.specs.declared.words.Outcome.{Outcome}
use Rattle.behaviour_tree.specs.Data.{Proc, choice, ProgramParts, behaviour_of}
use Rattle.session_calculus.specs.Start.{begin}
use Rattle.session_calculus.specs.After.{Config, Done, after, first_config}
use Rattle.session_calculus.specs.Open.{none, only, open_requests, waiting}
use Rattle.session_calculus.specs.Runs.{Leads, RunsTo, TakenStep, start_of}
use Rattle.session_calculus.specs.Laws.{AnswersAll, WaitsForAll, asks, is_asked, is_event, is_request_of, place_in, times_answered, times_asked, times_in, times_open, times_replied, times_sent, times_waiting}
use Rattle.session_laws.proofs.Answering.{answers_once, asked-cons}
use Rattle.session_laws.proofs.Asking.{asks_one_thing}
use Rattle.session_laws.proofs.Counting.{once}
use Rattle.session_laws.proofs.Fresh.{fresh-begin, fresh-held}
use Rattle.session_laws.proofs.Options.{OnValue, OnValue-all, OnValue-lift, OnValue-some}
use Rattle.session_laws.proofs.Sending.{sends_once}
use Rattle.correlation.specs.declared.bind_reply.BindReply.{BindReply}
use Rattle.correlation.specs.declared.bind_reply.BindReply.TheVariants as reply
use Rattle.office_core.specs.declared.history.Act.{Act}
use Rattle.office_core.specs.declared.history.Act.TheVariants as act
use Rattle.office_core.specs.declared.history.Entry.{Entry}
use Rattle.office_core.specs.Limits.{Setting}
use Rattle.office_core.specs.Accepted.{past_of}
use Rattle.office_core.specs.declared.message.Message.{Message}
use Rattle.office_core.specs.Past.{Past, some_entry}
use Rattle.office_core.specs.Sessions.{adopts, ends, has_ended, service_of, was_adopted}
use Rattle.office_core.specs.Boxes.{takes, took}
use Rattle.office_core.specs.Keys.{first}
use Rattle.office_core.specs.Bound.{sets_with}
use Rattle.office_core.specs.declared.message.Call.{Call}
use Rattle.office_core.specs.Calls.{call, calls, is_call, next_call, sent_in}
use Rattle.office_core.specs.Legal.{has_variable, is_wanted, takes_answer}
use Rattle.run_record.specs.Steps.{binding, gift_of, mail}
use Rattle.run_record.specs.Agrees.{IsCall}
use Rattle.session_turn.specs.Asking.{answers_message, has_response, is_at_work, is_request_to, is_to_answer, may_call, meets}
use Rattle.session_turn.specs.Laws.{MayAsk}
use Rattle.session_turn.specs.Seen.{Seat, by_session, past_at}
use Rattle.session_turn.specs.Lives.{Gives, Kept, Lives, Moment, by_call, by_event, by_other, fresh, nothing}
use Rattle.session_turn.specs.Attempts.{Asks}
use Rattle.session_turn.proofs.Fitting.{Suits, fits_gift}
use Rattle.session_turn.proofs.Formed.{AsksWell, asks_well}
use Rattle.session_turn.proofs.Histories.{entries_of, message_stays, own-answers_message, own-takes, own-takes_answer, service_stays, some_of}
use Rattle.session_turn.proofs.Looking.{same_some, stands}
use Rattle.session_turn.proofs.Matching.{at_kind, matches-answered, matches-replied, matches-taken, step_of}
use Rattle.session_turn.proofs.Sent.{is_of, next_here, sent, wants_first, wants_here}
use Rattle.session_turn.proofs.Telling.{Draws, IsTold, Tells, is_told}
use Rattle.session_turn.proofs.Walking.{born_here, comes_once, count-last, count-no, count-yes, has_ended_here, leads, leads-on, matched, none-counts, not-ended, some-counts, steps, was_adopted_here}

-- ---- where a session begins

-- nothing waits there, nothing is open, and no call was sent
record Begins (c : Config) : Type 0 where
  pub call : c.call ≡ 0
  pub waits : waiting c.form ≡ []
  pub opens : open_requests c.form ≡ []

begins : (parts : ProgramParts) (service : ℕ) (from : Config) → start_of parts service ≡ Some from → Begins from
begins parts service from e =
    let found = slice_get parts.services service in
    OnValue-some Begins (start_of parts service) from e
    (OnValue-lift (λ s. Unit {0}) Begins (λ s. first_config (behaviour_of s)) found
    (λ s u. record {
      call = refl;
      waits = fresh-held none only (begin (behaviour_of s) 1).form (fresh-begin (behaviour_of s) 1);
      opens = fresh-held only none (begin (behaviour_of s) 1).form (fresh-begin (behaviour_of s) 1);
    })
    (OnValue-all (λ s. Unit {0}) found (λ s. tt)))

-- ---- at work

not-false : (b : Bool) → (b ≡ true → ⊥) → not b ≡ true
not-false true h = absurd (h refl)
not-false false h = refl

work_here : {a : Seat} {service : ℕ} {from : Config} {h : List Entry} {es : List Event} {c : Config}
    → Lives a service from h es c → (c.ended ≡ true → ⊥)
    → is_at_work (past_at a h) a.session ≡ true
work_here {a} {h = h} l going =
    and_from (was_adopted (past_at a h) a.session) (not (has_ended (past_at a h) a.session))
    (some_of a.setting h (adopts a.session) ∙ was_adopted_here l)
    (not-false (has_ended (past_at a h) a.session) (λ t. going (has_ended_here l (sym (some_of a.setting h (ends a.session)) ∙ t))))

-- ---- requests

asks-nothing : (m : ℕ) (p : Option Proc) → asks m p given.Nothing ≡ false
asks-nothing m None = refl
asks-nothing m (Some (choice bs)) = refl
asks-nothing m (Some p) = refl

first-sum : (all x y : ℕ) → all ≡ x + 0 → x ≡ y → all ≡ 0 + y
first-sum all x y e f = omega (arith, e, f)

rest-sum : (all before first later rest last : ℕ) → all ≡ first + later → before ≡ first + rest → later ≡ rest + last
    → all ≡ before + last
rest-sum all before first later rest last e f g = omega (arith, e, f, g)

-- the requests of one step more
asked-last : (parts : ProgramParts) (service m : ℕ) (from : Config) (xs : List TakenStep) (here : Config) (x : TakenStep)
    (d : Done)
    → Leads parts service from xs here → after parts service here x.event.strand x.gift ≡ Some d
    → times_asked parts service m from (xs ++ x ∷ []) ≡ times_asked parts service m from xs + once (is_asked m here x)
asked-last parts service m from [] here x d l e =
    let e' : after parts service from x.event.strand x.gift ≡ Some d
    = subst (λ (c : Config). after parts service c x.event.strand x.gift ≡ Some d) (sym l) e in
    first-sum (times_asked parts service m from (x ∷ [])) (once (is_asked m from x)) (once (is_asked m here x))
    (asked-cons parts service m from x [] d e')
    (ap (λ (c : Config). once (is_asked m c x)) l)
asked-last parts service m from (y ∷ xs) here x d l e =
    rest-sum (times_asked parts service m from (y ∷ (xs ++ x ∷ []))) (times_asked parts service m from (y ∷ xs))
    (once (is_asked m from y)) (times_asked parts service m l.0.config (xs ++ x ∷ []))
    (times_asked parts service m l.0.config xs) (once (is_asked m here x))
    (asked-cons parts service m from y (xs ++ x ∷ []) l.0 l.1) (asked-cons parts service m from y xs l.0 l.1)
    (asked-last parts service m l.0.config xs here x d l.3 e)

-- a request stays one
request-from : (w : Setting) (past : Past) (s n d : ℕ) (m : Message) → slice_get past.messages n ≡ Some m
    → service_of w past s ≡ Some d → is_request_to w past s n ≡ has_response w d m.op
request-from w past s n d m e f =
    ap (λ (o : Option Message). elim o as (λ _. Bool) [
      | None ↦ false
      | Some x ↦ elim (service_of w past s) as (λ _. Bool) [ None ↦ false | Some i ↦ has_response w i x.op ]
    ]) e
    ∙ ap (λ (o : Option ℕ). elim o as (λ _. Bool) [ None ↦ false | Some i ↦ has_response w i m.op ]) f

request-on : (w : Setting) (h : List Entry) (e : Entry) (s n d : ℕ) → service_of w (past_of w h) s ≡ Some d
    → is_request_to w (past_of w h) s n ≡ true
    → is_request_to w (past_of w (h ++ e ∷ [])) s n ≡ true
request-on w h e s n d f t = go (slice_get (past_of w h).messages n) refl
  where
    go : (o : Option Message) → slice_get (past_of w h).messages n ≡ o → is_request_to w (past_of w (h ++ e ∷ [])) s n ≡ true
    go (Some m) q =
        request-from w (past_of w (h ++ e ∷ [])) s n d m (message_stays w h e n m q) (service_stays w h e s d f)
        ∙ sym (request-from w (past_of w h) s n d m q f) ∙ t
    go None q =
        absurd (false≢true (sym (ap (λ (o : Option Message). elim o as (λ _. Bool) [
          | None ↦ false
          | Some x ↦ elim (service_of w (past_of w h) s) as (λ _. Bool) [ None ↦ false | Some i ↦ has_response w i x.op ]
        ]) q) ∙ t))

-- a message that is asked for as a request came in by a call that takes it
no-mail : (m o : ℕ) (v : Tree) → given.Nothing ≡ given.Mail m o v → ⊥
no-mail m o v e = cc

no-answer : (m o : ℕ) (v : Tree) (x : Outcome) → given.Answer x ≡ given.Mail m o v → ⊥
no-answer m o v x e = cc

no-binding : (m o : ℕ) (v : Tree) (r : BindReply) → binding r ≡ given.Mail m o v → ⊥
no-binding m o v reply.Bound e = cc
no-binding m o v (reply.Held s) e = cc
no-binding m o v reply.Fixed e = cc

-- what a mail is of
record IsMail (ms : List Message) (m o : ℕ) : Type 0 where
  pub message : Message
  pub there : slice_get ms m ≡ Some message
  pub op : message.op ≡ o

mail-is : (ms : List Message) (i m o : ℕ) (v : Tree) (x : Option Message) → slice_get ms i ≡ x → mail i x ≡ given.Mail m o v
    → IsMail ms m o
mail-is ms i m o v None q e = absurd (no-mail m o v e)
mail-is ms i m o v (Some x) q e =
    let number : i ≡ m = same-number e in
    record {
      message = x;
      there = subst (λ (n : ℕ). slice_get ms n ≡ Some x) number q;
      op = same-op e;
    }
  where
    same-number : given.Mail i x.op x.value ≡ given.Mail m o v → i ≡ m
    same-number e = cc

    same-op : given.Mail i x.op x.value ≡ given.Mail m o v → x.op ≡ o
    same-op e = cc

mail-call : (s : ℕ) (past : Past) (n : Need) (call : Act) (m o : ℕ) (v : Tree) → IsCall s n past call
    → gift_of (record { before = past; act = call }) ≡ given.Mail m o v
    → IsMail past.messages m o
mail-call s past (need.Take ops) (act.Take i) m o v c e =
    mail-is past.messages i m o v (slice_get past.messages i) refl e
mail-call s past (need.Answer k) (act.Answer l q) m o v c e = absurd (no-answer m o v q e)
mail-call s past (need.Bind u x) (act.Bind y z r) m o v c e = absurd (no-binding m o v r e)
mail-call s past (need.Reply i q) (act.Reply l p) m o v c e = absurd (no-mail m o v e)
mail-call s past (need.Send k port op x w) (act.Send l q p u w' r) m o v c e = absurd (no-mail m o v e)
mail-call s past need.Finish act.End m o v c e = absurd (no-mail m o v e)
mail-call s past n call m o v c e = absurd c

mail-given : {a : Seat} {h : List Entry} {n : Need} {g : Given} {own : List Entry} (m o : ℕ) (v : Tree) → Gives a h n g own
    → g ≡ given.Mail m o v
    → IsMail (past_at a h).messages m o
mail-given m o v nothing e = absurd (no-mail m o v e)
mail-given {a} {h} m o v (by_call n g call k) e = mail-call a.session (past_at a h) n call m o v k.is_call (k.gives ∙ e)

-- the entries of an event keep a request
request-own : {a : Seat} {h : List Entry} {n : Need} {g : Given} {own : List Entry} (i d : ℕ) → Gives a h n g own
    → service_of a.setting (past_at a h) a.session ≡ Some d
    → is_request_to a.setting (past_at a h) a.session i ≡ true
    → is_request_to a.setting (past_at a (h ++ own)) a.session i ≡ true
request-own {a} {h} i d nothing f t =
    subst (λ (x : List Entry). is_request_to a.setting (past_at a x) a.session i ≡ true) (sym (append-nil h)) t
request-own {a} {h} i d (by_call n g call k) f t = request-on a.setting h (by_session a call) a.session i d f t

-- a message that comes as a request is one
asked-request : (w : Setting) (service : ℕ) → AsksWell w service → (xs : List TakenStep) (c : Config) (g : Given) (d : Done)
    (s m : ℕ) (past : Past)
    → RunsTo w.parts service xs c → after w.parts service c d.event.strand g ≡ Some d
    → service_of w past s ≡ Some service
    → ((i o : ℕ) (v : Tree) → g ≡ given.Mail i o v → IsMail past.messages i o)
    → is_asked m c (step_of d.event g) ≡ true
    → is_request_to w past s m ≡ true
asked-request w service well xs c (given.Mail i o v) d s m past run e born mails t =
    let it = mails i o v refl in
    let same : m ≡ i = eqb-true m i (number (place_in d.event.strand 0 c.form) t) in
    let answers = well.requests xs c d.event.strand d i o v run e
    (subst (λ (n : ℕ). is_asked n c (step_of d.event (given.Mail i o v)) ≡ true) same t) in
    subst (λ (n : ℕ). is_request_to w past s n ≡ true) (sym same)
    (request-from w past s i service it.message it.there born ∙ ap (has_response w service) it.op ∙ answers)
  where
    number : (p : Option Proc) → asks m p (given.Mail i o v) ≡ true → nat_eq m i ≡ true
    number None t = absurd (false≢true t)
    number (Some (choice bs)) t = (and_parts (is_request_of o bs) (nat_eq m i) t).1
    number (Some p) t = absurd (false≢true t)
asked-request w service well xs c given.Nothing d s m past run e born mails t =
    absurd (false≢true (sym (asks-nothing m (place_in d.event.strand 0 c.form)) ∙ t))
asked-request w service well xs c (given.Answer o) d s m past run e born mails t =
    absurd (false≢true (sym (asks-none (place_in d.event.strand 0 c.form)) ∙ t))
  where
    asks-none : (p : Option Proc) → asks m p (given.Answer o) ≡ false
    asks-none None = refl
    asks-none (Some (choice bs)) = refl
    asks-none (Some p) = refl
asked-request w service well xs c given.Bound d s m past run e born mails t =
    absurd (false≢true (sym (asks-none (place_in d.event.strand 0 c.form)) ∙ t))
  where
    asks-none : (p : Option Proc) → asks m p given.Bound ≡ false
    asks-none None = refl
    asks-none (Some (choice bs)) = refl
    asks-none (Some p) = refl
asked-request w service well xs c (given.Held i) d s m past run e born mails t =
    absurd (false≢true (sym (asks-none (place_in d.event.strand 0 c.form)) ∙ t))
  where
    asks-none : (p : Option Proc) → asks m p (given.Held i) ≡ false
    asks-none None = refl
    asks-none (Some (choice bs)) = refl
    asks-none (Some p) = refl
asked-request w service well xs c given.Fixed d s m past run e born mails t =
    absurd (false≢true (sym (asks-none (place_in d.event.strand 0 c.form)) ∙ t))
  where
    asks-none : (p : Option Proc) → asks m p given.Fixed ≡ false
    asks-none None = refl
    asks-none (Some (choice bs)) = refl
    asks-none (Some p) = refl

request-last : (before all : ℕ) (b is_it : Bool) → all ≡ before + once b → 1 ≤ all → (1 ≤ before → is_it ≡ true)
    → (b ≡ true → is_it ≡ true)
    → is_it ≡ true
request-last before all true is_it e f was now = now refl
request-last before all false is_it e f was now = was (omega (arith, e, f))

requests_here : {a : Seat} {service : ℕ} {from : Config} {h : List Entry} {es : List Event} {c : Config}
    → AsksWell a.setting service → start_of a.setting.parts service ≡ Some from
    → (l : Lives a service from h es c) → (m : ℕ) → 1 ≤ times_asked a.setting.parts service m from (steps l)
    → is_request_to a.setting (past_at a h) a.session m ≡ true
requests_here well start (fresh h f) m t = absurd (omega (arith, t))
requests_here {a} {service} well start (by_other h es c e l k) m t =
    request-on a.setting h e a.session m service (born_here l) (requests_here well start l m t)
requests_here {a} {service} {from} well start (by_event h es c g d own l e k) m t =
    request-own m service k (born_here l)
    (request-last (times_asked a.setting.parts service m from (steps l))
    (times_asked a.setting.parts service m from (steps l ++ step_of d.event g ∷ []))
    (is_asked m c (step_of d.event g)) (is_request_to a.setting (past_at a h) a.session m)
    (asked-last a.setting.parts service m from (steps l) c (step_of d.event g) d (leads l) e)
    t
    (requests_here well start l m)
    (asked-request a.setting service well (steps l) c g d a.session m (past_at a h) (from, start, leads l) e (born_here l)
    (λ i o v r. mail-given i o v k r)))

-- ---- what an event asks, the session may ask

zero-one : (n : ℕ) → n ≡ 0 → 1 ≤ n → ⊥
zero-one n e h = omega (arith, e, h)

-- counts that are there are found
count-some : {X : Type 0} (f : X → Bool) (xs : List X) → 1 ≤ count_by f xs → list_any f xs ≡ true
count-some f xs h = go (list_any f xs) refl
  where
    go : (b : Bool) → list_any f xs ≡ b → b ≡ true
    go true e = refl
    go false e = absurd (zero-one (count_by f xs) (none-counts f xs e) h)

count-none : {X : Type 0} (f : X → Bool) (xs : List X) → count_by f xs ≡ 0 → list_any f xs ≡ false
count-none f xs h = go (list_any f xs) refl
  where
    go : (b : Bool) → list_any f xs ≡ b → b ≡ false
    go false e = refl
    go true e = absurd (zero-one (count_by f xs) h (some-counts f xs e))

not-true : (b : Bool) → b ≡ false → not b ≡ true
not-true b e = ap not e

-- how the counts of answers and of calls stand where one more is answered
answer-sums : (answered-all answered sent-all sent-before waits waits-from : ℕ)
    → answered-all + waits ≡ sent-all + waits-from → answered-all ≡ answered + 1 → sent-all ≡ sent-before → waits-from ≡ 0
    → sent-all ≤ 1
    → (1 ≤ sent-before) × (answered ≡ 0)
answer-sums answered-all answered sent-all sent-before waits waits-from e f g h k =
    (omega (arith, e, f, g, h, k), omega (arith, e, f, g, h, k))

-- how those of messages and replies stand where one more is answered
reply-sums : (replied-all replied opens in-all in-before : ℕ)
    → replied-all + opens ≤ in-all → replied-all ≡ replied + 1 → in-all ≡ in-before → in-before ≤ 1
    → (1 ≤ in-before) × (replied ≡ 0)
reply-sums replied-all replied opens in-all in-before e f g h = (omega (arith, e, f, g, h), omega (arith, e, f, g, h))

-- and those of requests
request-sums : (replied-all replied opens asked-all asked-before last opens-from : ℕ)
    → replied-all + opens ≡ asked-all + opens-from → replied-all ≡ replied + 1 → asked-all ≡ asked-before + last → last ≡ 0
    → opens-from ≡ 0
    → 1 ≤ asked-before
request-sums replied-all replied opens asked-all asked-before last opens-from e f g h k = omega (arith, e, f, g, h, k)

-- where the next event of a session asks something
record Next (a : Seat) (service : ℕ) (from : Config) (h : List Entry) (es : List Event) (c : Config) (asked : Need) : Type 0 where
  pub start : start_of a.setting.parts service ≡ Some from
  pub lives : Lives a service from h es c
  pub gift : Given
  pub done : Done
  pub is : after a.setting.parts service c done.event.strand gift ≡ Some done
  pub asks : done.need ≡ asked

first-wants : (xs : List Call)
    → ◌≡◌ {A = Bool} (elim (first xs) [ None ↦ false | Some y ↦ y.wants ]) (wants_first xs)
first-wants [] = refl
first-wants (y ∷ ys) = refl

module _ {a : Seat} {service : ℕ} {from : Config} {h : List Entry} {es : List Event} {c : Config} where
  -- the steps, with that event
  abbrev all_steps : {asked : Need} → Next a service from h es c asked → List TakenStep
  all_steps x = steps x.lives ++ step_of x.done.event x.gift ∷ []

  told_next : {asked : Need} → (x : Next a service from h es c asked) → IsTold c x.done.event.strand x.gift x.done
  told_next x = is_told a.setting.parts service c x.done.event.strand x.gift x.done x.is

  all_leads : {asked : Need} → (x : Next a service from h es c asked)
      → Leads a.setting.parts service from (all_steps x) x.done.config
  all_leads x =
      leads-on a.setting.parts service from (steps x.lives) c (step_of x.done.event x.gift) x.done (leads x.lives) x.is refl

  -- a call has the next number
  send_next : {k port op : ℕ} {v : Tree} {w : Bool} → Next a service from h es c (need.Send k port op v w)
      → nat_eq k (next_call (past_at a h) a.session) ≡ true
  send_next {k} {port} {op} {v} {w} x =
      let draws : Draws c.call (need.Send k port op v w) x.done.config.call
      = subst (λ (n : Need). Draws c.call n x.done.config.call) x.asks (told_next x).draws in
      let next : next_call (past_at a h) a.session ≡ c.call
      = ap (λ (es : List Entry). length (filter (λ y. nat_eq a.session y.session) (filter_map sent_in es))) (entries_of a.setting h)
      ∙ length-filter (is_of a.session) (sent h)
      ∙ next_here (begins a.setting.parts service from x.start).call x.lives in
      eq-eqb k (next_call (past_at a h) a.session) (draws.0 ∙ sym next)

  -- a call whose answer is asked for wants one
  answer_next : WaitsForAll → {k : ℕ} → Next a service from h es c (need.Answer k)
      → is_wanted (past_at a h) a.session k ≡ true
  answer_next waits {k} x =
      let tells : Tells x.gift x.done.event (need.Answer k)
      = subst (λ (n : Need). Tells x.gift x.done.event n) x.asks (told_next x).tells in
      let s = step_of x.done.event x.gift in
      let is : at_kind kind.Answer x.done.event.kind (nat_eq k x.done.event.number) ≡ true
      = ap (λ j. at_kind kind.Answer j (nat_eq k x.done.event.number)) tells.0
      ∙ eq-eqb k x.done.event.number (sym tells.1) in
      let not-sent : at_kind kind.Solicit x.done.event.kind (nat_eq k x.done.event.number) ≡ false
      = ap (λ j. at_kind kind.Solicit j (nat_eq k x.done.event.number)) tells.0 in
      let answered : times_answered k (all_steps x) ≡ times_answered k (steps x.lives) + 1
      = count-last (is_event kind.Answer k) (steps x.lives) s ∙ count-yes (times_answered k (steps x.lives)) _ is in
      let sending : times_sent k (all_steps x) ≡ times_sent k (steps x.lives)
      = count-last (is_event kind.Solicit k) (steps x.lives) s ∙ count-no (times_sent k (steps x.lives)) _ not-sent in
      let quiet : times_waiting k from.form ≡ 0
      = ap (λ (ns : List ℕ). count_by (nat_eq k) ns) (begins a.setting.parts service from x.start).waits in
      let sums = answer-sums (times_answered k (all_steps x)) (times_answered k (steps x.lives)) (times_sent k (all_steps x))
      (times_sent k (steps x.lives)) (times_waiting k x.done.config.form) (times_waiting k from.form)
      (waits a.setting.parts service (all_steps x) from x.done.config (all_leads x) k) answered sending quiet
      (sends_once a.setting.parts service (all_steps x) from x.done.config (all_leads x) k).0 in
      let no-take : some_entry (past_at a h) (takes_answer a.session k) ≡ false
      = some_of a.setting h (takes_answer a.session k)
      ∙ matched (matches-answered a.session k) (own-takes_answer a.session k) x.lives
      ∙ count-none (is_event kind.Answer k) (steps x.lives) sums.1 in
      let wanted = wants_here x.lives k
      (count-some (is_event kind.Solicit k) (steps x.lives) sums.0) in
      let calls-are : call (past_at a h) a.session k ≡ first (filter (is_call a.session k) (sent h))
      = ap (λ (es : List Entry). first (filter (is_call a.session k) (filter_map sent_in es))) (entries_of a.setting h) in
      and_from (not (some_entry (past_at a h) (takes_answer a.session k)))
      (elim (call (past_at a h) a.session k) [ None ↦ false | Some y ↦ y.wants ])
      (not-true (some_entry (past_at a h) (takes_answer a.session k)) no-take)
      (ap (λ (o : Option Call). elim o as (λ _. Bool) [ None ↦ false | Some y ↦ y.wants ]) calls-are
      ∙ first-wants (filter (is_call a.session k) (sent h)) ∙ wanted)

  -- the event that answers message m
  replies-now : {m : ℕ} {o : Outcome} → (x : Next a service from h es c (need.Reply m o))
      → (x.done.event.kind ≡ kind.Reply) × (x.done.event.number ≡ m)
  replies-now {m} {o} x = subst (λ (n : Need). Tells x.gift x.done.event n) x.asks (told_next x).tells

  -- no message comes in by it
  in-last : {m : ℕ} {o : Outcome} → (x : Next a service from h es c (need.Reply m o)) → (i : ℕ)
      → times_in i (all_steps x) ≡ times_in i (steps x.lives)
  in-last x i =
      count-last (is_event kind.In i) (steps x.lives) (step_of x.done.event x.gift)
      ∙ count-no (times_in i (steps x.lives)) _
      (ap (λ j. at_kind kind.In j (nat_eq i x.done.event.number)) (replies-now x).0)

  -- and one more is answered
  replied-last : {m : ℕ} {o : Outcome} → (x : Next a service from h es c (need.Reply m o))
      → times_replied m (all_steps x) ≡ times_replied m (steps x.lives) + 1
  replied-last {m} x =
      count-last (is_event kind.Reply m) (steps x.lives) (step_of x.done.event x.gift)
      ∙ count-yes (times_replied m (steps x.lives)) _
      (ap (λ j. at_kind kind.Reply j (nat_eq m x.done.event.number)) (replies-now x).0
      ∙ eq-eqb m x.done.event.number (sym (replies-now x).1))

  -- so the message came in, and was not answered
  came-unanswered : AnswersAll → {m : ℕ} {o : Outcome} → (x : Next a service from h es c (need.Reply m o))
      → (1 ≤ times_in m (steps x.lives)) × (times_replied m (steps x.lives) ≡ 0)
  came-unanswered all {m} x =
      reply-sums (times_replied m (all_steps x)) (times_replied m (steps x.lives)) (times_open m x.done.config.form)
      (times_in m (all_steps x)) (times_in m (steps x.lives))
      (answers_once all a.setting.parts service (all_steps x) x.done.config (from, x.start, all_leads x)
      (λ i. subst (λ (n : ℕ). n ≤ 1) (sym (in-last x i)) (comes_once x.lives i)) m)
      (replied-last x) (in-last x m) (comes_once x.lives m)

  -- and it came as a request
  came-asked : AnswersAll → {m : ℕ} {o : Outcome} → (x : Next a service from h es c (need.Reply m o))
      → x.gift ≡ given.Nothing
      → 1 ≤ times_asked a.setting.parts service m from (steps x.lives)
  came-asked all {m} x ungiven =
      let s = step_of x.done.event x.gift in
      let parts = a.setting.parts in
      let place = place_in x.done.event.strand 0 c.form in
      request-sums (times_replied m (all_steps x)) (times_replied m (steps x.lives)) (times_open m x.done.config.form)
      (times_asked parts service m from (all_steps x)) (times_asked parts service m from (steps x.lives))
      (once (is_asked m c s)) (times_open m from.form)
      (all parts service (all_steps x) from x.done.config (all_leads x) m) (replied-last x)
      (asked-last parts service m from (steps x.lives) c s x.done (leads x.lives) x.is)
      (ap once (ap (asks m place) ungiven ∙ asks-nothing m place))
      (ap (λ (ns : List ℕ). count_by (nat_eq m) ns) (begins parts service from x.start).opens)

  -- a request that is answered was taken, and was not answered
  reply_next : AnswersAll → AsksWell a.setting service → {m : ℕ} {o : Outcome}
      → (x : Next a service from h es c (need.Reply m o)) → x.gift ≡ given.Nothing
      → is_to_answer a.setting (past_at a h) a.session m ≡ true
  reply_next all well {m} {o} x ungiven =
      let sums = came-unanswered all x in
      let was-taken : took (past_at a h) a.session m ≡ true
      = some_of a.setting h (takes a.session m)
      ∙ matched (matches-taken a.session m) (own-takes a.session m) x.lives
      ∙ count-some (is_event kind.In m) (steps x.lives) sums.0 in
      let no-reply : some_entry (past_at a h) (answers_message a.session m) ≡ false
      = some_of a.setting h (answers_message a.session m)
      ∙ matched (matches-replied a.session m) (own-answers_message a.session m) x.lives
      ∙ count-none (is_event kind.Reply m) (steps x.lives) sums.1 in
      and_from (took (past_at a h) a.session m && not (some_entry (past_at a h) (answers_message a.session m)))
      (is_request_to a.setting (past_at a h) a.session m)
      (and_from (took (past_at a h) a.session m) (not (some_entry (past_at a h) (answers_message a.session m))) was-taken
      (not-true (some_entry (past_at a h) (answers_message a.session m)) no-reply))
      (requests_here well x.start x.lives m (came-asked all x ungiven))

  -- a variable that is bound is one of the service
  bind_next : AsksWell a.setting service → {v : ℕ} {y : Root} → (x : Next a service from h es c (need.Bind v y))
      → has_variable a.setting (past_at a h) a.session v ≡ true
  bind_next well {v} {y} x =
      ap (λ (o : Option ℕ). is_some (option_and_then (λ d. first (sets_with a.setting d v)) o)) (born_here x.lives)
      ∙ well.variables (steps x.lives) c x.done.event.strand x.gift x.done v y (from, x.start, leads x.lives) x.is x.asks

-- a value that is there
there : (o : Option Done) → is_some o ≡ true → (d : Done) × (o ≡ Some d)
there None e = absurd (false≢true e)
there (Some d) e = (d, refl)

module _ {a : Seat} {es : List Event} {now : Moment} {n : ℕ} {asked : Need} where
  -- the next event, for a gift that it has
  next_for : (k : Kept a es now) → (x : Asks (stands a now) n asked) → (g : Given) (d : Done)
      → after a.setting.parts now.service x.config n g ≡ Some d
      → Next a now.service k.from now.seen es x.config asked
  next_for k x g d e = record {
    start = k.start;
    lives = subst (λ (c : Config). Lives a now.service k.from now.seen es c) (same_some (sym k.at ∙ x.at)) k.lives;
    gift = g;
    done = d;
    is = subst (λ (i : ℕ). after a.setting.parts now.service x.config i g ≡ Some d)
        (sym (is_told a.setting.parts now.service x.config n g d e).strand) e;
    asks = x.each g d e;
  }

-- what the call asks beside that
meets_now : AnswersAll → WaitsForAll → {a : Seat} {es : List Event} {now : Moment} {n : ℕ} (asked : Need)
    → AsksWell a.setting now.service → Kept a es now → Asks (stands a now) n asked
    → meets a.setting (past_at a now.seen) a.session asked ≡ true
unfolding next_for
meets_now all waits need.Nothing well k x = refl
meets_now all waits (need.Take ops) well k x = refl
meets_now all waits need.Finish well k x = refl
meets_now all waits (need.Answer i) well k x =
    answer_next waits (next_for k x x.enabled.0 x.enabled.1 x.enabled.2)
meets_now all waits (need.Bind v y) well k x = bind_next well (next_for k x x.enabled.0 x.enabled.1 x.enabled.2)
meets_now all waits (need.Send i port op v w) well k x = send_next (next_for k x x.enabled.0 x.enabled.1 x.enabled.2)
meets_now all waits {a} {now = now} {n} (need.Reply m o) well k x =
    let g = x.enabled.0 in
    let d = x.enabled.1 in
    let e = x.enabled.2 in
    let suits : Suits d.need given.Nothing = subst (λ y. Suits y given.Nothing) (sym (x.each g d e)) tt in
    let ungiven = there (after a.setting.parts now.service x.config n given.Nothing)
    (fits_gift a.setting.parts now.service x.config n g d e given.Nothing suits) in
    reply_next all well (next_for k x given.Nothing ungiven.0 ungiven.1) refl

-- so the session may ask it
pub may_ask : AnswersAll → WaitsForAll → {a : Seat} {now : Moment} {n : ℕ} {asked : Need} (es : List Event)
    → AsksWell a.setting now.service → Kept a es now → Asks (stands a now) n asked
    → may_call a now.seen asked ≡ true
may_ask all waits {a} {now} {n} {asked} es well k x =
    let next = next_for k x x.enabled.0 x.enabled.1 x.enabled.2 in
    and_from (is_at_work (past_at a now.seen) a.session) (meets a.setting (past_at a now.seen) a.session asked)
    (work_here next.lives (not-ended x.config.ended _ x.enabled.1 x.enabled.2))
    (meets_now all waits asked well k x)

-- the same of an event, for some gift
pub may_ask_next : AnswersAll → WaitsForAll → MayAsk
may_ask_next all waits a es now c n g d well k at e =
    let x : Asks (stands a now) n d.need
    = record {
      config = c;
      at = at;
      enabled = (g, d, e);
      each = λ g' d' e'. asks_one_thing a.setting.parts now.service c n g' g d' d e' e;
    } in
    may_ask all waits es (asks_well a.setting now.service well) k x
