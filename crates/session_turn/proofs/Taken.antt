-- In a legal history a message that a session took is its own, and what was replied was replied by who took it.
use Rattle.std.proofs.Common.{◌≡◌, ℕ, Bool, true, false, ◌&&◌, ◌||◌, ◌⊎◌, ⊎_elim, List, [], ◌∷◌, Option, None, Some, nat_eq, slice_get, option_map, option_and_then, if◌then◌else◌, refl, sym, ap, subst, ◌∙◌, zero-add}
use Rattle.std.specs.List.{list_any, filter_map, cons_option}
use Rattle.std.proofs.lemmas.Bool.{and_parts, and_from, false≢true, or_left, or_right}
use Rattle.std.proofs.lemmas.Option.{none-some, same_Some}
use Rattle.behaviour_tree.specs.declared.words.Outcome.{Outcome}
use Rattle.office_core.specs.declared.history.Act.{Act}
use Rattle.office_core.specs.declared.history.Act.TheVariants as act
use Rattle.office_core.specs.declared.history.Entry.{Entry}
use Rattle.office_core.specs.declared.message.Message.{Message}
use Rattle.office_core.specs.Limits.{Setting}
use Rattle.office_core.specs.Past.{Past, nothing_yet, some_entry}
use Rattle.office_core.specs.Boxes.{queue, taken, taken_in, takes, took, was_taken}
use Rattle.office_core.specs.Keys.{first}
use Rattle.office_core.specs.Accepted.{accepted_in, past_of, then_all, then_one}
use Rattle.office_core.specs.Answers.{is_open, replies, reply_in}
use Rattle.office_core.specs.Legal.{AreLegal, IsLegal, is_acting, is_allowed, oldest, replied}
use Rattle.office_core.proofs.Longer.{given_same, some_now}
use Rattle.office_core.proofs.OneAnswer.{message_stays}
use Rattle.office_plain.proofs.Lists.{eq_true, itself}
use Rattle.session_turn.specs.Asking.{answers_message}
use Rattle.session_turn.proofs.Giving.{number_first}
use Rattle.session_turn.proofs.Lists.{some_last, some_stays}

-- ---- what was taken

-- a message that is there and went to session s
pub record WentTo (past : Past) (s n : ℕ) : Type 0 where
  pub message : Message
  pub there : slice_get past.messages n ≡ Some message
  pub went : nat_eq s message.session ≡ true

-- what a session took went to it
abbrev pub AreOwn : Past → Type 0
AreOwn past = (s n : ℕ) → took past s n ≡ true → WentTo past s n

went_stays : (w : Setting) (past : Past) (e : Entry) (s n : ℕ) → WentTo past s n → WentTo (then_one w past e) s n
went_stays w past e s n x = record {
  message = x.message;
  there = message_stays past.messages (accepted_in w past e) n x.message x.there;
  went = x.went;
}

-- the first of a queue went to its session
queue_went : (past : Past) (s n : ℕ) (ops : List ℕ) → first (queue past s ops) ≡ Some n → WentTo past s n
queue_went past s n ops h =
    let is_it : Message → Bool = λ m. nat_eq s m.session && list_any (nat_eq m.op) ops in
    let x = number_first (taken past) is_it 0 past.messages n (sym h) in
    record {
      message = x.message;
      there = ap (slice_get past.messages) (x.number ∙ zero-add x.place) ∙ x.there;
      went = (and_parts (nat_eq s x.message.session) (list_any (nat_eq x.message.op) ops) x.kind).0;
    }

-- a take that is answered so takes what went to its session
reply_went : (w : Setting) (past : Past) (s n : ℕ) → replied w past s (act.Take n) ≡ Some (act.Take n) → WentTo past s n
reply_went w past s n h = by (oldest past s n) refl h
  where
    number : (k : ℕ) → act.Take k ≡ act.Take n → k ≡ n
    number k e = ap (λ a. elim a as (λ _. ℕ) [ act.Take i ↦ i | _ ↦ k ]) e

    at : (o : Option Message) (k : ℕ) → option_and_then (λ (m : Message). first (queue past s (m.op ∷ []))) o ≡ Some k
        → WentTo past s k
    at None k g = absurd (none-some k g)
    at (Some m) k g = queue_went past s k (m.op ∷ []) g

    by : (o : Option ℕ) → oldest past s n ≡ o → option_map act.Take o ≡ Some (act.Take n) → WentTo past s n
    by None e g = absurd (none-some (act.Take n) g)
    by (Some k) e g =
        subst (WentTo past s) (number k (same_Some (act.Take k) (act.Take n) g)) (at (slice_get past.messages n) k e)

took_now : (w : Setting) (past : Past) (t : ℕ) (a : Act) (s n : ℕ) → replied w past t a ≡ Some a
    → takes s n (record { actor = t; act = a }) ≡ true → WentTo past s n
took_now w past t (act.Take k) s n r h =
    let both = and_parts (nat_eq s t) (nat_eq n k) h in
    subst (λ i. WentTo past i n) (sym (eq_true s t both.0))
    (subst (WentTo past t) (sym (eq_true n k both.1)) (reply_went w past t k r))
took_now w past t a s n r h = absurd (false≢true h)

own_after : (w : Setting) (past : Past) (es : List Entry) → AreLegal w past es → AreOwn past
    → AreOwn (then_all w past es)
own_after w past [] legal before = before
own_after w past (e ∷ es) legal before =
    own_after w (then_one w past e) es legal.1
    (λ s n h. went_stays w past e s n
    (⊎_elim (before s n) (took_now w past e.actor e.act s n (legal.0).reply) (some_last w past e (takes s n) h)))

-- in a legal history what a session took went to it
pub own_taken : (w : Setting) (h : List Entry) → IsLegal w h → AreOwn (past_of w h)
own_taken w h legal = own_after w nothing_yet h legal (λ s n g. absurd (false≢true g))

takes_any : (s n t : ℕ) (a : Act) (rest : List ℕ) → takes s n (record { actor = t; act = a }) ≡ true
    → list_any (nat_eq n) (cons_option (taken_in (record { actor = t; act = a })) rest) ≡ true
takes_any s n t (act.Take k) rest h =
    or_left (nat_eq n k) (list_any (nat_eq n) rest) (and_parts (nat_eq s t) (nat_eq n k) h).1
takes_any s n t a rest h = absurd (false≢true h)

passes_on : (n : ℕ) (o : Option ℕ) (rest : List ℕ) → list_any (nat_eq n) rest ≡ true
    → list_any (nat_eq n) (cons_option o rest) ≡ true
passes_on n None rest h = h
passes_on n (Some m) rest h = or_right (nat_eq n m) (list_any (nat_eq n) rest) h

took_any : (s n : ℕ) (es : List Entry) → list_any (takes s n) es ≡ true
    → list_any (nat_eq n) (filter_map taken_in es) ≡ true
took_any s n [] h = h
took_any s n (e ∷ es) h = by (takes s n e) refl h (took_any s n es)
  where
    by : (b : Bool) → takes s n e ≡ b → (b || list_any (takes s n) es) ≡ true
        → (list_any (takes s n) es ≡ true → list_any (nat_eq n) (filter_map taken_in es) ≡ true)
        → list_any (nat_eq n) (cons_option (taken_in e) (filter_map taken_in es)) ≡ true
    by true k g rest = takes_any s n e.actor e.act (filter_map taken_in es) k
    by false k g rest = passes_on n (taken_in e) (filter_map taken_in es) (rest g)

-- what a session took was taken
pub took_taken : (past : Past) (s n : ℕ) → took past s n ≡ true → was_taken past n ≡ true
took_taken past s n h = took_any s n past.entries h

-- ---- what was replied

-- a message has no reply, or one by a session that took it
pub data Replies (past : Past) (n : ℕ) : Type 0 where
  none : replies past n ≡ [] → Replies past n
  by_taker : (s : ℕ) → took past s n ≡ true → some_entry past (answers_message s n) ≡ true → Replies past n

replies_stay : (w : Setting) (past : Past) (e : Entry) (n : ℕ) → reply_in n e ≡ None → Replies past n
    → Replies (then_one w past e) n
replies_stay w past e n g (none h) = none (given_same w past e (reply_in n) g ∙ h)
replies_stay w past e n g (by_taker s t a) =
    by_taker s (some_stays w past e (takes s n) t) (some_stays w past e (answers_message s n) a)

replies_now : (w : Setting) (past : Past) (t n k : ℕ) (o : Outcome) (b : Bool) → nat_eq n k ≡ b
    → is_allowed w past t (act.Reply k o) ≡ true → Replies past n
    → Replies (then_one w past (record { actor = t; act = act.Reply k o })) n
replies_now w past t n k o false q allowed before =
    replies_stay w past (record { actor = t; act = act.Reply k o }) n (ap (λ b. if b then Some o else None) q) before
replies_now w past t n k o true q allowed before =
    let e : Entry = record { actor = t; act = act.Reply k o } in
    let front = (and_parts (is_acting w past t && took past t k) (is_open w past k) allowed).0 in
    let took_it = (and_parts (is_acting w past t) (took past t k) front).1 in
    by_taker t
    (some_stays w past e (takes t n) (subst (λ i. took past t i ≡ true) (sym (eq_true n k q)) took_it))
    (some_now w past e (answers_message t n) (and_from (nat_eq t t) (nat_eq n k) (itself t) q))

replies_by : (w : Setting) (past : Past) (t : ℕ) (a : Act) (n : ℕ) → is_allowed w past t a ≡ true → Replies past n
    → Replies (then_one w past (record { actor = t; act = a })) n
replies_by w past t (act.Reply k o) n allowed before = replies_now w past t n k o (nat_eq n k) refl allowed before
replies_by w past t a n allowed before = replies_stay w past (record { actor = t; act = a }) n refl before

replies_after : (w : Setting) (past : Past) (es : List Entry) (n : ℕ) → AreLegal w past es → Replies past n
    → Replies (then_all w past es) n
replies_after w past [] n legal before = before
replies_after w past (e ∷ es) n legal before =
    replies_after w (then_one w past e) es n legal.1 (replies_by w past e.actor e.act n (legal.0).allowed before)

-- in a legal history a message has no reply, or one by a session that took it
pub replied_by : (w : Setting) (h : List Entry) (n : ℕ) → IsLegal w h → Replies (past_of w h) n
replied_by w h n legal = replies_after w nothing_yet h n legal (none refl)
