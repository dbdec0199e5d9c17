-- A post that was accepted has the number of its message, which came in at a port; its answer can be collected once.
use Rattle.std.proofs.Common.{◌≡◌, ℕ, Bool, true, false, not, ◌&&◌, ◌||◌, List, [], ◌∷◌, ◌++◌}
use Rattle.std.proofs.Common.{length, refl, sym, ap, subst, ◌∙◌, Option, None, Some, option_and_then}
use Rattle.std.proofs.Common.{true≢false}
use Rattle.std.specs.Prelude.{nat_eq, slice_get, if◌then◌else◌, is_some}
use Rattle.std.specs.List.{list_all, list_any, cons_option}
use Rattle.reqresp_book.specs.declared.origin.Origin.TheVariants as origin
use Rattle.behaviour_tree.specs.declared.words.Outcome.{Outcome}
use Rattle.behaviour_tree.specs.declared.words.Reason.{Reason}
use Rattle.behaviour_tree.specs.declared.words.Reason.TheVariants as reason
use Rattle.office_core.specs.declared.history.Act.{Act}
use Rattle.office_core.specs.declared.history.Act.TheVariants as act
use Rattle.office_core.specs.declared.history.Entry.{Entry}
use Rattle.office_core.specs.declared.message.Message.{Message}
use Rattle.office_core.specs.declared.post.Posted.{Posted}
use Rattle.office_core.specs.declared.post.PostReply.{PostReply}
use Rattle.office_core.specs.declared.post.PostReply.TheVariants as answer
use Rattle.office_core.specs.Limits.{Setting, first_worker}
use Rattle.office_core.specs.Past.{Past, nothing_yet, some_entry, is_running}
use Rattle.office_core.specs.Route.{Way, to_session, to_new, refused_for, Asked, asked_of, route, post_reply, is_full}
use Rattle.office_core.specs.Route.{admitted}
use Rattle.office_core.specs.Accepted.{message_on, accepted_in, then_one, past_of}
use Rattle.office_core.specs.Legal.{is_allowed, collects, posts_as, is_from_port, is_collectable, IsLegalEntry, IsLegal}
use Rattle.office_core.proofs.Longer.{some_more, some_same, messages_more}
use Rattle.office_core.proofs.OneAnswer.{message_stays}
use Rattle.run_record.specs.Order.{message_in, messages_for}
use Rattle.run_order_laws.specs.Uncollected.{IsUncollected, AreUncollected}
use Rattle.run_order_laws.proofs.Lists.{left_true, right_true, both_true, true_left, true_right, false_left, false_right}
use Rattle.run_order_laws.proofs.Lists.{eq_true, itself, same_of, all_append}
use Rattle.run_order_laws.proofs.Lists.{all_weaker, given_append, turned, there}
use Rattle.run_order_laws.proofs.Growing.{kept_by_all}

-- ---- the message of a post

-- a post by an actor
abbrev pub posting_entry : ℕ → ℕ × ℕ → Posted → PostReply → Entry
posting_entry actor ji q r = record { actor = actor; act = act.Post ji.0 ji.1 q r }

-- The message that a post was accepted as: the next one, which came in at a port.
pub record IsMessage (w : Setting) (past : Past) (e : Entry) (n : ℕ) : Type 0 where
  pub message : Message
  pub accepted : accepted_in w past e ≡ Some message
  pub number : n ≡ length past.messages
  pub port : is_from_port message ≡ true

on_way : (w : Setting) (past : Past) (j i : ℕ) (q : Posted) (n : ℕ) (a : Asked) (way : Way)
    → asked_of w q ≡ Some a → route w past q ≡ way → post_reply past way ≡ answer.Accepted n
    → IsMessage w past (posting_entry first_worker (j, i) q (answer.Accepted n)) n
on_way w past j i q n a (to_session s) asked goes r = record {
  message = _;
  accepted =
      ap (option_and_then (λ b. message_on w past (origin.Port j i) b (route w past q))) asked
      ∙ ap (message_on w past (origin.Port j i) a) goes;
  number = sym (ap (λ p. elim p [ answer.Accepted k ↦ k | answer.Refused why ↦ n ]) r);
  port = refl;
}
on_way w past j i q n a to_new asked goes r = record {
  message = _;
  accepted =
      ap (option_and_then (λ b. message_on w past (origin.Port j i) b (route w past q))) asked
      ∙ ap (message_on w past (origin.Port j i) a) goes;
  number = sym (ap (λ p. elim p [ answer.Accepted k ↦ k | answer.Refused why ↦ n ]) r);
  port = refl;
}
on_way w past j i q n a (refused_for why) asked goes r =
    absurd (true≢false (ap (λ p. elim p [ answer.Accepted k ↦ false | answer.Refused reason ↦ true ]) r))

refused_unasked : (w : Setting) (past : Past) (q : Posted) (n : ℕ) (b : Bool) → is_full w past q.value ≡ b
    → asked_of w q ≡ None → post_reply past (route w past q) ≡ answer.Accepted n → ⊥
refused_unasked w past q n b full none r =
    by b
    (sym
    (ap (λ o. elim (is_full w past q.value) [ true ↦ refused_for reason.RunFull | false ↦ admitted w past o ]) none
    ∙ ap (λ c. elim c [ true ↦ refused_for reason.RunFull | false ↦ refused_for reason.UnknownOperation ]) full))
  where
    never : (why : Reason) → route w past q ≡ refused_for why → ⊥
    never why e =
        true≢false
        (ap (λ p. elim p [ answer.Accepted k ↦ false | answer.Refused x ↦ true ]) (sym (ap (post_reply past) e) ∙ r))

    by : (c : Bool)
        → (elim c [ true ↦ refused_for reason.RunFull | false ↦ refused_for reason.UnknownOperation ]) ≡ route w past q
        → ⊥
    by true e = never reason.RunFull (sym e)
    by false e = never reason.UnknownOperation (sym e)

reply_is : (w : Setting) (past : Past) (actor j i : ℕ) (q : Posted) (r : PostReply)
    → IsLegalEntry w past (record { actor = actor; act = act.Post j i q r }) → post_reply past (route w past q) ≡ r
reply_is w past actor j i q r legal =
    ap (λ a. elim a [ act.Post k l p s ↦ s | _ ↦ r ])
    (same_of (act.Post j i q (post_reply past (route w past q))) (act.Post j i q r) legal.reply)

-- the message of a post that is accepted
pub post_accepted : (w : Setting) (past : Past) (actor j i : ℕ) (q : Posted) (n : ℕ)
    → IsLegalEntry w past (record { actor = actor; act = act.Post j i q (answer.Accepted n) })
    → IsMessage w past (record { actor = actor; act = act.Post j i q (answer.Accepted n) }) n
post_accepted w past actor j i q n legal = by (asked_of w q) refl
  where
    r : post_reply past (route w past q) ≡ answer.Accepted n
    r = reply_is w past actor j i q (answer.Accepted n) legal

    by : (g : Option Asked) → asked_of w q ≡ g
        → IsMessage w past (record { actor = actor; act = act.Post j i q (answer.Accepted n) }) n
    by None e = absurd (refused_unasked w past q n (is_full w past q.value) refl e r)
    by (Some a) e =
        let m : IsMessage w past (posting_entry first_worker (j, i) q (answer.Accepted n)) n =
        on_way w past j i q n a (route w past q) e refl r in
        record { message = m.message; accepted = m.accepted; number = m.number; port = m.port }

at_end : {A : Type 0} (xs : List A) (x : A) → slice_get (xs ++ x ∷ []) (length xs) ≡ Some x
at_end [] x = refl
at_end (y ∷ xs) x = at_end xs x

-- it is there then
pub message_comes : (w : Setting) (past : Past) (e : Entry) (n : ℕ) (m : IsMessage w past e n)
    → slice_get (then_one w past e).messages n ≡ Some m.message
message_comes w past e n m =
    ap (λ ms. slice_get ms n) (messages_more w past e m.message m.accepted)
    ∙ ap (slice_get (past.messages ++ m.message ∷ [])) m.number
    ∙ at_end past.messages m.message

-- a message that is there stays there
pub is_there_still : (w : Setting) (past : Past) (e : Entry) (n : ℕ) → is_some (slice_get past.messages n) ≡ true
    → is_some (slice_get (then_one w past e).messages n) ≡ true
is_there_still w past e n h =
    let m : (m : Message) × (slice_get past.messages n ≡ Some m) = there (slice_get past.messages n) h in
    ap is_some (message_stays past.messages (accepted_in w past e) n m.0 m.1)

-- ---- the accepted messages of a posting are there

abbrev AreThere : ℕ → ℕ → Past → Type 0
AreThere actor j past = list_all (λ n. is_some (slice_get past.messages n)) (messages_for past actor j) ≡ true

given_there : (w : Setting) (past : Past) (actor j s : ℕ) (a : Act)
    → IsLegalEntry w past (record { actor = s; act = a })
    → list_all (λ n. is_some (slice_get (then_one w past (record { actor = s; act = a })).messages n))
    (cons_option (message_in actor j (record { actor = s; act = a })) []) ≡ true
given_there w past actor j s (act.Post k i q (answer.Accepted n)) legal = by (nat_eq actor s && nat_eq j k)
  where
    come : IsMessage w past (record { actor = s; act = act.Post k i q (answer.Accepted n) }) n
    come = post_accepted w past s k i q n legal

    by : (b : Bool)
        → list_all (λ m. is_some
        (slice_get (then_one w past (record { actor = s; act = act.Post k i q (answer.Accepted n) })).messages m))
        (cons_option (if b then Some n else None) []) ≡ true
    by true =
        both_true (is_some (slice_get
        (then_one w past (record { actor = s; act = act.Post k i q (answer.Accepted n) })).messages n)) true
        (ap is_some (message_comes w past (record { actor = s; act = act.Post k i q (answer.Accepted n) }) n come)) refl
    by false = refl
given_there w past actor j s (act.Post k i q (answer.Refused why)) legal = by (nat_eq actor s && nat_eq j k)
  where
    by : (b : Bool)
        → list_all (λ m. is_some
        (slice_get (then_one w past (record { actor = s; act = act.Post k i q (answer.Refused why) })).messages m))
        (cons_option (if b then None else None) []) ≡ true
    by true = refl
    by false = refl
given_there w past actor j s a legal = refl

there_after : (w : Setting) (actor j : ℕ) (past : Past) (e : Entry) → IsLegalEntry w past e
    → AreThere actor j past → AreThere actor j (then_one w past e)
there_after w actor j past e legal h =
    ap (list_all (λ n. is_some (slice_get (then_one w past e).messages n)))
    (given_append (message_in actor j) past.entries (e ∷ []))
    ∙ all_append (λ n. is_some (slice_get (then_one w past e).messages n)) (messages_for past actor j)
    (cons_option (message_in actor j e) [])
    (all_weaker (λ n. is_some (slice_get past.messages n)) (λ n. is_some (slice_get (then_one w past e).messages n))
    (is_there_still w past e) (messages_for past actor j) h)
    (given_there w past actor j e.actor e.act legal)

-- the messages that a legal history accepted for a posting are there
pub posted_there : (w : Setting) (h : List Entry) (actor j : ℕ) → IsLegal w h → AreThere actor j (past_of w h)
posted_there w h actor j legal = kept_by_all w (AreThere actor j) (there_after w actor j) nothing_yet h legal refl

-- ---- what was collected was there

abbrev CollectedThere : ℕ → Past → Type 0
CollectedThere n past = some_entry past (collects n) ≡ true → is_some (slice_get past.messages n) ≡ true

collect_there : (w : Setting) (past : Past) (n s : ℕ) (a : Act) → is_allowed w past s a ≡ true
    → collects n (record { actor = s; act = a }) ≡ true → is_some (slice_get past.messages n) ≡ true
collect_there w past n s (act.Collect k o) h c =
    subst (λ m. is_some (slice_get past.messages m) ≡ true) (sym (eq_true n k c))
    (by (slice_get past.messages k)
    (right_true (not (some_entry past (collects k))) (from (slice_get past.messages k))
    (left_true (not (some_entry past (collects k)) && from (slice_get past.messages k)) _
    (right_true _ (is_collectable past s k) h))))
  where
    from : Option Message → Bool
    from g = elim g [ None ↦ false | Some m ↦ is_from_port m ]

    by : (g : Option Message) → from g ≡ true → is_some g ≡ true
    by None e = absurd (true≢false (sym e))
    by (Some m) e = refl
collect_there w past n s a h c = absurd (true≢false (sym c))

collected_after : (w : Setting) (n : ℕ) (past : Past) (e : Entry) → IsLegalEntry w past e
    → CollectedThere n past → CollectedThere n (then_one w past e)
collected_after w n past e legal before c =
    is_there_still w past e n (by (some_entry past (collects n)) refl (sym (some_more w past e (collects n)) ∙ c))
  where
    by : (b : Bool) → some_entry past (collects n) ≡ b → (some_entry past (collects n) || collects n e) ≡ true
        → is_some (slice_get past.messages n) ≡ true
    by true h g = before h
    by false h g =
        collect_there w past n e.actor e.act legal.allowed (sym (ap (λ b. b || collects n e) h) ∙ g)

pub collected_there : (w : Setting) (h : List Entry) (n : ℕ) → IsLegal w h → CollectedThere n (past_of w h)
collected_there w h n legal =
    kept_by_all w (CollectedThere n) (collected_after w n) nothing_yet h legal (λ c. absurd (true≢false (sym c)))

-- ---- what can be collected

-- so that its answer can be collected
pub collectable : (past : Past) (n : ℕ) → IsUncollected past n → is_collectable past first_worker n ≡ true
collectable past n u =
    both_true
    (not (some_entry past (collects n))
    && (elim (slice_get past.messages n) [ None ↦ false | Some m ↦ is_from_port m ]))
    (not (is_running past) || some_entry past (posts_as first_worker n))
    (both_true (not (some_entry past (collects n)))
    (elim (slice_get past.messages n) [ None ↦ false | Some m ↦ is_from_port m ])
    (ap not u.uncollected)
    (ap (λ g. elim g [ None ↦ false | Some m ↦ is_from_port m ]) u.there ∙ u.port))
    (true_right (not (is_running past)) (some_entry past (posts_as first_worker n)) u.posted)

-- it stays so until its answer is collected
pub uncollected_still : (w : Setting) (past : Past) (e : Entry) (n : ℕ) → collects n e ≡ false
    → IsUncollected past n → IsUncollected (then_one w past e) n
uncollected_still w past e n other u = record {
  message = u.message;
  there = message_stays past.messages (accepted_in w past e) n u.message u.there;
  port = u.port;
  uncollected = some_same w past e (collects n) other ∙ u.uncollected;
  posted =
      some_more w past e (posts_as first_worker n)
      ∙ true_left (some_entry past (posts_as first_worker n)) (posts_as first_worker n e) u.posted;
}

false_if : (b : Bool) → (b ≡ true → ⊥) → b ≡ false
false_if true h = absurd (h refl)
false_if false h = refl

beyond : {A : Type 0} (xs : List A) → is_some (slice_get xs (length xs)) ≡ false
beyond [] = refl
beyond (x ∷ xs) = beyond xs

-- it is so of a message that was just posted
pub uncollected_first : (w : Setting) (h : List Entry) (j i : ℕ) (q : Posted) (n : ℕ) → IsLegal w h
    → IsLegalEntry w (past_of w h) (posting_entry first_worker (j, i) q (answer.Accepted n))
    → IsUncollected (then_one w (past_of w h) (posting_entry first_worker (j, i) q (answer.Accepted n))) n
uncollected_first w h j i q n legal fits =
    let m : IsMessage w (past_of w h) (posting_entry first_worker (j, i) q (answer.Accepted n)) n =
    post_accepted w (past_of w h) first_worker j i q n fits in
    record {
      message = m.message;
      there = message_comes w (past_of w h) (posting_entry first_worker (j, i) q (answer.Accepted n)) n m;
      port = m.port;
      uncollected =
          some_same w (past_of w h) (posting_entry first_worker (j, i) q (answer.Accepted n)) (collects n) refl
          ∙ false_if (some_entry (past_of w h) (collects n))
          (λ c. true≢false
          (sym (collected_there w h n legal c)
          ∙ ap (λ k. is_some (slice_get (past_of w h).messages k)) m.number ∙ beyond (past_of w h).messages));
      posted =
          some_more w (past_of w h) (posting_entry first_worker (j, i) q (answer.Accepted n)) (posts_as first_worker n)
          ∙ true_right (some_entry (past_of w h) (posts_as first_worker n))
          (nat_eq first_worker first_worker && nat_eq n n) (both_true true (nat_eq n n) refl (itself n));
    }

-- ---- many of them

-- none of these is collected by an entry
abbrev pub AreOther : Entry → List ℕ → Type 0
AreOther e ns = list_any (λ n. collects n e) ns ≡ false

pub all_uncollected_still : (w : Setting) (past : Past) (e : Entry) (ns : List ℕ) → AreOther e ns
    → AreUncollected past ns → AreUncollected (then_one w past e) ns
all_uncollected_still w past e [] other h = tt
all_uncollected_still w past e (n ∷ ns) other h = (
  uncollected_still w past e n (false_left (collects n e) (list_any (λ k. collects k e) ns) other) h.0,
  h.1,
  all_uncollected_still w past e ns (false_right (collects n e) (list_any (λ k. collects k e) ns) other) h.2,
)

-- what an entry collects is another message than these
pub others_of : (n : ℕ) (o : Outcome) (ns : List ℕ) → list_any (nat_eq n) ns ≡ false
    → AreOther (record { actor = first_worker; act = act.Collect n o }) ns
others_of n o [] h = refl
others_of n o (k ∷ ns) h =
    (λ i. turned k n i || others_of n o ns (false_right (nat_eq n k) (list_any (nat_eq n) ns) h) i)
    ∙ ap (λ b. b || false) (false_left (nat_eq n k) (list_any (nat_eq n) ns) h)
