-- What was posted and not collected waits, and what waits has no answer once answers were collected.
use Rattle.std.proofs.Common.{◌≡◌, ℕ, Bool, true, false, not, ◌||◌, suc, List, [], ◌∷◌, ◌++◌, map, Option, None, Some, nat_eq, cond, refl, sym, ap, subst, ◌∙◌, ⊎_elim, append_assoc}
use Rattle.std.specs.List.{filter, list_all, list_any, cons_option}
use Rattle.std.proofs.lemmas.Bool.{and_parts, eqb-true, false≢true, or_cases, or_from, or_left, or_parts, or_right}
use Rattle.std.proofs.lemmas.List.Folds.{list_any-append}
use Rattle.behaviour_tree.specs.declared.words.Outcome.{Outcome}
use Rattle.office_core.specs.declared.front.CallIn.{CallIn}
use Rattle.office_core.specs.declared.front.CallIn.TheVariants as call
use Rattle.office_core.specs.declared.history.Act.{Act}
use Rattle.office_core.specs.declared.history.Act.TheVariants as act
use Rattle.office_core.specs.declared.history.Entry.{Entry}
use Rattle.office_core.specs.declared.post.PostReply.{PostReply}
use Rattle.office_core.specs.declared.post.PostReply.TheVariants as answer
use Rattle.office_core.specs.declared.post.Posted.{Posted}
use Rattle.office_core.specs.Keys.{first}
use Rattle.office_core.specs.Limits.{Setting, first_worker}
use Rattle.office_core.specs.Past.{Past}
use Rattle.office_core.specs.Accepted.{past_of, then_all}
use Rattle.office_core.specs.Answers.{answers}
use Rattle.office_core.specs.Legal.{collects, posts_as}
use Rattle.run_order_laws.specs.Entries.{is_other}
use Rattle.run_order_laws.proofs.Growing.{past_then}
use Rattle.run_order_laws.proofs.Staying.{answers_same_all}
use Rattle.run_posts.specs.declared.pending.CallState.{CallState}
use Rattle.run_posts.specs.declared.pending.CallState.TheVariants.{Message, Known}
use Rattle.run_posts.specs.CallStates.{Wait, all_collected, call_entries, state_of_call, collected, collected_in, collection, call_state_of, call_states_of, is_finished, is_known, is_open, message_in, messages_in, messages_of, posted_entries, reply_to, settled, settled_by, settled_in}
use Rattle.run_posts.proofs.Ending.{other_all}
use Rattle.run_posts.proofs.Settling.{none_of_all}
use Rattle.run_alone.specs.Between.{AllWait, NoneIsAnswered}

-- ---- entries

-- of entries of one kind none is of another
pub none_are : (f g : Entry → Bool) → ((e : Entry) → f e ≡ true → g e ≡ false) → (es : List Entry)
    → list_all f es ≡ true → list_any g es ≡ false
none_are f g each [] h = refl
none_are f g each (e ∷ es) h =
    let both = and_parts (f e) (list_all f es) h in
    or_from (g e) (list_any g es) (each e both.0) (none_are f g each es both.1)

-- what holds of an entry among more holds of one before, where none of the new ones is of the kind
any_before : (f : Entry → Bool) (h more : List Entry) → list_any f more ≡ false → list_any f (h ++ more) ≡ true
    → list_any f h ≡ true
any_before f h more none some =
    ⊎_elim
    (λ (p : list_any f h ≡ true). p)
    (λ (p : list_any f more ≡ true). absurd (false≢true (sym none ∙ p)))
    (or_cases (list_any f h) (list_any f more) (sym (list_any-append f h more) ∙ some))

pub none_before : (f : Entry → Bool) (h more : List Entry) → list_any f (h ++ more) ≡ false
    → (list_any f h ≡ false) × (list_any f more ≡ false)
none_before f h more none = or_parts (list_any f h) (list_any f more) (sym (list_any-append f h more) ∙ none)

other_posts : (actor n : ℕ) (e : Entry) → is_other e ≡ true → posts_as actor n e ≡ false
other_posts actor n e h = go e.actor e.act h
  where
    go : (m : ℕ) (a : Act) → is_other (record { actor = m; act = a }) ≡ true
        → posts_as actor n (record { actor = m; act = a }) ≡ false
    go m (act.Post j i q r) g = absurd (false≢true g)
    go m a g = refl

-- a post among entries behind which no post came
pub posted_before : (actor n : ℕ) (h more : List Entry) → list_all is_other more ≡ true
    → list_any (posts_as actor n) (h ++ more) ≡ true → list_any (posts_as actor n) h ≡ true
posted_before actor n h more other some =
    any_before (posts_as actor n) h more (none_are is_other (posts_as actor n) (other_posts actor n) more other) some

-- ---- entries that are no posts

pub wait_by_others : (h more : List Entry) (xs : List Wait) → list_all is_other more ≡ true → AllWait h xs
    → AllWait (h ++ more) xs
wait_by_others h more xs other waits n posted uncollected =
    waits n (posted_before first_worker n h more other posted) (none_before (collects n) h more uncollected).0

-- ---- posts

or_none : (b : Bool) → (b || false) ≡ true → b ≡ true
or_none true h = refl
or_none false h = h

cons_any : (n : ℕ) (o : Option ℕ) (ns : List ℕ) → list_any (nat_eq n) ns ≡ true
    → list_any (nat_eq n) (cons_option o ns) ≡ true
cons_any n None ns h = h
cons_any n (Some m) ns h = or_right (nat_eq n m) (list_any (nat_eq n) ns) h

reply_waits : (n j i : ℕ) (q : Posted) (r : PostReply) (ns : List ℕ)
    → (posts_as first_worker n (record { actor = first_worker; act = act.Post j i q r }) || false) ≡ true
    → list_any (nat_eq n) (cons_option (message_in (call_state_of r)) ns) ≡ true
reply_waits n j i q (answer.Accepted m) ns h =
    or_left (nat_eq n m) (list_any (nat_eq n) ns)
    (and_parts (nat_eq first_worker first_worker) (nat_eq n m)
    (or_none (posts_as first_worker n (record { actor = first_worker; act = act.Post j i q (answer.Accepted m) })) h)).1
reply_waits n j i q (answer.Refused why) ns h = absurd (false≢true h)

call_waits : (w : Setting) (past : Past) (n : ℕ) (ji : ℕ × ℕ) (c : CallIn) (ns : List ℕ)
    → list_any (posts_as first_worker n) (call_entries w past ji c) ≡ true
    → list_any (nat_eq n) (cons_option (message_in (state_of_call w past c)) ns) ≡ true
call_waits w past n ji (call.Post q) ns h = reply_waits n ji.0 ji.1 q (reply_to w past q) ns h
call_waits w past n ji (call.Answered o) ns h = absurd (false≢true h)

-- what calls were posted as waits
posts_wait : (w : Setting) (past : Past) (n : ℕ) (ji : ℕ × ℕ) (cs : List CallIn)
    → list_any (posts_as first_worker n) (posted_entries w past ji cs) ≡ true
    → list_any (nat_eq n) (messages_in (call_states_of w past ji cs)) ≡ true
posts_wait w past n ji [] h = absurd (false≢true h)
posts_wait w past n ji (c ∷ cs) h =
    let now : Past = then_all w past (call_entries w past ji c) in
    let rest : List Entry = posted_entries w now (ji.0, suc ji.1) cs in
    ⊎_elim
    (λ (p : list_any (posts_as first_worker n) (call_entries w past ji c) ≡ true).
    call_waits w past n ji c (messages_in (call_states_of w now (ji.0, suc ji.1) cs)) p)
    (λ (p : list_any (posts_as first_worker n) rest ≡ true).
    cons_any n (message_in (state_of_call w past c)) (messages_in (call_states_of w now (ji.0, suc ji.1) cs))
    (posts_wait w now n (ji.0, suc ji.1) cs p))
    (or_cases (list_any (posts_as first_worker n) (call_entries w past ji c)) (list_any (posts_as first_worker n) rest)
    (sym (list_any-append (posts_as first_worker n) (call_entries w past ji c) rest) ∙ h))

messages_more : (xs ys : List Wait) → messages_of (xs ++ ys) ≡ messages_of xs ++ messages_of ys
messages_more [] ys = refl
messages_more (x ∷ xs) ys =
    ap (λ (l : List ℕ). messages_in x.call_states ++ l) (messages_more xs ys)
    ∙ sym (append_assoc (messages_in x.call_states) (messages_of xs) (messages_of ys))

pub wait_by_posts : (w : Setting) (h : List Entry) (j : ℕ) (cs : List CallIn) (xs : List Wait) → AllWait h xs
    → AllWait (h ++ posted_entries w (past_of w h) (j, 0) cs)
    (xs ++ record { place = j; call_states = call_states_of w (past_of w h) (j, 0) cs } ∷ [])
wait_by_posts w h j cs xs waits n posted uncollected =
    let es : List Entry = posted_entries w (past_of w h) (j, 0) cs in
    let call_states : List CallState = call_states_of w (past_of w h) (j, 0) cs in
    let x : Wait = record { place = j; call_states = call_states } in
    ap (list_any (nat_eq n)) (messages_more xs (x ∷ []))
    ∙ list_any-append (nat_eq n) (messages_of xs) (messages_of (x ∷ []))
    ∙ ⊎_elim
    (λ (p : list_any (posts_as first_worker n) h ≡ true).
    or_left (list_any (nat_eq n) (messages_of xs)) (list_any (nat_eq n) (messages_of (x ∷ [])))
    (waits n p (none_before (collects n) h es uncollected).0))
    (λ (p : list_any (posts_as first_worker n) es ≡ true).
    or_right (list_any (nat_eq n) (messages_of xs)) (list_any (nat_eq n) (messages_of (x ∷ [])))
    (list_any-append (nat_eq n) (messages_in call_states) []
    ∙ or_left (list_any (nat_eq n) (messages_in call_states)) false (posts_wait w (past_of w h) n (j, 0) cs p)))
    (or_cases (list_any (posts_as first_worker n) h) (list_any (posts_as first_worker n) es)
    (sym (list_any-append (posts_as first_worker n) h es) ∙ posted))

-- ---- collects

module _ (w : Setting) (past : Past) (n : ℕ) where
  -- a message that was not collected is still there
  settles_one : (m : ℕ) (o : Option Outcome) (ns ms : List ℕ) → list_any (nat_eq n) (m ∷ ns) ≡ true
      → list_any (collects n) (collection m o) ≡ false
      → (list_any (nat_eq n) ns ≡ true → list_any (nat_eq n) ms ≡ true)
      → list_any (nat_eq n) (cons_option (message_in (settled_by m o)) ms) ≡ true
  settles_one m None ns ms h out rest =
      ⊎_elim
      (λ (p : nat_eq n m ≡ true). or_left (nat_eq n m) (list_any (nat_eq n) ms) p)
      (λ (p : list_any (nat_eq n) ns ≡ true). or_right (nat_eq n m) (list_any (nat_eq n) ms) (rest p))
      (or_cases (nat_eq n m) (list_any (nat_eq n) ns) h)
  settles_one m (Some o) ns ms h out rest =
      ⊎_elim
      (λ (p : nat_eq n m ≡ true). absurd (false≢true (sym (or_parts (nat_eq n m) false out).0 ∙ p)))
      (λ (p : list_any (nat_eq n) ns ≡ true). rest p)
      (or_cases (nat_eq n m) (list_any (nat_eq n) ns) h)

  settles_call_state : (f : CallState) (ns ms : List ℕ) → list_any (nat_eq n) (cons_option (message_in f) ns) ≡ true
      → list_any (collects n) (collected w past f) ≡ false
      → (list_any (nat_eq n) ns ≡ true → list_any (nat_eq n) ms ≡ true)
      → list_any (nat_eq n) (cons_option (message_in (settled w past f)) ms) ≡ true
  settles_call_state (Message m) ns ms h out rest = settles_one m (first (answers w past m)) ns ms h out rest
  settles_call_state (Known o) ns ms h out rest = rest h

  settles_call_states : (fs : List CallState) → list_any (nat_eq n) (messages_in fs) ≡ true
      → list_any (collects n) (collected_in w past fs) ≡ false
      → list_any (nat_eq n) (messages_in (map (settled w past) fs)) ≡ true
  settles_call_states [] h out = h
  settles_call_states (f ∷ fs) h out =
      let apart = none_before (collects n) (collected w past f) (collected_in w past fs) out in
      settles_call_state f (messages_in fs) (messages_in (map (settled w past) fs)) h apart.0
      (λ p. settles_call_states fs p apart.1)

  settles_waits : (xs : List Wait) → list_any (nat_eq n) (messages_of xs) ≡ true
      → list_any (collects n) (all_collected w past xs) ≡ false
      → list_any (nat_eq n) (messages_of (map (settled_in w past) xs)) ≡ true
  settles_waits [] h out = h
  settles_waits (x ∷ xs) h out =
      let apart = none_before (collects n) (collected_in w past x.call_states) (all_collected w past xs) out in
      let now : List ℕ = messages_in (map (settled w past) x.call_states) in
      let rest : List ℕ = messages_of (map (settled_in w past) xs) in
      list_any-append (nat_eq n) now rest
      ∙ ⊎_elim
      (λ (p : list_any (nat_eq n) (messages_in x.call_states) ≡ true).
      or_left (list_any (nat_eq n) now) (list_any (nat_eq n) rest) (settles_call_states x.call_states p apart.0))
      (λ (p : list_any (nat_eq n) (messages_of xs) ≡ true).
      or_right (list_any (nat_eq n) now) (list_any (nat_eq n) rest) (settles_waits xs p apart.1))
      (or_cases (list_any (nat_eq n) (messages_in x.call_states)) (list_any (nat_eq n) (messages_of xs))
      (sym (list_any-append (nat_eq n) (messages_in x.call_states) (messages_of xs)) ∙ h))

  -- and it has no answer
  open_one : (m : ℕ) (o : Option Outcome) (ms : List ℕ) → first (answers w past m) ≡ o
      → list_any (nat_eq n) (cons_option (message_in (settled_by m o)) ms) ≡ true
      → (list_any (nat_eq n) ms ≡ true → first (answers w past n) ≡ None) → first (answers w past n) ≡ None
  open_one m None ms e h rest =
      ⊎_elim
      (λ (p : nat_eq n m ≡ true). ap (λ (k : ℕ). first (answers w past k)) (eqb-true n m p) ∙ e)
      (λ (p : list_any (nat_eq n) ms ≡ true). rest p)
      (or_cases (nat_eq n m) (list_any (nat_eq n) ms) h)
  open_one m (Some o) ms e h rest = rest h

  open_call_state : (f : CallState) (ms : List ℕ) → list_any (nat_eq n) (cons_option (message_in (settled w past f)) ms) ≡ true
      → (list_any (nat_eq n) ms ≡ true → first (answers w past n) ≡ None) → first (answers w past n) ≡ None
  open_call_state (Message m) ms h rest = open_one m (first (answers w past m)) ms refl h rest
  open_call_state (Known o) ms h rest = rest h

  open_call_states : (fs : List CallState) → list_any (nat_eq n) (messages_in (map (settled w past) fs)) ≡ true
      → first (answers w past n) ≡ None
  open_call_states [] h = absurd (false≢true h)
  open_call_states (f ∷ fs) h = open_call_state f (messages_in (map (settled w past) fs)) h (λ p. open_call_states fs p)

  open_waits : (xs : List Wait) → list_any (nat_eq n) (messages_of (map (settled_in w past) xs)) ≡ true
      → first (answers w past n) ≡ None
  open_waits [] h = absurd (false≢true h)
  open_waits (x ∷ xs) h =
      let now : List ℕ = messages_in (map (settled w past) x.call_states) in
      let rest : List ℕ = messages_of (map (settled_in w past) xs) in
      ⊎_elim
      (λ (p : list_any (nat_eq n) now ≡ true). open_call_states x.call_states p)
      (λ (p : list_any (nat_eq n) rest ≡ true). open_waits xs p)
      (or_cases (list_any (nat_eq n) now) (list_any (nat_eq n) rest) (sym (list_any-append (nat_eq n) now rest) ∙ h))

-- once answers were collected
module _ (w : Setting) (h : List Entry) (xs : List Wait) where
  pub wait_by_collects : AllWait h xs
      → AllWait (h ++ all_collected w (past_of w h) xs) (map (settled_in w (past_of w h)) xs)
  wait_by_collects waits n posted uncollected =
      let es : List Entry = all_collected w (past_of w h) xs in
      let apart = none_before (collects n) h es uncollected in
      settles_waits w (past_of w h) n xs
      (waits n (posted_before first_worker n h es (other_all w (past_of w h) xs) posted) apart.0) apart.1

  pub unanswered_by_collects : NoneIsAnswered w (h ++ all_collected w (past_of w h) xs) (map (settled_in w (past_of w h)) xs)
  unanswered_by_collects n there =
      ap (λ (p : Past). first (answers w p n)) (past_then w h (all_collected w (past_of w h) xs))
      ∙ ap first
      (answers_same_all w (past_of w h) (all_collected w (past_of w h) xs) (none_of_all w (past_of w h) xs) n)
      ∙ open_waits w (past_of w h) n xs there

-- ---- those that are finished wait for nothing

messages_none : (fs : List CallState) → list_all is_known fs ≡ true → messages_in fs ≡ []
messages_none [] h = refl
messages_none (Message n ∷ fs) h = absurd (false≢true h)
messages_none (Known o ∷ fs) h = messages_none fs h

pub finished_none : (xs : List Wait) → list_all is_finished xs ≡ true → messages_of xs ≡ []
finished_none [] h = refl
finished_none (x ∷ xs) h =
    let both = and_parts (is_finished x) (list_all is_finished xs) h in
    λ i. messages_none x.call_states both.0 i ++ finished_none xs both.1 i

pub open_messages : (xs : List Wait) → messages_of (filter is_open xs) ≡ messages_of xs
open_messages [] = refl
open_messages (x ∷ xs) = by (is_finished x) refl (open_messages xs)
  where
    by : (b : Bool) → is_finished x ≡ b → messages_of (filter is_open xs) ≡ messages_of xs
        → messages_of (cond (not b) (x ∷ filter is_open xs) (filter is_open xs)) ≡ messages_in x.call_states ++ messages_of xs
    by true e rest = rest ∙ ap (λ (l : List ℕ). l ++ messages_of xs) (sym (messages_none x.call_states e))
    by false e rest = ap (λ (l : List ℕ). messages_in x.call_states ++ l) rest

pub wait_by_telling : (h : List Entry) (xs : List Wait) → AllWait h xs → AllWait h (filter is_open xs)
wait_by_telling h xs waits n posted uncollected =
    ap (list_any (nat_eq n)) (open_messages xs) ∙ waits n posted uncollected

pub unanswered_by_telling : (w : Setting) (h : List Entry) (xs : List Wait) → NoneIsAnswered w h xs
    → NoneIsAnswered w h (filter is_open xs)
unanswered_by_telling w h xs none n there = none n (sym (ap (list_any (nat_eq n)) (open_messages xs)) ∙ there)
