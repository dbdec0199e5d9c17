-- What became of the calls of a posting is what the history has of them: what is known is their outcome, what is not
-- known is the number of a message that has no answer yet.
use Rattle.std.proofs.Common.{◌≡◌, ◌≤◌, ℕ, suc, Bool, true, false, ◌&&◌, List, [], ◌∷◌, ◌++◌}
use Rattle.std.proofs.Common.{map, refl, sym, ap, subst, ◌∙◌, Option, None, Some, option_and_then, true≢false, arith}
use Rattle.std.specs.Prelude.{nat_eq, is_some, if◌then◌else◌}
use Rattle.std.specs.List.{list_all, filter_map, cons_option}
use Rattle.behaviour_tree.specs.declared.words.Outcome.{Outcome}
use Rattle.office_core.specs.declared.front.CallIn.{CallIn}
use Rattle.office_core.specs.declared.front.CallIn.TheVariants as call
use Rattle.office_core.specs.declared.history.Act.TheVariants as act
use Rattle.office_core.specs.declared.history.Entry.{Entry}
use Rattle.office_core.specs.declared.post.Posted.{Posted}
use Rattle.office_core.specs.declared.post.PostReply.{PostReply}
use Rattle.office_core.specs.declared.post.PostReply.TheVariants as answer
use Rattle.office_core.specs.Limits.{Setting, first_worker}
use Rattle.office_core.specs.Past.{Past}
use Rattle.office_core.specs.Keys.{first, all_there}
use Rattle.office_core.specs.Accepted.{then_one, then_all}
use Rattle.office_core.specs.Answers.{answers}
use Rattle.office_core.specs.Legal.{IsLegalEntry, AreLegal}
use Rattle.run_theorem.specs.Calls.{Fit, IsOutcome}
use Rattle.run_record.specs.Order.{accepted_as, message_in as accepted_by, messages_for}
use Rattle.run_record.specs.Postings.{reply_in, outcome_by, outcome_of, outcomes_from}
use Rattle.run_order_laws.proofs.Lists.{itself, not_eq, append_nil, append_assoc}
use Rattle.run_order_laws.proofs.Lists.{given_append, same_of, there}
use Rattle.run_order_laws.proofs.Growing.{kept_by_all}
use Rattle.run_order_laws.proofs.Staying.{answer_stays}
use Rattle.run_order_laws.proofs.Telling.{reply_of, reply_stays, outcome_stays, joined}
use Rattle.run_posts.specs.declared.pending.CallState.{CallState}
pub use Rattle.run_posts.specs.Open.{IsPostedAs, answered_if, Numbered, IsCallState, AreCallStates, calls_of, numbers_of}
use Rattle.run_posts.specs.declared.pending.CallState.TheVariants.{Message, Known}
use Rattle.run_posts.specs.CallStates.{call_state_of, reply_to, call_entries, state_of_call, posted_entries, call_states_of, settled}
use Rattle.run_posts.specs.CallStates.{settled_by, outcomes_in, is_known}

-- ---- it stays

answered_stays : (w : Setting) (past : Past) (e : Entry) (o : Option ℕ) → IsLegalEntry w past e
    → answered_if w past o ≡ true → answered_if w (then_one w past e) o ≡ true
answered_stays w past e None legal h = refl
answered_stays w past e (Some n) legal h =
    let a : (o : Outcome) × (first (answers w past n) ≡ Some o) = there (first (answers w past n)) h in
    ap is_some (answer_stays w n a.0 past e legal a.1)

call_state_stays : (w : Setting) (ji : ℕ × ℕ) (c : Numbered) (f : CallState) (past : Past) (e : Entry) → IsLegalEntry w past e
    → IsCallState w past ji c f → IsCallState w (then_one w past e) ji c f
call_state_stays w ji c (Known o) past e legal h =
    (outcome_stays w past e first_worker ji c.made o legal h.0, answered_stays w past e c.number legal h.1)
call_state_stays w ji c (Message n) past e legal h = (
  h.0,
  record {
    posted = h.1.posted;
    is = h.1.is;
    reply = reply_stays w past e first_worker ji.0 ji.1 (answer.Accepted n) h.1.reply;
  },
)

call_states_stay_one : (w : Setting) (ji : ℕ × ℕ) (cs : List Numbered) (fs : List CallState) (past : Past) (e : Entry)
    → IsLegalEntry w past e → AreCallStates w past ji cs fs → AreCallStates w (then_one w past e) ji cs fs
call_states_stay_one w ji [] [] past e legal h = tt
call_states_stay_one w ji [] (f ∷ fs) past e legal h = h
call_states_stay_one w ji (c ∷ cs) [] past e legal h = h
call_states_stay_one w ji (c ∷ cs) (f ∷ fs) past e legal h =
    (call_state_stays w ji c f past e legal h.0, call_states_stay_one w (ji.0, suc ji.1) cs fs past e legal h.1)

-- what became of calls stays so
pub call_states_stay : (w : Setting) (ji : ℕ × ℕ) (cs : List Numbered) (fs : List CallState) (past : Past) (es : List Entry)
    → AreLegal w past es → AreCallStates w past ji cs fs → AreCallStates w (then_all w past es) ji cs fs
call_states_stay w ji cs fs past es legal h =
    kept_by_all w (λ p. AreCallStates w p ji cs fs) (call_states_stay_one w ji cs fs) past es legal h

-- ---- posting

-- no call of posting j from i on has a reply yet
abbrev pub NoReply : Past → ℕ → ℕ → Type 0
NoReply past j i = (k : ℕ) → i ≤ k → filter_map (reply_in first_worker j k) past.entries ≡ []

-- a call with the number of its message
abbrev numbered_by : Setting → Past → CallIn → Numbered
numbered_by w past (call.Post q) = record { made = call.Post q; number = accepted_as (reply_to w past q) }
numbered_by w past (call.Answered o) = record { made = call.Answered o; number = None }

-- calls that are posted, with the numbers of their messages
abbrev pub numbered : Setting → Past → ℕ × ℕ → List CallIn → List Numbered
numbered w past ji [] = []
numbered w past ji (c ∷ cs) =
    numbered_by w past c ∷ numbered w (then_all w past (call_entries w past ji c)) (ji.0, suc ji.1) cs

made_by : (w : Setting) (past : Past) (c : CallIn) → (numbered_by w past c).made ≡ c
made_by w past (call.Post q) = refl
made_by w past (call.Answered o) = refl

pub numbered_calls : (w : Setting) (past : Past) (ji : ℕ × ℕ) (cs : List CallIn) → calls_of (numbered w past ji cs) ≡ cs
numbered_calls w past ji [] = refl
numbered_calls w past ji (c ∷ cs) =
    λ i. made_by w past c i
    ∷ numbered_calls w (then_all w past (call_entries w past ji c)) (ji.0, suc ji.1) cs i

reply_now : (w : Setting) (past : Past) (j i : ℕ) (q : Posted) (r : PostReply) → NoReply past j i
    → reply_of (then_one w past (record { actor = first_worker; act = act.Post j i q r })) first_worker j i ≡ Some r
reply_now w past j i q r none =
    ap first
    (given_append (reply_in first_worker j i) past.entries
    ((record { actor = first_worker; act = act.Post j i q r }) ∷ [])
    ∙ (λ k. none i (same i) k ++ cons_option (if (itself j k && itself i k) then Some r else None) []))
  where
    same : (n : ℕ) → n ≤ n
    same n = omega arith

no_reply_next : (w : Setting) (past : Past) (ji : ℕ × ℕ) (c : CallIn) → NoReply past ji.0 ji.1
    → NoReply (then_all w past (call_entries w past ji c)) ji.0 (suc ji.1)
no_reply_next w past ji (call.Post q) none k above =
    given_append (reply_in first_worker ji.0 k) past.entries
    ((record { actor = first_worker; act = act.Post ji.0 ji.1 q (reply_to w past q) }) ∷ [])
    ∙ (λ i. none k (before above) i
    ++ cons_option (off (nat_eq ji.0 ji.0) (nat_eq k ji.1) (not_eq k ji.1 (λ e. omega (arith, above, e))) i) [])
  where
    before : suc ji.1 ≤ k → ji.1 ≤ k
    before h = omega (arith, h)

    off : (a b : Bool) → b ≡ false → (if (a && b) then Some (reply_to w past q) else None) ≡ None
    off true b h = ap (λ x. if x then Some (reply_to w past q) else None) h
    off false b h = refl
no_reply_next w past ji (call.Answered o) none k above = none k (before above)
  where
    before : suc ji.1 ≤ k → ji.1 ≤ k
    before h = omega (arith, h)

call_state_by : (w : Setting) (past : Past) (j i : ℕ) (q : Posted) (r : PostReply)
    → reply_of past first_worker j i ≡ Some r
    → IsCallState w past (j, i) (record { made = call.Post q; number = accepted_as r }) (call_state_of r)
call_state_by w past j i q (answer.Accepted n) h = (refl, record { posted = q; is = refl; reply = h })
call_state_by w past j i q (answer.Refused why) h = (ap (option_and_then (outcome_by w past)) h, refl)

call_becomes : (w : Setting) (past : Past) (ji : ℕ × ℕ) (c : CallIn) → NoReply past ji.0 ji.1
    → IsCallState w (then_all w past (call_entries w past ji c)) ji (numbered_by w past c) (state_of_call w past c)
call_becomes w past ji (call.Post q) none =
    call_state_by w (then_one w past
    (record { actor = first_worker; act = act.Post ji.0 ji.1 q (reply_to w past q) })) ji.0 ji.1 q
    (reply_to w past q) (reply_now w past ji.0 ji.1 q (reply_to w past q) none)
call_becomes w past ji (call.Answered o) none = (refl, refl)

then_all_append : (w : Setting) (past : Past) (es more : List Entry)
    → then_all w past (es ++ more) ≡ then_all w (then_all w past es) more
then_all_append w past [] more = refl
then_all_append w past (e ∷ es) more = then_all_append w (then_one w past e) es more

rest_legal : (w : Setting) (past : Past) (es more : List Entry)
    → AreLegal w past (es ++ more) → AreLegal w (then_all w past es) more
rest_legal w past [] more h = h
rest_legal w past (e ∷ es) more h = rest_legal w (then_one w past e) es more h.1

-- what becomes of calls when they are posted
pub calls_become : (w : Setting) (past : Past) (ji : ℕ × ℕ) (cs : List CallIn)
    → AreLegal w past (posted_entries w past ji cs) → NoReply past ji.0 ji.1
    → AreCallStates w (then_all w past (posted_entries w past ji cs)) ji (numbered w past ji cs) (call_states_of w past ji cs)
calls_become w past ji [] legal none = tt
calls_become w past ji (c ∷ cs) legal none =
    subst (λ p. AreCallStates w p ji (numbered w past ji (c ∷ cs)) (call_states_of w past ji (c ∷ cs)))
    (sym (then_all_append w past (call_entries w past ji c) (posted_entries w now (ji.0, suc ji.1) cs))) (
      kept_by_all w (λ p. IsCallState w p ji (numbered_by w past c) (state_of_call w past c))
          (call_state_stays w ji (numbered_by w past c) (state_of_call w past c)) now (posted_entries w now (ji.0, suc ji.1) cs) later
          (call_becomes w past ji c none),
      calls_become w now (ji.0, suc ji.1) cs later (no_reply_next w past ji c none),
    )
  where
    now : Past
    now = then_all w past (call_entries w past ji c)

    later : AreLegal w now (posted_entries w now (ji.0, suc ji.1) cs)
    later = rest_legal w past (call_entries w past ji c) (posted_entries w now (ji.0, suc ji.1) cs) legal

-- ---- the messages of a posting

call_message : (w : Setting) (past : Past) (ji : ℕ × ℕ) (c : CallIn)
    → messages_for (then_all w past (call_entries w past ji c)) first_worker ji.0
    ≡ messages_for past first_worker ji.0 ++ cons_option (numbered_by w past c).number []
call_message w past ji (call.Post q) =
    given_append (accepted_by first_worker ji.0) past.entries
    ((record { actor = first_worker; act = act.Post ji.0 ji.1 q (reply_to w past q) }) ∷ [])
    ∙ (λ k. messages_for past first_worker ji.0
    ++ cons_option (if itself ji.0 k then accepted_as (reply_to w past q) else None) [])
call_message w past ji (call.Answered o) = sym (append_nil (messages_for past first_worker ji.0))

-- the messages that calls are accepted as
pub messages_come : (w : Setting) (past : Past) (ji : ℕ × ℕ) (cs : List CallIn)
    → messages_for (then_all w past (posted_entries w past ji cs)) first_worker ji.0
    ≡ messages_for past first_worker ji.0 ++ numbers_of (numbered w past ji cs)
messages_come w past ji [] = sym (append_nil (messages_for past first_worker ji.0))
messages_come w past ji (c ∷ cs) =
    ap (λ p. messages_for p first_worker ji.0)
    (then_all_append w past (call_entries w past ji c) (posted_entries w now (ji.0, suc ji.1) cs))
    ∙ messages_come w now (ji.0, suc ji.1) cs
    ∙ ap (λ l. l ++ numbers_of (numbered w now (ji.0, suc ji.1) cs)) (call_message w past ji c)
    ∙ moved (numbered_by w past c).number (messages_for past first_worker ji.0)
    (numbers_of (numbered w now (ji.0, suc ji.1) cs))
  where
    now : Past
    now = then_all w past (call_entries w past ji c)

    moved : (o : Option ℕ) (xs ys : List ℕ) → (xs ++ cons_option o []) ++ ys ≡ xs ++ cons_option o ys
    moved None xs ys = ap (λ l. l ++ ys) (append_nil xs)
    moved (Some n) xs ys = append_assoc xs (n ∷ []) ys

-- ---- collecting

settle_by : (w : Setting) (past : Past) (ji : ℕ × ℕ) (c : Numbered) (n : ℕ) (o : Option Outcome)
    → first (answers w past n) ≡ o → IsCallState w past ji c (Message n) → IsCallState w past ji c (settled_by n o)
settle_by w past ji c n None e h = h
settle_by w past ji c n (Some o) e h = (
  ap (outcome_of w past first_worker ji) h.1.is
      ∙ ap (option_and_then (outcome_by w past)) h.1.reply
      ∙ e,
  ap (answered_if w past) h.0 ∙ ap is_some e,
)

settle_is : (w : Setting) (past : Past) (ji : ℕ × ℕ) (c : Numbered) (f : CallState)
    → IsCallState w past ji c f → IsCallState w past ji c (settled w past f)
settle_is w past ji c (Message n) h = settle_by w past ji c n (first (answers w past n)) refl h
settle_is w past ji c (Known o) h = h

-- what becomes of calls when their answers are collected
pub call_states_settle : (w : Setting) (past : Past) (ji : ℕ × ℕ) (cs : List Numbered) (fs : List CallState)
    → AreCallStates w past ji cs fs → AreCallStates w past ji cs (map (settled w past) fs)
call_states_settle w past ji [] [] h = tt
call_states_settle w past ji [] (f ∷ fs) h = h
call_states_settle w past ji (c ∷ cs) [] h = h
call_states_settle w past ji (c ∷ cs) (f ∷ fs) h =
    (settle_is w past ji c f h.0, call_states_settle w past (ji.0, suc ji.1) cs fs h.1)

known_by : (n : ℕ) (o : Option Outcome) → is_known (settled_by n o) ≡ is_some o
known_by n None = refl
known_by n (Some o) = refl

known_where : (w : Setting) (past : Past) (ji : ℕ × ℕ) (c : Numbered) (f : CallState) → IsCallState w past ji c f
    → is_known (settled w past f) ≡ answered_if w past c.number
known_where w past ji c (Message n) h = known_by n (first (answers w past n)) ∙ sym (ap (answered_if w past) h.0)
known_where w past ji c (Known o) h = sym h.1

-- then all is known exactly where each message has an answer
pub all_known : (w : Setting) (past : Past) (ji : ℕ × ℕ) (cs : List Numbered) (fs : List CallState)
    → AreCallStates w past ji cs fs
    → list_all is_known (map (settled w past) fs) ≡ list_all (λ n. is_some (first (answers w past n))) (numbers_of cs)
all_known w past ji [] [] h = refl
all_known w past ji [] (f ∷ fs) h = absurd h
all_known w past ji (c ∷ cs) [] h = absurd h
all_known w past ji (c ∷ cs) (f ∷ fs) h =
    (λ i. known_where w past ji c f h.0 i && all_known w past (ji.0, suc ji.1) cs fs h.1 i)
    ∙ by c.number
  where
    by : (o : Option ℕ)
        → (answered_if w past o && list_all (λ n. is_some (first (answers w past n))) (numbers_of cs))
        ≡ list_all (λ n. is_some (first (answers w past n))) (cons_option o (numbers_of cs))
    by None = refl
    by (Some n) = refl

-- ---- telling

-- where all is known, it is what is told of the posting
pub all_outcomes : (w : Setting) (past : Past) (ji : ℕ × ℕ) (cs : List Numbered) (fs : List CallState)
    → AreCallStates w past ji cs fs → list_all is_known fs ≡ true
    → all_there (outcomes_from w past first_worker ji (calls_of cs)) ≡ Some (outcomes_in fs)
all_outcomes w past ji [] [] h known = refl
all_outcomes w past ji [] (f ∷ fs) h known = absurd h
all_outcomes w past ji (c ∷ cs) [] h known = absurd h
all_outcomes w past ji (c ∷ cs) (Message n ∷ fs) h known = absurd (true≢false (sym known))
all_outcomes w past ji (c ∷ cs) (Known o ∷ fs) h known =
    joined (outcome_of w past first_worker ji c.made) (outcomes_from w past first_worker (ji.0, suc ji.1) (calls_of cs))
    o (outcomes_in fs) h.0.0 (all_outcomes w past (ji.0, suc ji.1) cs fs h.1 known)

fits : (w : Setting) (past : Past) (ji : ℕ × ℕ) (c : CallIn) (o : Outcome)
    → outcome_of w past first_worker ji c ≡ Some o
    → IsOutcome c o
fits w past ji (call.Post q) o h = tt
fits w past ji (call.Answered a) o h = sym (same_of a o h)

-- and fits its calls
pub all_fit : (w : Setting) (past : Past) (ji : ℕ × ℕ) (cs : List Numbered) (fs : List CallState)
    → AreCallStates w past ji cs fs → list_all is_known fs ≡ true → Fit (calls_of cs) (outcomes_in fs)
all_fit w past ji [] [] h known = tt
all_fit w past ji [] (f ∷ fs) h known = absurd h
all_fit w past ji (c ∷ cs) [] h known = absurd h
all_fit w past ji (c ∷ cs) (Message n ∷ fs) h known = absurd (true≢false (sym known))
all_fit w past ji (c ∷ cs) (Known o ∷ fs) h known =
    (fits w past ji c.made o h.0.0, all_fit w past (ji.0, suc ji.1) cs fs h.1 known)
