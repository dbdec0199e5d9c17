-- A posting while its calls are posted: what was added and what is still to be added are together what it adds.
use Rattle.std.proofs.Common.{◌≡◌, ◌≤◌, ◌<◌, ℕ, zero, suc, ◌+◌, List, [], ◌∷◌, ◌++◌, length, drop, get_or, refl}
use Rattle.std.proofs.Common.{sym}
use Rattle.std.proofs.Common.{ap, subst, ◌∙◌, arith}
use Rattle.reqresp_book.specs.declared.origin.Origin.TheVariants as origin
use Rattle.office_core.specs.declared.front.CallIn.{CallIn}
use Rattle.office_core.specs.declared.front.CallIn.TheVariants as call
use Rattle.office_core.specs.declared.history.Act.TheVariants as act
use Rattle.office_core.specs.declared.history.Entry.{Entry}
use Rattle.office_core.specs.declared.post.Posted.{Posted}
use Rattle.office_core.specs.declared.post.PostReply.{PostReply}
use Rattle.office_core.specs.Limits.{first_worker}
use Rattle.office_core.specs.Accepted.{then_all, past_of}
use Rattle.office_plain.specs.Entries.{post_entry}
use Rattle.office_plain.proofs.Paths.{next_of}
use Rattle.run_order_laws.proofs.Lists.{append_nil, append_assoc}
use Rattle.run_order_laws.proofs.Growing.{past_then}
use Rattle.run_cells.specs.RunStates.{State, Stays, list_of, past_in}
use Rattle.run_posts.specs.declared.pending.CallState.{CallState}
use Rattle.run_posts.specs.CallStates.{call_entries, state_of_call, call_state_of, call_states_of, posted_entries, reply_to}

-- Of two states all but the history is the same.
pub record IsSame (old now : State) : Type 0 where
  pub setting : now.setting ≡ old.setting
  pub budget : now.budget ≡ old.budget
  pub stands : now.stands ≡ old.stands
  pub picks : now.picks ≡ old.picks

pub itself : (s : State) → IsSame s s
itself s = record { setting = refl; budget = refl; stands = refl; picks = refl }

pub same_then : (old mid new : State) (more : List Entry) → IsSame old mid → Stays mid new more → IsSame old new
same_then old mid new more a b = record {
  setting = b.setting ∙ a.setting;
  budget = b.budget ∙ a.budget;
  stands = b.stands ∙ a.stands;
  picks = b.picks ∙ a.picks;
}

-- what happened so far, with these entries more
pub past_stays : (old new : State) (more : List Entry) → Stays old new more
    → past_in new ≡ then_all old.setting (past_in old) more
past_stays old new more s = (λ k. past_of (s.setting k) (s.history k)) ∙ past_then old.setting old.history more

-- Of posting j the calls below i were posted, and this became of them.
pub record IsPosting (old now : State) (ji : ℕ × ℕ) (calls : List CallIn) (so_far : List CallState) : Type 0 where
  pub same : IsSame old now
  pub history : now.history ++ posted_entries now.setting (past_in now) ji (drop ji.1 calls)
      ≡ old.history ++ posted_entries old.setting (past_in old) (ji.0, 0) calls
  pub call_states : so_far ++ call_states_of now.setting (past_in now) ji (drop ji.1 calls)
      ≡ call_states_of old.setting (past_in old) (ji.0, 0) calls

-- none yet
pub posting_starts : (s : State) (j : ℕ) (calls : List CallIn) → IsPosting s s (j, 0) calls []
posting_starts s j calls = record { same = itself s; history = refl; call_states = refl }

-- one more
pub posting_turn : (old mid new : State) (j i n next : ℕ) (calls : List CallIn) (c : CallIn) (call_states : List CallState)
    (f : CallState)
    → n ≡ i → next ≡ i + 1 → i < length calls → c ≡ get_or calls i c
    → Stays mid new (call_entries mid.setting (past_in mid) (j, n) c) → f ≡ state_of_call mid.setting (past_in mid) c
    → IsPosting old mid (j, i) calls call_states → IsPosting old new (j, next) calls (call_states ++ f ∷ [])
posting_turn old mid new j i n next calls c call_states f number step within is s call_state p = record {
  same = same_then old mid new (call_entries mid.setting (past_in mid) (j, n) c) p.same s;
  history =
      (λ k. s.history k ++ posted_entries (s.setting k) (past_stays mid new _ s k) (j, step k) (drop (step k) calls))
      ∙ (λ k. (mid.history ++ call_entries mid.setting (past_in mid) (j, number k) c)
      ++ posted_entries mid.setting
      (then_all mid.setting (past_in mid) (call_entries mid.setting (past_in mid) (j, number k) c))
      (j, after k) (drop (i + 1) calls))
      ∙ append_assoc mid.history (call_entries mid.setting (past_in mid) (j, i) c)
      (posted_entries mid.setting (then_all mid.setting (past_in mid) (call_entries mid.setting (past_in mid) (j, i) c))
      (j, suc i) (drop (i + 1) calls))
      ∙ ap (λ cs. mid.history ++ posted_entries mid.setting (past_in mid) (j, i) cs) (sym (next_of calls i c within is))
      ∙ p.history;
  call_states =
      (λ k. (call_states ++ f ∷ []) ++ call_states_of (s.setting k) (past_stays mid new _ s k) (j, step k) (drop (step k) calls))
      ∙ (λ k. (call_states ++ call_state k ∷ [])
      ++ call_states_of mid.setting
      (then_all mid.setting (past_in mid) (call_entries mid.setting (past_in mid) (j, number k) c))
      (j, after k) (drop (i + 1) calls))
      ∙ append_assoc call_states (state_of_call mid.setting (past_in mid) c ∷ [])
      (call_states_of mid.setting (then_all mid.setting (past_in mid) (call_entries mid.setting (past_in mid) (j, i) c))
      (j, suc i) (drop (i + 1) calls))
      ∙ ap (λ cs. call_states ++ call_states_of mid.setting (past_in mid) (j, i) cs) (sym (next_of calls i c within is))
      ∙ p.call_states;
}
  where
    after : i + 1 ≡ suc i
    after = omega arith

-- the same of what stands in memory
pub posting_pushed : (old mid new : State) (j i n : ℕ) (calls : List CallIn) (c : CallIn) (done now : List CallState)
    (f : CallState)
    → n ≡ i → i < length calls → c ≡ get_or calls i c → now ≡ done ++ f ∷ []
    → Stays mid new (call_entries mid.setting (past_in mid) (j, n) c) → f ≡ state_of_call mid.setting (past_in mid) c
    → IsPosting old mid (j, i) calls done → IsPosting old new (j, i + 1) calls now
posting_pushed old mid new j i n calls c done now f number within is pushed s call_state p =
    subst (IsPosting old new (j, i + 1) calls) (sym pushed)
    (posting_turn old mid new j i n (i + 1) calls c done f number refl within is s call_state p)

none_left : {A : Type 0} (xs : List A) (i : ℕ) → length xs ≤ i → drop i xs ≡ []
none_left [] i h = nothing i
  where
    nothing : {B : Type 0} (n : ℕ) → drop {A = B} n [] ≡ []
    nothing zero = refl
    nothing (suc n) = refl
none_left (x ∷ xs) zero h = absurd (omega (arith, h))
none_left (x ∷ xs) (suc i) h = none_left xs i (omega (arith, h))

-- all of them: what was added is what the posting adds
pub posting_added : (old now : State) (j i : ℕ) (calls : List CallIn) (call_states : List CallState) → length calls ≤ i
    → IsPosting old now (j, i) calls call_states → Stays old now (posted_entries old.setting (past_in old) (j, 0) calls)
posting_added old now j i calls call_states past p = record {
  setting = p.same.setting;
  budget = p.same.budget;
  history =
      sym (append_nil now.history)
      ∙ ap (λ cs. now.history ++ posted_entries now.setting (past_in now) (j, i) cs) (sym (none_left calls i past))
      ∙ p.history;
  stands = p.same.stands;
  picks = p.same.picks;
}

-- and that became of them
pub posting_call_states : (old now : State) (j i : ℕ) (calls : List CallIn) (call_states : List CallState) → length calls ≤ i
    → IsPosting old now (j, i) calls call_states → call_states ≡ call_states_of old.setting (past_in old) (j, 0) calls
posting_call_states old now j i calls call_states past p =
    sym (append_nil call_states)
    ∙ ap (λ cs. call_states ++ call_states_of now.setting (past_in now) (j, i) cs) (sym (none_left calls i past))
    ∙ p.call_states

-- ---- a post

-- what a post adds is what its call adds
pub posted_one : (old new : State) (j i : ℕ) (q copy : Posted) (r : PostReply) → copy ≡ q
    → r ≡ reply_to old.setting (past_in old) copy
    → Stays old new (list_of (post_entry first_worker (origin.Port j i) copy r))
    → Stays old new (call_entries old.setting (past_in old) (j, i) (call.Post q))
posted_one old new j i q copy r same is s =
    subst (Stays old new)
    (λ k. (record { actor = first_worker; act = act.Post j i (same k) (replied k) }) ∷ []) s
  where
    replied : r ≡ reply_to old.setting (past_in old) q
    replied = is ∙ ap (reply_to old.setting (past_in old)) same

-- and so is what becomes of it
pub posted_call_state : (old : State) (q copy : Posted) (r : PostReply) (f : CallState) → copy ≡ q
    → r ≡ reply_to old.setting (past_in old) copy → f ≡ call_state_of r
    → f ≡ state_of_call old.setting (past_in old) (call.Post q)
posted_call_state old q copy r f same is f_is =
    f_is ∙ ap call_state_of (is ∙ ap (reply_to old.setting (past_in old)) same)

-- nothing is added
pub nothing_added : (s : State) → Stays s s []
nothing_added s =
    record { setting = refl; budget = refl; history = sym (append_nil s.history); stands = refl; picks = refl }
