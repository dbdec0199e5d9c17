-- What a call through a pass tells is what a desk promises of it.
use Rattle.std.proofs.Common.{◌≡◌, ℕ, Bool, true, false, List, [], ◌∷◌, ◌++◌, Option, None, Some, is_some, Result, Ok, Err, refl, sym, ap, subst, ◌∙◌}
use Rattle.std.specs.Prelude.{IfNone, IfOk, MatchOption, OnErr, OnOk}
use Rattle.std.proofs.lemmas.Bool.{false≢true}
use mathlib.Core.List.{IsPrefix}
use Rattle.jolie_trees.specs.Data.{Tree}
use Rattle.behaviour_tree.specs.Data.{ProgramParts}
use Rattle.behaviour_tree.specs.declared.words.Need.{Need}
use Rattle.behaviour_tree.specs.declared.words.Outcome.{Outcome}
use Rattle.office_core.specs.declared.history.Act.{Act}
use Rattle.office_core.specs.declared.history.Act.TheVariants as act
use Rattle.office_core.specs.declared.history.Entry.{Entry}
use Rattle.office_core.specs.declared.history.Placed.{Placed}
use Rattle.office_core.specs.declared.history.Placed.TheVariants as at
use Rattle.office_core.specs.declared.post.Mail.{Mail}
use Rattle.office_core.specs.Limits.{Setting, run_of}
use Rattle.office_core.specs.Past.{Past}
use Rattle.office_core.specs.Boxes.{queue}
use Rattle.office_core.specs.Calls.{result}
use Rattle.office_core.specs.Keys.{first}
use Rattle.office_core.specs.Accepted.{handed_in}
use Rattle.office_core.specs.Legal.{IsLegal, placed}
use Rattle.office_plain.specs.Entries.{answer_entry, entry, replied_entry, take_entry}
use Rattle.office_plain.specs.Replies.{next_mail}
use Rattle.office_plain.specs.View.{with_entry}
use Rattle.office_sharing.specs.declared.view.View.{View}
use Rattle.office_sharing.specs.Numbers.{entries_by}
use Rattle.office_turn.specs.Calls as turn
use Rattle.office_turn.specs.Calls.{Follows, HoldsSeen, Made, Saw, past_at}
use Rattle.session_turn.specs.Asking.{may_call}
use Rattle.session_turn.specs.Seen.{Called, FoundNone, Grew, HasNone, Took, seat}
use Rattle.session_turn.proofs.Finding.{Waits, none_waits, some_waits, waits_first}
use Rattle.session_turn.proofs.Passing.{last_legal}
use Rattle.session_shared_turns.specs.Passes.{IsPass, office_shared}
use Rattle.session_shared_turns.specs.Stays.{MayAsk, seat_of}
use Rattle.session_shared_turns.proofs.Staying.{others_by}

-- what the session asks it may ask by its pass
pub may_ask : (parts : ProgramParts) (v : View) (s : ℕ) (n : Need) → IsPass v s
    → may_call (seat (office_shared parts) s) v.seen n ≡ true → MayAsk parts v n
may_ask parts v s n p may = record {
  may = subst (λ t. may_call (seat (office_shared parts) t) v.seen n ≡ true) (sym p.number) may;
  own = p.own;
}

-- what a desk promises of the pass's own number, it promises of the session
at_session : (parts : ProgramParts) (v : View) (s : ℕ) (P : ℕ → Type 0) → IsPass v s → P v.number → P s
at_session parts v s P p x = subst P p.number x

module _ (parts : ProgramParts) {v : View} (w : View) {s : ℕ} (p : IsPass v s) where
  -- what was seen grew by entries of others, where the pass made no call
  grew_to : (h : List Entry) → IsPrefix v.seen h → entries_by v.number h ≡ v.mine → Grew (seat_of parts v) v.seen h
  grew_to h begins mine = record {
    others = begins.0;
    foreign = others_by v.number v.seen h begins (mine ∙ sym p.own);
    quiet = λ e. absurd (false≢true e);
    is = sym begins.1;
  }

  before_grew : (h : List Entry) → Follows parts v h → Grew (seat_of parts v) v.seen h
  before_grew h f = grew_to h f.begins f.own

  saw_own : Saw parts v w → entries_by v.number w.seen ≡ v.mine
  saw_own x =
      ap (λ n. entries_by n w.seen) (sym (ap (λ (u : View). u.number) x.same)) ∙ x.own p.calls
      ∙ ap (λ (u : View). u.mine) x.same

  -- ---- after a call that made no entry

  pub saw_pass : Saw parts v w → IsPass w s
  saw_pass x = record {
    number = ap (λ (u : View). u.number) x.same ∙ p.number;
    calls = ap (λ (u : View). u.may_call) x.same ∙ p.calls;
    own = x.own p.calls;
  }

  pub saw_grew : Saw parts v w → Grew (seat (office_shared parts) s) v.seen w.seen
  saw_grew x =
      at_session parts v s (λ t. Grew (seat (office_shared parts) t) v.seen w.seen) p
      (grew_to w.seen x.begins (saw_own x))

  pub err_grew : {A E : Type 0} (q : Result A E) → OnErr q (Saw parts v w)
      → OnErr q (Grew (seat (office_shared parts) s) v.seen w.seen)
  err_grew (Ok x) saw = tt
  err_grew (Err e) saw = saw_grew saw

  -- a look finds what waits, and which outcome there is
  pub mail_there : {E : Type 0} (ops : List ℕ) (q : Result Bool E)
      → IfOk q (λ b. HoldsSeen parts w (λ x past. b ≡ is_some (next_mail past v.number ops)))
      → IfOk q (λ b. b ≡ is_some (first (queue (past_at parts w.seen) s ops)))
  mail_there ops (Ok b) e =
      at_session parts v s (λ t. b ≡ is_some (first (queue (past_at parts w.seen) t ops))) p
      (e ∙ some_waits (past_at parts w.seen) v.number ops)
  mail_there ops (Err x) e = tt

  pub outcome_there : {E : Type 0} (k : ℕ) (q : Result Bool E)
      → IfOk q (λ b. HoldsSeen parts w (λ x past. b ≡ is_some (result x past v.number k)))
      → IfOk q (λ b. b ≡ is_some (result (run_of parts) (past_at parts w.seen) s k))
  outcome_there k (Ok b) e =
      at_session parts v s (λ t. b ≡ is_some (result (run_of parts) (past_at parts w.seen) t k)) p e
  outcome_there k (Err x) e = tt

  -- ---- after a call

  made_pass : {more : Setting → Past → Option Entry} → Made parts v w more → IsPass w s
  made_pass m = record {
    number = ap (λ (u : View). u.number) m.same ∙ p.number;
    calls = ap (λ (u : View). u.may_call) m.same ∙ p.calls;
    own = m.own;
  }

  pub told_pass : {A E : Type 0} (q : Result A E) (answer : A → Setting → Past → Type 0)
      (more : A → Setting → Past → Option Entry)
      → IfOk q (λ x. turn.Called parts v w (answer x) (more x)) → OnOk q (IsPass w s)
  told_pass (Ok x) answer more m = made_pass m.made
  told_pass (Err e) answer more m = tt

  pub on_pass : {A E : Type 0} (q : Result A E) (more : Setting → Past → Option Entry)
      → OnOk q (Made parts v w more) → OnOk q (IsPass w s)
  on_pass (Ok x) more m = made_pass m
  on_pass (Err e) more m = tt

  -- the call stands after what others made, with the reply that the office gives there
  call_as : (more : Setting → Past → Option Entry) (call : Act) (m : Made parts v w more)
      → more (run_of parts) (past_at parts m.before) ≡ Some (entry v.number call)
      → Called (seat_of parts v) v.seen w.seen call
  call_as more call m is =
      let added : w.seen ≡ m.before ++ entry v.number call ∷ [] = m.seen ∙ ap (with_entry m.before) is in
      record {
        before = m.before;
        grew = before_grew m.before m.follows;
        reply = (last_legal (run_of parts) m.before (entry v.number call)
            (subst (IsLegal (run_of parts)) added m.history.legal)).reply;
        is = added;
      }

  -- no call was made, and what was seen is what there was
  none_grew : (more : Setting → Past → Option Entry) (m : Made parts v w more)
      → more (run_of parts) (past_at parts m.before) ≡ None → Grew (seat_of parts v) v.seen w.seen
  none_grew more m is =
      subst (Grew (seat_of parts v) v.seen) (sym (m.seen ∙ ap (with_entry m.before) is))
      (before_grew m.before m.follows)

  pub called_ok : {A E : Type 0} (q : Result A E) (answer : A → Setting → Past → Type 0) (call : A → Act)
      → IfOk q (λ x. turn.Called parts v w (answer x) (λ y past. Some (entry v.number (call x))))
      → IfOk q (λ x. Called (seat (office_shared parts) s) v.seen w.seen (call x))
  called_ok (Ok x) answer call m =
      at_session parts v s (λ t. Called (seat (office_shared parts) t) v.seen w.seen (call x)) p
      (call_as (λ y past. Some (entry v.number (call x))) (call x) m.made refl)
  called_ok (Err e) answer call m = tt

  pub called_on : {A E : Type 0} (q : Result A E) (call : Act)
      → OnOk q (Made parts v w (λ y past. Some (entry v.number call)))
      → OnOk q (Called (seat (office_shared parts) s) v.seen w.seen call)
  called_on (Ok x) call m =
      at_session parts v s (λ t. Called (seat (office_shared parts) t) v.seen w.seen call) p
      (call_as (λ y past. Some (entry v.number call)) call m refl)
  called_on (Err e) call m = tt

  -- a send is placed somewhere
  pub sent_on : {A E : Type 0} (q : Result A E) (k port op : ℕ) (value : Tree) (wants : Bool)
      → OnOk q (Made parts v w (λ y past. replied_entry y past v.number (act.Send k port op value wants at.Out)))
      → OnOk q ((to : Placed)
      × Called (seat (office_shared parts) s) v.seen w.seen (act.Send k port op value wants to))
  sent_on (Ok x) k port op value wants m =
      let send : Placed → Act = act.Send k port op value wants in
      let past : Past = past_at parts m.before in
      let to : Placed = placed (run_of parts) past (handed_in (run_of parts) past v.number (send at.Out)) in (
        to,
        at_session parts v s (λ t. Called (seat (office_shared parts) t) v.seen w.seen (send to)) p
            (call_as (λ y past. replied_entry y past v.number (send at.Out)) (send to) m refl),
      )
  sent_on (Err e) k port op value wants m = tt

  -- no message was there to take
  none_found : (ops : List ℕ) (m : Made parts v w (λ y past. None))
      → next_mail (past_at parts w.seen) v.number ops ≡ None
      → FoundNone (seat_of parts v) ops v.seen w.seen
  none_found ops m none = record {
    grew = none_grew (λ y past. None) m refl;
    empty = none_waits (past_at parts w.seen) v.number ops none;
  }

  -- the first message that waited was taken
  first_taken : (ops : List ℕ) (mail : Mail)
      (m : Made parts v w (λ y past. Some (entry v.number (act.Take mail.message))))
      → Some mail ≡ next_mail (past_at parts m.before) v.number ops
      → Took (seat_of parts v) ops v.seen w.seen mail
  unfolding call_as
  first_taken ops mail m is =
      let x : Waits (past_at parts m.before) v.number ops mail = waits_first (past_at parts m.before) v.number ops
      mail is in
      record {
        called = call_as (λ y past. Some (entry v.number (act.Take mail.message))) (act.Take mail.message) m refl;
        first = x.first;
        message = x.message;
        is = x.there;
        op = x.op;
        value = x.value;
      }

  pub taken_ok : {E : Type 0} (ops : List ℕ) (q : Result (Option Mail) E)
      → IfOk q (λ m. turn.Called parts v w (λ y past. m ≡ next_mail past v.number ops)
      (λ y past. take_entry v.number m))
      → IfOk q (λ m. IfNone m (HoldsSeen parts w (λ y past. next_mail past v.number ops ≡ None)))
      → IfOk q (λ m. MatchOption m (FoundNone (seat (office_shared parts) s) ops v.seen w.seen)
      (Took (seat (office_shared parts) s) ops v.seen w.seen))
  taken_ok ops (Ok None) m none =
      at_session parts v s (λ t. FoundNone (seat (office_shared parts) t) ops v.seen w.seen) p
      (none_found ops m.made none)
  taken_ok ops (Ok (Some mail)) m none =
      at_session parts v s (λ t. Took (seat (office_shared parts) t) ops v.seen w.seen mail) p
      (first_taken ops mail m.made m.reply)
  taken_ok ops (Err e) m none = tt

  pub answered_ok : {E : Type 0} (k : ℕ) (q : Result (Option Outcome) E)
      → IfOk q (λ o. turn.Called parts v w (λ y past. o ≡ result y past v.number k)
      (λ y past. answer_entry v.number k o))
      → IfOk q (λ o. IfNone o (HoldsSeen parts w (λ y past. result y past v.number k ≡ None)))
      → IfOk q (λ o. MatchOption o (HasNone (seat (office_shared parts) s) k v.seen w.seen)
      (λ x. Called (seat (office_shared parts) s) v.seen w.seen (act.Answer k x)))
  answered_ok k (Ok None) m none =
      at_session parts v s (λ t. HasNone (seat (office_shared parts) t) k v.seen w.seen) p
      (record { grew = none_grew (λ y past. None) m.made refl; none = none })
  answered_ok k (Ok (Some x)) m none =
      at_session parts v s (λ t. Called (seat (office_shared parts) t) v.seen w.seen (act.Answer k x)) p
      (call_as (λ y past. Some (entry v.number (act.Answer k x))) (act.Answer k x) m.made refl)
  answered_ok k (Err e) m none = tt
