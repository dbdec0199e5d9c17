-- What the steps of one call come to.
use Rattle.std.proofs.Common.{◌≡◌, ℕ, Bool, true, false, not, List, [], ◌∷◌, ◌++◌, Option, None, Some, length, refl, ap, sym, subst, ◌∙◌}
use Rattle.std.specs.Prelude.{IfNone, IfOk, IfSome, OnErr, Result, nat_le, ◌&&◌}
use Rattle.std.specs.declared.alloc.AllocError.{AllocError}
use Rattle.std.specs.declared.result.Result.TheVariants as result
use mathlib.Core.List.{IsPrefix}
use Rattle.atomic_table.specs.Table.{Me}
use Rattle.behaviour_tree.specs.Data.{ProgramParts}
use Rattle.office_core.specs.declared.history.Entry.{Entry}
use Rattle.office_core.specs.Limits.{Setting, first_worker, run_of}
use Rattle.office_core.specs.Past.{Past, is_running}
use Rattle.office_core.specs.Legal.{is_at_work}
use Rattle.office_plain.specs.declared.office.Office.{Office}
use Rattle.office_plain.specs.View.{with_entry}
use Rattle.office_sharing.specs.declared.view.View.{View}
use Rattle.office_sharing.specs.Numbers.{entries_by}
use Rattle.office_sharing.specs.Rule.{HasHistory, IsHistory}
use Rattle.office_sharing.specs.Plays.{HasLooked, HasTaken, InHand, in_hand}
use Rattle.office_sharing.specs.Steps.{IsCall}
use Rattle.office_sharing.specs.Views.{in_turn, merged}
use Rattle.office_turn.specs.Calls.{Called, Follows, Made, Saw, Stays, TookIn, past_at}
use Rattle.office_turn.specs.Hands.{Did, HasMade, HasOffice, past_in_hand, settled}
use Rattle.office_turn.proofs.Hands.{as_office, hand_log}
use Rattle.office_turn.proofs.Own.{history_after, own_after, own_at, settled_is}

-- ---- with the turn

module _ {parts : ProgramParts} (v m : Me Office View) (t : HasTaken parts v m) where
  pub taken_hand : HasOffice parts m
  taken_hand = as_office m t.hand

  taken_log : in_hand m.1 ≡ t.log
  taken_log = hand_log m t.hand

  -- all of the history was seen
  pub taken_seen : m.0.seen ≡ in_hand m.1
  taken_seen = ap (λ (u : View). u.seen) t.view ∙ sym taken_log

  pub taken_turn : m.0.turn ≡ true
  taken_turn = ap (λ (u : View). u.turn) t.view

  -- what stays whatever others do, holds when the pass has the turn
  pub stays_now : (P : Past → Type 0) → ((log : List Entry) → Follows parts v.0 log → P (past_at parts log))
      → P (past_in_hand parts m)
  stays_now P stays =
      subst (λ l. P (past_at parts l)) (sym taken_log)
      (stays t.log (record { history = t.history; begins = t.begins; own = t.own }))

  -- the run did not stop
  pub runs_now : is_running (past_in_hand parts m) ≡ true
  runs_now = stays_now (λ past. is_running past ≡ true) (λ log f. f.history.running)

  -- a worker is at work
  pub works_now : (n : ℕ) → nat_le first_worker n ≡ true → is_at_work (past_in_hand parts m) n ≡ true
  works_now n worker = ap (λ b. b && nat_le first_worker n) runs_now ∙ worker

  -- a call was made on the office in the hand
  pub did_made : (more : Option Entry) (a : Me Office View) → IfSome more (IsCall v.0) → Did parts more m a → HasMade parts a
  did_made more a own d = record {
    more = more;
    own = own_at v.0 a.0 more (ap (λ (u : View). u.number) (d.view ∙ t.view)) own;
    hand = subst (λ l. InHand parts (with_entry l more) a) (sym taken_seen ∙ sym (ap (λ (u : View). u.seen) d.view)) d.hand;
  }

  -- whether it succeeded or not
  pub any_made : {T : Type 0} (more : T → Option Entry) (a : Me Office View) (q : Result T AllocError)
      → ((x : T) → IfSome (more x) (IsCall v.0)) → IfOk q (λ x. Did parts (more x) m a) → OnErr q (Did parts None m a)
      → HasMade parts a
  any_made more a (result.Ok x) own ok err = did_made (more x) a (own x) ok
  any_made more a (result.Err e) own ok err = did_made None a tt err

-- ---- a whole call

-- a pass with this view took the turn, made a call by its number, and gave the turn back
pub record Passed (parts : ProgramParts) (u : View) (v m : Me Office View) (n : ℕ) : Type 0 where
  pub view : v.0 ≡ u
  pub idle : v.0.turn ≡ false
  pub taken : HasTaken parts v m
  pub number : n ≡ v.0.number

pub passes : {parts : ProgramParts} {u : View} {n : ℕ} (v m : Me Office View) → HasTaken parts v m → v.0 ≡ u → v.0.turn ≡ false
    → n ≡ v.0.number → Passed parts u v m n
passes v m t view idle number = record { view = view; idle = idle; taken = t; number = number }

-- a condition that stays, of a pass with this view and number
pub stays_by : {parts : ProgramParts} {u : View} {n : ℕ} (condition : ℕ → Setting → Past → Bool) (v m : Me Office View)
    → HasTaken parts v m → n ≡ v.0.number → v.0 ≡ u → Stays parts u (λ w past. condition u.number w past)
    → condition n (run_of parts) (past_in_hand parts m) ≡ true
stays_by {parts} condition v m t number view stays =
    subst (λ k. condition k (run_of parts) (past_in_hand parts m) ≡ true) (sym number)
    (stays_now v m t (λ past. condition v.0.number (run_of parts) past ≡ true)
    (subst (λ (x : View). Stays parts x (λ w past. condition x.number w past)) (sym view) stays))

-- the number of a worker
pub worker_number : (n : ℕ) (x u : View) → n ≡ x.number → x ≡ u → nat_le first_worker u.number ≡ true
    → nat_le first_worker n ≡ true
worker_number n x u number view worker =
    subst (λ k. nat_le first_worker k ≡ true) (sym (number ∙ ap (λ (y : View). y.number) view)) worker

module _ {parts : ProgramParts} (v m a : Me Office View) (t : HasTaken parts v m) (same : a.0 ≡ m.0) where
  pub turn_still : a.0.turn ≡ true
  turn_still = ap (λ (u : View). u.turn) same ∙ taken_turn v m t

  pub count_still : (before : ℕ) → before ≡ length (in_hand m.1) → before ≡ length a.0.seen
  count_still before count =
      count ∙ (ap (λ (es : List Entry). length es) (sym (taken_seen v m t)) ∙ ap (λ (u : View). length u.seen) (sym same))

-- a call by the number of the pass was made, or not
pub call_made : {parts : ProgramParts} {T : Type 0} {n : ℕ} (v m : Me Office View) (t : HasTaken parts v m)
    (more : ℕ → T → Option Entry) (a : Me Office View) (q : Result T AllocError)
    → ((u : View) (x : T) → IfSome (more u.number x) (IsCall u)) → n ≡ v.0.number
    → IfOk q (λ x. Did parts (more n x) m a) → OnErr q (Did parts None m a) → HasMade parts a
call_made {parts} v m t more a q own number ok err =
    any_made v m t (more v.0.number) a q (own v.0)
    (subst (λ k. IfOk q (λ x. Did parts (more k x) m a)) number ok) err

-- a call by the number of the pass was made
pub call_did : {parts : ProgramParts} {n : ℕ} (v m : Me Office View) (t : HasTaken parts v m) (more : ℕ → Option Entry)
    (a : Me Office View) → ((u : View) → IfSome (more u.number) (IsCall u)) → n ≡ v.0.number → Did parts (more n) m a
    → HasMade parts a
call_did {parts} v m t more a own number d =
    did_made v m t (more v.0.number) a (own v.0) (subst (λ k. Did parts (more k) m a) number d)

-- an office that was only looked at
pub look_made : {parts : ProgramParts} (v m a : Me Office View) → HasTaken parts v m → a ≡ m → HasMade parts a
look_made {parts} v m a t same = subst (HasMade parts) (sym same) record {
  more = None;
  own = tt;
  hand = subst (λ l. InHand parts l m) (sym (taken_seen v m t)) (taken_hand v m t);
}

module _ {parts : ProgramParts} {u : View} {v m : Me Office View} {n : ℕ} (a b : Me Office View) (p : Passed parts u v m n)
    (ends : b ≡ (settled a.0 (in_hand a.1), [])) where
  at_log : in_hand m.1 ≡ p.taken.log
  at_log = hand_log m p.taken.hand

  by_number : n ≡ u.number
  by_number = p.number ∙ ap (λ (x : View). x.number) p.view

  -- what the pass knows at the end
  ended : (more : Option Entry) → Did parts more m a
      → b.0 ≡ record u { seen = with_entry p.taken.log more; mine = with_entry u.mine more }
  ended more d =
      ap (λ (x : Me Office View). x.0) ends
      ∙ ((λ i. settled ((d.view ∙ p.taken.view) i) ((hand_log a d.hand ∙ ap (λ l. with_entry l more) at_log) i))
      ∙ (settled_is v.0 p.taken.log more p.idle
      ∙ ap (λ (x : View). record x { seen = with_entry p.taken.log more; mine = with_entry x.mine more }) p.view))

  module _ (answer : Setting → Past → Type 0) (more : Setting → Past → Option Entry) where
    -- the call that was made
    pub called : ((w : Setting) (past : Past) → IfSome (more w past) (IsCall u))
        → answer (run_of parts) (past_in_hand parts m) → Did parts (more (run_of parts) (past_in_hand parts m)) m a
        → Called parts u b.0 answer more
    called own r d =
        let last_call : Option Entry = more (run_of parts) (past_at parts p.taken.log) in
        let d' : Did parts last_call m a
        = subst (λ l. Did parts (more (run_of parts) (past_at parts l)) m a) at_log d in
        let last : b.0 ≡ record u { seen = with_entry p.taken.log last_call; mine = with_entry u.mine last_call } = ended last_call d' in
        let mine : entries_by u.number p.taken.log ≡ u.mine
        = subst (λ (x : View). entries_by x.number p.taken.log ≡ x.mine) p.view p.taken.own in
        let has : HasHistory parts (with_entry p.taken.log last_call) d'.hand.office
        = record {
          program = d'.hand.has.program;
          entries = d'.hand.has.entries ∙ ap (λ l. with_entry l last_call) at_log;
        } in
        record {
          made = record {
            before = p.taken.log;
            follows = record {
              history = p.taken.history;
              begins = subst (λ (x : View). IsPrefix x.seen p.taken.log) p.view p.taken.begins;
              own = mine;
            };
            seen = ap (λ (x : View). x.seen) last;
            mine = ap (λ (x : View). x.mine) last;
            history = subst (IsHistory parts) (sym (ap (λ (x : View). x.seen) last))
                (history_after u p.taken.log d'.hand.office last_call p.taken.history (own (run_of parts) (past_at parts p.taken.log)) has);
            own = subst (λ (x : View). entries_by x.number x.seen ≡ x.mine) (sym last)
                (own_after u p.taken.log last_call mine (own (run_of parts) (past_at parts p.taken.log)));
            same = subst (λ (x : View). x ≡ record u { seen = x.seen; mine = x.mine }) (sym last) refl;
          };
          reply = subst (λ l. answer (run_of parts) (past_at parts l)) at_log r;
        }

  -- the pass saw more, where it made no call
  pub saw : Did parts None m a → Saw parts u b.0
  saw d =
      let c : Called parts u b.0 (λ w past. Unit {0}) (λ w past. None)
      = called (λ w past. Unit {0}) (λ w past. None) (λ w past. tt) tt d in
      record {
        begins = subst (IsPrefix u.seen) (sym c.made.seen) c.made.follows.begins;
        history = c.made.history;
        own = λ may. c.made.own;
        same = subst (λ es. b.0 ≡ record u { seen = b.0.seen; mine = es }) c.made.mine c.made.same;
      }

  -- a call that answers nothing
  pub made_told : (more : ℕ → Setting → Past → Option Entry)
      → ((w : Setting) (past : Past) → IfSome (more u.number w past) (IsCall u))
      → Did parts (more n (run_of parts) (past_in_hand parts m)) m a → Made parts u b.0 (more u.number)
  made_told more own d =
      (called (λ w past. Unit {0}) (more u.number) own tt
      (subst (λ k. Did parts (more k (run_of parts) (past_in_hand parts m)) m a) by_number d)).made

  module _ {T : Type 0} (q : Result T AllocError) where
    -- where the call succeeds
    pub ok_called : (answer : ℕ → T → Setting → Past → Type 0) (more : ℕ → T → Setting → Past → Option Entry)
        → ((x : T) (w : Setting) (past : Past) → IfSome (more u.number x w past) (IsCall u))
        → IfOk q (λ x. answer n x (run_of parts) (past_in_hand parts m))
        → IfOk q (λ x. Did parts (more n x (run_of parts) (past_in_hand parts m)) m a)
        → IfOk q (λ x. Called parts u b.0 (answer u.number x) (more u.number x))
    ok_called answer more own r d = by q r d
      where
        by : (q : Result T AllocError) → IfOk q (λ x. answer n x (run_of parts) (past_in_hand parts m))
            → IfOk q (λ x. Did parts (more n x (run_of parts) (past_in_hand parts m)) m a)
            → IfOk q (λ x. Called parts u b.0 (answer u.number x) (more u.number x))
        by (result.Ok x) r d =
            called (answer u.number x) (more u.number x) (own x)
            (subst (λ k. answer k x (run_of parts) (past_in_hand parts m)) by_number r)
            (subst (λ k. Did parts (more k x (run_of parts) (past_in_hand parts m)) m a) by_number d)
        by (result.Err e) r d = tt

    -- the same of a call that answers nothing but that it was made
    pub ok_made : (more : ℕ → Setting → Past → Option Entry)
        → ((w : Setting) (past : Past) → IfSome (more u.number w past) (IsCall u))
        → IfOk q (λ x. Did parts (more n (run_of parts) (past_in_hand parts m)) m a)
        → IfOk q (λ x. Made parts u b.0 (more u.number))
    ok_made more own d = by q d
      where
        by : (q : Result T AllocError) → IfOk q (λ x. Did parts (more n (run_of parts) (past_in_hand parts m)) m a)
            → IfOk q (λ x. Made parts u b.0 (more u.number))
        by (result.Ok x) d = made_told more own d
        by (result.Err e) d = tt

    -- where memory was wanting
    pub err_saw : OnErr q (Did parts None m a) → OnErr q (Saw parts u b.0)
    err_saw d = by q d
      where
        by : (q : Result T AllocError) → OnErr q (Did parts None m a) → OnErr q (Saw parts u b.0)
        by (result.Ok x) d = tt
        by (result.Err e) d = saw d

  -- none is left in what the pass has seen now
  pub ok_none : {T : Type 0} (q : Result (Option T) AllocError) (found : ℕ → Setting → Past → Option T)
      → (more : ℕ → Option T → Option Entry) → more n None ≡ None
      → IfOk q (λ o. o ≡ found n (run_of parts) (past_in_hand parts m)) → IfOk q (λ o. Did parts (more n o) m a)
      → IfOk q (λ o. IfNone o (found u.number (run_of parts) (past_at parts b.0.seen) ≡ None))
  ok_none {T} q found more none r d = by q r d
    where
      by : (q : Result (Option T) AllocError) → IfOk q (λ o. o ≡ found n (run_of parts) (past_in_hand parts m))
          → IfOk q (λ o. Did parts (more n o) m a)
          → IfOk q (λ o. IfNone o (found u.number (run_of parts) (past_at parts b.0.seen) ≡ None))
      by (result.Ok None) r d =
          let last = ended None (subst (λ e. Did parts e m a) none d) in
          let seen : b.0.seen ≡ in_hand m.1 = ap (λ (x : View). x.seen) last ∙ sym at_log in
          (λ i. found (sym by_number i) (run_of parts) (past_at parts (seen i))) ∙ sym r
      by (result.Ok (Some x)) r d = tt
      by (result.Err e) r d = tt

  -- where the office was only looked at
  pub same_did : a ≡ m → Did parts None m a
  same_did same = record {
    view = ap (λ (x : Me Office View). x.0) same;
    hand = subst (InHand parts (in_hand m.1)) (sym same) (as_office m p.taken.hand);
  }

  -- and something was found
  pub ok_found : {T : Type 0} (q : Result T AllocError) (found : ℕ → Setting → Past → T) → a ≡ m
      → IfOk q (λ x. x ≡ found n (run_of parts) (past_in_hand parts m))
      → IfOk q (λ x. x ≡ found u.number (run_of parts) (past_at parts b.0.seen))
  ok_found {T} q found same r =
      let last = ended None (same_did same) in
      let seen : b.0.seen ≡ in_hand m.1 = ap (λ (x : View). x.seen) last ∙ sym at_log in
      subst (λ (y : T). IfOk q (λ x. x ≡ y)) (λ i. found (by_number i) (run_of parts) (past_at parts (sym seen i))) r
