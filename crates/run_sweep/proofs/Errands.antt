-- Calls of a kind go out and come back, one after the other.
use Rattle.std.proofs.Common.{◌≡◌, ◌<◌, ℕ, Bool, true, false, not, ◌&&◌, List, [], ◌∷◌, ◌++◌, length, refl, sym, ap}
use Rattle.outside_links.specs.Trips.{LinkTold}
use Rattle.std.proofs.Common.{subst, ◌∙◌, Option, None, Some, true≢false, append_assoc, append-nil, nat_eq}
use Rattle.std.proofs.lemmas.List.Folds.{list_all-append}
use Rattle.jolie_trees.specs.Trees.{void_tree, root_of}
use Rattle.behaviour_tree.specs.declared.words.Outcome.{Outcome}
use Rattle.behaviour_tree.specs.declared.words.Outcome.TheVariants as outcome
use Rattle.office_core.specs.declared.history.Entry.{Entry}
use Rattle.office_core.specs.declared.outgoing.Outgoing.{Outgoing}
use Rattle.office_core.specs.declared.outgoing.OutKind.{OutKind}
use Rattle.office_core.specs.declared.outgoing.OutKind.TheVariants as kind
use Rattle.office_core.specs.Limits.{Setting, first_worker}
use Rattle.office_core.specs.Accepted.{past_of}
use Rattle.office_core.specs.Calls.{same_kind, outgoing}
use Rattle.office_core.specs.Legal.{IsLegal, is_fetched}
use Rattle.office_plain.specs.Entries.{fetch_entry}
use Rattle.office_plain.specs.Replies.{next_outgoing}
use Rattle.office_plain.proofs.Lists.{none_not_some, itself}
use Rattle.run_theorem.specs.Exchange.{Exchange}
use Rattle.run_theorem.specs.Calls.{Notes}
use Rattle.outside_traits.specs.Told.{Lists}
use Rattle.outside_links.specs.Trips.{Made}
use Rattle.jsonrpc_calls.specs.Console.{console_line}
use Rattle.run_cells.specs.RunStates.{State, Stays, Team, list_of, past_in}
use Rattle.run_trip_laws.specs.Going.{fetch_of, answer_of, went_out, AreSettled, NotedSoFar, Completed, IsHeard}
use Rattle.run_trip_laws.proofs.Settling.{legal_front, fetched_is, settled_back, waits_less, waits_else, noted_console}
use Rattle.run_trip_laws.proofs.Settling.{noted_remote, none_waits, none_next}
use Rattle.run_trip_laws.proofs.Completing.{completed_console, completed_remote}
use Rattle.run_sweep.specs.Swept.{is_errand, NotesBy, CompletedCallsBy, Errands, Cleared}
use Rattle.run_sweep.proofs.Notes.{notes_one, notes_on}
use Rattle.run_theorem.specs.Trips.{HasCounted}

-- none went out yet
pub errands_none : (w : Setting) (k : OutKind) (s : State) → AreSettled w s.history → Errands w k s s false
errands_none w k s settled =
    record {
      more = [];
      stays = record {
        setting = refl;
        budget = refl;
        history = sym (append-nil s.history);
        stands = refl;
        picks = refl;
      };
      each = refl;
      settled = settled;
      others = λ l differs. refl;
      unmoved = λ h. refl;
      some = λ h none. true≢false (sym h);
    }

-- A call is fetched, and then its outcome is received.
pub record Errand (w : Setting) (k : OutKind) (old new : State) (out : Outgoing) : Type 0 where
  pub next : next_outgoing w (past_of w old.history) k ≡ Some out
  pub one : State
  pub fetched : Stays old one (fetch_of first_worker out ∷ [])
  pub answer : Outcome
  pub received : Stays one new (answer_of first_worker out answer ∷ [])
  pub void : same_kind kind.Console k ≡ true → answer ≡ outcome.Value void_tree
  pub legal : IsLegal w new.history

-- the history then
pub went : {w : Setting} {k : OutKind} {old new : State} {out : Outgoing} (x : Errand w k old new out)
    → new.history ≡ went_out old.history first_worker out x.answer
went {w} {k} {old} {new} {out} x =
    x.received.history ∙ ap (λ h. h ++ answer_of first_worker out x.answer ∷ []) x.fetched.history

-- the history was legal before
pub was_legal : {w : Setting} {k : OutKind} {old new : State} {out : Outgoing} → Errand w k old new out
    → IsLegal w old.history
was_legal {w} {k} {old} {new} {out} x =
    legal_front w old.history (fetch_of first_worker out ∷ answer_of first_worker out x.answer ∷ [])
    (subst (IsLegal w)
    (went x ∙ append_assoc old.history (fetch_of first_worker out ∷ []) (answer_of first_worker out x.answer ∷ []))
    x.legal)

-- one call more went out and came back
pub errands_more : (w : Setting) (k : OutKind) (old mid new : State) (out : Outgoing) (moved : Bool)
    → Errands w k old mid moved → Errand w k mid new out → Errands w k old new true
errands_more w k old mid new out moved e x =
    record {
      more = (e.more ++ f ∷ []) ++ a ∷ [];
      stays = record {
        setting = x.received.setting ∙ x.fetched.setting ∙ e.stays.setting;
        budget = x.received.budget ∙ x.fetched.budget ∙ e.stays.budget;
        history = went x ∙ ap (λ h. (h ++ f ∷ []) ++ a ∷ []) e.stays.history
            ∙ ap (λ h. h ++ a ∷ []) (append_assoc old.history e.more (f ∷ []))
            ∙ append_assoc old.history (e.more ++ f ∷ []) (a ∷ []);
        stands = x.received.stands ∙ x.fetched.stands ∙ e.stays.stands;
        picks = x.received.picks ∙ x.fetched.picks ∙ e.stays.picks;
      };
      each = list_all-append is_errand (e.more ++ f ∷ []) (a ∷ [])
          ∙ (λ i. (list_all-append is_errand e.more (f ∷ []) ∙ (λ j. e.each j && (mine && true))) i && (mine && true))
          ∙ all_true (nat_eq first_worker first_worker) (itself first_worker);
      settled = subst (AreSettled w) (sym (went x))
          (settled_back w mid.history first_worker k out x.answer (was_legal x) x.next x.void e.settled);
      others = λ l differs. ap (λ h. outgoing w (past_of w h) l) (went x)
          ∙ waits_else w mid.history first_worker k l out x.answer (was_legal x) x.next differs
          ∙ e.others l differs;
      unmoved = λ h. absurd (true≢false h);
      some = λ h none. waited moved refl none;
    }
  where
    f : Entry
    f = fetch_of first_worker out

    a : Entry
    a = answer_of first_worker out x.answer

    mine : Bool
    mine = nat_eq first_worker first_worker && not false

    all_true : (b : Bool) → b ≡ true → ((true && ((b && not false) && true)) && ((b && not false) && true)) ≡ true
    all_true true h = refl
    all_true false h = h

    waited : (b : Bool) → moved ≡ b → outgoing w (past_of w old.history) k ≡ [] → ⊥
    waited true h none = e.some h none
    waited false h none =
        none_not_some out
        (sym (none_next w (past_of w mid.history) k (ap (λ g. outgoing w (past_of w g) k) (e.unmoved h) ∙ none))
        ∙ x.next)

-- fewer calls of the kind wait then
pub errand_less : (w : Setting) (k : OutKind) (old new : State) (out : Outgoing) → Errand w k old new out
    → length (outgoing w (past_of w new.history) k) < length (outgoing w (past_of w old.history) k)
errand_less w k old new out x =
    subst (λ h. length (outgoing w (past_of w h) k) < length (outgoing w (past_of w old.history) k)) (sym (went x))
    (waits_less w old.history first_worker k out x.answer (was_legal x) x.next)

-- the call that was fetched has no outcome yet
pub errand_fetched : (w : Setting) (k : OutKind) (old one : State) (out : Outgoing) → IsLegal w old.history
    → AreSettled w old.history
    → next_outgoing w (past_of w old.history) k ≡ Some out → Stays old one (fetch_of first_worker out ∷ [])
    → is_fetched (past_of w one.history) first_worker out.session out.call ≡ true
errand_fetched w k old one out legal settled next stays =
    ap (λ h. is_fetched (past_of w h) first_worker out.session out.call) stays.history
    ∙ fetched_is w old.history first_worker k out legal settled next

-- none of the kind waits any more
pub cleared : (w : Setting) (k : OutKind) (old new : State) (moved : Bool) → Errands w k old new moved
    → IsLegal w new.history
    → next_outgoing w (past_of w new.history) k ≡ None → Cleared w k old new moved
cleared w k old new moved e legal none = record { errands = e; none = none_waits w new.history k legal none }

-- ---- notes and trips

-- the line of a call to the console is noted
pub noted_more : (w : Setting) (old : List Entry) (mid new : State) (out : Outgoing) (before now later : Exchange)
    → Errand w kind.Console mid new out → NotesBy w old mid.history before now
    → Notes (console_line (root_of out.value)) now later → NotesBy w old new.history before later
noted_more w old mid new out before now later x so notes = (
  notes_on before now later so.0 (notes_one (console_line (root_of out.value)) now later notes),
  λ first. subst (NotedSoFar w new.history) (sym notes.noted)
      (subst (λ h. NotedSoFar w h (now.sent.noted ++ console_line (root_of out.value))) (sym (went x))
      (noted_console w mid.history first_worker out x.answer now.sent.noted (was_legal x) x.next (so.1 first))),
)

-- a trip is not noted
pub noted_same : (w : Setting) (mid new : State) (out : Outgoing) (noted : List ℕ) → Errand w kind.Remote mid new out
    → NotedSoFar w mid.history noted → NotedSoFar w new.history noted
noted_same w mid new out noted x so =
    subst (λ h. NotedSoFar w h noted) (sym (went x))
    (noted_remote w mid.history first_worker out x.answer noted (was_legal x) x.next so)

-- no trip is made for a call to the console
pub completed_same : (w : Setting) (old : List Entry) (mid new : State) (out : Outgoing) (before now : LinkTold)
    → Errand w kind.Console mid new out → CompletedCallsBy w old mid.history before now → CompletedCallsBy w old new.history before now
completed_same w old mid new out before now x so first t =
    subst (λ h. Completed w h first now) (sym (went x))
    (completed_console w first now mid.history out x.answer (subst (IsLegal w) (went x) x.legal) x.next (so first t))

-- the trip of a call to a service elsewhere is made
pub completed_more : (w : Setting) (old : List Entry) (mid new : State) (out : Outgoing) (m : Made)
    (before now later : LinkTold)
    → (x : Errand w kind.Remote mid new out) → AreSettled w mid.history → IsHeard w.parts out m x.answer
    → Lists now.trips later.trips (m ∷ []) → HasCounted now.faults later.faults (m ∷ [])
    → CompletedCallsBy w old mid.history before now → CompletedCallsBy w old new.history before later
completed_more w old mid new out m before now later x settled heard travels counts so first t =
    subst (λ h. Completed w h first later) (sym (went x))
    (completed_remote w first now later mid.history out x.answer m
    (subst (IsLegal w) (went x) x.legal) settled x.next heard travels counts
    (so first t))

-- ---- as the calls of sessions tell it

-- a call that was fetched is so
pub fetched_of : (k : OutKind) (old mid one : State) (out : Outgoing) (moved : Bool)
    → Errands old.setting k old mid moved → Team mid
    → next_outgoing mid.setting (past_in mid) k ≡ Some out → Stays mid one (fetch_of first_worker out ∷ [])
    → is_fetched (past_in one) first_worker out.session out.call ≡ true
fetched_of k old mid one out moved e team next stays =
    ap (λ w. is_fetched (past_of w one.history) first_worker out.session out.call) (stays.setting ∙ e.stays.setting)
    ∙ errand_fetched old.setting k mid one out
    (subst (λ w. IsLegal w mid.history) e.stays.setting team.legal)
    e.settled
    (subst (λ w. next_outgoing w (past_of w mid.history) k ≡ Some out) e.stays.setting next)
    stays

-- a call that was fetched, and its outcome
pub errand_of : (k : OutKind) (old mid one new : State) (out : Outgoing) (o : Outcome) (moved : Bool)
    → Errands old.setting k old mid moved
    → next_outgoing mid.setting (past_in mid) k ≡ Some out → Stays mid one (fetch_of first_worker out ∷ [])
    → Stays one new (answer_of first_worker out o ∷ [])
    → (same_kind kind.Console k ≡ true → o ≡ outcome.Value void_tree)
    → Team new → Errand old.setting k mid new out
errand_of k old mid one new out o moved e next fetched received void team =
    record {
      next = subst (λ w. next_outgoing w (past_of w mid.history) k ≡ Some out) e.stays.setting next;
      one = one;
      fetched = fetched;
      answer = o;
      received = received;
      void = void;
      legal = subst (λ w. IsLegal w new.history) (received.setting ∙ fetched.setting ∙ e.stays.setting) team.legal;
    }

-- where nothing came
pub same_history : (old new : State) → Stays old new [] → new.history ≡ old.history
same_history old new stays = stays.history ∙ append-nil old.history

errands_still : (w : Setting) (k : OutKind) (old mid new : State) (moved : Bool) → Errands w k old mid moved
    → Stays mid new []
    → Errands w k old new moved
errands_still w k old mid new moved e stays =
    record {
      more = e.more;
      stays = record {
        setting = stays.setting ∙ e.stays.setting;
        budget = stays.budget ∙ e.stays.budget;
        history = same_history mid new stays ∙ e.stays.history;
        stands = stays.stands ∙ e.stays.stands;
        picks = stays.picks ∙ e.stays.picks;
      };
      each = e.each;
      settled = subst (AreSettled w) (sym (same_history mid new stays)) e.settled;
      others = λ l differs. ap (λ h. outgoing w (past_of w h) l) (same_history mid new stays) ∙ e.others l differs;
      unmoved = λ h. same_history mid new stays ∙ e.unmoved h;
      some = e.some;
    }

-- none of the kind is next
pub cleared_of : (k : OutKind) (old mid new : State) (moved : Bool) → Errands old.setting k old mid moved
    → next_outgoing mid.setting (past_in mid) k ≡ None → Stays mid new [] → Team new
    → Cleared old.setting k old new moved
cleared_of k old mid new moved e none stays team =
    cleared old.setting k old new moved (errands_still old.setting k old mid new moved e stays)
    (subst (λ w. IsLegal w new.history) (stays.setting ∙ e.stays.setting) team.legal)
    (ap (λ h. next_outgoing old.setting (past_of old.setting h) k) (same_history mid new stays)
    ∙ subst (λ w. next_outgoing w (past_of w mid.history) k ≡ None) e.stays.setting none)

-- ---- what a fetch gives

-- The oldest call of a kind was fetched.
pub record IsFetched (k : OutKind) (old new : State) (out : Outgoing) : Type 0 where
  pub next : next_outgoing old.setting (past_in old) k ≡ Some out
  pub stays : Stays old new (fetch_of first_worker out ∷ [])

-- No call of the kind waited.
pub record IsNone (k : OutKind) (old new : State) : Type 0 where
  pub next : next_outgoing old.setting (past_in old) k ≡ None
  pub stays : Stays old new []

pub fetched_some : (k : OutKind) (old new : State) (r : Option Outgoing) (out : Outgoing) → r ≡ Some out
    → r ≡ next_outgoing old.setting (past_in old) k → Stays old new (list_of (fetch_entry first_worker r))
    → IsFetched k old new out
fetched_some k old new r out is call stays =
    record {
      next = sym call ∙ is;
      stays = subst (λ o. Stays old new (list_of (fetch_entry first_worker o))) is stays;
    }

pub fetched_none : (k : OutKind) (old new : State) (r : Option Outgoing) → r ≡ None
    → r ≡ next_outgoing old.setting (past_in old) k → Stays old new (list_of (fetch_entry first_worker r))
    → IsNone k old new
fetched_none k old new r is call stays =
    record {
      next = sym call ∙ is;
      stays = subst (λ o. Stays old new (list_of (fetch_entry first_worker o))) is stays;
    }

-- fewer calls wait, by the states' own settings
pub less_of : (k : OutKind) (old mid new : State) (out : Outgoing) → mid.setting ≡ old.setting
    → new.setting ≡ old.setting
    → Errand old.setting k mid new out
    → length (outgoing new.setting (past_in new) k) < length (outgoing mid.setting (past_in mid) k)
less_of k old mid new out m n x =
    coe 1 0
    (i. length (outgoing (n i) (past_of (n i) new.history) k) < length (outgoing (m i) (past_of (m i) mid.history) k))
    (errand_less old.setting k mid new out x)

-- ---- trips, as the calls tell them

-- the trip of a call that was fetched is made
pub completed_of : (old mid one new : State) (out : Outgoing) (o : Outcome) (moved : Bool) (m : Made)
    (before now later : LinkTold) → Errands old.setting kind.Remote old mid moved
    → IsFetched kind.Remote mid one out → Stays one new (answer_of first_worker out o ∷ []) → Team new
    → IsHeard old.setting.parts out m o
    → Lists now.trips later.trips (m ∷ []) → HasCounted now.faults later.faults (m ∷ [])
    → CompletedCallsBy old.setting old.history mid.history before now
    → CompletedCallsBy old.setting old.history new.history before later
unfolding errand_of
completed_of old mid one new out o moved m before now later e f received team heard travels counts so =
    completed_more old.setting old.history mid new out m before now later
    (errand_of kind.Remote old mid one new out o moved e f.next f.stays received (λ h. absurd (true≢false (sym h))) team)
    e.settled heard travels counts so
