-- Before the first posting.
use Rattle.std.proofs.Common.{◌≡◌, ◌-◌, ℕ, true, List, [], length, map, Option, refl, sym, ap, subst, ◌∙◌, arith}
use Rattle.outside_links.specs.Trips.{LinkTold}
use Rattle.std.proofs.lemmas.Bool.{false≢true}
use Rattle.behaviour_tree.specs.Data.{ProgramParts}
use Rattle.office_core.specs.declared.front.Posting.{Posting}
use Rattle.office_core.specs.declared.history.Entry.{Entry}
use Rattle.office_core.specs.Limits.{Setting, run_of}
use Rattle.office_core.specs.Accepted.{past_of}
use Rattle.run_theorem.specs.Calls.{After}
use Rattle.run_theorem.specs.Exchange.{Exchange, IsNew}
use Rattle.run_order_laws.proofs.Ordering.{none_told}
use Rattle.run_quiet_laws.proofs.Begun.{well_first}
use Rattle.run_quiet_laws.proofs.Still.{still_first}
use Rattle.run_record.specs.Quiet.{IsStill}
use Rattle.run_cells.specs.RunStates.{State, events_of}
use Rattle.run_posts.specs.declared.pending.Pendings.{Pendings}
use Rattle.run_posts.specs.CallStates.{Wait, wait_of, waits}
use Rattle.run_posts.specs.Open.{IsOpen, StandsInOrder}
use Rattle.run_posts.proofs.Opening.{nothing_open}
use Rattle.run_sweep.specs.Swept.{CompletedCallsBy}
use Rattle.run_trip_laws.specs.Going.{AreSettled, NotedSoFar}
use Rattle.run_theorem.specs.Trips.{Travelled}
use Rattle.run_trip_laws.proofs.Settling.{noted_first, settled_first}
use Rattle.run_alone.specs.Between.{Between, IsGathered, Passed}
use Rattle.run_alone.specs.Ran.{AllCollected, Ran}
use Rattle.run_alone.specs.declared.worker.Finished.{Finished}
use Rattle.run_alone.proofs.Collecting.{CollectedThere}
use Rattle.run_alone.proofs.Earlier.{none_asked}
use Rattle.run_alone.proofs.Noting.{front_all, noted_none}
use Rattle.run_alone.proofs.Completing.{travelled_all}

-- nothing was posted yet, and the input is open
nothing_gathered : (w : Setting) → IsGathered w [] []
nothing_gathered w = record {
  unclosed = refl;
  begun = well_first (CollectedThere w);
  waiting = λ n post uncollected. absurd (false≢true post);
  unanswered = λ n there. absurd (false≢true there);
}

module _ (s : State) (xs : List Wait) (empty : s.history ≡ []) (none : xs ≡ []) where
  pub between_first : Between s xs 0 true
  between_first = record {
    settled = subst (AreSettled s.setting) (sym empty) (settled_first s.setting);
    still = subst (λ (h : List Entry). IsStill s.setting s.budget h (events_of s.stands)) (sym empty)
        (still_first s.setting s.budget (events_of s.stands));
    all = [];
    sent = [];
    opens = coe 1 0 (i. IsOpen s.setting (empty i) [] [] (none i)) (nothing_open s.setting);
    order = coe 1 0 (i. StandsInOrder s.setting (empty i) 0 [] (none i)) (none_told s.setting []);
    count = refl;
    gathered = coe 1 0 (i. IsGathered s.setting (empty i) (none i)) (nothing_gathered s.setting);
    quiet = λ e. empty;
  }

  -- with a new front
  pub passed_first : (d : Exchange) → IsNew d → Passed s xs 0 d
  passed_first d new = record {
    opens = coe 1 0 (i. IsOpen s.setting (empty i) (new.given i) (new.told i) (none i)) (nothing_open s.setting);
    order = coe 1 0 (i. StandsInOrder s.setting (empty i) 0 (new.told i) (none i)) (none_told s.setting []);
    count = ap (λ (ps : List Posting). length ps) new.given;
    asked = ap (λ (ks : List ℕ). length ks) new.unasked;
    earlier = λ j k at. absurd (none_asked d.received.seens j k new.unasked at);
    collected = subst (AllCollected (past_of s.setting s.history)) (sym new.told) refl;
    collected_before = λ j before later e p begins k at. absurd (none_asked d.received.seens j k new.unasked at);
    noted = coe 1 0 (i. NotedSoFar s.setting (empty i) (new.noted i)) (noted_first s.setting);
    noted_then = noted_none s.setting s.history (0 - 1) d.received.noted (omega arith);
    noted_since = front_all d.received.noted d.sent.noted (new.unnoted ∙ sym new.noted);
    some = λ e. absurd (false≢true (sym new.writes ∙ e));
    mutes = λ e. new.notes_unfailed;
  }

-- with the postings of a run that begins
module _ (s : State) (p : Pendings) (empty : s.history ≡ []) (count : p.postings ≡ 0) (none : p.waiting.items ≡ []) where
  no_waits : waits p ≡ []
  no_waits = ap (map wait_of) none

  pub between_starts : Between s (waits p) p.postings true
  between_starts = subst (λ (n : ℕ). Between s (waits p) n true) (sym count) (between_first s (waits p) empty no_waits)

  pub passed_starts : (d : Exchange) → IsNew d → Passed s (waits p) p.postings d
  passed_starts d new = subst (λ (n : ℕ). Passed s (waits p) n d) (sym count) (passed_first s (waits p) empty no_waits d new)

-- ---- under the program that the run was given

pub ran_as : {F : Type 0} (exchanged : ProgramParts → F → F → Exchange → Type 0) {p q : ProgramParts} {a b : ℕ} (first front : F)
    (text : List ℕ) (new : Exchange) (finished : Finished) → p ≡ q → a ≡ b
    → After (exchanged p first front) (λ d. Ran (record { setting = run_of p; budget = a }) text new d finished)
    → After (exchanged q first front) (λ d. Ran (record { setting = run_of q; budget = b }) text new d finished)
ran_as exchanged first front text new finished e f x =
    coe 0 1
    (i. After (exchanged (e i) first front) (λ d. Ran (record { setting = run_of (e i); budget = f i }) text new d finished)) x

pub travelled_as : {p q r : ProgramParts} {g h k : List Entry} {before mid now : LinkTold} → r ≡ q → q ≡ p → g ≡ []
    → CompletedCallsBy (run_of q) g h before mid → CompletedCallsBy (run_of r) h k mid now → Travelled (run_of p) k before now
travelled_as {p} {q} {r} {g} {h} {k} {before} {mid} {now} e f none one two =
    coe 0 1 (i. Travelled (run_of (f i)) k before now)
    (travelled_all none one (coe 0 1 (i. CompletedCallsBy (run_of (e i)) h k mid now) two))
