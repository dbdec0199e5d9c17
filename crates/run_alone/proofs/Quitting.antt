-- The end of a run, put together for one call.
use Rattle.std.proofs.Common.{◌≡◌, ◌↔◌, ◌<◌, ◌≤◌, ℕ, Bool, true, false, List, [], ◌∷◌, ◌++◌, map, length, refl, sym, ap, subst, ◌∙◌, append-nil, le_refl}
use Rattle.std.specs.List.{filter, list_all}
use Rattle.office_core.specs.declared.front.Posting.{Posting}
use Rattle.office_core.specs.declared.history.Entry.{Entry}
use Rattle.office_core.specs.Limits.{Limits, first_worker}
use Rattle.office_core.specs.Past.{closes, some_entry}
use Rattle.office_core.specs.Legal.{IsLegal}
use Rattle.run_theorem.specs.Calls.{After}
use Rattle.run_theorem.specs.Exchange.{Received, Exchange, Told}
use Rattle.run_order_laws.proofs.Growing.{legal_rest}
use Rattle.run_quiet_laws.specs.Ends.{stop_entry}
use Rattle.run_cells.specs.RunStates.{State, Stays, Team, closing, events_of, past_in}
use Rattle.run_cells.specs.Rounds.{Adopted, HasSpent}
use Rattle.run_posts.specs.declared.pending.Pendings.{Pendings}
use Rattle.run_posts.specs.CallStates.{Wait, all_collected, is_finished, is_open, settled_in, told_of, waits}
use Rattle.run_posts.specs.Open.{IsOpen, StandsInOrder}
use Rattle.run_posts.proofs.Opening.{is_between, open_between}
use Rattle.run_posts.specs.Telling.{AreExpected, TellsAll}
use Rattle.run_alone.specs.Between.{Between, Closed, IsLeft, LeftQuiet, Rested}
use Rattle.run_record.specs.declared.record.Record.{Record}
use Rattle.run_alone.specs.Overs.{LeavesNone}
use Rattle.run_alone.specs.Ran.{Ran}
use Rattle.run_alone.specs.declared.worker.Finished.{Finished}
use Rattle.run_alone.proofs.Assembling.{ran}
use Rattle.run_alone.proofs.Between.{swept_between, swept_unclosed}
use Rattle.run_alone.proofs.Ended.{Finishes, Leaves, expected_end, has_ended}
use Rattle.run_alone.proofs.Finishing.{adoptions_between, closing_between}
use Rattle.run_alone.proofs.Rests.{quiet_adopted}
use Rattle.run_alone.proofs.Stepping.{all_append}
use Rattle.run_alone.proofs.Taking.{unfailed_quiet, nothing_more}

-- where no entry came, a state is the same
pub stays_none : (old new : State) → Stays old new [] → new ≡ old
stays_none old new x =
    let history : new.history ≡ old.history = x.history ∙ append-nil old.history in
    λ i. record {
      setting = x.setting i;
      budget = x.budget i;
      history = history i;
      stands = x.stands i;
      picks = x.picks i;
    }

-- What the calls at the end of a run gave.
pub record Quits (unfailed : Bool) (s0 s1 s2 s3 s4 : State) (xs0 xs1 : List Wait) : Type 0 where
  pub rest : Rested unfailed s0 s1
  pub adopt : Adopted s1 s2
  pub stop : Stays s2 s3 (closing (past_in s2) ++ stop_entry ∷ [])
  pub collect : Stays s3 s4 (all_collected s3.setting (past_in s3) xs0)
  pub waits : xs1 ≡ map (settled_in s3.setting (past_in s3)) xs0
  pub team0 : Team s0
  pub team1 : Team s1
  pub team2 : Team s2
  pub legal : IsLegal s4.setting s4.history

module _ {unfailed : Bool} {s0 s1 s2 s3 s4 : State} {xs0 xs1 : List Wait} {n : ℕ} (q : Quits unfailed s0 s1 s2 s3 s4 xs0 xs1)
    (b : Between s0 xs0 n unfailed) where
  -- where there was a posting before, nothing was left to do, or nothing was done
  idle_rest : 0 < n → q.rest.more ≡ []
  idle_rest some = by unfailed refl
    where
      none_of : s1.history ≡ s0.history → q.rest.more ≡ []
      none_of same = nothing_more s0.history q.rest.more (sym q.rest.history ∙ same)

      by : (c : Bool) → unfailed ≡ c → q.rest.more ≡ []
      by true e = none_of (q.rest.quiet (unfailed_quiet s0 n some (b.quiet e))).0
      by false e = none_of (q.rest.stopped e)

  abbrev finishes : Finishes s0 s1 s2 s3 s4 xs0 xs1
  finishes = record {
    setting_1 = q.rest.setting;
    swept = q.rest.more;
    history_1 = q.rest.history;
    between =
        swept_between s0.setting (past_in s0) q.rest.more
        (legal_rest s0.setting s0.history q.rest.more
        (coe 0 1 (i. IsLegal (q.rest.setting i) (q.rest.history i)) q.team1.legal))
        q.rest.each;
    unclosed =
        swept_unclosed s0.setting (past_in s0) q.rest.more
        (legal_rest s0.setting s0.history q.rest.more
        (coe 0 1 (i. IsLegal (q.rest.setting i) (q.rest.history i)) q.team1.legal))
        q.rest.each;
    settled = q.rest.settled;
    adopt = q.adopt;
    stop = q.stop;
    collect = q.collect;
    waits = q.waits;
  }

  pub quits : (text : List ℕ) (finished : Finished) (exchanged_mid exchanged_now : Exchange → Type 0) (new before : Exchange)
      → finished.report.program ≡ text → Leaves s2 s4 finished
      → Closed s0 xs0 n unfailed before → LeavesNone new before → After exchanged_mid (LeftQuiet s0 s1 before)
      → ((mid : Exchange) → exchanged_mid mid → AreExpected xs1 mid
      → After exchanged_now (TellsAll (map told_of (filter is_finished xs1)) mid))
      → After exchanged_now (λ d. Ran (record { setting = s2.setting; budget = s2.budget }) text new d finished)
  quits text finished exchanged_mid exchanged_now new before program leaves closed none_left rest tell =
      let mid : Exchange = rest.0 in
      let left : LeftQuiet s0 s1 before mid = rest.2 in
      let idle : 0 < length before.received.given → q.rest.more ≡ []
      = λ some. idle_rest (subst (λ (m : ℕ). 0 < m) closed.passed.count some) in
      let told = tell mid rest.1
      (expected_end finishes q.team0 q.team2 q.legal before.received.given before.sent.told idle closed.passed.opens
      (in_order closed) mid (ap (λ (x : Received). x.given) left.noted.sent.received) left.noted.told) in (
        told.0,
        told.1,
        ran (record { setting = s2.setting; budget = s2.budget }) text s2.history (filter is_open xs1) new told.0 finished program
            (has_ended finishes q.team0 q.team2 q.legal new before mid told.0 finished b.gathered closed.passed closed.over none_left
            closed.seen
            (record {
              told_mid = left.noted.told;
              received_mid = left.noted.sent.received;
              halted_mid = left.noted.sent.halted;
              noted = left.noted.noted closed.passed.noted;
              tells = told.2;
            })
            leaves idle_rest
            (λ going. quiet_adopted q.team1 q.adopt (left.quiet going))
            (q.adopt.still (q.rest.still b.still))),
      )
    where
      in_order : (c : Closed s0 xs0 n unfailed before)
          → StandsInOrder s0.setting s0.history (length before.received.given) before.sent.told xs0
      in_order c = subst (λ (m : ℕ). StandsInOrder s0.setting s0.history m before.sent.told xs0) (sym c.passed.count) c.passed.order

  -- the same under the rules that the run began with
  pub quits_first : (text : List ℕ) (finished : Finished) (exchanged_mid exchanged_now : Exchange → Type 0) (new before : Exchange)
      → finished.report.program ≡ text → Leaves s2 s4 finished
      → Closed s0 xs0 n unfailed before → LeavesNone new before → After exchanged_mid (LeftQuiet s0 s1 before)
      → ((mid : Exchange) → exchanged_mid mid → AreExpected xs1 mid
      → After exchanged_now (TellsAll (map told_of (filter is_finished xs1)) mid))
      → After exchanged_now (λ d. Ran (record { setting = s0.setting; budget = s0.budget }) text new d finished)
  quits_first text finished exchanged_mid exchanged_now new before program leaves closed none_left rest tell =
      let setting : s2.setting ≡ s0.setting = q.adopt.setting ∙ q.rest.setting in
      let budget : s2.budget ≡ s0.budget = q.adopt.budget ∙ q.rest.budget in
      coe 0 1 (i. After exchanged_now (λ d. Ran (record { setting = setting i; budget = budget i }) text new d finished))
      (quits text finished exchanged_mid exchanged_now new before program leaves closed none_left rest tell)

-- ---- what is open once the run was stopped

open_on : (s t : State) (more : List Entry) (xs : List Wait) (all : List Posting) (ts : List Told) → t.setting ≡ s.setting
    → t.history ≡ s.history ++ more → list_all is_between more ≡ true → IsLegal t.setting t.history
    → IsOpen s.setting s.history all ts xs → IsOpen t.setting t.history all ts xs
open_on s t more xs all ts setting history between legal opens =
    coe 1 0 (i. IsOpen (setting i) (history i) all ts xs)
    (open_between s.setting s.history more all ts xs (coe 0 1 (i. IsLegal (setting i) (history i)) legal) between opens)

pub open_stopped : {unfailed : Bool} {s0 s1 s2 s3 : State} {xs : List Wait} {all : List Posting} {ts : List Told}
    → Rested unfailed s0 s1 → Adopted s1 s2 → Stays s2 s3 (closing (past_in s2) ++ stop_entry ∷ []) → Team s1 → Team s2
    → IsLegal s3.setting s3.history → IsOpen s0.setting s0.history all ts xs → IsOpen s3.setting s3.history all ts xs
open_stopped {s0 = s0} {s1 = s1} {s2 = s2} {s3 = s3} {xs = xs} {all = all} {ts = ts} rest adopt stop team1 team2 legal opens =
    open_on s2 s3 (closing (past_in s2) ++ stop_entry ∷ []) xs all ts stop.setting stop.history
    (all_append is_between (closing (past_in s2)) (stop_entry ∷ []) (closing_between (some_entry (past_in s2) closes)) refl)
    legal
    (open_on s1 s2 adopt.adoptions.adoptions xs all ts adopt.setting adopt.adoptions.is
    (adoptions_between s1.setting s1.history adopt.adoptions.adoptions
    (subst (λ (l : Limits). l.sessions ≤ first_worker) (sym team1.limits) (le_refl first_worker))
    (coe 0 1 (i. IsLegal (adopt.setting i) (adopt.adoptions.is i)) team2.legal)
    adopt.adoptions.only)
    team2.legal
    (open_on s0 s1 rest.more xs all ts rest.setting rest.history
    (swept_between s0.setting (past_in s0) rest.more
    (legal_rest s0.setting s0.history rest.more (coe 0 1 (i. IsLegal (rest.setting i) (rest.history i)) team1.legal))
    rest.each)
    team1.legal opens))

-- the same state under another name
pub stop_same : {s t u : State} → t ≡ s → Stays t u (closing (past_in t) ++ stop_entry ∷ [])
    → Stays s u (closing (past_in s) ++ stop_entry ∷ [])
stop_same {u = u} e x = coe 0 1 (i. Stays (e i) u (closing (past_in (e i)) ++ stop_entry ∷ [])) x

-- the same postings under another name
pub between_under : {s : State} {unfailed : Bool} (p q : Pendings) → q ≡ p → Between s (waits p) p.postings unfailed
    → Between s (waits q) q.postings unfailed
between_under {s} {unfailed} p q e b = coe 1 0 (i. Between s (waits (e i)) (e i).postings unfailed) b

pub closed_under : {s : State} {unfailed : Bool} {d : Exchange} (p q : Pendings) → q ≡ p → Closed s (waits p) p.postings unfailed d
    → Closed s (waits q) q.postings unfailed d
closed_under {s} {unfailed} {d} p q e b = coe 1 0 (i. Closed s (waits (e i)) (e i).postings unfailed d) b

-- whether a session was spent, under another name
pub spent_as : {a b : Bool} {s : State} → a ≡ b → ((b ≡ true) ↔ HasSpent s) → (a ≡ true) ↔ HasSpent s
spent_as {s = s} e x = coe 1 0 (i. (e i ≡ true) ↔ HasSpent s) x

-- a record of all of a state, and that it was spent, are left of it
pub left_by : {text : List ℕ} {spent : Bool} {s : State} {report : Record} → report.program ≡ text
    → report.history.entries.items ≡ s.history → report.sessions ≡ events_of s.stands → report.traffic ≡ []
    → IsLegal s.setting s.history → IsLeft text spent s (record { report = report; spent = spent })
left_by program history sessions traffic legal = record {
  program = program;
  history = history;
  sessions = sessions;
  traffic = traffic;
  spent = refl;
  legal = legal;
}
