-- What one worker has once it did what was left to do, stopped the run and told what was open.
use Rattle.std.proofs.Common.{◌≡◌, ◌↔◌, ◌<◌, ◌≤◌, ◌-◌, ℕ, Bool, true, false, List, [], ◌∷◌, ◌++◌, map, length, take, flat_map, inl, inr, refl, sym, ap, subst, ◌∙◌, append_assoc, le_refl}
use Rattle.std.specs.Prelude.{slice_get}
use Rattle.std.specs.List.{filter, list_all, list_any}
use Rattle.std.proofs.lemmas.Bool.{false≢true}
use Rattle.std.proofs.lemmas.List.{take_at}
use Rattle.behaviour_tree.specs.declared.words.Event.{Event}
use Rattle.office_core.specs.declared.front.Posting.{Posting}
use Rattle.office_core.specs.declared.history.Act.{Act}
use Rattle.office_core.specs.declared.history.Act.TheVariants as act
use Rattle.office_core.specs.declared.history.Entry.{Entry}
use Rattle.office_core.specs.Limits.{Limits, Setting, first_worker}
use Rattle.office_core.specs.Past.{closes, some_entry, stops}
use Rattle.office_core.specs.Accepted.{past_of}
use Rattle.office_core.specs.Legal.{IsLegal}
use Rattle.run_theorem.specs.Exchange.{Received, Exchange, Told}
use Rattle.run_theorem.specs.Calls.{most_postings}
use Rattle.run_quiet_laws.specs.Ends.{CameThrough, Ended, is_adoption, is_collect, stop_entry}
use Rattle.run_quiet_laws.proofs.Ending.{Looked, before_the_stop}
use Rattle.run_record.specs.Collected.{AreCollected}
use Rattle.run_record.specs.Quiet.{before_stop}
use Rattle.run_record.specs.Run.{alone, is_of_hand}
use Rattle.run_record.specs.Order.{finished_there, numbers_from, order_alone}
use Rattle.run_cells.specs.RunStates.{State, Stays, Team, closing, events_of, past_in}
use Rattle.run_cells.specs.Rounds.{Adopted, HasSpent, IsQuietAt, IsStillAt}
use Rattle.run_cells.proofs.Ends.{came_through, looked_by}
use Rattle.run_posts.specs.CallStates.{Wait, all_collected, is_finished, is_open, settled_in, told_of}
use Rattle.run_posts.specs.Telling.{AreExpected, TellsAll}
use Rattle.run_posts.proofs.Ending.{StandsInOrder, open_expected}
use Rattle.run_posts.proofs.Opening.{IsOpen, is_between, told_places}
use Rattle.run_trip_laws.specs.Going.{AreSettled, NotedSoFar, is_inward}
use Rattle.run_trip_laws.proofs.Settling.{noted_on, over_all, settled_on}
use Rattle.session_turn.proofs.Histories.{some_of}
use Rattle.run_alone.specs.Between.{IsGathered, Passed}
use Rattle.run_alone.specs.Ran.{CollectedBefore}
use Rattle.run_alone.specs.Overs.{IsOver, LeavesNone, GaveNone}
use Rattle.run_theorem.specs.Lines.{finished_before, noted_before, IsPrefix}
use Rattle.run_alone.specs.declared.worker.Finished.{Finished}
use Rattle.run_alone.proofs.Assembling.{HasEnded}
use Rattle.run_alone.proofs.Finishing.{CanEnd, adoptions_add, adoptions_between, adoptions_silent, at_end, closed_by, closing_adds, closing_between, closing_by, closing_closes, closing_silent, earlier_end, early_end, open_end, open_gathered, order_end, settled_waits, stop_gathers}
use Rattle.run_alone.proofs.Looks.{left_then}
use Rattle.run_alone.proofs.Noting.{noted_end}
use Rattle.run_alone.proofs.Collecting.{none_append, told_more}
use Rattle.run_alone.proofs.Stepping.{all_weaker, collected_all}
use Rattle.run_alone.proofs.Stopping.{collected_end, told_before_end}
use Rattle.run_alone.proofs.Taking.{runs, still_halted}
use Rattle.run_alone.proofs.Waiting.{none_are}

-- How a run was ended: what was left to do was done, or not where the front halted; the sessions that were born were
-- adopted; the run was stopped, and the answers were collected.
pub record Finishes (s0 s1 s2 s3 s4 : State) (xs0 xs1 : List Wait) : Type 0 where
  pub setting_1 : s1.setting ≡ s0.setting
  pub swept : List Entry
  pub history_1 : s1.history ≡ s0.history ++ swept
  pub between : list_all is_between swept ≡ true
  pub unclosed : list_any closes swept ≡ false
  pub settled : AreSettled s1.setting s1.history
  pub adopt : Adopted s1 s2
  pub stop : Stays s2 s3 (closing (past_in s2) ++ stop_entry ∷ [])
  pub collect : Stays s3 s4 (all_collected s3.setting (past_in s3) xs0)
  pub waits : xs1 ≡ map (settled_in s3.setting (past_in s3)) xs0

module _ {s0 s1 s2 s3 s4 : State} {xs0 xs1 : List Wait} (f : Finishes s0 s1 s2 s3 s4 xs0 xs1) (team0 : Team s0) (team2 : Team s2)
    (legal : IsLegal s4.setting s4.history) where
  abbrev w : Setting
  w = s0.setting

  abbrev adoptions : List Entry
  adoptions = f.adopt.adoptions.adoptions

  abbrev was_closed : Bool
  was_closed = some_entry (past_in s2) closes

  setting_2 : s2.setting ≡ w
  setting_2 = f.adopt.setting ∙ f.setting_1

  setting_3 : s3.setting ≡ w
  setting_3 = f.stop.setting ∙ setting_2

  setting_4 : s4.setting ≡ w
  setting_4 = f.collect.setting ∙ setting_3

  history_2 : s2.history ≡ (s0.history ++ f.swept) ++ adoptions
  history_2 = f.adopt.adoptions.is ∙ ap (λ (l : List Entry). l ++ adoptions) f.history_1

  -- all that the end is made of
  module _ (all : List Posting) where
    abbrev the_end : List Entry
    the_end = at_end w s0.history all xs0 f.swept adoptions (closing_by was_closed)

    history_3 : s3.history ≡ (((s0.history ++ f.swept) ++ adoptions) ++ closing_by was_closed) ++ stop_entry ∷ []
    history_3 =
        f.stop.history ∙ ap (λ (l : List Entry). l ++ (closing_by was_closed ++ stop_entry ∷ [])) history_2
        ∙ sym (append_assoc ((s0.history ++ f.swept) ++ adoptions) (closing_by was_closed) (stop_entry ∷ []))

    history_4 : s4.history ≡ the_end
    history_4 =
        f.collect.history
        ∙ (λ i. history_3 i ++ all_collected (setting_3 i) (past_of (setting_3 i) (history_3 i)) xs0)
        ∙ append_assoc (((s0.history ++ f.swept) ++ adoptions) ++ closing_by was_closed) (stop_entry ∷ []) _

    waits_1 : xs1 ≡ settled_waits w s0.history all xs0 f.swept adoptions (closing_by was_closed)
    waits_1 = f.waits ∙ (λ i. map (settled_in (setting_3 i) (past_of (setting_3 i) (history_3 i))) xs0)

    legal_end : IsLegal w the_end
    legal_end = coe 0 1 (i. IsLegal (setting_4 i) (history_4 i)) legal

    legal_2 : IsLegal w ((s0.history ++ f.swept) ++ adoptions)
    legal_2 = coe 0 1 (i. IsLegal (setting_2 i) (history_2 i)) team2.legal

    limit : w.limits.sessions ≤ first_worker
    limit = subst (λ (l : Limits). l.sessions ≤ first_worker) (sym team0.limits) (le_refl first_worker)

    module _ (ts : List Told) (unfailed : 0 < length all → f.swept ≡ []) (opens : IsOpen w s0.history all ts xs0)
        (order : StandsInOrder w s0.history (length all) ts xs0) where
      can : CanEnd w s0.history all xs0 f.swept adoptions (closing_by was_closed) ts
      can = record {
        legal = legal_end;
        running = runs w s0.history team0.running;
        between = f.between;
        adopted = adoptions_between w (s0.history ++ f.swept) adoptions limit legal_2 f.adopt.adoptions.only;
        adopts = adoptions_add adoptions f.adopt.adoptions.only;
        ends = closing_between was_closed;
        ends_none = closing_adds was_closed;
        unfailed = unfailed;
        opens = opens;
        order = order;
      }

      -- what is open at the end
      pub opens_end : IsOpen s4.setting s4.history all (ts ++ map told_of (filter is_finished xs1)) (filter is_open xs1)
      opens_end =
          coe 1 0
          (i. IsOpen (setting_4 i) (history_4 i) all (ts ++ map told_of (filter is_finished (waits_1 i))) (filter is_open (waits_1 i)))
          (open_end w s0.history all xs0 f.swept adoptions (closing_by was_closed) ts can)

      -- in which order postings were told
      pub order_at_end : map (λ (t : Told). t.place) (ts ++ map told_of (filter is_finished xs1))
          ≡ order_alone s4.setting s4.history first_worker (length all)
      order_at_end =
          coe 1 0
          (i. map (λ (t : Told). t.place) (ts ++ map told_of (filter is_finished (waits_1 i))) ≡ order_alone (setting_4 i) (history_4 i) first_worker (length all))
          (order_end w s0.history all xs0 f.swept adoptions (closing_by was_closed) ts can)

      -- those that were told before are those that are finished before the end
      pub early_at_end : map (λ (t : Told). t.place) ts
          ≡ flat_map (finished_there s4.setting (past_of s4.setting s4.history) first_worker (length all)) (numbers_from 0 (length all))
      early_at_end =
          coe 1 0
          (i. map (λ (t : Told). t.place) ts ≡ flat_map (finished_there (setting_4 i) (past_of (setting_4 i) (history_4 i)) first_worker (length all)) (numbers_from 0 (length all)))
          (early_end w s0.history all xs0 f.swept adoptions (closing_by was_closed) ts can)

      -- those that had been told when a posting was asked for are those that are finished before that one
      pub earlier_at_end : (j k : ℕ) → k ≤ length ts
          → told_places (take k ts) ≡ finished_before w s0.history (length all) j
          → told_places (take k (ts ++ map told_of (filter is_finished xs1)))
          ≡ finished_before s4.setting s4.history (length all) j
      earlier_at_end j k within are =
          coe 1 0
          (i. told_places (take k (ts ++ map told_of (filter is_finished (waits_1 i)))) ≡ finished_before (setting_4 i) (history_4 i) (length all) j)
          (earlier_end w s0.history all xs0 f.swept adoptions (closing_by was_closed) ts can j k within are)

      -- what was noted before the last posting is the same
      pub noted_at_end : (noted : List ℕ) → IsPrefix (noted_before w s0.history (length all - 1)) noted
          → IsPrefix (noted_before s4.setting s4.history (length all - 1)) noted
      noted_at_end noted was =
          coe 1 0 (i. IsPrefix (noted_before (setting_4 i) (history_4 i) (length all - 1)) noted)
          (noted_end w s0.history all xs0 f.swept adoptions (closing_by was_closed) ts can
          (adoptions_silent adoptions f.adopt.adoptions.only) (closing_silent was_closed) noted was)

      -- all that was posted was collected
      pub collected_at_end : IsGathered w s0.history xs0 → before_stop s4.history ≡ s2.history ++ closing_by was_closed
          → list_all (is_of_hand alone) s4.history ≡ true → AreCollected s4.setting s4.history
      collected_at_end g cut hands =
          coe 1 0 (i. AreCollected (setting_4 i) (history_4 i))
          (collected_end w s0.history all xs0 f.swept adoptions (closing_by was_closed) ts can g
          (ap before_stop (sym history_4) ∙ cut ∙ ap (λ (l : List Entry). l ++ closing_by was_closed) history_2)
          (ap (list_all (is_of_hand alone)) (sym history_4) ∙ hands))

      -- and what had been told before
      pub told_before_at_end : IsGathered w s0.history xs0 → (d : Exchange) → CollectedBefore w s0.history d
          → CollectedBefore s4.setting s4.history d
      told_before_at_end g d before =
          coe 1 0 (i. CollectedBefore (setting_4 i) (history_4 i) d)
          (told_before_end w s0.history all xs0 f.swept adoptions (closing_by was_closed) ts can g d before)

      -- the front expects to be told of what is open
      pub expected_end : (d : Exchange) → d.received.given ≡ all → d.sent.told ≡ ts → AreExpected xs1 d
      expected_end d given sent =
          coe 1 0 (i. AreExpected (waits_1 i) d)
          (open_expected w the_end all ts (settled_waits w s0.history all xs0 f.swept adoptions (closing_by was_closed)) d given sent
          (subst (λ (l : List Entry). IsOpen w l all ts (settled_waits w s0.history all xs0 f.swept adoptions (closing_by was_closed)))
          (stop_gathers w s0.history all xs0 f.swept adoptions (closing_by was_closed) ts can)
          (open_gathered w s0.history all xs0 f.swept adoptions (closing_by was_closed) ts can)))

  -- the input was open up to the end
  adoption_open : (n : ℕ) (a : Act) → is_adoption (record { actor = n; act = a }) ≡ true
      → closes (record { actor = n; act = a }) ≡ false
  adoption_open n (act.Adopt d) h = refl
  adoption_open n a h = absurd (false≢true h)

  open_2 : IsGathered w s0.history xs0 → was_closed ≡ false
  open_2 g =
      some_of s2.setting s2.history closes ∙ ap (list_any closes) history_2
      ∙ none_append closes (s0.history ++ f.swept) adoptions
      (none_append closes s0.history f.swept g.unclosed f.unclosed)
      (none_are is_adoption closes (λ e is. adoption_open e.actor e.act is) adoptions f.adopt.adoptions.only)

  -- the history before the stop, and behind it
  stop_is : s4.history
      ≡ (s2.history ++ closing_by was_closed) ++ stop_entry ∷ all_collected s3.setting (past_in s3) xs0
  stop_is =
      f.collect.history
      ∙ ap (λ (l : List Entry). l ++ all_collected s3.setting (past_in s3) xs0)
      (f.stop.history ∙ sym (append_assoc s2.history (closing_by was_closed) (stop_entry ∷ [])))
      ∙ append_assoc (s2.history ++ closing_by was_closed) (stop_entry ∷ []) (all_collected s3.setting (past_in s3) xs0)

  running_2 : list_any stops s2.history ≡ false
  running_2 = sym (some_of s2.setting s2.history stops) ∙ runs s2.setting s2.history team2.running

  closing_runs : (b : Bool) → list_any stops (closing_by b) ≡ false
  closing_runs true = refl
  closing_runs false = refl

  pub cut_at_stop : before_stop s4.history ≡ s2.history ++ closing_by was_closed
  cut_at_stop =
      ap before_stop stop_is
      ∙ before_the_stop (s2.history ++ closing_by was_closed) (all_collected s3.setting (past_in s3) xs0) stop_entry
      (none_append stops s2.history (closing_by was_closed) running_2 (closing_runs was_closed)) refl

  -- the history before the end, and at it
  pub ended : IsGathered w s0.history xs0 → Ended s2.history s4.history
  ended g = record {
    closing = closing_by was_closed;
    collects = all_collected s3.setting (past_in s3) xs0;
    is = stop_is;
    running = running_2;
    closed = closed_by s2.history was_closed (open_2 g);
    closing_are = closing_closes was_closed;
    collects_are = collected_all is_collect (λ m o. refl) s3.setting (past_in s3) xs0;
  }

  inward_adoptions : list_all is_inward adoptions ≡ true
  inward_adoptions = all_weaker is_adoption is_inward (λ e g. inward e.actor e.act g) adoptions f.adopt.adoptions.only
    where
      inward : (n : ℕ) (a : Act) → is_adoption (record { actor = n; act = a }) ≡ true
          → is_inward (record { actor = n; act = a }) ≡ true
      inward n (act.Adopt d) h = refl
      inward n a h = absurd (false≢true h)

  legal_adopted : IsLegal s1.setting (s1.history ++ adoptions)
  legal_adopted = coe 0 1 (i. IsLegal (f.adopt.setting i) (f.adopt.adoptions.is i)) team2.legal

  -- how it stands with the calls before the end
  pub settled_2 : AreSettled s2.setting s2.history
  settled_2 =
      coe 1 0 (i. AreSettled (f.adopt.setting i) (f.adopt.adoptions.is i))
      (over_all s1.setting is_inward (AreSettled s1.setting) (settled_on s1.setting) s1.history adoptions inward_adoptions
      legal_adopted f.settled)

  pub noted_2 : (noted : List ℕ) → NotedSoFar s1.setting s1.history noted → NotedSoFar s2.setting s2.history noted
  noted_2 noted so =
      coe 1 0 (i. NotedSoFar (f.adopt.setting i) (f.adopt.adoptions.is i) noted)
      (over_all s1.setting is_inward (λ g. NotedSoFar s1.setting g noted) (noted_on s1.setting noted) s1.history adoptions
      inward_adoptions legal_adopted so)

-- ---- what passed with the front

-- why no posting was asked for any more
over_then : (before now : Exchange) → now.received ≡ before.received
    → (now.sent.halted ≡ false → before.sent.halted ≡ false) → IsOver before → IsOver now
over_then before now same unfailed (inl e) = inl (ap (λ (b : Received). b.ended) same ∙ e)
over_then before now same unfailed (inr (inl e)) = inr (inl (still_halted before.sent.halted now.sent.halted unfailed e))
over_then before now same unfailed (inr (inr (inl e))) =
    inr (inr (inl (ap (λ (b : Received). b.waits) same ∙ e)))
over_then before now same unfailed (inr (inr (inr (inl e)))) =
    inr (inr (inr (inl (ap (λ (b : Received). b.moves) same ∙ e))))
over_then before now same unfailed (inr (inr (inr (inr e)))) =
    inr (inr (inr (inr (subst (λ (b : Received). most_postings ≤ length b.given) (sym same) e))))

-- it gave none when it was asked last
gave_none : (before now : Exchange) → now.received ≡ before.received → GaveNone now → GaveNone before
gave_none before now same (inl e) = inl (ap (λ (b : Received). b.ended) (sym same) ∙ e)
gave_none before now same (inr some) = inr (subst (λ (b : Received). 0 < b.waits) same some)

-- What passed with the front to the end: the last sweep noted to it, and then it was told of all that was open.
pub record SentAll (s1 : State) (xs1 : List Wait) (before mid now : Exchange) : Type 0 where
  pub told_mid : mid.sent.told ≡ before.sent.told
  pub received_mid : mid.received ≡ before.received
  pub halted_mid : mid.sent.halted ≡ false → before.sent.halted ≡ false
  pub noted : NotedSoFar s1.setting s1.history mid.sent.noted
  pub tells : TellsAll (map told_of (filter is_finished xs1)) mid now

-- What a run leaves: the history and the sessions, no traffic, and what the look at the budgets sent.
pub record Leaves (s2 s4 : State) (finished : Finished) : Type 0 where
  pub history : finished.report.history.entries.items ≡ s4.history
  pub sessions : finished.report.sessions ≡ events_of s2.stands
  pub traffic : finished.report.traffic ≡ []
  pub spent : (finished.spent ≡ true) ↔ HasSpent s2

module _ {s0 s1 s2 s3 s4 : State} {xs0 xs1 : List Wait} {n : ℕ} (f : Finishes s0 s1 s2 s3 s4 xs0 xs1) (team0 : Team s0)
    (team2 : Team s2) (legal : IsLegal s4.setting s4.history) where
  -- so it has ended
  pub has_ended : (new before mid now : Exchange) (finished : Finished) → IsGathered s0.setting s0.history xs0
      → Passed s0 xs0 n before → IsOver before → LeavesNone new before
      → (GaveNone before → before.received.seen ≡ length before.sent.told)
      → SentAll s1 xs1 before mid now → Leaves s2 s4 finished → (0 < n → f.swept ≡ [])
      → (mid.sent.notes_failed ≡ false → IsQuietAt s2) → IsStillAt s2
      → HasEnded (record { setting = s2.setting; budget = s2.budget }) s2.history (filter is_open xs1) new now finished
  has_ended new before mid now finished g passed over none_left saw sent left unfailed quiet still =
      let received : now.received ≡ before.received = sent.tells.received ∙ sent.received_mid in
      let told : now.sent.told ≡ before.sent.told ++ map told_of (filter is_finished xs1)
      = sent.tells.told ∙ ap (λ (ts : List Told). ts ++ map told_of (filter is_finished xs1)) sent.told_mid in
      let idle : 0 < length before.received.given → f.swept ≡ []
      = λ some. unfailed (subst (λ (m : ℕ). 0 < m) passed.count some) in
      let order : StandsInOrder s0.setting s0.history (length before.received.given) before.sent.told xs0
      = subst (λ (m : ℕ). StandsInOrder s0.setting s0.history m before.sent.told xs0) (sym passed.count) passed.order in
      let setting : s4.setting ≡ s2.setting = f.collect.setting ∙ f.stop.setting in
      record {
        came =
            subst (λ (ss : List (List Event)). CameThrough s2.setting s2.budget now.sent.notes_failed s2.history ss) (sym left.sessions)
            (came_through s2 team2 (subst (λ (l : Limits). l.sessions ≤ first_worker) (sym team2.limits) (le_refl first_worker))
            f.adopt.born (λ e. quiet (sym sent.tells.notes_failed ∙ e)) still);
        end = subst (λ (l : List Entry). Ended s2.history l) (sym left.history) (ended f team0 team2 legal g);
        legal = coe 1 0 (i. IsLegal (sym setting i) (left.history i)) legal;
        opens =
            coe 1 0 (i. IsOpen (sym setting i) (left.history i) (received i).given (told i) (filter is_open xs1))
            (opens_end f team0 team2 legal before.received.given before.sent.told idle passed.opens order);
        order =
            coe 1 0
            (i. map (λ (t : Told). t.place) (told i) ≡ order_alone (sym setting i) (left.history i) first_worker (length (received i).given))
            (order_at_end f team0 team2 legal before.received.given before.sent.told idle passed.opens order);
        settled = settled_2 f team0 team2 legal;
        noted =
            subst (λ (t : List ℕ). NotedSoFar s2.setting s2.history t) (sym sent.tells.noted)
            (noted_2 f team0 team2 legal mid.sent.noted sent.noted);
        over = over_then before now received (λ e. sent.halted_mid (sent.tells.halts.unfailed e).0) over;
        left = left_then new before now received (λ e. sent.halted_mid (sent.tells.halts.unfailed e).0) none_left;
        asked = ap (λ (b : Received). length b.seens) received ∙ passed.asked
            ∙ sym (ap (λ (b : Received). length b.given) received ∙ passed.count);
        told_before = λ j k at.
            let was = passed.earlier j k (ap (λ (b : Received). slice_get b.seens j) (sym received) ∙ at) in
            coe 1 0
            (i. told_places (take k (told i)) ≡ finished_before (sym setting i) (left.history i) (length (received i).given) j)
            (earlier_at_end f team0 team2 legal before.received.given before.sent.told idle passed.opens order j k was.within
            (was.are ∙ ap (λ (m : ℕ). finished_before s0.setting s0.history m j) (sym passed.count)));
        gathered =
            coe 1 0 (i. AreCollected (sym setting i) (left.history i))
            (collected_at_end f team0 team2 legal before.received.given before.sent.told idle passed.opens order g
            (cut_at_stop f team0 team2 legal)
            (opens_end f team0 team2 legal before.received.given before.sent.told idle passed.opens order).posted.hands);
        collected =
            coe 1 0 (i. CollectedBefore (sym setting i) (left.history i) now)
            (told_more s4.setting s4.history before now (map told_of (filter is_finished xs1)) received told
            (λ j k at. (passed.earlier j k at).within)
            (told_before_at_end f team0 team2 legal before.received.given before.sent.told idle passed.opens order g before
            passed.collected_before));
        seen = λ none.
            coe 1 0
            (i. map (λ (t : Told). t.place) (take (received i).seen (told i))
            ≡ flat_map (finished_there (sym setting i) (past_of (sym setting i) (left.history i)) first_worker (length (received i).given)) (numbers_from 0 (length (received i).given)))
            (ap (λ (k : ℕ). map (λ (t : Told). t.place) (take k (before.sent.told ++ map told_of (filter is_finished xs1)))) (saw (gave_none before now received none))
            ∙ ap (map (λ (t : Told). t.place)) (take_at before.sent.told (map told_of (filter is_finished xs1)) (length before.sent.told) refl)
            ∙ early_at_end f team0 team2 legal before.received.given before.sent.told idle passed.opens order);
        noted_then =
            coe 1 0
            (i. IsPrefix (noted_before (sym setting i) (left.history i) (length (received i).given - 1)) (received i).noted)
            (noted_at_end f team0 team2 legal before.received.given before.sent.told idle passed.opens order before.received.noted
            (subst (λ (m : ℕ). IsPrefix (noted_before s0.setting s0.history (m - 1)) before.received.noted) (sym passed.count)
            passed.noted_then));
        looked =
            subst (λ (ss : List (List Event)). Looked s2.setting s2.budget s2.history ss finished.spent) (sym left.sessions)
            (looked_by s2 finished.spent left.spent);
        traffic = left.traffic;
      }
