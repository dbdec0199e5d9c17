-- A posting is taken in: where the run stands then.
use Rattle.std.proofs.Common.{◌≡◌, ◌<◌, ◌≤◌, ◌-◌, ℕ, zero, suc, Bool, true, false, not, List, [], ◌∷◌, ◌++◌, map, length, take, Some, nat_eq, refl, sym, ap, subst, ◌∙◌, append-nil, arith, le_refl}
use Rattle.std.specs.Prelude.{slice_get}
use Rattle.std.specs.List.{filter, list_all, list_any}
use Rattle.std.proofs.lemmas.Bool.{and_from, and_parts, eq-eqb, false≢true, not-true, or_from}
use Rattle.office_core.specs.declared.front.CallIn.{CallIn}
use Rattle.office_core.specs.declared.front.Posting.{Posting}
use Rattle.office_core.specs.declared.history.Act.TheVariants as act
use Rattle.office_core.specs.declared.history.Entry.{Entry}
use Rattle.office_core.specs.declared.outgoing.OutKind.TheVariants as kind
use Rattle.office_core.specs.Limits.{Limits, Setting, first_worker}
use Rattle.office_core.specs.Past.{closes, is_running, some_entry, stops}
use Rattle.office_core.specs.Accepted.{past_of}
use Rattle.office_core.specs.Legal.{IsLegal}
use Rattle.run_theorem.specs.Exchange.{Received, Exchange, Told}
use Rattle.run_theorem.specs.Calls.{After}
use Rattle.run_order_laws.proofs.Growing.{legal_front, legal_rest}
use Rattle.run_quiet_laws.specs.Ends.{is_by_worker}
use Rattle.run_quiet_laws.proofs.Aside.{is_aside}
use Rattle.run_quiet_laws.proofs.Workers.{quiet_by_answers, still_by_others, still_by_posts}
use Rattle.run_record.specs.Outside.{notes}
use Rattle.run_record.specs.Quiet.{IsQuiet, IsStill, posts, posts_for, outstanding}
use Rattle.run_cells.specs.RunStates.{Stand, State, Stays, Team, events_of, past_in}
use Rattle.run_cells.specs.Rounds.{IsQuietAt, IsStillAt}
use Rattle.run_cells.proofs.Ends.{few, made_calls}
use Rattle.run_posts.specs.CallStates.{Wait, all_collected, call_states_of, is_finished, is_open, posted_entries, settled_in, told_of}
use Rattle.run_posts.specs.Telling.{AreExpected, TellsAll}
use Rattle.run_posts.proofs.Ending.{StandsInOrder, open_expected}
use Rattle.run_posts.proofs.Opening.{IsOpen, all_posts_of, next_wait, open_between, open_posts, told_places}
use Rattle.run_sweep.specs.Swept.{NotesBy, StaysQuiet, Swept}
use Rattle.run_trip_laws.specs.Going.{AreSettled, NotedSoFar, is_inward, is_silent}
use Rattle.run_trip_laws.proofs.Settling.{all_noted, received_over, noted_on, over_all, quiet_none, settled_on}
use Rattle.run_alone.specs.Between.{Answered, Between, Brings, IsGathered, MayBeginAt, Passed, SentMore, WasTold}
use Rattle.run_alone.specs.Ran.{AllCollected, CollectedBefore}
use Rattle.run_theorem.specs.Lines.{finished_before, noted_before, IsPrefix}
use Rattle.run_alone.proofs.Between.{swept_between, swept_unclosed}
use Rattle.run_alone.proofs.Collecting.{gathered_step, told_before_step, told_more, told_step}
use Rattle.run_alone.proofs.Earlier.{asked_within, longer_told}
use Rattle.run_alone.proofs.Noting.{noted_step}
use Rattle.run_alone.proofs.Stepping.{CanStep, after_step, after_sweep, collected_all, earlier_step, longer, open_gathered, open_step, order_step, posted, settled_waits, waiting}

-- What taking in a posting did: its calls were posted, a sweep, answers were collected, and the postings that are
-- finished were told.
pub record Took (s0 s1 s2 s3 : State) (xs0 xs1 xs2 xs3 : List Wait) (n : ℕ) (p : Posting) : Type 0 where
  pub post : Stays s0 s1 (posted_entries s0.setting (past_in s0) (n, 0) p.calls)
  pub posted_waits : xs1 ≡ xs0 ++ record { place = n; call_states = call_states_of s0.setting (past_in s0) (n, 0) p.calls } ∷ []
  pub sweep : Swept s1 s2
  pub quiet : StaysQuiet s1 s2
  pub collect : Stays s2 s3 (all_collected s2.setting (past_in s2) xs1)
  pub collected_waits : xs2 ≡ map (settled_in s2.setting (past_in s2)) xs1
  pub told_waits : xs3 ≡ filter is_open xs2

pub nothing_more : (xs ys : List Entry) → xs ++ ys ≡ xs → ys ≡ []
nothing_more [] ys e = e
nothing_more (x ∷ xs) ys e = nothing_more xs ys (tail e)
  where
    tail : ◌≡◌ {A = List Entry} (x ∷ (xs ++ ys)) (x ∷ xs) → xs ++ ys ≡ xs
    tail e = cc

not_below : 0 < 0 → ⊥
not_below less = omega (arith, less)

some_below : (n : ℕ) → 0 < suc n
some_below n = omega arith

one_less : (n : ℕ) → n ≡ suc n - 1
one_less n = omega arith

-- where there was a posting before, a run that is unfailed has nothing left to do
pub unfailed_quiet : (s : State) (n : ℕ) → 0 < n → MayBeginAt n s → IsQuietAt s
unfailed_quiet s zero some empty = absurd (not_below some)
unfailed_quiet s (suc n) some quiet = quiet

-- each call that went out has its outcome where a posting may begin
unfailed_received : (s : State) (n : ℕ) → MayBeginAt n s → outstanding (past_in s) ≡ []
unfailed_received s zero empty = ap (λ (h : List Entry). outstanding (past_of s.setting h)) empty
unfailed_received s (suc n) quiet = quiet.received

pub runs : (w : Setting) (h : List Entry) → is_running (past_of w h) ≡ true → some_entry (past_of w h) stops ≡ false
runs w h e = not-true (some_entry (past_of w h) stops) e

module _ {s0 s1 s2 s3 : State} {xs0 xs1 xs2 xs3 : List Wait} {n : ℕ} {p : Posting}
    (took : Took s0 s1 s2 s3 xs0 xs1 xs2 xs3 n p) (all : List Posting) (count : length all ≡ n) where
  abbrev w : Setting
  w = s0.setting

  abbrev swept : List Entry
  swept = took.sweep.more

  setting_2 : s2.setting ≡ w
  setting_2 = took.sweep.setting ∙ took.post.setting

  history_1 : s1.history ≡ s0.history ++ posted w s0.history all xs0 p swept
  history_1 = took.post.history ∙ (λ i. s0.history ++ posted_entries w (past_in s0) (sym count i, 0) p.calls)

  history_2 : s2.history ≡ after_sweep w s0.history all xs0 p swept
  history_2 = took.sweep.history ∙ ap (λ (l : List Entry). l ++ swept) history_1

  waits_1 : xs1 ≡ waiting w s0.history all xs0 p swept
  waits_1 =
      took.posted_waits
      ∙ (λ i. xs0 ++ record { place = sym count i; call_states = call_states_of w (past_in s0) (sym count i, 0) p.calls } ∷ [])

  pub history_3 : s3.history ≡ after_step w s0.history all xs0 p swept
  history_3 =
      took.collect.history
      ∙ (λ i. history_2 i ++ all_collected (setting_2 i) (past_of (setting_2 i) (history_2 i)) (waits_1 i))

  pub waits_2 : xs2 ≡ settled_waits w s0.history all xs0 p swept
  waits_2 =
      took.collected_waits ∙ (λ i. map (settled_in (setting_2 i) (past_of (setting_2 i) (history_2 i))) (waits_1 i))

  waits_3 : xs3 ≡ filter is_open (settled_waits w s0.history all xs0 p swept)
  waits_3 = took.told_waits ∙ ap (filter is_open) waits_2

  setting_3 : s3.setting ≡ w
  setting_3 = took.collect.setting ∙ setting_2

  module _ (team0 : Team s0) (team3 : Team s3) (unfailed : MayBeginAt n s0) (ts : List Told) (opens : IsOpen w s0.history all ts xs0)
      (order : StandsInOrder w s0.history n ts xs0) where
    legal_3 : IsLegal w (after_step w s0.history all xs0 p swept)
    legal_3 = subst (IsLegal w) history_3 (subst (λ (v : Setting). IsLegal v s3.history) setting_3 team3.legal)

    legal_2 : IsLegal w (after_sweep w s0.history all xs0 p swept)
    legal_2 = legal_front w (after_sweep w s0.history all xs0 p swept) _ legal_3

    -- where nothing was posted and there was a posting before, the sweep did nothing
    idle : 0 < length all → posted w s0.history all xs0 p swept ≡ [] → swept ≡ []
    idle some none =
        let same : s1.history ≡ s0.history
        = history_1 ∙ ap (λ (l : List Entry). s0.history ++ l) none ∙ append-nil s0.history in
        let quiet_1 : IsQuietAt s1
        = coe 1 0 (i. IsQuiet (took.post.setting i) (took.post.budget i) (same i) (events_of (took.post.stands i)))
        (unfailed_quiet s0 n (subst (λ (m : ℕ). 0 < m) count some) unfailed) in
        nothing_more s1.history swept (sym took.sweep.history ∙ (took.quiet quiet_1).0)

    can : CanStep w s0.history all xs0 p swept ts
    can = record {
      legal = legal_3;
      running = runs w s0.history team0.running;
      running_then =
          subst (λ (l : List Entry). some_entry (past_of w l) stops ≡ false) history_3
          (subst (λ (v : Setting). some_entry (past_of v s3.history) stops ≡ false) setting_3
          (runs s3.setting s3.history team3.running));
      between =
          swept_between w (past_of w (s0.history ++ posted w s0.history all xs0 p swept)) swept
          (legal_rest w (s0.history ++ posted w s0.history all xs0 p swept) swept legal_2)
          took.sweep.each;
      unfailed = idle;
      opens = opens;
      order = subst (λ m. StandsInOrder w s0.history m ts xs0) (sym count) order;
    }

    -- what is open then
    pub opens_then : IsOpen s3.setting s3.history (all ++ p ∷ []) (ts ++ map told_of (filter is_finished xs2)) xs3
    opens_then =
        coe 1 0
        (i. IsOpen (setting_3 i) (history_3 i) (all ++ p ∷ []) (ts ++ map told_of (filter is_finished (waits_2 i))) (waits_3 i))
        (open_step w s0.history all xs0 p swept ts can)

    -- and in which order postings were told
    pub order_then : StandsInOrder s3.setting s3.history (suc n) (ts ++ map told_of (filter is_finished xs2)) xs3
    order_then =
        coe 1 0
        (i. StandsInOrder (setting_3 i) (history_3 i) (suc (sym count i)) (ts ++ map told_of (filter is_finished (waits_2 i))) (waits_3 i))
        (order_step w s0.history all xs0 p swept ts can)

    -- and what had been told when each was asked for
    pub earlier_then : (j k : ℕ) → j ≤ n → k ≤ length ts → told_places (take k ts) ≡ finished_before w s0.history n j
        → told_places (take k (ts ++ map told_of (filter is_finished xs2)))
        ≡ finished_before s3.setting s3.history (suc n) j
    earlier_then j k most within are =
        coe 1 0
        (i. told_places (take k (ts ++ map told_of (filter is_finished (waits_2 i)))) ≡ finished_before (setting_3 i) (history_3 i) (suc (sym count i)) j)
        (earlier_step w s0.history all xs0 p swept ts can j k (subst (λ (m : ℕ). j ≤ m) (sym count) most) within
        (are ∙ ap (λ (m : ℕ). finished_before w s0.history m j) (sym count)))

    -- and what was noted before it was asked for
    pub noted_then : (noted : List ℕ) → notes w s0.history ≡ noted → IsPrefix (noted_before s3.setting s3.history n) noted
    noted_then noted is =
        coe 1 0 (i. IsPrefix (noted_before (setting_3 i) (history_3 i) (sym count i)) noted)
        (noted_step w s0.history all xs0 p swept ts can noted is)

    -- and what was collected
    unclosed_then : list_any closes swept ≡ false
    unclosed_then =
        swept_unclosed w (past_of w (s0.history ++ posted w s0.history all xs0 p swept)) swept
        (legal_rest w (s0.history ++ posted w s0.history all xs0 p swept) swept legal_2) took.sweep.each

    pub gathered_then : IsGathered w s0.history xs0 → IsGathered s3.setting s3.history xs3
    gathered_then g =
        coe 1 0 (i. IsGathered (setting_3 i) (history_3 i) (waits_3 i))
        (gathered_step w s0.history all xs0 p swept can.between unclosed_then g)

    -- what was told then was collected
    pub told_then : IsGathered w s0.history xs0 → AllCollected (past_of w s0.history) ts
        → AllCollected (past_of s3.setting s3.history) (ts ++ map told_of (filter is_finished xs2))
    told_then g was =
        coe 1 0 (i. AllCollected (past_of (setting_3 i) (history_3 i)) (ts ++ map told_of (filter is_finished (waits_2 i))))
        (told_step w s0.history all xs0 p swept ts can unclosed_then g was)

    -- and what had been told before
    pub told_before_then : (d : Exchange) → d.sent.told ≡ ts → AllCollected (past_of w s0.history) ts
        → CollectedBefore w s0.history d → CollectedBefore s3.setting s3.history d
    told_before_then d told was before =
        coe 1 0 (i. CollectedBefore (setting_3 i) (history_3 i) d)
        (told_before_step w s0.history all xs0 p swept ts can d told was before)

    -- the front expects to be told of them
    pub expected_then : (d : Exchange) → d.received.given ≡ all ++ p ∷ [] → d.sent.told ≡ ts → AreExpected xs2 d
    expected_then d given sent =
        coe 1 0 (i. AreExpected (waits_2 i) d)
        (open_expected w (after_step w s0.history all xs0 p swept) (all ++ p ∷ []) ts
        (settled_waits w s0.history all xs0 p swept) d given sent (open_gathered w s0.history all xs0 p swept ts can))

-- ---- how a team stands

none_of_not : (f : Entry → Bool) (es : List Entry) → list_all (λ e. not (f e)) es ≡ true → list_any f es ≡ false
none_of_not f [] h = refl
none_of_not f (e ∷ es) h =
    let both = and_parts (not (f e)) (list_all (λ d. not (f d)) es) h in
    or_from (f e) (list_any f es) (not-true (f e) both.0) (none_of_not f es both.1)

few_team : (s : State) → Team s → length (events_of s.stands) ≤ first_worker
few_team s team =
    few s team (subst (λ (l : Limits). l.sessions ≤ first_worker) (sym team.limits) (le_refl first_worker))

itself : (m : ℕ) → nat_eq m m ≡ true
itself m = eq-eqb m m refl

-- answers were collected, and nothing is left to do where nothing was
pub quiet_collected : (old new : State) (xs : List Wait) → Team new
    → Stays old new (all_collected old.setting (past_in old) xs) → IsQuietAt old → IsQuietAt new
quiet_collected old new xs team stays q =
    coe 1 0 (i. IsQuiet (stays.setting i) (stays.budget i) (stays.history i) (events_of (stays.stands i)))
    (quiet_by_answers old.setting old.budget old.history (all_collected old.setting (past_in old) xs) (events_of old.stands)
    (subst (λ (sts : List Stand). length (events_of sts) ≤ first_worker) stays.stands (few_team new team))
    (collected_all is_aside (λ m o. refl) old.setting (past_in old) xs)
    (collected_all is_by_worker (λ m o. refl) old.setting (past_in old) xs) q)

-- and stillness stays
pub still_collected : (old new : State) (xs : List Wait) → Stays old new (all_collected old.setting (past_in old) xs)
    → IsStillAt old → IsStillAt new
still_collected old new xs stays still =
    coe 1 0 (i. IsStill (stays.setting i) (stays.budget i) (stays.history i) (events_of (stays.stands i)))
    (still_by_others old.setting old.budget old.history (all_collected old.setting (past_in old) xs) (events_of old.stands)
    (none_of_not posts (all_collected old.setting (past_in old) xs)
    (collected_all (λ e. not (posts e)) (λ m o. refl) old.setting (past_in old) xs))
    still)

-- a posting was posted where it may begin
pub still_posted : (old new : State) (n : ℕ) (cs : List CallIn) → Team old
    → Stays old new (posted_entries old.setting (past_in old) (n, 0) cs) → MayBeginAt n old → IsStillAt old → IsStillAt new
still_posted old new n cs team stays unfailed still =
    coe 1 0 (i. IsStill (stays.setting i) (stays.budget i) (stays.history i) (events_of (stays.stands i)))
    (still_by_posts old.setting old.budget first_worker n old.history (posted_entries old.setting (past_in old) (n, 0) cs)
    (events_of old.stands)
    (all_posts_of old.setting (past_in old) (n, 0) cs (posts_for first_worker n)
    (λ i q r. and_from (nat_eq first_worker first_worker) (nat_eq n n) (itself first_worker) (itself n)))
    unfailed (made_calls old team) still)

-- ---- the run then

module _ {s0 s1 s2 s3 : State} {xs0 xs1 xs2 xs3 : List Wait} {n : ℕ} {p : Posting}
    (took : Took s0 s1 s2 s3 xs0 xs1 xs2 xs3 n p) (team0 : Team s0) (team3 : Team s3) where
  inward_gathered : list_all is_inward (all_collected s2.setting (past_in s2) xs1) ≡ true
  inward_gathered = collected_all is_inward (λ m o. refl) s2.setting (past_in s2) xs1

  legal_then : IsLegal s2.setting (s2.history ++ all_collected s2.setting (past_in s2) xs1)
  legal_then = coe 0 1 (i. IsLegal (took.collect.setting i) (took.collect.history i)) team3.legal

  settled_then : AreSettled s3.setting s3.history
  settled_then =
      coe 1 0 (i. AreSettled (took.collect.setting i) (took.collect.history i))
      (over_all s2.setting is_inward (AreSettled s2.setting) (settled_on s2.setting) s2.history
      (all_collected s2.setting (past_in s2) xs1) inward_gathered legal_then
      (coe 1 0 (i. AreSettled (took.sweep.setting i) s2.history) took.sweep.settled))

  -- where it stands, by whether it is unfailed
  pub between_then : {unfailed : Bool} → Between s0 xs0 n true → (unfailed ≡ true → IsQuietAt s2) → Between s3 xs3 (suc n) unfailed
  between_then b quiet = record {
    settled = settled_then;
    still = still_collected s2 s3 xs1 took.collect
        (took.sweep.still (still_posted s0 s1 n p.calls team0 took.post (b.quiet refl) b.still));
    all = b.all ++ p ∷ [];
    sent = b.sent ++ map told_of (filter is_finished xs2);
    opens = opens_then took b.all b.count team0 team3 (b.quiet refl) b.sent b.opens b.order;
    order = order_then took b.all b.count team0 team3 (b.quiet refl) b.sent b.opens b.order;
    count = longer b.all p ∙ ap suc b.count;
    gathered = gathered_then took b.all b.count team0 team3 (b.quiet refl) b.sent b.opens b.order b.gathered;
    quiet = λ e. quiet_collected s2 s3 xs1 team3 took.collect (quiet e);
  }

  noted_posted : (noted : List ℕ) → NotedSoFar s0.setting s0.history noted → IsLegal s1.setting s1.history
      → NotedSoFar s1.setting s1.history noted
  noted_posted noted so legal =
      coe 1 0 (i. NotedSoFar (took.post.setting i) (took.post.history i) noted)
      (over_all s0.setting is_inward (λ g. NotedSoFar s0.setting g noted) (noted_on s0.setting noted) s0.history
      (posted_entries s0.setting (past_in s0) (n, 0) p.calls)
      (all_posts_of s0.setting (past_in s0) (n, 0) p.calls is_inward (λ i q r. refl))
      (coe 0 1 (i. IsLegal (took.post.setting i) (took.post.history i)) legal) so)

  noted_collected : (noted : List ℕ) → NotedSoFar s2.setting s2.history noted → NotedSoFar s3.setting s3.history noted
  noted_collected noted so =
      coe 1 0 (i. NotedSoFar (took.collect.setting i) (took.collect.history i) noted)
      (over_all s2.setting is_inward (λ g. NotedSoFar s2.setting g noted) (noted_on s2.setting noted) s2.history
      (all_collected s2.setting (past_in s2) xs1) inward_gathered legal_then so)

  -- what passed with the front then: it was noted to in the sweep, and then told
  pub passed_then : (before mid now : Exchange) → IsLegal s1.setting s1.history → MayBeginAt n s0 → AreSettled s0.setting s0.history
      → IsGathered s0.setting s0.history xs0 → Brings s0 xs0 n p before → NotesBy s1.setting s1.history s2.history before mid
      → TellsAll (map told_of (filter is_finished xs2)) mid now → Passed s3 xs3 (suc n) now × SentMore before now
  passed_then before mid now legal unfailed settled g b noting tells =
      let received : now.received ≡ before.received = tells.received ∙ (noting.0).notes.received in
      let given : now.received.given ≡ b.all ++ p ∷ [] = ap (λ (x : Received). x.given) received ∙ b.given in
      let told : now.sent.told ≡ before.sent.told ++ map told_of (filter is_finished xs2)
      = tells.told ∙ ap (λ (ts : List Told). ts ++ map told_of (filter is_finished xs2)) (noting.0).notes.told in (
        record {
          opens = coe 1 0 (i. IsOpen s3.setting s3.history (given i) (told i) xs3)
              (opens_then took b.all b.count team0 team3 unfailed before.sent.told b.opens b.order);
          order = coe 1 0 (i. StandsInOrder s3.setting s3.history (suc n) (told i) xs3)
              (order_then took b.all b.count team0 team3 unfailed before.sent.told b.opens b.order);
          count = ap (λ (ps : List Posting). length ps) given ∙ longer b.all p ∙ ap suc b.count;
          asked = ap (λ (x : Received). length x.seens) received ∙ b.asked;
          earlier = λ j k at.
              let there : slice_get before.received.seens j ≡ Some k
              = ap (λ (x : Received). slice_get x.seens j) (sym received) ∙ at in
              let was = b.earlier j k there in
              coe 1 0 (i. WasTold s3 (suc n) (told i) j k)
              (record {
                within = longer_told k before.sent.told (map told_of (filter is_finished xs2)) was.within;
                are = earlier_then took b.all b.count team0 team3 unfailed before.sent.told b.opens b.order j k
                    (asked_within before.received.seens j k n b.asked there) was.within was.are;
              });
          collected =
              subst (AllCollected (past_of s3.setting s3.history)) (sym told)
              (told_then took b.all b.count team0 team3 unfailed before.sent.told b.opens b.order g b.collected);
          collected_before =
              told_more s3.setting s3.history before now (map told_of (filter is_finished xs2)) received told
              (λ j k at. (b.earlier j k at).within)
              (told_before_then took b.all b.count team0 team3 unfailed before.sent.told b.opens b.order before refl b.collected
              b.collected_before);
          noted = subst (λ (t : List ℕ). NotedSoFar s3.setting s3.history t) (sym tells.noted)
              (noted_collected mid.sent.noted
              (coe 0 1 (i. NotedSoFar (sym took.sweep.setting i) s2.history mid.sent.noted)
              (noting.1 (noted_posted before.sent.noted b.noted legal))));
          noted_then = subst (λ (m : ℕ). IsPrefix (noted_before s3.setting s3.history m) now.received.noted) (one_less n)
              (noted_then took b.all b.count team0 team3 unfailed before.sent.told b.opens b.order now.received.noted
              (sym (all_noted s0.setting s0.history before.sent.noted
              (quiet_none s0.setting s0.history kind.Console settled (unfailed_received s0 n unfailed)) b.noted)
              ∙ sym b.noted_now ∙ ap (λ (x : Received). x.noted) (sym received)));
          noted_since = (
            (noting.0).text,
            ap (λ (l : List ℕ). l ++ (noting.0).text) (ap (λ (x : Received). x.noted) received ∙ b.noted_now)
                ∙ sym (noting.0).notes.noted ∙ sym tells.noted,
          );
          some = λ e. some_below n;
          mutes = λ e. tells.notes_failed ∙ (noting.0).notes.notes_failed ∙ (tells.halts.unfailed e).0;
        },
        record { received = received; halted = λ e. ((noting.0).notes.halts.unfailed (tells.halts.unfailed e).0).0 },
      )

-- ---- step by step, as the calls need it

-- what is open once a posting was posted
pub open_posted : (s0 s1 : State) (xs0 xs1 : List Wait) (n : ℕ) (p : Posting) (all : List Posting) (ts : List Told)
    → length all ≡ n → Stays s0 s1 (posted_entries s0.setting (past_in s0) (n, 0) p.calls)
    → xs1 ≡ xs0 ++ record { place = n; call_states = call_states_of s0.setting (past_in s0) (n, 0) p.calls } ∷ []
    → IsLegal s1.setting s1.history → IsOpen s0.setting s0.history all ts xs0
    → IsOpen s1.setting s1.history (all ++ p ∷ []) ts xs1
open_posted s0 s1 xs0 xs1 n p all ts count stays waits legal opens =
    let history : s1.history ≡ s0.history ++ posted_entries s0.setting (past_in s0) (length all, 0) p.calls
    = stays.history ∙ (λ i. s0.history ++ posted_entries s0.setting (past_in s0) (sym count i, 0) p.calls) in
    let waiting_1 : xs1 ≡ xs0 ++ next_wait s0.setting (past_in s0) (length all) p ∷ []
    = waits
    ∙ (λ i. xs0 ++ record { place = sym count i; call_states = call_states_of s0.setting (past_in s0) (sym count i, 0) p.calls } ∷ []) in
    coe 1 0 (i. IsOpen (stays.setting i) (history i) (all ++ p ∷ []) ts (waiting_1 i))
    (open_posts s0.setting s0.history all ts xs0 p (coe 0 1 (i. IsLegal (stays.setting i) (history i)) legal) opens)

-- and after a sweep
pub open_rested : (s1 s2 : State) (xs : List Wait) (all : List Posting) (ts : List Told) → Swept s1 s2
    → IsLegal s2.setting s2.history → IsOpen s1.setting s1.history all ts xs → IsOpen s2.setting s2.history all ts xs
open_rested s1 s2 xs all ts swept legal opens =
    let legal_2 : IsLegal s1.setting (s1.history ++ swept.more)
    = coe 0 1 (i. IsLegal (swept.setting i) (swept.history i)) legal in
    coe 1 0 (i. IsOpen (swept.setting i) (swept.history i) all ts xs)
    (open_between s1.setting s1.history swept.more all ts xs legal_2
    (swept_between s1.setting (past_in s1) swept.more (legal_rest s1.setting s1.history swept.more legal_2) swept.each) opens)

-- how it stands with the calls once a posting was posted
pub settled_posted : (s0 s1 : State) (n : ℕ) (cs : List CallIn)
    → Stays s0 s1 (posted_entries s0.setting (past_in s0) (n, 0) cs) → IsLegal s1.setting s1.history
    → AreSettled s0.setting s0.history → AreSettled s1.setting s1.history
settled_posted s0 s1 n cs stays legal settled =
    coe 1 0 (i. AreSettled (stays.setting i) (stays.history i))
    (over_all s0.setting is_inward (AreSettled s0.setting) (settled_on s0.setting) s0.history
    (posted_entries s0.setting (past_in s0) (n, 0) cs)
    (all_posts_of s0.setting (past_in s0) (n, 0) cs is_inward (λ i q r. refl))
    (coe 0 1 (i. IsLegal (stays.setting i) (stays.history i)) legal) settled)

pub between_received : {s : State} {xs : List Wait} {n : ℕ} {unfailed : Bool} → unfailed ≡ true → Between s xs n unfailed
    → outstanding (past_in s) ≡ []
between_received {s} {xs} {n} e b = unfailed_received s n (b.quiet e)

-- and still once a posting was posted
pub received_posted : (s0 s1 : State) (n : ℕ) (cs : List CallIn)
    → Stays s0 s1 (posted_entries s0.setting (past_in s0) (n, 0) cs) → IsLegal s1.setting s1.history
    → AreSettled s0.setting s0.history → outstanding (past_in s0) ≡ [] → outstanding (past_in s1) ≡ []
received_posted s0 s1 n cs stays legal settled none =
    (λ i. outstanding (past_of (stays.setting i) (stays.history i)))
    ∙ received_over s0.setting s0.history (posted_entries s0.setting (past_in s0) (n, 0) cs)
    (all_posts_of s0.setting (past_in s0) (n, 0) cs is_silent (λ i q r. refl))
    (coe 0 1 (i. IsLegal (stays.setting i) (stays.history i)) legal) settled none

pub received_then : (s0 s1 : State) (xs : List Wait) (n : ℕ) (cs : List CallIn)
    → Stays s0 s1 (posted_entries s0.setting (past_in s0) (n, 0) cs) → IsLegal s1.setting s1.history
    → Between s0 xs n true → outstanding (past_in s1) ≡ []
received_then s0 s1 xs n cs stays legal b =
    received_posted s0 s1 n cs stays legal b.settled (between_received {s = s0} {xs = xs} {n = n} refl b)

-- ---- put together for one call

-- what is so only where something else is
pub still_halted : (before now : Bool) → (now ≡ false → before ≡ false) → before ≡ true → now ≡ true
still_halted before true unfailed e = refl
still_halted before false unfailed e = absurd (false≢true (sym (unfailed refl) ∙ e))

module _ {s0 s1 s2 s3 : State} {xs0 xs1 xs2 xs3 : List Wait} {n : ℕ} (p : Posting)
    (post : Stays s0 s1 (posted_entries s0.setting (past_in s0) (n, 0) p.calls))
    (posted_waits : xs1 ≡ xs0 ++ record { place = n; call_states = call_states_of s0.setting (past_in s0) (n, 0) p.calls } ∷ [])
    (sweep : Swept s1 s2) (quiet : StaysQuiet s1 s2) (collect : Stays s2 s3 (all_collected s2.setting (past_in s2) xs1))
    (collected_waits : xs2 ≡ map (settled_in s2.setting (past_in s2)) xs1) (told_waits : xs3 ≡ filter is_open xs2)
    (team0 : Team s0) (team1 : Team s1) (team3 : Team s3) (b : Between s0 xs0 n true) where
  took_so : Took s0 s1 s2 s3 xs0 xs1 xs2 xs3 n p
  took_so = record {
    post = post;
    posted_waits = posted_waits;
    sweep = sweep;
    quiet = quiet;
    collect = collect;
    collected_waits = collected_waits;
    told_waits = told_waits;
  }

  pub taken_between : {unfailed : Bool} {m : ℕ} → m ≡ suc n → (unfailed ≡ true → IsQuietAt s2) → Between s3 xs3 m unfailed
  taken_between {unfailed} e q = subst (λ (k : ℕ). Between s3 xs3 k unfailed) (sym e) (between_then took_so team0 team3 b q)

  -- what passed with the front, by what passed in the sweep and in the telling
  pub taken_passed : {unfailed : Bool} {m : ℕ} (exchanged_mid exchanged_now : Exchange → Type 0) (before : Exchange) → m ≡ suc n
      → Brings s0 xs0 n p before → After exchanged_mid (NotesBy s1.setting s1.history s2.history before)
      → (unfailed ≡ false → (mid : Exchange) → exchanged_mid mid → mid.sent.halted ≡ true)
      → ((mid : Exchange) → exchanged_mid mid → AreExpected xs2 mid
      → After exchanged_now (TellsAll (map told_of (filter is_finished xs2)) mid))
      → After exchanged_now (Answered s3 xs3 m unfailed before)
  taken_passed {unfailed} exchanged_mid exchanged_now before e brings noted halted tell =
      let mid : Exchange = noted.0 in
      let given : mid.received.given ≡ brings.all ++ p ∷ []
      = ap (λ (x : Received). x.given) (noted.2.0).notes.received ∙ brings.given in
      let told = tell mid noted.1
      (expected_then took_so brings.all brings.count team0 team3 (b.quiet refl) before.sent.told brings.opens brings.order mid given
      (noted.2.0).notes.told) in
      let all = passed_then took_so team0 team3 before mid told.0 team1.legal (b.quiet refl) b.settled b.gathered brings noted.2 told.2 in (
        told.0,
        told.1,
        record {
          passed = subst (λ (k : ℕ). Passed s3 xs3 k told.0) (sym e) all.0;
          sent = all.1;
          notes_failed = λ stopped. (told.2).notes_failed ∙ (noted.2.0).notes.notes_failed ∙ halted stopped mid noted.1;
        },
      )
