-- What was left to do is done at the end, or not where the front halted.
use Rattle.std.proofs.Common.{◌≡◌, ◌≤◌, ◌<◌, ℕ, zero, suc, Bool, true, false, not, ◌||◌, List, [], ◌∷◌, ◌++◌, length, Some, refl, sym, ap, subst, ◌∙◌, append-nil, arith, le_refl, zero-le, ltb-true}
use Rattle.std.specs.Prelude.{slice_get}
use Rattle.std.proofs.lemmas.Bool.{false≢true}
use Rattle.std.proofs.lemmas.Option.{slice_get-get_or, slice_get_within}
use Rattle.behaviour_tree.specs.declared.words.Event.{Event}
use Rattle.office_core.specs.Sessions.{births}
use Rattle.office_core.specs.Accepted.{past_of}
use Rattle.run_theorem.specs.Calls.{After}
use Rattle.run_theorem.specs.Exchange.{Exchange}
use Rattle.run_record.specs.Quiet.{IsQuiet}
use Rattle.run_quiet_laws.proofs.Quiet.{done_all, quiet_by}
use Rattle.run_sweep.specs.Courses.{stays}
use Rattle.run_cells.specs.RunStates.{Stand, State, Team, events_of, past_in}
use Rattle.run_cells.specs.Rounds.{Adopted, IsQuietAt}
use Rattle.run_cells.proofs.Resting.{stands_at}
use Rattle.run_cells.proofs.Stilling.{event_at}
use Rattle.run_sweep.specs.Swept.{NotesBy, Swept, StaysQuiet}
use Rattle.run_trip_laws.specs.Going.{AreSettled, NotedSoFar}
use Rattle.run_posts.specs.CallStates.{Wait}
use Rattle.run_alone.specs.Between.{Between, Closed, LeftQuiet, Rested}
use Rattle.run_alone.proofs.Taking.{unfailed_quiet}

-- ---- nothing is done

pub rested_not : {unfailed : Bool} (s : State) → AreSettled s.setting s.history → Rested unfailed s s
rested_not s settled = record {
  setting = refl;
  budget = refl;
  more = [];
  history = sym (append-nil s.history);
  each = refl;
  settled = settled;
  still = λ h. h;
  quiet = λ q. (refl, refl);
  stopped = λ e. refl;
  goes = stays;
}

-- a note failed; or an answer halted the front, and nothing was left to do before that
quiet_then : {s : State} {xs : List Wait} {n : ℕ} {before : Exchange} (unfailed stops : Bool) → Between s xs n unfailed
    → Closed s xs n unfailed before → stops ≡ before.sent.halted → (not unfailed || stops) ≡ true → before.sent.notes_failed ≡ false
    → IsQuietAt s
quiet_then {s = s} {n = n} true stops b closed e h notes_unfailed = unfailed_quiet s n (closed.passed.some (sym e ∙ h)) (b.quiet refl)
quiet_then false stops b closed e h notes_unfailed = absurd (false≢true (sym notes_unfailed ∙ closed.notes_failed refl))

pub quiet_not : {s : State} {xs : List Wait} {n : ℕ} {unfailed stops : Bool} (exchanged : Exchange → Type 0) (before : Exchange)
    → Between s xs n unfailed → exchanged before → Closed s xs n unfailed before → stops ≡ before.sent.halted
    → (not unfailed || stops) ≡ true → After exchanged (LeftQuiet s s before)
quiet_not {unfailed = unfailed} {stops = stops} exchanged before b so closed e h = (
  before,
  so,
  record {
    noted = record { told = refl; sent = record { received = refl; halted = λ x. x }; noted = λ x. x };
    quiet = quiet_then unfailed stops b closed e h;
  },
)

-- it did not halt where it went on, and no note failed
running_by : (unfailed stops : Bool) → (not unfailed || stops) ≡ false → stops ≡ false
running_by true stops h = h
running_by false stops h = absurd (false≢true (sym h))

pub mutes_by : {s : State} {xs : List Wait} {n : ℕ} {unfailed stops : Bool} {before : Exchange} → Closed s xs n unfailed before
    → stops ≡ before.sent.halted → (not unfailed || stops) ≡ false → before.sent.notes_failed ≡ before.sent.halted
mutes_by {unfailed = unfailed} {stops = stops} {before = before} closed e h =
    let running : before.sent.halted ≡ false = sym e ∙ running_by unfailed stops h in
    closed.passed.mutes running ∙ sym running

-- it was unfailed where it went on
pub was_unfailed : (unfailed halted : Bool) → (not unfailed || halted) ≡ false → unfailed ≡ true
was_unfailed true halted e = refl
was_unfailed false halted e = absurd (false≢true (sym e))

-- ---- a sweep

pub rested_swept : {old new : State} → Swept old new → StaysQuiet old new → Rested true old new
rested_swept {old} {new} swept quiet = record {
  setting = swept.setting;
  budget = swept.budget;
  more = swept.more;
  history = swept.history;
  each = swept.each;
  settled = coe 1 0 (i. AreSettled (swept.setting i) new.history) swept.settled;
  still = swept.still;
  quiet = quiet;
  stopped = λ e. absurd (false≢true (sym e));
  goes = swept.goes;
}

-- the same where it is known that it was unfailed
pub rested_unfailed : {unfailed : Bool} {old new : State} → unfailed ≡ true → Swept old new → StaysQuiet old new → Rested unfailed old new
rested_unfailed {old = old} {new = new} e swept quiet =
    subst (λ (b : Bool). Rested b old new) (sym e) (rested_swept swept quiet)

pub quiet_swept : {old new : State} (went : Bool) (exchanged : Exchange → Type 0) (before : Exchange) → new.setting ≡ old.setting
    → After exchanged (NotesBy old.setting old.history new.history before)
    → (went ≡ true → IsQuietAt new) → (went ≡ false → (now : Exchange) → exchanged now → now.sent.halted ≡ true)
    → After exchanged (LeftQuiet old new before)
quiet_swept {old} {new} went exchanged before setting noted quiet halted = (
  noted.0,
  noted.1,
  record {
    noted = record {
      told = (noted.2.0).notes.told;
      sent = record { received = (noted.2.0).notes.received; halted = λ e. ((noted.2.0).notes.halts.unfailed e).0 };
      noted = λ so. coe 1 0 (i. NotedSoFar (setting i) new.history (noted.0).sent.noted) (noted.2.1 so);
    };
    quiet = by went quiet halted;
  },
)
  where
    by : (b : Bool) → (b ≡ true → IsQuietAt new)
        → (b ≡ false → (now : Exchange) → exchanged now → now.sent.halted ≡ true) → (noted.0).sent.notes_failed ≡ false
        → IsQuietAt new
    by true q h e = q refl
    by false q h e = absurd (false≢true (sym e ∙ (noted.2.0).notes.notes_failed ∙ h refl noted.0 noted.1))

-- ---- adoptions

least_by : (m n : ℕ) → ((s : ℕ) → s < m → s < n) → m ≤ n
least_by zero n f = zero-le
least_by (suc k) n f = f k (le_refl (suc k))

-- where nothing is left to do, each session that was born stands
born_stand : (s : State) → Team s → IsQuietAt s → length (births s.setting (past_in s)) ≤ length s.stands
born_stand s team q =
    least_by (length (births s.setting (past_in s))) (length s.stands)
    (λ n within.
    ltb-true n (length s.stands)
    (sym (team.adopted n) ∙ q.adopted n _ (slice_get-get_or (births s.setting (past_in s)) n 0 within)))

in_front : (xs ys : List Stand) (n : ℕ) (x : Stand) → slice_get (xs ++ ys) n ≡ Some x → n < length xs
    → slice_get xs n ≡ Some x
in_front [] ys n x e h = absurd (none n h)
  where
    none : (m : ℕ) → m < 0 → ⊥
    none m h = omega (arith, h)
in_front (z ∷ xs) ys zero x e h = e
in_front (z ∷ xs) ys (suc n) x e h = in_front xs ys n x e (down n (length xs) h)
  where
    down : (m k : ℕ) → suc m < suc k → m < k
    down m k h = omega (arith, h)

-- so that adoptions leave nothing to do
pub quiet_adopted : {old new : State} → Team old → Adopted old new → IsQuietAt old → IsQuietAt new
quiet_adopted {old} {new} team adopted q =
    let all : length (births old.setting (past_in old)) ≤ length old.stands = born_stand old team q in
    let history : new.history ≡ old.history = adopted.none all in
    let moved : IsQuiet new.setting new.budget new.history (events_of old.stands)
    = coe 1 0 (i. IsQuiet (adopted.setting i) (adopted.budget i) (history i) (events_of old.stands)) q in
    let all_now : length (births new.setting (past_in new)) ≤ length old.stands
    = coe 1 0 (i. length (births (adopted.setting i) (past_of (adopted.setting i) (history i))) ≤ length old.stands) all in
    quiet_by moved.adopted moved.received
    (λ n es there can.
    let within : n < length old.stands
    = below n (length (births new.setting (past_in new))) (length old.stands)
    (slice_get_within (births new.setting (past_in new)) n can.agrees.service can.agrees.born) all_now in
    let x = stands_at new.stands n es there in
    let was : slice_get old.stands n ≡ Some x.stand
    = in_front old.stands adopted.more n x.stand
    (ap (λ (sts : List Stand). slice_get sts n) (sym adopted.stands) ∙ x.there) within in
    done_all moved n es (event_of old.stands n x.stand es was x.events) can)
  where
    below : (m k l : ℕ) → m < k → k ≤ l → m < l
    below m k l a b = omega (arith, a, b)

    event_of : (sts : List Stand) (n : ℕ) (st : Stand) (es : List Event) → slice_get sts n ≡ Some st → st.events ≡ es
        → slice_get (events_of sts) n ≡ Some es
    event_of sts n st es e f = event_at sts n st e ∙ ap (λ (xs : List Event). Some xs) f
