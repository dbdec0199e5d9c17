-- A run of one worker by what is computed of it, and what no run is.
use Rattle.std.proofs.Common.{◌≡◌, ◌≢◌, ℕ, zero, suc, ◌+◌, ◌≤◌, Bool, true, false, ◌&&◌, List, [], ◌∷◌, length, refl, sym, ap, subst, ◌∙◌, Some, true≢false, arith}
use Rattle.std.specs.Prelude.{nat_eq, nat_le, slice_get}
use Rattle.std.specs.List.{list_all}
use Rattle.std.proofs.lemmas.Bool.Decides.{nat_tests}
use Rattle.behaviour_tree.specs.declared.words.Event.{Event}
use Rattle.office_core.specs.declared.history.Entry.{Entry}
use Rattle.office_core.specs.declared.message.Message.{Message}
use Rattle.office_core.specs.Limits.{Setting}
use Rattle.office_core.specs.Past.{some_entry, stops, closes}
use Rattle.office_core.specs.Sessions.{births}
use Rattle.office_core.specs.Accepted.{past_of}
use Rattle.office_core.specs.Legal.{IsLegal}
use Rattle.office_core.proofs.OneAnswer.{answers_once}
use Rattle.run_record.specs.declared.record.Record.{Record}
use Rattle.run_record.specs.Agrees.{IsSession}
use Rattle.run_record.specs.Quiet.{IsQuiet, before_stop}
use Rattle.run_record.specs.Answered.{stand_together}
use Rattle.run_record.specs.Collected.{AreCollected}
use Rattle.run_record.specs.Run.{Hands, alone, ends_with, is_of_hand, IsRun}
use Rattle.test_trials.specs.Counts.{legal_entries}
use Rattle.test_trials.specs.Collected.{are_collected}
use Rattle.test_trials.specs.Quiet.{is_quiet, is_still}
use Rattle.test_trials.proofs.Standing.{both_left, both_right}
use Rattle.test_trials.proofs.Acting.{same_of, none_not_some}
use Rattle.test_trials.proofs.Collecting.{collected_are}
use Rattle.test_trials.proofs.Counted.{all_count}
use Rattle.test_trials.proofs.Quiets.{AreSessions, sessions_are, quiet_is, not_quiet, still_is}

-- what is computed of a history and the events of its sessions
pub record Computes (w : Setting) (budget : ℕ) (h : List Entry) (sessions : List (List Event)) : Type 0 where
  pub legal : IsLegal w h
  pub stopped : some_entry (past_of w h) stops ≡ true
  pub closed : ends_with closes (before_stop h) ≡ true
  pub actors : list_all (is_of_hand alone) h ≡ true
  pub posted : stand_together h ≡ true
  pub all : length sessions ≡ length (births w (past_of w h))
  pub each : AreSessions w h 0 sessions
  pub within : list_all (λ es. nat_le (length es) budget) sessions ≡ true
  pub quiet : is_quiet w budget (before_stop h) sessions ≡ true
  pub still : is_still w budget h sessions ≡ true
  pub collected : are_collected w h ≡ true

pub zero_more : (i : ℕ) → i ≡ i + 0
zero_more i = omega arith

at_most : (n m : ℕ) → nat_le n m ≡ true → n ≤ m
at_most n m h = grind (arith, nat_tests)

-- what all have, each has
pub all_have : (budget : ℕ) (sessions : List (List Event)) → list_all (λ es. nat_le (length es) budget) sessions ≡ true
    → (i : ℕ) (events : List Event) → slice_get sessions i ≡ Some events → length events ≤ budget
all_have budget [] h i events e = absurd (none_not_some events e)
all_have budget (es ∷ sessions) h zero events e =
    subst (λ l. length l ≤ budget) (same_of es events e)
    (at_most (length es) budget
    (both_left (nat_le (length es) budget) (list_all (λ es. nat_le (length es) budget) sessions) h))
all_have budget (es ∷ sessions) h (suc i) events e =
    all_have budget sessions
    (both_right (nat_le (length es) budget) (list_all (λ es. nat_le (length es) budget) sessions) h) i events e

by_computing : (w : Setting) (budget : ℕ) (run : Record) → Computes w budget run.history.entries.items run.sessions
    → IsRun w budget alone false run
by_computing w budget run c =
    let h = run.history.entries.items in
    record {
      legal = c.legal;
      stopped = c.stopped;
      closed = λ one. c.closed;
      actors = c.actors;
      posted = c.posted;
      sessions = record {
        all = c.all;
        each = λ s events e. subst (λ n. IsSession w h n events) (sym (zero_more s)) (sessions_are w h 0 run.sessions c.each s events e);
      };
      within = all_have budget run.sessions c.within;
      answered = λ n m there. answers_once w h n m c.legal c.stopped there;
      quiet = λ unfailed. quiet_is w budget (before_stop h) run.sessions c.quiet;
      still = λ one. still_is w budget h run.sessions c.still;
      collected = λ one. collected_are w h c.collected;
    }

-- a record of this history and of these events is a run
pub is_run : (w : Setting) (budget : ℕ) (h : List Entry) (sessions : List (List Event)) → Computes w budget h sessions
    → (run : Record) → run.history.entries.items ≡ h → run.sessions ≡ sessions → IsRun w budget alone false run
is_run w budget h sessions c run has events =
    by_computing w budget run (subst (λ l. Computes w budget l run.sessions) (sym has) (subst (Computes w budget h) (sym events) c))

-- ---- no run

module _ (w : Setting) (budget : ℕ) (notes_failed : Bool) (h : List Entry) (run : Record) (has : run.history.entries.items ≡ h) where
  -- it has entries that are not legal
  pub illegal : (n : ℕ) → legal_entries w h ≡ n → nat_eq n (length h) ≡ false → IsRun w budget alone notes_failed run → ⊥
  illegal n e other r =
      differ n (length h) other (sym e ∙ all_count w h (subst (IsLegal w) has r.legal))
    where
      differ : (n m : ℕ) → nat_eq n m ≡ false → n ≢ m
      differ n m h = grind (arith, nat_tests)

  -- it did not stop
  pub unstopped : some_entry (past_of w h) stops ≡ false → IsRun w budget alone notes_failed run → ⊥
  unstopped e r = true≢false (sym r.stopped ∙ ap (λ l. some_entry (past_of w l) stops) has ∙ e)

  -- its input was not closed right before the stop
  pub unclosed : ends_with closes (before_stop h) ≡ false → IsRun w budget alone notes_failed run → ⊥
  unclosed e r = true≢false (sym (r.closed refl) ∙ ap (λ l. ends_with closes (before_stop l)) has ∙ e)

  -- what was posted was not collected as it is to be
  pub uncollected_by : (AreCollected w h → ⊥) → IsRun w budget alone notes_failed run → ⊥
  uncollected_by not r = not (subst (AreCollected w) has (r.collected refl))

  -- an entry is of nobody who works at it
  pub foreign : list_all (is_of_hand alone) h ≡ false → IsRun w budget alone notes_failed run → ⊥
  foreign e r = true≢false (sym r.actors ∙ ap (list_all (is_of_hand alone)) has ∙ e)

  -- a posting is not in one piece
  pub apart : stand_together h ≡ false → IsRun w budget alone notes_failed run → ⊥
  apart e r = true≢false (sym r.posted ∙ ap stand_together has ∙ e)

  module _ (sessions : List (List Event)) (events : run.sessions ≡ sessions) where
    -- the events of a session are missing
    pub missing : nat_eq (length sessions) (length (births w (past_of w h))) ≡ false → IsRun w budget alone notes_failed run → ⊥
    missing e r =
        differ (length sessions) (length (births w (past_of w h))) e
        (ap length (sym events) ∙ r.sessions.all ∙ ap (λ l. length (births w (past_of w l))) has)
      where
        differ : (n m : ℕ) → nat_eq n m ≡ false → n ≢ m
        differ n m h = grind (arith, nat_tests)

    -- a session had more events than it may
    pub too_many : (s : ℕ) (es : List Event) → slice_get sessions s ≡ Some es → nat_le (length es) budget ≡ false
        → IsRun w budget alone notes_failed run → ⊥
    too_many s es there e r =
        over (length es) budget e (r.within s es (ap (λ l. slice_get l s) events ∙ there))
      where
        over : (n m : ℕ) → nat_le n m ≡ false → n ≤ m → ⊥
        over n m h k = grind (arith, nat_tests)

    -- something was left to do at the stop, where no note failed
    pub restless : AreSessions w (before_stop h) 0 sessions → is_quiet w budget (before_stop h) sessions ≡ false
        → notes_failed ≡ false → IsRun w budget alone notes_failed run → ⊥
    restless a e unfailed r =
        not_quiet w budget (before_stop h) sessions a e
        (subst (λ l. IsQuiet w budget (before_stop l) sessions) has
        (subst (IsQuiet w budget (before_stop run.history.entries.items)) events (r.quiet unfailed)))
