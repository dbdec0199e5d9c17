-- Whether a session used its whole budget and could act all the same, by what is computed.
use Rattle.std.proofs.Common.{◌≡◌, ℕ, zero, suc, ◌+◌, Bool, true, false, ◌&&◌, ◌||◌, List, [], ◌∷◌, length, refl, sym, ap, subst, ◌∙◌, Some, true≢false, arith}
use Rattle.std.specs.Prelude.{nat_eq, slice_get}
use Rattle.std.specs.Cmp.{unsigned_Decides}
use Rattle.behaviour_tree.specs.declared.words.Event.{Event}
use Rattle.office_core.specs.declared.history.Entry.{Entry}
use Rattle.office_core.specs.Limits.{Setting}
use Rattle.run_record.specs.declared.record.Record.{Record}
use Rattle.run_record.specs.Agrees.{IsSession}
use Rattle.run_record.specs.Quiet.{CanAct, before_stop}
use Rattle.run_record.specs.Run.{IsSpent}
use Rattle.test_trials.specs.Quiet.{can_act}
use Rattle.test_trials.proofs.Standing.{or_right}
use Rattle.test_trials.proofs.Acting.{same_of, none_not_some, finds_acting, acting_is_found}
use Rattle.test_trials.proofs.Quiets.{zero_first}

-- one of the sessions from number k on used its whole budget, and can act all the same
abbrev pub spends : Setting → ℕ → List Entry → ℕ → List (List Event) → Bool
spends w budget h k [] = false
spends w budget h k (es ∷ sessions) =
    (nat_eq (length es) budget && can_act w h k es) || spends w budget h (suc k) sessions

-- a session that used its budget and is found to act
pub is_spent : (w : Setting) (budget : ℕ) (h : List Entry) (sessions : List (List Event)) (events : List Event)
    → IsSession w (before_stop h) 0 events → slice_get sessions 0 ≡ Some events → length events ≡ budget
    → can_act w (before_stop h) 0 events ≡ true
    → (r : Record) → r.history.entries.items ≡ h → r.sessions ≡ sessions → IsSpent w budget r
is_spent w budget h sessions events agrees there used acts r has are = record {
  session = 0;
  events = events;
  there = ap (λ l. slice_get l 0) are ∙ there;
  used = used;
  more = subst (λ l. CanAct w (before_stop l) 0 events) (sym has) (acting_is_found w (before_stop h) 0 events agrees.0 agrees.1 acts);
}

spends_here : (a b c : Bool) → a ≡ true → b ≡ true → ((a && b) || c) ≡ true
spends_here true true c h k = refl
spends_here true false c h k = absurd (true≢false (sym k))
spends_here false b c h k = absurd (true≢false (sym h))

finds_spent : (w : Setting) (budget : ℕ) (h : List Entry) (k : ℕ) (sessions : List (List Event)) (i : ℕ) (events : List Event)
    → slice_get sessions i ≡ Some events → length events ≡ budget → CanAct w h (i + k) events
    → spends w budget h k sessions ≡ true
finds_spent w budget h k [] i events e used x = absurd (none_not_some events e)
finds_spent w budget h k (es ∷ sessions) zero events e used x =
    spends_here (nat_eq (length es) budget) (can_act w h k es) (spends w budget h (suc k) sessions)
    ((unsigned_Decides (length es) budget).1 (ap (λ l. length l) (same_of es events e) ∙ used))
    (finds_acting w h k es
    (subst (CanAct w h k) (sym (same_of es events e)) (subst (λ s. CanAct w h s events) (zero_first k) x)))
finds_spent w budget h k (es ∷ sessions) (suc i) events e used x =
    or_right (nat_eq (length es) budget && can_act w h k es) (spends w budget h (suc k) sessions)
    (finds_spent w budget h (suc k) sessions i events e used (subst (λ s. CanAct w h s events) (moved_on i k) x))
  where
    moved_on : (i k : ℕ) → suc i + k ≡ i + suc k
    moved_on i k = omega arith

-- none of them
pub not_spent : (w : Setting) (budget : ℕ) (h : List Entry) (sessions : List (List Event))
    → spends w budget (before_stop h) 0 sessions ≡ false
    → (r : Record) → r.history.entries.items ≡ h → r.sessions ≡ sessions → IsSpent w budget r → ⊥
not_spent w budget h sessions e r has are spent =
    true≢false
    (sym (finds_spent w budget (before_stop h) 0 sessions spent.session spent.events
    (sym (ap (λ l. slice_get l spent.session) are) ∙ spent.there) spent.used
    (subst (λ n. CanAct w (before_stop h) n spent.events) (whole spent.session)
    (subst (λ l. CanAct w (before_stop l) spent.session spent.events) has spent.more))) ∙ e)
  where
    whole : (i : ℕ) → i ≡ i + 0
    whole i = omega arith
