-- A run of more workers by what is computed of it: each posts its postings in one piece.
use Rattle.std.proofs.Common.{◌≡◌, ℕ, zero, suc, ◌+◌, ◌<◌, Bool, true, false, ◌&&◌, ◌||◌, List, [], ◌∷◌, length, refl, sym, ap, subst, ◌∙◌, Some, true≢false, arith}
use Rattle.std.specs.Prelude.{nat_eq, nat_le, nat_lt, slice_get, count_by, cond, if◌then◌else◌}
use Rattle.std.specs.List.{list_all, list_any, filter}
use Rattle.std.specs.Cmp.{unsigned_Decides}
use Rattle.std.proofs.lemmas.Bool.{false≢true}
use Rattle.std.proofs.lemmas.Bool.Decides.{nat_tests}
use Rattle.behaviour_tree.specs.declared.words.Event.{Event}
use Rattle.office_core.specs.declared.history.Entry.{Entry}
use Rattle.office_core.specs.Limits.{Setting}
use Rattle.office_core.specs.Past.{some_entry, stops}
use Rattle.office_core.specs.Sessions.{births}
use Rattle.office_core.specs.Accepted.{past_of}
use Rattle.office_core.specs.Legal.{IsLegal}
use Rattle.office_core.proofs.OneAnswer.{answers_once}
use Rattle.run_record.specs.declared.record.Record.{Record}
use Rattle.run_record.specs.Agrees.{IsSession}
use Rattle.run_record.specs.Quiet.{before_stop}
use Rattle.run_record.specs.Answered.{stand_together}
use Rattle.run_record.specs.Order.{last_collect, IsOrder}
use Rattle.run_record.specs.Run.{Hands, alone, workers, is_of_hand, IsRun}
use Rattle.test_trials.specs.Quiet.{is_quiet}
use Rattle.test_trials.proofs.Standing.{both_left, both_right}
use Rattle.test_trials.proofs.Acting.{same_of, none_not_some}
use Rattle.test_trials.proofs.Quiets.{AreSessions, sessions_are, quiet_is}
use Rattle.test_trials.proofs.Runs.{all_have, zero_more}

-- the entries of an actor
abbrev pub of_actor : ℕ → List Entry → List Entry
of_actor actor h = filter (λ e. nat_eq actor e.actor) h

-- each of whom an entry is posts in one piece
abbrev pub each_in_one_piece : List Entry → Bool
each_in_one_piece h = list_all (λ e. stand_together (of_actor e.actor h)) h

-- one of a list has what all have, and what some have
found_both : {A : Type 0} (p q : A → Bool) (xs : List A) → list_all p xs ≡ true → list_any q xs ≡ true
    → (x : A) × (p x ≡ true) × (q x ≡ true)
found_both p q [] h k = absurd (false≢true k)
found_both {A} p q (x ∷ xs) h k = by (q x) refl k (found_both p q xs (both_right (p x) (list_all p xs) h))
  where
    by : (b : Bool) → q x ≡ b → (b || list_any q xs) ≡ true
        → (list_any q xs ≡ true → (y : A) × (p y ≡ true) × (q y ≡ true)) → (y : A) × (p y ≡ true) × (q y ≡ true)
    by true e l rest = (x, both_left (p x) (list_all p xs) h, e)
    by false e l rest = rest l

filter_none : {A : Type 0} (q : A → Bool) (xs : List A) → list_any q xs ≡ false → filter q xs ≡ []
filter_none q [] h = refl
filter_none q (x ∷ xs) h = by (q x) refl h (filter_none q xs)
  where
    by : (b : Bool) → q x ≡ b → (b || list_any q xs) ≡ false → (list_any q xs ≡ false → filter q xs ≡ [])
        → (if q x then x ∷ filter q xs else filter q xs) ≡ []
    by true e l rest = absurd (true≢false l)
    by false e l rest = ap (λ b. if b then x ∷ filter q xs else filter q xs) e ∙ rest l

-- so does everybody
all_in_one_piece : (h : List Entry) → each_in_one_piece h ≡ true → (actor : ℕ) → stand_together (of_actor actor h) ≡ true
all_in_one_piece h a actor = by (list_any (λ e. nat_eq actor e.actor) h) refl
  where
    by : (b : Bool) → list_any (λ e. nat_eq actor e.actor) h ≡ b → stand_together (of_actor actor h) ≡ true
    by true e =
        let one = found_both (λ e. stand_together (of_actor e.actor h)) (λ e. nat_eq actor e.actor) h a e in
        ap (λ n. stand_together (of_actor n h)) ((unsigned_Decides actor one.0.actor).0 one.2) ∙ one.1
    by false e = ap stand_together (filter_none (λ e. nat_eq actor e.actor) h e)

-- what is computed of a history and the events of its sessions
pub record WorkersCompute (w : Setting) (budget n : ℕ) (h : List Entry) (sessions : List (List Event)) : Type 0 where
  pub legal : IsLegal w h
  pub stopped : some_entry (past_of w h) stops ≡ true
  pub actors : list_all (is_of_hand (workers n)) h ≡ true
  pub posted : each_in_one_piece h ≡ true
  pub all : length sessions ≡ length (births w (past_of w h))
  pub each : AreSessions w h 0 sessions
  pub within : list_all (λ es. nat_le (length es) budget) sessions ≡ true
  pub quiet : is_quiet w budget (before_stop h) sessions ≡ true

-- workers are not one worker alone
not_alone : (n : ℕ) → workers n ≡ alone → ⊥
not_alone n e = true≢false (ap (λ (x : Hands). elim x [ alone ↦ false | workers m ↦ true ]) e)

by_computing : (w : Setting) (budget n : ℕ) (run : Record) → WorkersCompute w budget n run.history.entries.items run.sessions
    → IsRun w budget (workers n) false run
by_computing w budget n run c =
    let h = run.history.entries.items in
    record {
      legal = c.legal;
      stopped = c.stopped;
      closed = λ one. absurd (not_alone n one);
      collected = λ one. absurd (not_alone n one);
      actors = c.actors;
      posted = all_in_one_piece h c.posted;
      sessions = record {
        all = c.all;
        each = λ s events e. subst (λ k. IsSession w h k events) (sym (zero_more s)) (sessions_are w h 0 run.sessions c.each s events e);
      };
      within = all_have budget run.sessions c.within;
      answered = λ k m there. answers_once w h k m c.legal c.stopped there;
      quiet = λ unfailed. quiet_is w budget (before_stop h) run.sessions c.quiet;
      still = λ one. absurd (not_alone n one);
    }

-- a record of this history and of these events is a run of workers
pub is_run_of_workers : (w : Setting) (budget n : ℕ) (h : List Entry) (sessions : List (List Event))
    → WorkersCompute w budget n h sessions
    → (run : Record) → run.history.entries.items ≡ h → run.sessions ≡ sessions → IsRun w budget (workers n) false run
is_run_of_workers w budget n h sessions c run has events =
    by_computing w budget n run
    (subst (λ l. WorkersCompute w budget n l run.sessions) (sym has) (subst (WorkersCompute w budget n h) (sym events) c))

-- an entry is of nobody who works at it
pub stranger : (w : Setting) (budget n : ℕ) (notes_failed : Bool) (h : List Entry) (run : Record) → run.history.entries.items ≡ h
    → list_all (is_of_hand (workers n)) h ≡ false → IsRun w budget (workers n) notes_failed run → ⊥
stranger w budget n notes_failed h run has e r =
    true≢false (sym r.actors ∙ ap (list_all (is_of_hand (workers n))) has ∙ e)

-- one worker posts the calls of a posting with something between them
pub posts_apart : (w : Setting) (budget n : ℕ) (notes_failed : Bool) (h : List Entry) (run : Record) → run.history.entries.items ≡ h
    → (actor : ℕ) → stand_together (of_actor actor h) ≡ false → IsRun w budget (workers n) notes_failed run → ⊥
posts_apart w budget n notes_failed h run has actor e r =
    true≢false (sym (r.posted actor) ∙ ap (λ l. stand_together (of_actor actor l)) has ∙ e)

-- ---- the order of two postings

differ : (m n : ℕ) → nat_eq m n ≡ false → m ≡ n → ⊥
differ m n e h = true≢false (sym ((unsigned_Decides m n).1 h) ∙ e)

module _ (w : Setting) (h : List Entry) (actor : ℕ) where
  -- the second, where its last collect came first
  pub second_first : (a b : ℕ) → last_collect w h actor 1 ≡ Some a → last_collect w h actor 0 ≡ Some b → nat_lt a b ≡ true
      → IsOrder w h actor 2 (1 ∷ 0 ∷ [])
  second_first a b first second l = record { each = each; collects = collects }
    where
      beyond : (k : ℕ) → nat_lt (suc (suc k)) 2 ≡ false
      beyond k = grind (arith, nat_tests)

      not_one : (k : ℕ) → nat_eq (suc (suc k)) 1 ≡ false
      not_one k = grind (arith, nat_tests)

      not_zero : (k : ℕ) → nat_eq (suc (suc k)) 0 ≡ false
      not_zero k = grind (arith, nat_tests)

      each : (k : ℕ) → count_by (nat_eq k) (1 ∷ 0 ∷ []) ≡ (if nat_lt k 2 then 1 else 0)
      each zero = refl
      each (suc zero) = refl
      each (suc (suc k)) =
          (λ i. (0 + cond (not_one k i) 1 0) + cond (not_zero k i) 1 0) ∙ ap (λ c. if c then 1 else 0) (sym (beyond k))

      less : (m n : ℕ) → nat_lt m n ≡ true → m < n
      less m n e = grind (arith, nat_tests)

      not_less : (m : ℕ) → m < m → ⊥
      not_less m e = absurd (omega (arith, e))

      above : (m : ℕ) → suc m < zero → ⊥
      above m e = absurd (omega (arith, e))

      collects : (m n i j c d : ℕ) → slice_get (1 ∷ 0 ∷ []) m ≡ Some i → slice_get (1 ∷ 0 ∷ []) n ≡ Some j → m < n
          → last_collect w h actor i ≡ Some c → last_collect w h actor j ≡ Some d → c < d
      collects zero (suc zero) i j c d p q e f g =
          subst (λ x. x < d)
          (same_of a c (sym first ∙ ap (last_collect w h actor) (same_of 1 i p) ∙ f))
          (subst (λ x. a < x) (same_of b d (sym second ∙ ap (last_collect w h actor) (same_of 0 j q) ∙ g)) (less a b l))
      collects zero zero i j c d p q e f g = absurd (not_less 0 e)
      collects zero (suc (suc n)) i j c d p q e f g = absurd (none_not_some j q)
      collects (suc zero) zero i j c d p q e f g = absurd (above 0 e)
      collects (suc zero) (suc zero) i j c d p q e f g = absurd (not_less 1 e)
      collects (suc zero) (suc (suc n)) i j c d p q e f g = absurd (none_not_some j q)
      collects (suc (suc m)) n i j c d p q e f g = absurd (none_not_some i p)

  -- then not the first before it
  pub not_as_posted : (a b : ℕ) → last_collect w h actor 1 ≡ Some a → last_collect w h actor 0 ≡ Some b → nat_lt a b ≡ true
      → IsOrder w h actor 2 (0 ∷ 1 ∷ []) → ⊥
  not_as_posted a b first second l o = never a b l (o.collects 0 1 0 1 b a refl refl one second first)
    where
      one : 0 < 1
      one = omega arith

      never : (a b : ℕ) → nat_lt a b ≡ true → b < a → ⊥
      never a b e k = grind (arith, nat_tests)

  -- and not one of them alone, nor one twice
  pub not_without_one : IsOrder w h actor 2 (1 ∷ []) → ⊥
  not_without_one o = differ 0 1 refl (o.each 0)

  pub not_twice : IsOrder w h actor 2 (1 ∷ 0 ∷ 0 ∷ []) → ⊥
  not_twice o = differ 2 1 refl (o.each 0)
