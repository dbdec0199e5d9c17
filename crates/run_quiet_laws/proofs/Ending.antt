-- The end of a run: its input is closed, it is stopped, and what is there is collected.
use Rattle.std.proofs.Common.{◌≡◌, ◌↔◌, ◌≤◌, ℕ, Bool, true, false, List, [], ◌∷◌, ◌++◌, length, Some, refl, sym, ap, subst, ◌∙◌, append_assoc}
use Rattle.std.specs.Prelude.{if◌then◌else◌, slice_get}
use Rattle.std.specs.List.{list_all, list_any}
use Rattle.std.proofs.lemmas.Bool.{and_from, and_parts, false≢true, or_from, or_parts, or_right}
use Rattle.std.proofs.lemmas.List.{append-nil}
use Rattle.std.proofs.lemmas.List.Folds.{list_any-append}
use Rattle.behaviour_tree.specs.declared.words.Event.{Event}
use Rattle.office_core.specs.declared.history.Act.{Act}
use Rattle.office_core.specs.declared.history.Act.TheVariants as act
use Rattle.office_core.specs.declared.history.Entry.{Entry}
use Rattle.office_core.specs.Limits.{Setting, first_worker}
use Rattle.office_core.specs.Past.{closes, some_entry, stops}
use Rattle.office_core.specs.Accepted.{past_of}
use Rattle.run_record.specs.declared.record.Record.{Record}
use Rattle.run_record.specs.Agrees.{HasSessions}
use Rattle.run_record.specs.Quiet.{CanAct, IsQuiet, IsStill, before_stop, posts}
use Rattle.run_record.specs.Run.{IsSpent, ends_with}
use Rattle.session_turn.proofs.Histories.{some_of}
pub use Rattle.run_quiet_laws.specs.Ends.{Ended, is_close, is_collect, stop_entry}
use Rattle.run_quiet_laws.proofs.Acting.{CannotAct, can_still, cannot_still}
use Rattle.run_quiet_laws.proofs.Aside.{is_aside, leaves}
use Rattle.run_quiet_laws.proofs.Sessions.{beside_worker}
use Rattle.run_quiet_laws.proofs.Workers.{has_sessions_after, is_by_worker, is_unsent, quiet_by_answers, still_by_others}

-- ---- before the stop

-- the entries before the first stop
pub before_the_stop : (h later : List Entry) (e : Entry) → list_any stops h ≡ false → stops e ≡ true
    → before_stop (h ++ e ∷ later) ≡ h
before_the_stop [] later e other is = ap (λ b. if b then [] else e ∷ before_stop later) is
before_the_stop (x ∷ h) later e other is =
    let off = or_parts (stops x) (list_any stops h) other in
    ap (λ b. if b then [] else x ∷ before_stop (h ++ e ∷ later)) off.0
    ∙ ap (λ (xs : List Entry). x ∷ xs) (before_the_stop h later e off.1 is)

-- ---- entries of one kind are of another

all_are : (f g : Entry → Bool) → ((e : Entry) → f e ≡ true → g e ≡ true) → (es : List Entry) → list_all f es ≡ true
    → list_all g es ≡ true
all_are f g each [] h = refl
all_are f g each (e ∷ es) h =
    let both = and_parts (f e) (list_all f es) h in
    and_from (g e) (list_all g es) (each e both.0) (all_are f g each es both.1)

none_are : (f g : Entry → Bool) → ((e : Entry) → f e ≡ true → g e ≡ false) → (es : List Entry) → list_all f es ≡ true
    → list_any g es ≡ false
none_are f g each [] h = refl
none_are f g each (e ∷ es) h =
    let both = and_parts (f e) (list_all f es) h in
    or_from (g e) (list_any g es) (each e both.0) (none_are f g each es both.1)

close_by_worker : (e : Entry) → is_close e ≡ true → is_by_worker e ≡ true
close_by_worker e h = (and_parts (is_by_worker e) (closes e) h).0

-- what holds of a close
by_close : (g : Entry → Bool) (b : Bool) → ((n : ℕ) → g (record { actor = n; act = act.Close }) ≡ b)
    → (e : Entry) → is_close e ≡ true → g e ≡ b
by_close g b at e h = go e.actor e.act (and_parts (is_by_worker e) (closes e) h).1
  where
    go : (n : ℕ) (a : Act) → closes (record { actor = n; act = a }) ≡ true → g (record { actor = n; act = a }) ≡ b
    go n act.Close h = at n
    go n a h = absurd (false≢true h)

abbrev is_collecting : Entry → Bool
is_collecting e = elim e.act [ act.Collect n o ↦ true | _ ↦ false ]

-- what holds of a collect
by_collect : (g : Entry → Bool) (b : Bool)
    → ((n : ℕ) (a : Act) → is_collecting (record { actor = n; act = a }) ≡ true → g (record { actor = n; act = a }) ≡ b)
    → (e : Entry) → is_collect e ≡ true → g e ≡ b
by_collect g b at e h = at e.actor e.act (and_parts (is_by_worker e) (is_collecting e) h).1

unsent_collect : (n : ℕ) (a : Act) → is_collecting (record { actor = n; act = a }) ≡ true
    → is_unsent (record { actor = n; act = a }) ≡ true
unsent_collect n (act.Collect i o) h = refl
unsent_collect n a h = absurd (false≢true h)

postless_collect : (n : ℕ) (a : Act) → is_collecting (record { actor = n; act = a }) ≡ true
    → posts (record { actor = n; act = a }) ≡ false
postless_collect n (act.Collect i o) h = refl
postless_collect n a h = absurd (false≢true h)

-- ---- the history at the end

module _ {h now : List Entry} (x : Ended h now) where
  still_running : list_any stops (h ++ x.closing) ≡ false
  still_running =
      list_any-append stops h x.closing
      ∙ or_from (list_any stops h) (list_any stops x.closing) x.running
      (none_are is_close stops (by_close stops false (λ n. refl)) x.closing x.closing_are)

  -- before its stop there was all up to the end of input
  pub before_its_stop : before_stop now ≡ h ++ x.closing
  before_its_stop =
      ap before_stop x.is ∙ before_the_stop (h ++ x.closing) x.collects stop_entry still_running refl

  -- it was stopped
  pub was_stopped : (w : Setting) → some_entry (past_of w now) stops ≡ true
  was_stopped w =
      some_of w now stops ∙ ap (list_any stops) x.is ∙ list_any-append stops (h ++ x.closing) (stop_entry ∷ x.collects)
      ∙ or_right (list_any stops (h ++ x.closing)) (list_any stops (stop_entry ∷ x.collects)) refl

  -- and its input was closed right before that
  pub was_closed : ends_with closes (before_stop now) ≡ true
  was_closed = ap (ends_with closes) before_its_stop ∙ x.closed

  unsent_closing : list_all is_unsent x.closing ≡ true
  unsent_closing = all_are is_close is_unsent (by_close is_unsent true (λ n. refl)) x.closing x.closing_are

  closing_workers : list_all is_by_worker x.closing ≡ true
  closing_workers = all_are is_close is_by_worker close_by_worker x.closing x.closing_are

  -- the sessions agree with it
  pub sessions_ended : (w : Setting) (ss : List (List Event)) → length ss ≤ first_worker → HasSessions w h ss
      → HasSessions w now ss
  sessions_ended w ss few has =
      subst (λ (l : List Entry). HasSessions w l ss) (sym x.is)
      (has_sessions_after w (h ++ x.closing) (stop_entry ∷ x.collects) ss few
      (all_are is_collect is_unsent (by_collect is_unsent true unsent_collect) x.collects x.collects_are)
      (all_are is_collect is_by_worker
      (λ e g. (and_parts (is_by_worker e) (is_collecting e) g).0) x.collects x.collects_are)
      (has_sessions_after w h x.closing ss few unsent_closing closing_workers has))

  -- nothing was left to do at its stop
  pub quiet_ended : (w : Setting) (budget : ℕ) (ss : List (List Event)) → length ss ≤ first_worker
      → IsQuiet w budget h ss
      → IsQuiet w budget (before_stop now) ss
  quiet_ended w budget ss few quiet =
      subst (λ (l : List Entry). IsQuiet w budget l ss) (sym before_its_stop)
      (quiet_by_answers w budget h x.closing ss few
      (all_are is_close is_aside (by_close is_aside true (λ n. refl)) x.closing x.closing_are) closing_workers quiet)

  -- nor before each posting
  pub still_ended : (w : Setting) (budget : ℕ) (ss : List (List Event)) → IsStill w budget h ss
      → IsStill w budget now ss
  still_ended w budget ss still =
      subst (λ (l : List Entry). IsStill w budget l ss) (sym x.is)
      (still_by_others w budget (h ++ x.closing) (stop_entry ∷ x.collects) ss
      (none_are is_collect posts (by_collect posts false postless_collect) x.collects x.collects_are)
      (still_by_others w budget h x.closing ss
      (none_are is_close posts (by_close posts false (λ n. refl)) x.closing x.closing_are)
      still))

-- ---- whether the budget was spent

-- a session that could act still can after the end of input was noted
pub can_at_close : (w : Setting) (h closing : List Entry) (s : ℕ) (es : List Event) (ss : List (List Event))
    → slice_get ss s ≡ Some es → length ss ≤ first_worker → list_all is_close closing ≡ true → CanAct w h s es
    → CanAct w (h ++ closing) s es
can_at_close w h [] s es ss there few all can =
    subst (λ (l : List Entry). CanAct w l s es) (sym (append-nil h)) can
can_at_close w h (e ∷ closing) s es ss there few all can =
    let both = and_parts (is_close e) (list_all is_close closing) all in
    subst (λ (l : List Entry). CanAct w l s es) (append_assoc h (e ∷ []) closing)
    (can_at_close w (h ++ e ∷ []) closing s es ss there few both.1
    (can_still (leaves e (by_close is_aside true (λ n. refl) e both.0))
    (beside_worker ss e few (close_by_worker e both.0) s es there) can))

-- and one that could not can not
pub cannot_at_close : (w : Setting) (h closing : List Entry) (s : ℕ) (es : List Event) (ss : List (List Event))
    → slice_get ss s ≡ Some es → length ss ≤ first_worker → list_all is_close closing ≡ true → CannotAct w h s es
    → CannotAct w (h ++ closing) s es
cannot_at_close w h [] s es ss there few all not =
    subst (λ (l : List Entry). CannotAct w l s es) (sym (append-nil h)) not
cannot_at_close w h (e ∷ closing) s es ss there few all not =
    let both = and_parts (is_close e) (list_all is_close closing) all in
    subst (λ (l : List Entry). CannotAct w l s es) (append_assoc h (e ∷ []) closing)
    (cannot_at_close w (h ++ e ∷ []) closing s es ss there few both.1
    (cannot_still (leaves e (by_close is_aside true (λ n. refl) e both.0))
    (beside_worker ss e few (close_by_worker e both.0) s es there) not))

-- What a look at the sessions that used their whole budgets found: one that can act, or none.
pub data Looked (w : Setting) (budget : ℕ) (h : List Entry) (ss : List (List Event)) : Bool → Type 0 where
  found : (s : ℕ) (es : List Event) → slice_get ss s ≡ Some es → length es ≡ budget → CanAct w h s es
      → Looked w budget h ss true
  found_none : ((s : ℕ) (es : List Event) → slice_get ss s ≡ Some es → length es ≡ budget → CannotAct w h s es)
      → Looked w budget h ss false

-- it says whether the budget was spent
pub spent_exact : {w : Setting} {budget : ℕ} {h : List Entry} {run : Record} {spent : Bool}
    → (x : Ended h run.history.entries.items) → length run.sessions ≤ first_worker
    → Looked w budget h run.sessions spent → (spent ≡ true) ↔ IsSpent w budget run
spent_exact {w} {budget} {h} {run} x few (found s es there used more) = (
  λ e. record {
    session = s;
    events = es;
    there = there;
    used = used;
    more = subst (λ (l : List Entry). CanAct w l s es) (sym (before_its_stop x))
        (can_at_close w h x.closing s es run.sessions there few x.closing_are more);
  },
  λ y. refl,
)
spent_exact {w} {budget} {h} {run} x few (found_none none) = (
  λ e. absurd (false≢true e),
  λ y.
      absurd (cannot_at_close w h x.closing y.session y.events run.sessions y.there few x.closing_are
      (none y.session y.events y.there y.used)
      (subst (λ (l : List Entry). CanAct w l y.session y.events) (before_its_stop x) y.more)),
)
