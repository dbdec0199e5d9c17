-- That the Booleans which are computed say when nothing is left to do: at an end, and before each posting.
use Rattle.std.proofs.Common.{◌≡◌, ℕ, zero, suc, ◌+◌, Bool, true, false, not, ◌&&◌, List, [], ◌∷◌, ◌++◌, length, refl, sym, ap, subst, ◌∙◌, Option, None, Some, is_some, true≢false, append_assoc, arith}
use Rattle.std.specs.Prelude.{nat_eq, nat_lt, slice_get, if◌then◌else◌}
use Rattle.std.specs.List.{list_all, list_any}
use Rattle.std.proofs.lemmas.Bool.{eqb-true, false≢true, not-true}
use Rattle.std.proofs.lemmas.Bool.Decides.{nat_tests}
use Rattle.std.proofs.lemmas.List.{append-nil}
use Rattle.std.specs.Cmp.{unsigned_Decides}
use Rattle.behaviour_tree.specs.declared.words.Event.{Event}
use Rattle.office_core.specs.declared.history.Act.{Act}
use Rattle.office_core.specs.declared.history.Act.TheVariants as act
use Rattle.office_core.specs.declared.history.Entry.{Entry}
use Rattle.office_core.specs.Limits.{Setting}
use Rattle.office_core.specs.Past.{Past}
use Rattle.office_core.specs.Sessions.{births, service_of, was_adopted}
use Rattle.office_core.specs.Accepted.{past_of}
use Rattle.run_record.specs.Agrees.{IsSession}
use Rattle.run_record.specs.Quiet.{CanAct, outstanding, IsQuiet, posts_for, begins_posting, sessions_at, MayBegin, IsStill}
use Rattle.test_trials.specs.Quiet.{below, can_act, are_idle, is_empty, is_quiet, may_begin, begins_well, is_still_after, is_still}
use Rattle.test_trials.proofs.Standing.{both_left, both_right}
use Rattle.test_trials.proofs.Acting.{same_of, none_not_some, finds_acting, acting_is_found}

-- ---- lists

empty_is : {A : Type 0} (xs : List A) → is_empty xs ≡ true → xs ≡ []
empty_is [] h = refl
empty_is (x ∷ xs) h = absurd (false≢true h)

is_there : {A : Type 0} (xs : List A) (i : ℕ) (x : A) → slice_get xs i ≡ Some x → nat_lt i (length xs) ≡ true
is_there [] i x h = absurd (none_not_some x h)
is_there (y ∷ xs) zero x h = grind (arith, nat_tests)
is_there (y ∷ xs) (suc i) x h = more i (length xs) (is_there xs i x h)
  where
    more : (i n : ℕ) → nat_lt i n ≡ true → nat_lt (suc i) (suc n) ≡ true
    more i n h = grind (arith, nat_tests)

-- all of two lists
all_of_first : {A : Type 0} (p : A → Bool) (xs ys : List A) → list_all p (xs ++ ys) ≡ true → list_all p xs ≡ true
all_of_first p [] ys h = refl
all_of_first p (x ∷ xs) ys h =
    (λ i. both_left (p x) (list_all p (xs ++ ys)) h i && all_of_first p xs ys (both_right (p x) (list_all p (xs ++ ys)) h) i)

all_of_last : {A : Type 0} (p : A → Bool) (xs ys : List A) → list_all p (xs ++ ys) ≡ true → list_all p ys ≡ true
all_of_last p [] ys h = h
all_of_last p (x ∷ xs) ys h = all_of_last p xs ys (both_right (p x) (list_all p (xs ++ ys)) h)

-- what holds of all numbers below another
all_below : (p : ℕ → Bool) (m n : ℕ) → list_all p (below m) ≡ true → nat_lt n m ≡ true → p n ≡ true
all_below p zero n h l = absurd (none_below n l)
  where
    none_below : (n : ℕ) → nat_lt n 0 ≡ true → ⊥
    none_below n h = grind (arith, nat_tests)
all_below p (suc m) n h l = by (nat_lt n m) refl (all_below p m n (all_of_first p (below m) (m ∷ []) h))
  where
    last : (n m : ℕ) → nat_lt n (suc m) ≡ true → nat_lt n m ≡ false → n ≡ m
    last n m h e = grind (arith, nat_tests)

    by : (b : Bool) → nat_lt n m ≡ b → (nat_lt n m ≡ true → p n ≡ true) → p n ≡ true
    by true e rest = rest e
    by false e rest = ap p (last n m l e) ∙ both_left (p m) true (all_of_last p (below m) (m ∷ []) h)

-- ---- sessions that are idle

-- a session with these events used its whole budget, or is not found to act
abbrev idles : Setting → ℕ → List Entry → ℕ → List Event → Bool
idles w budget h s events = if nat_eq (length events) budget then true else not (can_act w h s events)

idles_is : (w : Setting) (budget : ℕ) (h : List Entry) (s : ℕ) (events : List Event) → idles w budget h s events ≡ true
    → CanAct w h s events → length events ≡ budget
idles_is w budget h s events i x = by (nat_eq (length events) budget) refl i
  where
    by : (b : Bool) → nat_eq (length events) budget ≡ b → (if b then true else not (can_act w h s events)) ≡ true
        → length events ≡ budget
    by true e l = (unsigned_Decides (length events) budget).0 e
    by false e l = absurd (false≢true (sym (ap not (finds_acting w h s events x)) ∙ l))

pub zero_first : (k : ℕ) → 0 + k ≡ k
zero_first k = omega arith

idle_is : (w : Setting) (budget : ℕ) (h : List Entry) (k : ℕ) (sessions : List (List Event))
    → are_idle w budget h k sessions ≡ true
    → (i : ℕ) (events : List Event) → slice_get sessions i ≡ Some events → CanAct w h (i + k) events → length events ≡ budget
idle_is w budget h k [] a i events e x = absurd (none_not_some events e)
idle_is w budget h k (es ∷ sessions) a zero events e x =
    subst (λ l. length l ≡ budget) (same_of es events e)
    (idles_is w budget h k es (both_left (idles w budget h k es) (are_idle w budget h (suc k) sessions) a)
    (subst (CanAct w h k) (sym (same_of es events e)) (subst (λ s. CanAct w h s events) (zero_first k) x)))
idle_is w budget h k (es ∷ sessions) a (suc i) events e x =
    idle_is w budget h (suc k) sessions (both_right (idles w budget h k es) (are_idle w budget h (suc k) sessions) a) i events e
    (subst (λ s. CanAct w h s events) (moved_on i k) x)
  where
    moved_on : (i k : ℕ) → suc i + k ≡ i + suc k
    moved_on i k = omega arith

-- ---- quiet

-- a record that is computed to be quiet is quiet
pub quiet_is : (w : Setting) (budget : ℕ) (h : List Entry) (sessions : List (List Event))
    → is_quiet w budget h sessions ≡ true → IsQuiet w budget h sessions
quiet_is w budget h sessions q =
    let past = past_of w h in
    let adopted = list_all (was_adopted past) (below (length (births w past))) in
    let received = is_empty (outstanding past) in
    let idle = are_idle w budget h 0 sessions in
    let first : (adopted && received) ≡ true = both_left (adopted && received) idle q in
    record {
      adopted = λ s service born. all_below (was_adopted past) (length (births w past)) s (both_left adopted received first)
          (is_there (births w past) s service born);
      received = empty_is (outstanding past) (both_right adopted received first);
      idle = λ s events last e agrees acts.
          idle_is w budget h 0 sessions (both_right (adopted && received) idle q) s events e
          (subst (λ n. CanAct w h n events) (whole s) (record { last = last; agrees = agrees; acts = acts }));
    }
  where
    whole : (s : ℕ) → s ≡ s + 0
    whole s = omega arith

-- ---- not quiet

-- the sessions from number k on agree with the history
abbrev pub AreSessions : Setting → List Entry → ℕ → List (List Event) → Type 0
AreSessions w h k [] = Unit {0}
AreSessions w h k (events ∷ sessions) = IsSession w h k events × AreSessions w h (suc k) sessions

pub sessions_are : (w : Setting) (h : List Entry) (k : ℕ) (sessions : List (List Event)) → AreSessions w h k sessions
    → (i : ℕ) (events : List Event) → slice_get sessions i ≡ Some events → IsSession w h (i + k) events
sessions_are w h k [] a i events e = absurd (none_not_some events e)
sessions_are w h k (es ∷ sessions) a zero events e =
    subst (λ s. IsSession w h s events) (sym (zero_first k)) (subst (IsSession w h k) (same_of es events e) a.0)
sessions_are w h k (es ∷ sessions) a (suc i) events e =
    subst (λ s. IsSession w h s events) (moved_on i k) (sessions_are w h (suc k) sessions a.1 i events e)
  where
    moved_on : (i k : ℕ) → i + suc k ≡ suc i + k
    moved_on i k = omega arith

both_so : (a b : Bool) → a ≡ true → b ≡ true → (a && b) ≡ true
both_so a b h k = (λ i. h i && k i)

idle_so : (w : Setting) (budget : ℕ) (h : List Entry) (k : ℕ) (sessions : List (List Event)) → AreSessions w h k sessions
    → ((i : ℕ) (events : List Event) → slice_get sessions i ≡ Some events → CanAct w h (i + k) events → length events ≡ budget)
    → are_idle w budget h k sessions ≡ true
idle_so w budget h k [] a f = refl
idle_so w budget h k (es ∷ sessions) a f =
    both_so (idles w budget h k es) (are_idle w budget h (suc k) sessions) (by (nat_eq (length es) budget) refl)
    (idle_so w budget h (suc k) sessions a.1 (λ i events e x. f (suc i) events e (subst (λ s. CanAct w h s events) (moved_on i k) x)))
  where
    moved_on : (i k : ℕ) → i + suc k ≡ suc i + k
    moved_on i k = omega arith

    rests : (b : Bool) → can_act w h k es ≡ b → nat_eq (length es) budget ≡ false → not (can_act w h k es) ≡ true
    rests true e l =
        absurd (true≢false (sym ((unsigned_Decides (length es) budget).1
        (f 0 es refl (subst (λ s. CanAct w h s es) (sym (zero_first k)) (acting_is_found w h k es a.0.0 a.0.1 e)))) ∙ l))
    rests false e l = ap not e

    by : (b : Bool) → nat_eq (length es) budget ≡ b → idles w budget h k es ≡ true
    by true e = ap (λ b. if b then true else not (can_act w h k es)) e
    by false e = ap (λ b. if b then true else not (can_act w h k es)) e ∙ rests (can_act w h k es) refl e

all_of_both : {A : Type 0} (p : A → Bool) (xs ys : List A) → list_all p xs ≡ true → list_all p ys ≡ true
    → list_all p (xs ++ ys) ≡ true
all_of_both p [] ys h k = k
all_of_both p (x ∷ xs) ys h k =
    both_so (p x) (list_all p (xs ++ ys)) (both_left (p x) (list_all p xs) h)
    (all_of_both p xs ys (both_right (p x) (list_all p xs) h) k)

all_adopted : (p : ℕ → Bool) (m : ℕ) → ((n : ℕ) → nat_lt n m ≡ true → p n ≡ true) → list_all p (below m) ≡ true
all_adopted p zero f = refl
all_adopted p (suc m) f =
    all_of_both p (below m) (m ∷ []) (all_adopted p m (λ n l. f n (later n m l))) (both_so (p m) true (f m (itself m)) refl)
  where
    later : (n m : ℕ) → nat_lt n m ≡ true → nat_lt n (suc m) ≡ true
    later n m h = grind (arith, nat_tests)

    itself : (m : ℕ) → nat_lt m (suc m) ≡ true
    itself m = grind (arith, nat_tests)

there_is : {A : Type 0} (xs : List A) (i : ℕ) → nat_lt i (length xs) ≡ true → (x : A) × (slice_get xs i ≡ Some x)
there_is [] i h = absurd (none_below i h)
  where
    none_below : (n : ℕ) → nat_lt n 0 ≡ true → ⊥
    none_below n h = grind (arith, nat_tests)
there_is (x ∷ xs) zero h = (x, refl)
there_is (x ∷ xs) (suc i) h = there_is xs i (fewer i (length xs) h)
  where
    fewer : (i n : ℕ) → nat_lt (suc i) (suc n) ≡ true → nat_lt i n ≡ true
    fewer i n h = grind (arith, nat_tests)

-- a record of sessions that agree, which is quiet, is computed to be
pub quiet_so : (w : Setting) (budget : ℕ) (h : List Entry) (sessions : List (List Event)) → AreSessions w h 0 sessions
    → IsQuiet w budget h sessions → is_quiet w budget h sessions ≡ true
quiet_so w budget h sessions a q =
    let past = past_of w h in
    let adopted = list_all (was_adopted past) (below (length (births w past))) in
    let received = is_empty (outstanding past) in
    both_so (adopted && received) (are_idle w budget h 0 sessions)
    (both_so adopted received
    (all_adopted (was_adopted past) (length (births w past))
    (λ s l. let born = there_is (births w past) s l in q.adopted s born.0 born.1))
    (ap is_empty q.received))
    (idle_so w budget h 0 sessions a
    (λ i events e x. used i events e (subst (λ n. CanAct w h n events) (less i) x)))
  where
    less : (i : ℕ) → i + 0 ≡ i
    less i = omega arith

    used : (s : ℕ) (events : List Event) → slice_get sessions s ≡ Some events → CanAct w h s events
        → length events ≡ budget
    used s events e x = q.idle s events x.last e x.agrees x.acts

-- so one that is computed not to be is not quiet
pub not_quiet : (w : Setting) (budget : ℕ) (h : List Entry) (sessions : List (List Event)) → AreSessions w h 0 sessions
    → is_quiet w budget h sessions ≡ false → IsQuiet w budget h sessions → ⊥
not_quiet w budget h sessions a e q = true≢false (sym (quiet_so w budget h sessions a q) ∙ e)

-- ---- still

may_begin_is : (w : Setting) (budget j : ℕ) (h : List Entry) (sessions : List (List Event))
    → may_begin w budget j h sessions ≡ true → MayBegin w budget j h sessions
may_begin_is w budget zero h sessions e = empty_is h e
may_begin_is w budget (suc j) h sessions e = quiet_is w budget h sessions e

not_begun : (w : Setting) (budget j : ℕ) (h : List Entry) (sessions : List (List Event)) → AreSessions w h 0 sessions
    → may_begin w budget j h sessions ≡ false → MayBegin w budget j h sessions → ⊥
not_begun w budget zero h sessions a e empty = true≢false (sym (ap is_empty empty) ∙ e)
not_begun w budget (suc j) h sessions a e quiet = not_quiet w budget h sessions a e quiet

-- a posting that an entry begins well began where it may
begun_is : (w : Setting) (budget : ℕ) (sessions : List (List Event)) (before : List Entry) (j : ℕ) (e : Entry)
    → begins_well w budget sessions before e ≡ true → begins_posting j before e ≡ true
    → MayBegin w budget j before (sessions_at w before 0 sessions)
begun_is w budget sessions before j e well begins = go e.actor e.act well begins
  where
    go : (n : ℕ) (a : Act) → begins_well w budget sessions before (record { actor = n; act = a }) ≡ true
        → begins_posting j before (record { actor = n; act = a }) ≡ true
        → MayBegin w budget j before (sessions_at w before 0 sessions)
    go n (act.Post k i q r) well begins =
        let posted = nat_eq n n && nat_eq j k in
        let none = not (list_any (posts_for n j) before) in
        let same : j ≡ k = eqb-true j k (both_right (nat_eq n n) (nat_eq j k) (both_left posted none begins)) in
        subst (λ m. MayBegin w budget m before (sessions_at w before 0 sessions)) (sym same)
        (may_begin_is w budget k before (sessions_at w before 0 sessions)
        (sym (ap
        (λ (b : Bool). elim b [ true ↦ true | false ↦ may_begin w budget k before (sessions_at w before 0 sessions) ])
        (subst (λ m. list_any (posts_for n m) before ≡ false) same
        (not-true (list_any (posts_for n j) before) (both_right posted none begins))))
        ∙ well))
    go n a well begins = absurd (false≢true begins)

still_after_is : (w : Setting) (budget : ℕ) (sessions : List (List Event)) (seen before later : List Entry) (j : ℕ)
    (e : Entry) → is_still_after w budget sessions seen (before ++ e ∷ later) ≡ true
    → begins_posting j (seen ++ before) e ≡ true
    → MayBegin w budget j (seen ++ before) (sessions_at w (seen ++ before) 0 sessions)
still_after_is w budget sessions seen [] later j e h b =
    subst (λ l. MayBegin w budget j l (sessions_at w l 0 sessions)) (sym (append-nil seen))
    (begun_is w budget sessions seen j e
    (both_left (begins_well w budget sessions seen e) (is_still_after w budget sessions (seen ++ e ∷ []) later) h)
    (sym (ap (λ l. begins_posting j l e) (append-nil seen)) ∙ b))
still_after_is w budget sessions seen (x ∷ before) later j e h b =
    subst (λ l. MayBegin w budget j l (sessions_at w l 0 sessions)) (append_assoc seen (x ∷ []) before)
    (still_after_is w budget sessions (seen ++ x ∷ []) before later j e
    (both_right (begins_well w budget sessions seen x)
    (is_still_after w budget sessions (seen ++ x ∷ []) (before ++ e ∷ later)) h)
    (ap (λ l. begins_posting j l e) (append_assoc seen (x ∷ []) before) ∙ b))

-- a record that is computed to be still is still
pub still_is : (w : Setting) (budget : ℕ) (h : List Entry) (sessions : List (List Event))
    → is_still w budget h sessions ≡ true → IsStill w budget h sessions
still_is w budget h sessions q j before later e is begins =
    still_after_is w budget sessions [] before later j e (sym (ap (is_still_after w budget sessions []) is) ∙ q) begins

-- one of which a posting is computed not to have begun where it may is not still
pub not_still : (w : Setting) (budget j : ℕ) (before later : List Entry) (e : Entry) (sessions : List (List Event))
    → begins_posting j before e ≡ true → AreSessions w before 0 (sessions_at w before 0 sessions)
    → may_begin w budget j before (sessions_at w before 0 sessions) ≡ false
    → IsStill w budget (before ++ e ∷ later) sessions → ⊥
not_still w budget j before later e sessions begins a h still =
    not_begun w budget j before (sessions_at w before 0 sessions) a h (still j before later e refl begins)
