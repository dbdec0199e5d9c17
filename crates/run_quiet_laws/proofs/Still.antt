-- Each posting began where it may: how that is kept, entry by entry and event by event.
use Rattle.std.proofs.Common.{◌≡◌, ◌≢◌, ◌≤◌, ◌<◌, ℕ, zero, suc, Bool, true, false, not, ◌||◌, List, [], ◌∷◌, ◌++◌, length, None, Some, option_map, ⊎_elim, nat_eq, refl, sym, ap, subst, ◌∙◌, arith}
use Rattle.std.specs.Prelude.{slice_get}
use Rattle.std.specs.List.{list_any}
use Rattle.std.proofs.lemmas.Bool.{and_parts, cases_eq, eqb-true, false≢true, or_left, or_right}
use Rattle.std.proofs.lemmas.List.Folds.{list_any-append}
use Rattle.behaviour_tree.specs.declared.words.Event.{Event}
use Rattle.behaviour_tree.specs.declared.words.Need.{Need}
use Rattle.behaviour_tree.specs.declared.words.Need.TheVariants as need
use Rattle.behaviour_tree.specs.declared.words.Given.{Given}
use Rattle.office_core.specs.declared.history.Act.{Act}
use Rattle.office_core.specs.declared.history.Act.TheVariants as act
use Rattle.office_core.specs.declared.history.Entry.{Entry}
use Rattle.office_core.specs.Limits.{Setting}
use Rattle.office_core.specs.Past.{Past}
use Rattle.office_core.specs.Sessions.{adopts, was_adopted}
use Rattle.office_core.specs.Accepted.{past_of}
use Rattle.run_record.specs.Steps.{calls_of}
use Rattle.run_record.specs.Agrees.{IsCall}
use Rattle.run_record.specs.Quiet.{CanAct, IsQuiet, IsStill, MayBegin, begins_posting, events_for, posts, posts_for}
use Rattle.run_record.specs.Quiet.{sessions_at}
use Rattle.session_turn.specs.Seen.{Seat, past_at}
use Rattle.session_turn.specs.Lives.{Gives, Kept, Moment, by_call, nothing}
use Rattle.session_turn.specs.Turns.{Happened}
use Rattle.session_turn.proofs.Growing.{grew_alone}
use Rattle.session_turn.proofs.Histories.{some_of}
pub use Rattle.run_quiet_laws.specs.Ends.{IsChanged}
use Rattle.run_quiet_laws.proofs.CallsOn.{calls_fewer}
use Rattle.run_quiet_laws.proofs.Cutting.{Cut, MadeAll, WasAt, calls_made, cut, events_whole, made_all, more, same, session_at, was_at}
use Rattle.run_quiet_laws.proofs.Fewer.{could_before}
use Rattle.run_quiet_laws.proofs.Once.{same_of}
use Rattle.run_quiet_laws.proofs.Quiet.{done_all, quiet_by}

-- ---- where an entry stands

cons_same : {x y : Entry} {xs ys : List Entry} → x ≡ y → xs ≡ ys → ◌≡◌ {A = List Entry} (x ∷ xs) (y ∷ ys)
cons_same p q = λ i. p i ∷ q i

head_of : {x y : Entry} {xs ys : List Entry} → ◌≡◌ {A = List Entry} (x ∷ xs) (y ∷ ys) → x ≡ y
head_of e = cc

tail_of : {x y : Entry} {xs ys : List Entry} → ◌≡◌ {A = List Entry} (x ∷ xs) (y ∷ ys) → xs ≡ ys
tail_of e = cc

not_nil : (xs ys : List Entry) (y : Entry) → [] ≡ xs ++ y ∷ ys → ⊥
not_nil [] ys y e = cc
not_nil (x ∷ xs) ys y e = cc

-- An entry behind others, in a history with one entry more: it is that entry, or it stood in the history.
pub data Stands (h before : List Entry) (x e : Entry) : Type 0 where
  at_end : h ≡ before → x ≡ e → Stands h before x e
  within : (later : List Entry) → h ≡ before ++ e ∷ later → Stands h before x e

stands_more : {y z : Entry} {h before : List Entry} {x e : Entry} → y ≡ z → Stands h before x e
    → Stands (y ∷ h) (z ∷ before) x e
stands_more p (at_end q r) = at_end (cons_same p q) r
stands_more p (within later q) = within later (cons_same p q)

pub stands_at : (h before later : List Entry) (x e : Entry) → h ++ x ∷ [] ≡ before ++ e ∷ later → Stands h before x e
stands_at [] [] later x e p = at_end refl (head_of p)
stands_at [] (z ∷ before) later x e p = absurd (not_nil before later e (tail_of p))
stands_at (y ∷ h) [] later x e p = within h (cons_same (head_of p) refl)
stands_at (y ∷ h) (z ∷ before) later x e p = stands_more (head_of p) (stands_at h before later x e (tail_of p))

any_there : (f : Entry → Bool) (xs ys : List Entry) (y : Entry) → f y ≡ true → list_any f (xs ++ y ∷ ys) ≡ true
any_there f xs ys y h =
    list_any-append f xs (y ∷ ys) ∙ or_right (list_any f xs) (list_any f (y ∷ ys)) (or_left (f y) (list_any f ys) h)

-- an entry of a kind that no later entry is of
pub stood_before : (f : Entry → Bool) (h own before later : List Entry) (e : Entry) → h ++ own ≡ before ++ e ∷ later
    → list_any f own ≡ false → f e ≡ true
    → (rest : List Entry) × (h ≡ before ++ e ∷ rest)
stood_before f [] own before later e p other is =
    absurd (false≢true (sym other ∙ ap (list_any f) p ∙ any_there f before later e is))
stood_before f (y ∷ h) own [] later e p other is = (h, cons_same (head_of p) refl)
stood_before f (y ∷ h) own (z ∷ before) later e p other is =
    let r = stood_before f h own before later e (tail_of p) other is in (r.0, cons_same (head_of p) r.1)

-- a posting begins with a post of it
begun_by : (j : ℕ) (before : List Entry) (e : Entry) → begins_posting j before e ≡ true
    → posts_for e.actor j e ≡ true
begun_by j before e h = (and_parts (posts_for e.actor j e) (not (list_any (posts_for e.actor j) before)) h).0

-- a post of a posting is a post
a_post : (actor j : ℕ) (e : Entry) → posts_for actor j e ≡ true → posts e ≡ true
a_post actor j e h = go e.actor e.act h
  where
    go : (n : ℕ) (a : Act) → posts_for actor j (record { actor = n; act = a }) ≡ true
        → posts (record { actor = n; act = a }) ≡ true
    go n (act.Post k i q r) h = refl
    go n a h = absurd (false≢true h)

pub begun_posts : (j : ℕ) (before : List Entry) (e : Entry) → begins_posting j before e ≡ true → posts e ≡ true
begun_posts j before e h = a_post e.actor j e (begun_by j before e h)

-- by one actor and of one posting
pub one_posting : (m n j k : ℕ) (e : Entry) → posts_for m j e ≡ true → posts_for n k e ≡ true → (m ≡ n) × (j ≡ k)
one_posting m n j k e g h = go e.actor e.act g h
  where
    go : (actor : ℕ) (a : Act) → posts_for m j (record { actor = actor; act = a }) ≡ true
        → posts_for n k (record { actor = actor; act = a }) ≡ true → (m ≡ n) × (j ≡ k)
    go actor (act.Post l i q r) g h =
        let x = and_parts (nat_eq m actor) (nat_eq j l) g in
        let y = and_parts (nat_eq n actor) (nat_eq k l) h in
        (eqb-true m actor x.0 ∙ sym (eqb-true n actor y.0), eqb-true j l x.1 ∙ sym (eqb-true k l y.1))
    go actor a g h = absurd (false≢true g)

-- what is kept where nothing was left to do is kept where a posting may begin
may_begin_too : (w : Setting) (budget j : ℕ) (h : List Entry) (old new : List (List Event))
    → (IsQuiet w budget h old → IsQuiet w budget h new) → MayBegin w budget j h old → MayBegin w budget j h new
may_begin_too w budget zero h old new f empty = empty
may_begin_too w budget (suc j) h old new f quiet = f quiet

-- ---- entries

-- before any entry there was no posting
pub still_first : (w : Setting) (budget : ℕ) (ss : List (List Event)) → IsStill w budget [] ss
still_first w budget ss j before later e p begins = absurd (not_nil before later e p)

-- an entry that begins no posting
pub still_by_other : (w : Setting) (budget : ℕ) (h : List Entry) (e : Entry) (ss : List (List Event))
    → ((j : ℕ) → begins_posting j h e ≡ false) → IsStill w budget h ss → IsStill w budget (h ++ e ∷ []) ss
still_by_other w budget h e ss other still j before later x p begins = go (stands_at h before later e x p)
  where
    go : Stands h before e x → MayBegin w budget j before (sessions_at w before 0 ss)
    go (at_end q r) = absurd (false≢true (sym (other j) ∙ (λ i. begins_posting j (q i) (r i)) ∙ begins))
    go (within rest q) = still j before rest x q begins

-- The sessions made all calls that the history has of them.
abbrev pub HaveMadeAll : Setting → List Entry → List (List Event) → Type 0
HaveMadeAll w h ss = (s : ℕ) (es : List Event) → slice_get ss s ≡ Some es → MadeAll w h s es

-- where nothing is left to do for the sessions as they are, nothing is for them as they were at this moment
pub quiet_at : (w : Setting) (budget : ℕ) (h : List Entry) (ss : List (List Event)) → HaveMadeAll w h ss
    → IsQuiet w budget h ss → IsQuiet w budget h (sessions_at w h 0 ss)
quiet_at w budget h ss made q =
    quiet_by q.adopted q.received
    (λ s events there can.
    let x = was_at w h ss s events there in
    let same : x.now ≡ events = sym (events_whole w h s x.now (made s x.now x.there)) ∙ x.then_had in
    done_all q s events (x.there ∙ ap (λ (es : List Event). Some es) same) can)

-- a post of a posting that may begin
pub still_by_posting : (w : Setting) (budget actor j : ℕ) (h : List Entry) (e : Entry) (ss : List (List Event))
    → posts_for actor j e ≡ true → MayBegin w budget j h ss → HaveMadeAll w h ss → IsStill w budget h ss
    → IsStill w budget (h ++ e ∷ []) ss
still_by_posting w budget actor j h e ss is may made still k before later x p begins =
    go (stands_at h before later e x p)
  where
    go : Stands h before e x → MayBegin w budget k before (sessions_at w before 0 ss)
    go (at_end q r) =
        let same : j ≡ k
        = (one_posting actor x.actor j k x (subst (λ (y : Entry). posts_for actor j y ≡ true) r is)
        (begun_by k before x begins)).1 in
        coe 0 1 (i. MayBegin w budget (same i) (q i) (sessions_at w (q i) 0 ss))
        (may_begin_too w budget j h _ _ (quiet_at w budget h ss made) may)
    go (within rest q) = still k before rest x q begins

-- ---- an event

-- An event more of session s, that had not used its budget.
pub record GoesOn (w : Setting) (budget : ℕ) (h : List Entry) (s : ℕ) (es : List Event) (x : Event)
    (old new : List (List Event)) : Type 0 where
  pub there : slice_get old s ≡ Some es
  pub changed : IsChanged s (es ++ x ∷ []) old new
  pub made : MadeAll w h s es
  pub left : length es < budget

not_less : (m n : ℕ) → m ≡ n → m < n → ⊥
not_less m n e h = omega (arith, e, h)

made_within : (few all made : ℕ) → few ≤ all → made ≡ all → few ≤ made
made_within few all made h e = omega (arith, h, e)

module _ {w : Setting} {budget : ℕ} {h : List Entry} {s : ℕ} {es : List Event} {x : Event} {old new : List (List Event)}
    (goes : GoesOn w budget h s es x old new) (before rest : List Entry) (e : Entry) (cut_at : h ≡ before ++ e ∷ rest)
    (quiet : IsQuiet w budget before (sessions_at w before 0 old)) where
  -- the events that session t had before, by its events now
  had : (t : ℕ) (ss : List (List Event)) (now : List Event) → slice_get ss t ≡ Some now
      → slice_get (sessions_at w before 0 ss) t ≡ Some (events_for (length (calls_of w before t)) now)
  had t ss now there =
      session_at w before ss t ∙ ap (option_map (events_for (length (calls_of w before t)))) there

  made_before : length (calls_of w before s) ≤ calls_made es
  made_before =
      made_within (length (calls_of w before s)) (length (calls_of w h s)) (calls_made es)
      (subst (λ (all : List Entry). length (calls_of w before s) ≤ length (calls_of w all s)) (sym cut_at)
      (calls_fewer w before (e ∷ rest) s))
      goes.made

  by_cut : (events : List Event) → events_for (length (calls_of w before s)) (es ++ x ∷ []) ≡ events
      → Cut (events_for (length (calls_of w before s)) (es ++ x ∷ [])) (events_for (length (calls_of w before s)) es)
      es x
      → CanAct w before s events → length events ≡ budget
  by_cut events is (same p) can =
      done_all quiet s events (had s old es goes.there ∙ ap (λ (xs : List Event). Some xs) (sym p ∙ is)) can
  by_cut events is (more other all longer) can =
      let then_can : CanAct w before s es
      = could_before w before s es x other
      (subst (λ (xs : List Event). CanAct w before s xs) (sym is ∙ longer) can) in
      absurd (not_less (length es) budget
      (done_all quiet s es (had s old es goes.there ∙ ap (λ (xs : List Event). Some xs) all) then_can) goes.left)

  at_itself : (events : List Event) → slice_get (sessions_at w before 0 new) s ≡ Some events → CanAct w before s events
      → length events ≡ budget
  at_itself events there can =
      by_cut events (same_of (sym (had s new (es ++ x ∷ []) goes.changed.here) ∙ there))
      (cut (length (calls_of w before s)) es x made_before) can

  at_other : (t : ℕ) → t ≢ s → (events : List Event) → slice_get (sessions_at w before 0 new) t ≡ Some events
      → CanAct w before t events → length events ≡ budget
  at_other t apart events there can =
      done_all quiet t events
      (session_at w before old t
      ∙ ap (option_map (events_for (length (calls_of w before t)))) (sym (goes.changed.others t apart))
      ∙ sym (session_at w before new t) ∙ there)
      can

  quiet_then : IsQuiet w budget before (sessions_at w before 0 new)
  quiet_then =
      quiet_by quiet.adopted quiet.received
      (λ t events there can.
      ⊎_elim
      (λ (is : t ≡ s).
      at_itself events
      (ap (slice_get (sessions_at w before 0 new)) (sym is) ∙ there)
      (subst (λ (n : ℕ). CanAct w before n events) is can))
      (λ (apart : t ≢ s). at_other t apart events there can)
      (cases_eq t s))

-- an event of a session, with its entries, which are no posts
pub still_by_event : {w : Setting} {budget : ℕ} {h : List Entry} (own : List Entry)
    {s : ℕ} {es : List Event} {x : Event}
    {old new : List (List Event)}
    → GoesOn w budget h s es x old new → list_any posts own ≡ false → IsStill w budget h old
    → IsStill w budget (h ++ own) new
still_by_event {w} {budget} {h} own goes other still j before later e p begins =
    let r = stood_before posts h own before later e p other (begun_posts j before e begins) in
    may_begin_too w budget j before _ _ (quiet_then goes before r.0 e r.1) (still j before r.0 e r.1 begins)

call_no_post : (s : ℕ) (past : Past) (n : Need) (call : Act) → IsCall s n past call
    → posts (record { actor = s; act = call }) ≡ false
call_no_post s past (need.Take ops) (act.Take i) c = refl
call_no_post s past (need.Answer k) (act.Answer l o) c = refl
call_no_post s past (need.Bind v x) (act.Bind u y r) c = refl
call_no_post s past (need.Reply i o) (act.Reply l q) c = refl
call_no_post s past (need.Send k port op v w) (act.Send l q p u w' r) c = refl
call_no_post s past need.Finish act.End c = refl
call_no_post s past n call c = absurd c

-- the entries of an event are no posts
pub own_no_posts : {a : Seat} {h : List Entry} {n : Need} {g : Given} {own : List Entry} → Gives a h n g own
    → list_any posts own ≡ false
own_no_posts nothing = refl
own_no_posts {a} {h} (by_call n g call k) = ap (λ b. b || false) (call_no_post a.session (past_at a h) n call k.is_call)

-- an event that happened to a session at a desk that nobody else calls
pub still_by_turn : {a : Seat} {budget n : ℕ} {es : List Event} {was now : Moment} {event : Event}
    {old new : List (List Event)}
    → a.alone ≡ true → Kept a es was → Happened a n was now event → slice_get old a.session ≡ Some es
    → length es < budget → IsChanged a.session (es ++ event ∷ []) old new
    → IsStill a.setting budget was.seen old
    → IsStill a.setting budget now.seen new
still_by_turn {a} {budget} {n} {es} {was} {now} {event} {old} {new} alone k p there left changed still =
    let goes : GoesOn a.setting budget was.seen a.session es event old new
    = record { there = there; changed = changed; made = made_all k; left = left } in
    subst (λ (h : List Entry). IsStill a.setting budget h new)
    (ap (λ (h : List Entry). h ++ p.own) (sym (grew_alone alone p.grew)) ∙ sym p.seen)
    (still_by_event p.own goes (own_no_posts p.given) still)

-- ---- an adoption

-- What stands in a list with one more stands in the list, or is that one.
data Pushed (ss : List (List Event)) (x : List Event) (t : ℕ) (now : List Event) : Type 0 where
  stood : slice_get ss t ≡ Some now → Pushed ss x t now
  pushed : t ≡ length ss → x ≡ now → Pushed ss x t now

none_there : {now : List Event} → None ≡ Some now → ⊥
none_there e = cc

pushed_more : {y : List Event} {ss : List (List Event)} {x : List Event} {t : ℕ} {now : List Event} → Pushed ss x t now
    → Pushed (y ∷ ss) x (suc t) now
pushed_more (stood e) = stood e
pushed_more (pushed e f) = pushed (ap suc e) f

pushed_at : (ss : List (List Event)) (x : List Event) (t : ℕ) (now : List Event) → slice_get (ss ++ x ∷ []) t ≡ Some now
    → Pushed ss x t now
pushed_at [] x zero now e = pushed refl (same_of e)
pushed_at [] x (suc t) now e = absurd (none_there e)
pushed_at (y ∷ ss) x zero now e = stood e
pushed_at (y ∷ ss) x (suc t) now e = pushed_more (pushed_at ss x t now e)

-- a session that was adopted before was adopted
adopted_later : (w : Setting) (before later : List Entry) (s : ℕ) → was_adopted (past_of w before) s ≡ true
    → was_adopted (past_of w (before ++ later)) s ≡ true
adopted_later w before later s h =
    some_of w (before ++ later) (adopts s) ∙ list_any-append (adopts s) before later
    ∙ or_left (list_any (adopts s) before) (list_any (adopts s) later) (sym (some_of w before (adopts s)) ∙ h)

-- a session is adopted that was not before, and has no event yet
pub still_by_adoption : (w : Setting) (budget : ℕ) (h : List Entry) (e : Entry) (ss : List (List Event))
    → ((j : ℕ) → begins_posting j h e ≡ false) → was_adopted (past_of w h) (length ss) ≡ false
    → IsStill w budget h ss → IsStill w budget (h ++ e ∷ []) (ss ++ [] ∷ [])
still_by_adoption w budget h e ss other fresh still =
    still_by_other w budget h e (ss ++ [] ∷ []) other
    (λ j before later x p begins.
    may_begin_too w budget j before _ _ (quiet_adopted before later x p) (still j before later x p begins))
  where
    idle_then : (before later : List Entry) (x : Entry) → h ≡ before ++ x ∷ later
        → IsQuiet w budget before (sessions_at w before 0 ss)
        → (t : ℕ) (events : List Event) → (y : WasAt w before (ss ++ [] ∷ []) t events) → CanAct w before t events
        → Pushed ss [] t y.now → length events ≡ budget
    idle_then before later x p q t events y can (stood there) =
        done_all q t events
        (session_at w before ss t ∙ ap (option_map (events_for (length (calls_of w before t)))) there
        ∙ ap (λ (xs : List Event). Some xs) y.then_had)
        can
    idle_then before later x p q t events y can (pushed is f) =
        absurd (false≢true (sym fresh ∙ ap (was_adopted (past_of w h)) (sym is)
        ∙ ap (λ (all : List Entry). was_adopted (past_of w all) t) p
        ∙ adopted_later w before (x ∷ later) t (q.adopted t can.agrees.service can.agrees.born)))

    quiet_adopted : (before later : List Entry) (x : Entry) → h ≡ before ++ x ∷ later
        → IsQuiet w budget before (sessions_at w before 0 ss)
        → IsQuiet w budget before (sessions_at w before 0 (ss ++ [] ∷ []))
    quiet_adopted before later x p q =
        quiet_by q.adopted q.received
        (λ t events there can.
        let y = was_at w before (ss ++ [] ∷ []) t events there in
        idle_then before later x p q t events y can (pushed_at ss [] t y.now y.there))
