-- Laws of the marks of places that are walked over.
use Rattle.std.proofs.Common.{◌≡◌, ◌≢◌, ℕ, zero, suc, Bool, true, false, ◌+◌, ◌-◌, ◌<◌, ◌≤◌, arith, List, length, Option, Some, None, refl, ap, sym, ◌∙◌, subst, inl, inr}
use Rattle.std.specs.Prelude.{◌||◌, ◌==◌, ◌⊎◌, option_and_then, slice_set}
use Rattle.std.proofs.lemmas.Bool.{false≢true}
use Rattle.std.proofs.lemmas.Bool.Decides.{eqb_tells}
use Rattle.std.proofs.lemmas.List.{get_or-set_same, get_or-set_other}
use Rattle.std.proofs.lemmas.List.Sums.{sum_by-set}
use Rattle.check_types.specs.declared.circles.Mark.{Mark}
use Rattle.check_types.specs.declared.circles.Mark.TheVariants.{Unseen, Walked, Circle}
use Rattle.check_types.specs.Circles.{Came, CameBy, IsAhead, IsWalkBelow, Known, KnownOnRound, KnownOnWalk, LeadsAhead, LeadsRound, OnlyCircles, Says, SaysOnRound, SaysOnWalk, StaysSeen, WalksBelow, is_circle, is_unseen, mark_at, place_leads_back, steps_on, unseen, unseen_count}
use Rattle.check_types.proofs.Steps.{back_to}

-- a fact of each mark, once a place is marked
pub each_mark : (P : ℕ → Mark → Type 0) (marks : List Mark) (i : ℕ) (v : Mark) → i < length marks → P i v → ((p : ℕ) → p ≢ i → P p (mark_at marks p)) → (p : ℕ) → P p (mark_at (slice_set marks i v) p)
each_mark P marks i v below here others p =
    elim (eqb_tells p i) [
      | inl e ↦ subst (λ q. P q (mark_at (slice_set marks i v) q)) (sym e.1) (subst (P i) (sym (get_or-set_same marks i v Unseen below)) here)
      | inr e ↦ subst (P p) (sym (get_or-set_other marks i p v Unseen e.1)) (others p e.1)
    ]

-- ---- what stays

-- what is ahead stays ahead
abbrev pub StaysAhead : List Mark → List Mark → Type 0
StaysAhead before after = (walk step p : ℕ) → IsAhead walk step (mark_at before p) → IsAhead walk step (mark_at after p)

-- what is on a circle stays there
abbrev pub StaysRound : List Mark → List Mark → Type 0
StaysRound before after = (p : ℕ) → mark_at before p ≡ Circle → mark_at after p ≡ Circle

pub leads_stays : (before after : List Mark) → StaysAhead before after → (walk step : ℕ) (o : Option ℕ) → LeadsAhead before walk step o → LeadsAhead after walk step o
leads_stays before after stays walk step None h = tt
leads_stays before after stays walk step (Some p) h = stays walk step p h

pub round_stays : (before after : List Mark) → StaysRound before after → (o : Option ℕ) → LeadsRound before o → LeadsRound after o
round_stays before after stays None h = h
round_stays before after stays (Some p) h = stays p h

-- a place that was unseen is marked
pub ahead_at_unseen : (marks : List Mark) (i : ℕ) (v : Mark) → i < length marks → mark_at marks i ≡ Unseen → StaysAhead marks (slice_set marks i v)
ahead_at_unseen marks i v below free walk step = each_mark (λ p mark. IsAhead walk step (mark_at marks p) → IsAhead walk step mark) marks i v below (λ h. absurd (subst (IsAhead walk step) free h)) (λ p ne h. h)

pub round_at_unseen : (marks : List Mark) (i : ℕ) (v : Mark) → i < length marks → mark_at marks i ≡ Unseen → StaysRound marks (slice_set marks i v)
round_at_unseen marks i v below free = each_mark (λ p mark. mark_at marks p ≡ Circle → mark ≡ Circle) marks i v below (λ h. cc (free, h)) (λ p ne h. h)

-- a place is found to be on a circle
pub ahead_at_circle : (marks : List Mark) (i : ℕ) → i < length marks → StaysAhead marks (slice_set marks i Circle)
ahead_at_circle marks i below walk step = each_mark (λ p mark. IsAhead walk step (mark_at marks p) → IsAhead walk step mark) marks i Circle below (λ h. tt) (λ p ne h. h)

pub round_at_circle : (marks : List Mark) (i : ℕ) → i < length marks → StaysRound marks (slice_set marks i Circle)
round_at_circle marks i below = each_mark (λ p mark. mark_at marks p ≡ Circle → mark ≡ Circle) marks i Circle below (λ h. refl) (λ p ne h. h)

pub seen_stays : (before marks : List Mark) (i : ℕ) (v : Mark) → i < length marks → is_unseen v ≡ false → StaysSeen before marks → StaysSeen before (slice_set marks i v)
seen_stays before marks i v below seen stays = each_mark (λ p mark. is_unseen (mark_at before p) ≡ false → is_unseen mark ≡ false) marks i v below (λ h. seen) (λ p ne. stays p)

-- ---- how many are unseen

pub unseen_is : (mark : Mark) → true ≡ is_unseen mark → mark ≡ Unseen
unseen_is Unseen e = refl
unseen_is (Walked walk step) e = cc
unseen_is Circle e = cc

pub unseen_less : (marks : List Mark) (i walk step : ℕ) → i < length marks → mark_at marks i ≡ Unseen → unseen (slice_set marks i (Walked walk step)) + 1 ≡ unseen marks
unseen_less marks i walk step below free =
    let e = sum_by-set unseen_count marks i (Walked walk step) Unseen below in
    let one : unseen_count (mark_at marks i) ≡ 1 = ap unseen_count free in
    omega (arith, e, one)

pub some_unseen : (marks : List Mark) (i : ℕ) → i < length marks → mark_at marks i ≡ Unseen → 0 < unseen marks
some_unseen marks i below free = let e = unseen_less marks i 0 0 below free in omega (arith, e)

pub unseen_no_more : (marks : List Mark) (i : ℕ) → i < length marks → unseen (slice_set marks i Circle) ≤ unseen marks
unseen_no_more marks i below = let e = sum_by-set unseen_count marks i Circle Unseen below in omega (arith, e)

-- ---- a walk

-- the start of a walk is seen once the walk goes on
pub start_on : (marks : List Mark) (start place walk step : ℕ) → place < length marks → (place ≡ start) ⊎ (is_unseen (mark_at marks start) ≡ false) → is_unseen (mark_at (slice_set marks place (Walked walk step)) start) ≡ false
start_on marks start place walk step below first =
    elim first [
      | inl here ↦ subst (λ p. is_unseen (mark_at (slice_set marks place (Walked walk step)) p) ≡ false) here (ap is_unseen (get_or-set_same marks place (Walked walk step) Unseen below))
      | inr seen ↦ seen_stays marks marks place (Walked walk step) below refl (λ p h. h) start seen
    ]

-- a mark at the start of a walk
pub says_at_start : (marks : List Mark) (walk : ℕ) (to nx : Option ℕ) (b : Bool) (mark : Mark) → Says marks nx b mark → SaysOnWalk marks walk to nx b mark
says_at_start marks walk to nx b Unseen h = h
says_at_start marks walk to nx b (Walked w s) h = inl h
says_at_start marks walk to nx b Circle h = h

pub known_at_start : (next : ℕ → Option ℕ) (n : ℕ) (marks : List Mark) (walk : ℕ) (to : Option ℕ) → Known next n marks → KnownOnWalk next n marks walk to
known_at_start next n marks walk to known p = says_at_start marks walk to (next p) (place_leads_back next n p p) (mark_at marks p) (known p)

-- no walk before is this one
pub came_by_none : (walk steps : ℕ) (to : Option ℕ) (from : ℕ → Option ℕ) (mark : Mark) → IsWalkBelow walk mark → CameBy walk steps to from mark
came_by_none walk steps to from Unseen h = tt
came_by_none walk steps to from (Walked w s) h = λ e. absurd (omega (arith, h, e))
came_by_none walk steps to from Circle h = tt

pub came_at_start : (next : ℕ → Option ℕ) (marks : List Mark) (walk steps : ℕ) (to : Option ℕ) → WalksBelow walk marks → Came next marks walk steps to
came_at_start next marks walk steps to walks p = came_by_none walk steps to (λ k. steps_on next k p) (mark_at marks p) (walks p)

pub walk_below_more : (walks : ℕ) (mark : Mark) → IsWalkBelow walks mark → IsWalkBelow (walks + 1) mark
walk_below_more walks Unseen h = tt
walk_below_more walks (Walked w s) h = omega (arith, h)
walk_below_more walks Circle h = tt

pub walks_more : (walks : ℕ) (marks : List Mark) → WalksBelow walks marks → WalksBelow (walks + 1) marks
walks_more walks marks h p = walk_below_more walks (mark_at marks p) (h p)

pub walks_on : (walks : ℕ) (marks : List Mark) (i walk step : ℕ) → i < length marks → walk < walks → WalksBelow walks marks → WalksBelow walks (slice_set marks i (Walked walk step))
walks_on walks marks i walk step below first h = each_mark (λ p. IsWalkBelow walks) marks i (Walked walk step) below first (λ p ne. h p)

-- the other marks, when a walk goes on
pub says_on : (marks new : List Mark) (walk step place : ℕ) (to nx : Option ℕ) (b : Bool) (from : ℕ → Option ℕ) (mark : Mark) → StaysAhead marks new → StaysRound marks new → mark_at new place ≡ Walked walk step
    → SaysOnWalk marks walk (Some place) nx b mark → CameBy walk step (Some place) from mark → SaysOnWalk new walk to nx b mark
says_on marks new walk step place to nx b from Unseen ahead round here h came = tt
says_on marks new walk step place to nx b from (Walked w s) ahead round here h came =
    elim h [
      | inl leads ↦ inl (leads_stays marks new ahead w s nx leads)
      | inr last ↦ inl (subst (LeadsAhead new w s) (sym last.1) (subst (IsAhead w s) (sym here) (inr (sym last.0, (came last.0).0))))
    ]
says_on marks new walk step place to nx b from Circle ahead round here h came = (h.0, round_stays marks new round nx h.1)

pub known_on : (next : ℕ → Option ℕ) (n : ℕ) (marks : List Mark) (walk step place : ℕ) (o : Option ℕ) → place < length marks → mark_at marks place ≡ Unseen → o ≡ next place
    → KnownOnWalk next n marks walk (Some place) → Came next marks walk step (Some place) → KnownOnWalk next n (slice_set marks place (Walked walk step)) walk o
known_on next n marks walk step place o below free e known came =
    let new = slice_set marks place (Walked walk step) in
    each_mark (λ p mark. SaysOnWalk new walk o (next p) (place_leads_back next n p p) mark) marks place (Walked walk step) below (inr (refl, sym e))
    (λ p ne. says_on marks new walk step place o (next p) (place_leads_back next n p p) (λ k. steps_on next k p) (mark_at marks p)
    (ahead_at_unseen marks place (Walked walk step) below free) (round_at_unseen marks place (Walked walk step) below free) (get_or-set_same marks place (Walked walk step) Unseen below) (known p) (came p))

-- the other places, when a walk goes on
pub came_by_on : (next : ℕ → Option ℕ) (walk step place p : ℕ) (o : Option ℕ) (mark : Mark) → o ≡ next place → CameBy walk step (Some place) (λ k. steps_on next k p) mark → CameBy walk (step + 1) o (λ k. steps_on next k p) mark
came_by_on next walk step place p o Unseen e h = tt
came_by_on next walk step place p o (Walked w s) e h =
    λ same.
    let before = h same in (
      omega (arith, before.0),
      ap (λ k. steps_on next k p) (let l : step + 1 - s ≡ suc (step - s) = omega (arith, before.0) in l) ∙ ap (option_and_then next) before.1 ∙ sym e,
    )
came_by_on next walk step place p o Circle e h = tt

pub came_on : (next : ℕ → Option ℕ) (marks : List Mark) (walk step place : ℕ) (o : Option ℕ) → place < length marks → o ≡ next place
    → Came next marks walk step (Some place) → Came next (slice_set marks place (Walked walk step)) walk (step + 1) o
came_on next marks walk step place o below e came =
    each_mark (λ p mark. CameBy walk (step + 1) o (λ k. steps_on next k p) mark) marks place (Walked walk step) below
    (λ same. (omega arith, ap (λ k. steps_on next k place) (let l : step + 1 - step ≡ 1 = omega arith in l) ∙ sym e))
    (λ p ne. came_by_on next walk step place p o (mark_at marks p) e (came p))

-- ---- the end of a walk

-- the start of a walk is seen at its end
pub start_at_end : (marks : List Mark) (start place : ℕ) → (place ≡ start) ⊎ (is_unseen (mark_at marks start) ≡ false) → is_unseen (mark_at marks place) ≡ false → is_unseen (mark_at marks start) ≡ false
start_at_end marks start place first seen = elim first [ inl here ↦ subst (λ p. is_unseen (mark_at marks p) ≡ false) here seen | inr before ↦ before ]

-- ---- a circle

-- the other marks, when a round goes on
pub says_on_round : (marks new : List Mark) (start at to : ℕ) (nx : Option ℕ) (b : Bool) (mark : Mark) → StaysAhead marks new → StaysRound marks new → mark_at new at ≡ Circle
    → SaysOnRound marks start at nx b mark → SaysOnRound new start to nx b mark
says_on_round marks new start at to nx b Unseen ahead round here h = tt
says_on_round marks new start at to nx b (Walked w s) ahead round here h = elim h [ inl leads ↦ inl (leads_stays marks new ahead w s nx leads) | inr last ↦ inr last ]
says_on_round marks new start at to nx b Circle ahead round here h =
    (h.0, elim h.1 [ inl leads ↦ inl (round_stays marks new round nx leads) | inr last ↦ inl (subst (LeadsRound new) (sym last) here) ])

pub known_on_round : (next : ℕ → Option ℕ) (n : ℕ) (marks : List Mark) (start at to : ℕ) → at < length marks → next at ≡ Some to → place_leads_back next n at at ≡ true
    → KnownOnRound next n marks start at → KnownOnRound next n (slice_set marks at Circle) start to
known_on_round next n marks start at to below e back known =
    let new = slice_set marks at Circle in
    each_mark (λ p mark. SaysOnRound new start to (next p) (place_leads_back next n p p) mark) marks at Circle below (back, inr e)
    (λ p ne. says_on_round marks new start at to (next p) (place_leads_back next n p p) (mark_at marks p) (ahead_at_circle marks at below) (round_at_circle marks at below) (get_or-set_same marks at Circle Unseen below) (known p))

-- a mark at the end of a round
pub says_after_round : (marks : List Mark) (start : ℕ) (nx : Option ℕ) (b : Bool) (mark : Mark) → mark_at marks start ≡ Circle → SaysOnRound marks start start nx b mark → Says marks nx b mark
says_after_round marks start nx b Unseen circle h = tt
says_after_round marks start nx b (Walked w s) circle h = elim h [ inl leads ↦ leads | inr last ↦ subst (LeadsAhead marks w s) (sym last) (subst (IsAhead w s) (sym circle) tt) ]
says_after_round marks start nx b Circle circle h = (h.0, elim h.1 [ inl leads ↦ leads | inr last ↦ subst (LeadsRound marks) (sym last) circle ])

pub known_after_round : (next : ℕ → Option ℕ) (n : ℕ) (marks : List Mark) (start : ℕ) → mark_at marks start ≡ Circle → KnownOnRound next n marks start start → Known next n marks
known_after_round next n marks start circle known p = says_after_round marks start (next p) (place_leads_back next n p p) (mark_at marks p) circle (known p)

-- the start of a round is marked first
pub start_on_round : (marks : List Mark) (start at step : ℕ) → at < length marks → (step ≡ 0 → at ≡ start) → (step ≡ 0) ⊎ (mark_at marks start ≡ Circle) → mark_at (slice_set marks at Circle) start ≡ Circle
start_on_round marks start at step below begin first =
    elim first [
      | inl zeroth ↦ subst (λ p. mark_at (slice_set marks at Circle) p ≡ Circle) (begin zeroth) (get_or-set_same marks at Circle Unseen below)
      | inr circle ↦ round_at_circle marks at below start circle
    ]

pub start_after_round : (marks : List Mark) (start round : ℕ) → 0 < round → (round ≡ 0) ⊎ (mark_at marks start ≡ Circle) → mark_at marks start ≡ Circle
start_after_round marks start round some first = elim first [ inl none ↦ absurd (omega (arith, some, none)) | inr circle ↦ circle ]

pub only_circles_on : (before marks : List Mark) (i : ℕ) → i < length marks → OnlyCircles before marks → OnlyCircles before (slice_set marks i Circle)
only_circles_on before marks i below only = each_mark (λ p mark. (mark ≡ mark_at before p) ⊎ (mark ≡ Circle)) marks i Circle below (inr refl) (λ p ne. only p)

-- ---- what marks tell

-- what is ahead of what is ahead
pub ahead_of_ahead : (walk step w s : ℕ) (mark : Mark) → (w < walk) ⊎ ((w ≡ walk) × (step < s)) → IsAhead w s mark → IsAhead walk step mark
ahead_of_ahead walk step w s Unseen first h = h
ahead_of_ahead walk step w s (Walked v t) first h =
    elim first [
      | inl f ↦ elim h [ inl g ↦ inl (omega (arith, f, g)) | inr g ↦ inl (omega (arith, f, g.0)) ]
      | inr f ↦ elim h [ inl g ↦ inl (omega (arith, f.0, g)) | inr g ↦ inr (g.0 ∙ f.0, omega (arith, f.1, g.1)) ]
    ]
ahead_of_ahead walk step w s Circle first h = tt

pub leads_ahead_of_ahead : (marks : List Mark) (walk step w s : ℕ) (o : Option ℕ) → (w < walk) ⊎ ((w ≡ walk) × (step < s)) → LeadsAhead marks w s o → LeadsAhead marks walk step o
leads_ahead_of_ahead marks walk step w s None first h = tt
leads_ahead_of_ahead marks walk step w s (Some p) first h = ahead_of_ahead walk step w s (mark_at marks p) first h

pub round_is_ahead : (marks : List Mark) (walk step : ℕ) (o : Option ℕ) → LeadsRound marks o → LeadsAhead marks walk step o
round_is_ahead marks walk step None h = tt
round_is_ahead marks walk step (Some p) h = subst (IsAhead walk step) (sym h) tt

-- what follows a place ahead is ahead
pub stays_ahead : (marks : List Mark) (walk step : ℕ) (o : Option ℕ) (b : Bool) (mark : Mark) → IsAhead walk step mark → Says marks o b mark → LeadsAhead marks walk step o
stays_ahead marks walk step o b Unseen ahead h = absurd ahead
stays_ahead marks walk step o b (Walked w s) ahead h = leads_ahead_of_ahead marks walk step w s o ahead h
stays_ahead marks walk step o b Circle ahead h = round_is_ahead marks walk step o h.1

-- a place is not ahead of itself
pub not_itself : (walk step : ℕ) → IsAhead walk step (Walked walk step) → ⊥
not_itself walk step h = elim h [ inl less ↦ omega (arith, less) | inr later ↦ omega (arith, later.1) ]

pub ahead_is_other : (marks : List Mark) (walk step x q : ℕ) → mark_at marks x ≡ Walked walk step → IsAhead walk step (mark_at marks q) → (q == x) ≡ false
ahead_is_other marks walk step x q here ahead =
    elim (eqb_tells q x) [
      | inl e ↦ absurd (not_itself walk step (subst (IsAhead walk step) (ap (mark_at marks) e.1 ∙ here) ahead))
      | inr e ↦ e.0
    ]

-- what a place leads ahead to does not lead back to it
pub not_back : (next : ℕ → Option ℕ) (n : ℕ) (marks : List Mark) → Known next n marks → (walk step x k : ℕ) (o : Option ℕ) → mark_at marks x ≡ Walked walk step → LeadsAhead marks walk step o → back_to next k x o ≡ false
not_back next n marks known walk step x k None here ahead = refl
not_back next n marks known walk step x zero (Some q) here ahead = ap (λ b. b || false) (ahead_is_other marks walk step x q here ahead)
not_back next n marks known walk step x (suc k) (Some q) here ahead =
    ap (λ b. b || back_to next k x (next q)) (ahead_is_other marks walk step x q here ahead)
    ∙ not_back next n marks known walk step x k (next q) here (stays_ahead marks walk step (next q) (place_leads_back next n q q) (mark_at marks q) ahead (known q))

pub leads_not_back : (next : ℕ → Option ℕ) (n : ℕ) (marks : List Mark) → Known next n marks → (walk step x k : ℕ) → mark_at marks x ≡ Walked walk step → LeadsAhead marks walk step (next x) → place_leads_back next k x x ≡ false
leads_not_back next n marks known walk step x zero here ahead = refl
leads_not_back next n marks known walk step x (suc k) here ahead = not_back next n marks known walk step x k (next x) here ahead

-- a mark tells whether its place leads back to itself
pub mark_of_place : (next : ℕ → Option ℕ) (n : ℕ) (marks : List Mark) → Known next n marks → (p : ℕ) (mark : Mark) → mark_at marks p ≡ mark → Says marks (next p) (place_leads_back next n p p) mark → is_unseen mark ≡ false
    → is_circle mark ≡ place_leads_back next n p p
mark_of_place next n marks known p Unseen here says seen = absurd (false≢true (sym seen))
mark_of_place next n marks known p (Walked walk step) here says seen = sym (leads_not_back next n marks known walk step p n here says)
mark_of_place next n marks known p Circle here says seen = sym says.0

pub mark_tells : (next : ℕ → Option ℕ) (n : ℕ) (marks : List Mark) → Known next n marks → (p : ℕ) → is_unseen (mark_at marks p) ≡ false → is_circle (mark_at marks p) ≡ place_leads_back next n p p
mark_tells next n marks known p seen = mark_of_place next n marks known p (mark_at marks p) refl (known p) seen
