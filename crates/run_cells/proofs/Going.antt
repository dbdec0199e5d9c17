-- What turns one after the other, and rounds of them, leave.
use Rattle.std.proofs.Common.{◌≡◌, ◌≤◌, ◌<◌, ℕ, zero, suc, ◌+◌, ◌-◌, ◌*◌, Bool, true, false, ◌&&◌, ◌||◌, List, [], ◌∷◌, ◌++◌, length, refl, sym, ap, subst, ◌∙◌, None, Some, true≢false, arith}
use Rattle.std.specs.Prelude.{nat_eq, nat_lt, slice_get, slice_set}
use Rattle.std.specs.List.{list_all}
use Rattle.std.specs.Cmp.{unsigned_Decides}
use Rattle.std.proofs.lemmas.Bool.{false≢true}
use Rattle.std.proofs.lemmas.Bool.Decides.{nat_tests}
use Rattle.std.proofs.lemmas.List.{length-append}
use Rattle.std.proofs.lemmas.List.Folds.{list_all-append}
use Rattle.std.proofs.lemmas.Option.{slice_get_within}
use Rattle.behaviour_tree.specs.declared.words.Event.{Event}
use Rattle.office_core.specs.declared.history.Act.{Act}
use Rattle.office_core.specs.declared.history.Act.TheVariants as act
use Rattle.office_core.specs.declared.history.Entry.{Entry}
use Rattle.office_core.specs.Limits.{Setting, first_worker}
use Rattle.office_core.specs.Sessions.{births}
use Rattle.run_record.specs.Steps.{is_call_of}
use Rattle.run_record.specs.Quiet.{IsQuiet}
use Rattle.session_turn.specs.declared.turn.Turn.{Turn}
use Rattle.session_turn.specs.Turns.{AreEnabled, NoneAllowed, from_pick}
use Rattle.run_cells.specs.RunStates.{Rests, Stand, State, Team, ended, events_of, idle, moment_at, past_in, seat_at, spent}
use Rattle.run_cells.specs.Turns.{Comes, IsAdoption, IsTurn, RoundFrom, Turned, TurnsOf, adoption, did, is_did, last, more, next, now, over, play, position, there, fresh as first_stand, ended as has_ended, idle as was_idle, spent as has_spent}
use Rattle.run_cells.specs.Rounds.{IsQuietAt, IsResting, IsStillAt, OnlyAdoptions, Went, events_left, is_adoption, is_by_session, left}
use Rattle.run_cells.proofs.Foreign.{AreOwn, left as both_left, right as both_right}
use Rattle.run_cells.proofs.Stilling.{adoption_still, idle_turn_same, quiet_adopts_none, quiet_turn_idle, turn_still}
use Rattle.run_cells.proofs.Teams.{OwnCame, few_stands, same_of, set_length, turn_came}

-- ---- what stays, and what comes

-- Two states of one run: entries of sessions came, and no more events are left than were.
pub record Goes (old new : State) : Type 0 where
  pub setting : new.setting ≡ old.setting
  pub budget : new.budget ≡ old.budget
  pub came : List Entry
  pub history : new.history ≡ old.history ++ came
  pub sessions : list_all is_by_session came ≡ true
  pub no_more : left new ≤ left old
  pub still : IsStillAt old → IsStillAt new

append_nil : {A : Type 0} (xs : List A) → xs ++ [] ≡ xs
append_nil [] = refl
append_nil (x ∷ xs) = ap (λ l. x ∷ l) (append_nil xs)

append_all : {A : Type 0} (xs ys zs : List A) → (xs ++ ys) ++ zs ≡ xs ++ (ys ++ zs)
append_all [] ys zs = refl
append_all (x ∷ xs) ys zs = ap (λ l. x ∷ l) (append_all xs ys zs)

none-le : (n : ℕ) → n ≤ n
none-le n = omega arith

goes_not : (s : State) → Goes s s
goes_not s = record {
  setting = refl;
  budget = refl;
  came = [];
  history = sym (append_nil s.history);
  sessions = refl;
  no_more = none-le (left s);
  still = λ h. h;
}

both : (a b : Bool) → a ≡ true → b ≡ true → (a && b) ≡ true
both true b e f = f
both false b e f = absurd (false≢true e)

pub goes_on : {old mid new : State} → Goes old mid → Goes mid new → Goes old new
goes_on {old} {mid} {new} x y =
    let p : left mid ≤ left old = x.no_more in
    let q : left new ≤ left mid = y.no_more in
    record {
      setting = y.setting ∙ x.setting;
      budget = y.budget ∙ x.budget;
      came = x.came ++ y.came;
      history = y.history ∙ ap (λ (h : List Entry). h ++ y.came) x.history ∙ append_all old.history x.came y.came;
      sessions = list_all-append is_by_session x.came y.came
          ∙ both (list_all is_by_session x.came) (list_all is_by_session y.came) x.sessions y.sessions;
      no_more = omega arith;
      still = λ h. y.still (x.still h);
    }

-- ---- how many events are left

-- so many are left where the stands and the budget are these
abbrev left_by : ℕ → List Stand → ℕ
left_by budget sts = (first_worker - length sts) * budget + events_left budget sts

left_is : (s : State) (budget : ℕ) (sts : List Stand) → s.budget ≡ budget → s.stands ≡ sts → left s ≡ left_by budget sts
left_is s budget sts e f = λ i. left_by (e i) (f i)

events-left-more : (budget : ℕ) (sts : List Stand) (st : Stand) → st.events ≡ []
    → events_left budget (sts ++ st ∷ []) ≡ events_left budget sts + budget
events-left-more budget [] st e =
    let same : (budget - 0) + 0 ≡ 0 + budget = omega arith in
    ap (λ (es : List Event). (budget - length es) + 0) e ∙ same
events-left-more budget (x ∷ sts) st e =
    let k = budget - length x.events in
    let rest : k + (events_left budget sts + budget) ≡ (k + events_left budget sts) + budget = omega arith in
    ap (λ (n : ℕ). (budget - length x.events) + n) (events-left-more budget sts st e) ∙ rest

-- an adoption leaves as many
pub left_adopted : {old new : State} → IsAdoption old new → Team new → left new ≡ left old
left_adopted {old} {new} a t =
    left_is new old.budget (old.stands ++ first_stand old.setting a.service ∷ []) a.budget a.stands
    ∙ (λ i. (first_worker - length-append old.stands (first_stand old.setting a.service ∷ []) i) * old.budget
    + events-left-more old.budget old.stands (first_stand old.setting a.service) refl i)
    ∙ sums (first_worker - (length old.stands + 1)) (first_worker - length old.stands) old.budget (events_left old.budget old.stands) fits
  where
    fits : first_worker - length old.stands ≡ suc (first_worker - (length old.stands + 1))
    fits =
        let few : length new.stands ≤ first_worker = few_stands new t in
        let is : length new.stands ≡ length old.stands + 1
        = ap length a.stands ∙ length-append old.stands (first_stand old.setting a.service ∷ []) in
        omega arith

    sums : (k m b e : ℕ) → m ≡ suc k → k * b + (e + b) ≡ m * b + e
    sums k m b e f =
        let one : k * b + (e + b) ≡ suc k * b + e = omega arith in
        one ∙ ap (λ (n : ℕ). n * b + e) (sym f)

events-left-set : (budget n : ℕ) (sts : List Stand) (was other : Stand) → slice_get sts n ≡ Some was
    → length other.events ≡ suc (length was.events) → length was.events < budget
    → suc (events_left budget (slice_set sts n other)) ≡ events_left budget sts
events-left-set budget n [] was other h e l = absurd (not-some was h)
  where
    not-some : (x : Stand) → None ≡ Some x → ⊥
    not-some x e = true≢false (ap (λ o. elim o [ None ↦ true | Some y ↦ false ]) e)
events-left-set budget zero (x ∷ sts) was other h e l =
    let is : length x.events ≡ length was.events = ap (λ (st : Stand). length st.events) (same_of x was h) in
    omega arith
events-left-set budget (suc n) (x ∷ sts) was other h e l =
    let is : suc (events_left budget (slice_set sts n other)) ≡ events_left budget sts = events-left-set budget n sts was other h e l in
    omega arith

-- a turn that did something leaves one less
pub left_did : {n : ℕ} {old new : State} {t : Turn} → IsTurn n old new t → is_did t ≡ true → suc (left new) ≡ left old
left_did {n} {old} {new} x d = go x.turned d
  where
    go : {t : Turn} → Turned (play old n) (position x.was old.history) (position x.now new.history) t → is_did t ≡ true
        → suc (left new) ≡ left old
    go (did event strands enabled first events within) e =
        let plus : length (x.was).events + 1 ≡ suc (length (x.was).events) = omega arith in
        let one : length (x.now).events ≡ suc (length (x.was).events)
        = ap length events ∙ length-append (x.was).events (event ∷ []) ∙ plus in
        let less : suc (events_left old.budget (slice_set old.stands n x.now)) ≡ events_left old.budget old.stands
        = events-left-set old.budget n old.stands x.was x.now x.there one within in
        let is : left new ≡ left_by old.budget (slice_set old.stands n x.now) = left_is new old.budget (slice_set old.stands n x.now) x.budget x.stands in
        let long : length (slice_set old.stands n x.now) ≡ length old.stands = set_length old.stands n x.now in
        let sum : suc ((first_worker - length old.stands) * old.budget + events_left old.budget (slice_set old.stands n x.now))
        ≡ (first_worker - length old.stands) * old.budget + events_left old.budget old.stands
        = omega arith in
        ap suc (is ∙ ap (λ (k : ℕ). (first_worker - k) * old.budget + events_left old.budget (slice_set old.stands n x.now)) long)
        ∙ sum
    go (was_idle yet fewer strands enabled stood is) e = absurd (false≢true e)
    go (has_ended c at fin is) e = absurd (false≢true e)
    go (has_spent yet all is) e = absurd (false≢true e)

pub less_did : {n : ℕ} {old new : State} {t : Turn} → IsTurn n old new t → is_did t ≡ true → left new < left old
less_did {n} {old} {new} x d = subst (λ (k : ℕ). left new < k) (left_did x d) (below (left new))
  where
    below : (k : ℕ) → k < suc k
    below k = omega arith

-- and one that did nothing leaves as many
left_idle : {n : ℕ} {old new : State} {t : Turn} → IsTurn n old new t → is_did t ≡ false → left new ≡ left old
left_idle {n} {old} {new} x d = left_is new old.budget old.stands x.budget (idle_turn_same x d).1

-- ---- each step

own-sessions : (n : ℕ) (es : List Entry) → n < first_worker → AreOwn n es → list_all is_by_session es ≡ true
own-sessions n [] l h = refl
own-sessions n (e ∷ es) l h =
    both (is_by_session e) (list_all is_by_session es)
    (one e.actor e.act (both_left (is_call_of n e) (list_all (is_call_of n) es) h))
    (own-sessions n es l (both_right (is_call_of n e) (list_all (is_call_of n) es) h))
  where
    by : (t : ℕ) (b : Bool) → nat_lt t first_worker ≡ b → nat_eq n t ≡ true → b ≡ true
    by t true f g = refl
    by t false f g = absurd (grind (arith, nat_tests))

    one : (t : ℕ) (c : Act) → is_call_of n (record { actor = t; act = c }) ≡ true → nat_lt t first_worker ≡ true
    one t (act.Adopt d) k = absurd (false≢true k)
    one t c k = by t (nat_lt t first_worker) refl k

pub goes_turn : {n : ℕ} {old new : State} {t : Turn} → Team old → n < length old.stands → IsTurn n old new t → Goes old new
goes_turn {n} {old} {new} {t} team within x =
    let c : OwnCame n old.history new.history = turn_came x in
    record {
      setting = x.setting;
      budget = x.budget;
      came = c.own;
      history = c.is;
      sessions = own-sessions n c.own below c.are;
      no_more = by (is_did t) refl;
      still = turn_still team x;
    }
  where
    below : n < first_worker
    below =
        let few : length old.stands ≤ first_worker = few_stands old team in
        omega arith

    by : (b : Bool) → is_did t ≡ b → left new ≤ left old
    by true e = let l : suc (left new) ≡ left old = left_did x e in omega arith
    by false e = let l : left new ≡ left old = left_idle x e in omega arith

pub goes_adopted : {old new : State} → Team old → IsAdoption old new → Team new → Goes old new
goes_adopted {old} {new} team a t =
    record {
      setting = a.setting;
      budget = a.budget;
      came = adoption (length old.stands) a.service ∷ [];
      history = a.history;
      sessions = both (nat_lt (length old.stands) first_worker) true (by (nat_lt (length old.stands) first_worker) refl) refl;
      no_more = let l : left new ≡ left old = left_adopted a t in omega arith;
      still = adoption_still team a;
    }
  where
    by : (b : Bool) → nat_lt (length old.stands) first_worker ≡ b → b ≡ true
    by true e = refl
    by false e =
        let few : length new.stands ≤ first_worker = few_stands new t in
        let is : length new.stands ≡ length old.stands + 1
        = ap length a.stands ∙ length-append old.stands (first_stand old.setting a.service ∷ []) in
        absurd (grind (arith, nat_tests))

-- ---- turns of one session

pub stands_turn : {n : ℕ} {old new : State} {t : Turn} → IsTurn n old new t → length new.stands ≡ length old.stands
stands_turn {n} {old} x = ap length x.stands ∙ set_length old.stands n x.now

pub goes_turns : {n : ℕ} {old new : State} {b : Bool} → Team old → n < length old.stands → TurnsOf n old new b → Goes old new
goes_turns team within (last old new t d x) = goes_turn team within x
goes_turns {n} team within (more old mid new t b d x tm rest) =
    goes_on (goes_turn team within x)
    (goes_turns tm (subst (λ k. n < k) (sym (stands_turn x)) within) rest)

pub less_turns : {n : ℕ} {old new : State} {b : Bool} → Team old → n < length old.stands → TurnsOf n old new b → b ≡ true
    → left new < left old
less_turns team within (last old new t d x) e = absurd (false≢true e)
less_turns {n} team within (more old mid new t b d x tm rest) e =
    let l : suc (left mid) ≡ left old = left_did x d in
    let g : left new ≤ left mid = (goes_turns tm (subst (λ k. n < k) (sym (stands_turn x)) within) rest).no_more in
    omega arith

pub stands_turns : {n : ℕ} {old new : State} {b : Bool} → TurnsOf n old new b → length new.stands ≡ length old.stands
stands_turns (last old new t d x) = stands_turn x
stands_turns (more old mid new t b d x tm rest) = stands_turns rest ∙ stands_turn x

-- The session did nothing, and rests.
pub record Stood (n : ℕ) (old new : State) : Type 0 where
  pub history : new.history ≡ old.history
  pub stands : new.stands ≡ old.stands
  pub rests : (st : Stand) → slice_get old.stands n ≡ Some st → Rests old n st old.history

pub stood_turns : {n : ℕ} {old new : State} {b : Bool} → TurnsOf n old new b → b ≡ false → Stood n old new
stood_turns {n} (last old new t d x) e =
    let same = idle_turn_same x d in
    record {
      history = same.0;
      stands = same.1;
      rests = λ st h. subst (λ (v : Stand). Rests old n v old.history) (same_of x.was st (sym x.there ∙ h)) (go x.turned d);
    }
  where
    go : {t : Turn} → Turned (play old n) (position x.was old.history) (position x.now new.history) t → is_did t ≡ false
        → Rests old n x.was old.history
    go (did event strands enabled first events within) e = absurd (false≢true (sym e))
    go (was_idle yet fewer strands enabled stood is) e = idle yet fewer strands _ enabled stood
    go (has_ended c at fin is) e = ended (record { config = c; at = at; ended = fin })
    go (has_spent yet all is) e = spent yet all
stood_turns (more old mid new t b d x tm rest) e = absurd (true≢false e)

quiet-same : (old new : State) → new.setting ≡ old.setting → new.budget ≡ old.budget → new.history ≡ old.history
    → new.stands ≡ old.stands → IsQuietAt old → IsQuietAt new
quiet-same old new p q r t h =
    coe 0 1 (i. IsQuiet (sym p i) (sym q i) (sym r i) (events_of (sym t i))) h

pub quiet_turns : {n : ℕ} {old new : State} {b : Bool} → Team old → IsQuietAt old → TurnsOf n old new b → b ≡ false
quiet_turns team quiet (last old new t d x) = refl
quiet_turns team quiet (more old mid new t b d x tm rest) = absurd (false≢true (sym (quiet_turn_idle team quiet x) ∙ d))

team-same : {old new : State} → new.setting ≡ old.setting → new.budget ≡ old.budget → new.history ≡ old.history
    → new.stands ≡ old.stands → Team old → Team new
team-same {old} {new} p q r u t =
    subst Team (λ i. record { setting = sym p i; budget = sym q i; history = sym r i; stands = sym u i; picks = new.picks })
    (record {
      limits = t.limits;
      legal = t.legal;
      running = t.running;
      adopted = t.adopted;
      each = t.each;
      within = t.within;
    })

pub team_turns : {n : ℕ} {old new : State} {b : Bool} → Team old → TurnsOf n old new b → Team new
team_turns team (last old new t d x) =
    let same = idle_turn_same x d in team-same x.setting x.budget same.0 same.1 team
team_turns team (more old mid new t b d x tm rest) = team_turns tm rest

-- ---- sessions come

pub goes_comes : {n : ℕ} {old new : State} → Team old → Comes n old new → Goes old new
goes_comes {n} {old} team (there l e) = subst (Goes old) (sym e) (goes_not old)
goes_comes team (now l a t) = goes_adopted team a t

pub team_comes : {n : ℕ} {old new : State} → Team old → Comes n old new → Team new
team_comes team (there l e) = subst Team (sym e) team
team_comes team (now l a t) = t

pub there_comes : {n : ℕ} {old new : State} → Comes n old new → n < length new.stands
there_comes {n} (there l e) = subst (λ (s : State). n < length s.stands) (sym e) l
there_comes {n} {old} {new} (now l a t) =
    let is : length new.stands ≡ length old.stands + 1
    = ap length a.stands ∙ length-append old.stands (first_stand old.setting a.service ∷ []) in
    omega arith

stays-there : {A : Type 0} (xs ys : List A) (n : ℕ) (x : A) → slice_get xs n ≡ Some x → slice_get (xs ++ ys) n ≡ Some x
stays-there [] ys n x h = absurd (true≢false (ap (λ o. elim o [ None ↦ true | Some y ↦ false ]) h))
stays-there (y ∷ xs) ys zero x h = h
stays-there (y ∷ xs) ys (suc n) x h = stays-there xs ys n x h

stand_comes : {n : ℕ} {old new : State} → Comes n old new → (m : ℕ) (st : Stand) → slice_get old.stands m ≡ Some st
    → slice_get new.stands m ≡ Some st
stand_comes (there l e) m st h = ap (λ (s : State). slice_get s.stands m) e ∙ h
stand_comes {n} {old} (now l a t) m st h =
    ap (λ (sts : List Stand). slice_get sts m) a.stands
    ∙ stays-there old.stands (first_stand old.setting a.service ∷ []) m st h

pub only_none : (h : List Entry) → OnlyAdoptions h h
only_none h = record { adoptions = []; is = sym (append_nil h); only = refl }

pub only_on : {a b c : List Entry} → OnlyAdoptions a b → OnlyAdoptions b c → OnlyAdoptions a c
only_on {a} x y = record {
  adoptions = x.adoptions ++ y.adoptions;
  is = y.is ∙ ap (λ (h : List Entry). h ++ y.adoptions) x.is ∙ append_all a x.adoptions y.adoptions;
  only = list_all-append is_adoption x.adoptions y.adoptions
      ∙ both (list_all is_adoption x.adoptions) (list_all is_adoption y.adoptions) x.only y.only;
}

only_comes : {n : ℕ} {old new : State} → Comes n old new → OnlyAdoptions old.history new.history
only_comes {n} {old} (there l e) = subst (λ (s : State). OnlyAdoptions old.history s.history) (sym e) (only_none old.history)
only_comes {n} {old} (now l a t) =
    record { adoptions = adoption (length old.stands) a.service ∷ []; is = a.history; only = refl }

-- ---- rounds

pub goes_round : {n : ℕ} {old new : State} {b : Bool} → Team old → RoundFrom n old new b → Goes old new
goes_round team (over n old new l e) = subst (Goes old) (sym e.same) (goes_not old)
goes_round team (next n old here mid new a b c x rest) =
    let t : Team here = team_comes team c in
    goes_on (goes_on (goes_comes team c) (goes_turns t (there_comes c) x)) (goes_round (team_turns t x) rest)

pub less_round : {n : ℕ} {old new : State} {b : Bool} → Team old → RoundFrom n old new b → b ≡ true → left new < left old
less_round team (over n old new l e) f = absurd (false≢true f)
less_round team (next n old here mid new a b c x rest) f =
    by a b refl refl f (less_round (team_turns (team_comes team c) x) rest)
  where
    t : Team here
    t = team_comes team c

    come : left here ≤ left old
    come = (goes_comes team c).no_more

    turned : left mid ≤ left here
    turned = (goes_turns t (there_comes c) x).no_more

    go : left new ≤ left mid
    go = (goes_round (team_turns t x) rest).no_more

    by : (p q : Bool) → a ≡ p → b ≡ q → (p || q) ≡ true → (b ≡ true → left new < left mid) → left new < left old
    by true q e g h later =
        let l : left mid < left here = less_turns t (there_comes c) x e in
        let u : left here ≤ left old = come in
        let v : left new ≤ left mid = go in
        omega arith
    by false true e g h later =
        let l : left new < left mid = later g in
        let u : left here ≤ left old = come in
        let v : left mid ≤ left here = turned in
        omega arith
    by false false e g h later = absurd (false≢true h)

-- The sessions from n on rest: adoptions alone came.
pub record Rested (n : ℕ) (old new : State) : Type 0 where
  pub only : OnlyAdoptions old.history new.history
  pub stay : (m : ℕ) (st : Stand) → slice_get old.stands m ≡ Some st → slice_get new.stands m ≡ Some st
  pub each : (m : ℕ) (st : Stand) → n ≤ m → slice_get new.stands m ≡ Some st → IsResting new m st
  pub born : length (births new.setting (past_in new)) ≤ length new.stands

rests-at : {s s' : State} {n : ℕ} {st : Stand} {seen : List Entry} → s'.setting ≡ s.setting → s'.budget ≡ s.budget
    → Rests s n st seen → Rests s' n st seen
rests-at p q (ended fin) = ended fin
rests-at {st = st} p q (spent yet all) = spent yet (subst (λ b. b ≤ length st.events) (sym q) all)
rests-at {n = n} {st = st} {seen = seen} p q (idle yet fewer strands pick enabled none) =
    idle yet (subst (λ b. length st.events < b) (sym q) fewer) strands pick
    (subst (λ (w : Setting). AreEnabled (seat_at w n) (moment_at st seen) strands) (sym p) enabled)
    (subst (λ (w : Setting). NoneAllowed (seat_at w n) (from_pick strands pick) (moment_at st seen) (moment_at st seen)) (sym p) none)

-- after its turns a session rests
pub rests_turns : {n : ℕ} {old new : State} {b : Bool} → TurnsOf n old new b → (st : Stand) → slice_get new.stands n ≡ Some st
    → Rests new n st new.history
rests_turns {n} (last old new t d x) st h =
    let stood : Stood n old new = stood_turns (last old new t d x) refl in
    subst (λ (k : List Entry). Rests new n st k) (sym stood.history)
    (rests-at x.setting x.budget (stood.rests st (ap (λ (sts : List Stand). slice_get sts n) (sym stood.stands) ∙ h)))
rests_turns (more old mid new t b d x tm rest) st h = rests_turns rest st h

pub none_short : {A : Type 0} (xs : List A) (n : ℕ) → slice_get xs n ≡ None → length xs ≤ n
none_short [] n h = omega arith
none_short (x ∷ xs) zero h = absurd (true≢false (ap (λ o. elim o [ None ↦ true | Some y ↦ false ]) (sym h)))
none_short (x ∷ xs) (suc n) h = let l : length xs ≤ n = none_short xs n h in omega arith

or-first : (a b : Bool) → (a || b) ≡ false → a ≡ false
or-first true b h = h
or-first false b h = refl

or-second : (a b : Bool) → (a || b) ≡ false → b ≡ false
or-second true b h = absurd (true≢false h)
or-second false b h = h

rested-next : {n : ℕ} {old here mid new : State} {a : Bool} → Team old → Comes n old here → TurnsOf n here mid a → a ≡ false
    → Goes mid new → Rested (suc n) mid new
    → Rested n old new
rested-next {n} {old} {here} {mid} {new} {a} team c x f u r =
    record {
      only = only_on (subst (OnlyAdoptions old.history) (sym stood.history) (only_comes c)) r.only;
      stay = stay;
      each = each;
      born = r.born;
    }
  where
    t : Team here
    t = team_comes team c

    stood : Stood n here mid
    stood = stood_turns x f

    g : Goes here mid
    g = goes_turns t (there_comes c) x

    from-here : (m : ℕ) (st : Stand) → slice_get here.stands m ≡ Some st → slice_get new.stands m ≡ Some st
    from-here m st h = r.stay m st (ap (λ (sts : List Stand). slice_get sts m) stood.stands ∙ h)

    stay : (m : ℕ) (st : Stand) → slice_get old.stands m ≡ Some st → slice_get new.stands m ≡ Some st
    stay m st h = from-here m st (stand_comes c m st h)

    now-here : {A : Type 0} (xs : List A) (k : ℕ) → k < length xs → (y : A) × (slice_get xs k ≡ Some y)
    now-here [] k l = absurd (omega arith)
    now-here (y ∷ xs) zero l = (y, refl)
    now-here (y ∷ xs) (suc k) l = now-here xs k (omega arith)

    resting : (st : Stand) → slice_get new.stands n ≡ Some st → IsResting new n st
    resting st h =
        let y = now-here here.stands n (there_comes c) in
        let same : y.0 ≡ st = same_of y.0 st (sym (from-here n y.0 y.1) ∙ h) in
        record {
          seen = here.history;
          since = subst (λ (k : List Entry). OnlyAdoptions k new.history) stood.history r.only;
          rests = rests-at (u.setting ∙ g.setting) (u.budget ∙ g.budget)
              (subst (λ (v : Stand). Rests here n v here.history) same (stood.rests y.0 y.1));
        }

    each : (m : ℕ) (st : Stand) → n ≤ m → slice_get new.stands m ≡ Some st → IsResting new m st
    each m st l h = by (nat_eq n m) refl
      where
        by : (q : Bool) → nat_eq n m ≡ q → IsResting new m st
        by true e =
            let same : n ≡ m = (unsigned_Decides n m).0 e in
            subst (λ k. IsResting new k st) same (resting st (ap (slice_get new.stands) same ∙ h))
        by false e = r.each m st (grind (arith, nat_tests)) h

pub rested_round : {n : ℕ} {old new : State} {b : Bool} → Team old → RoundFrom n old new b → b ≡ false → Rested n old new
rested_round team (over n old new l e) f =
    subst (Rested n old) (sym e.same) (record {
      only = only_none old.history;
      stay = λ m st h. h;
      each = λ m st g h.
          let within : m < length old.stands = slice_get_within old.stands m st h in
          absurd (omega arith);
      born = none_short (births old.setting (past_in old)) (length old.stands) e.unborn;
    })
rested_round team (next n old here mid new a b c x rest) f =
    let t : Team mid = team_turns (team_comes team c) x in
    rested-next team c x (or-first a b f) (goes_round t rest) (rested_round t rest (or-second a b f))

-- Nothing was done, and nothing changed.
pub record Unmoved (old new : State) (moved : Bool) : Type 0 where
  pub unmoved : moved ≡ false
  pub history : new.history ≡ old.history
  pub stands : new.stands ≡ old.stands

pub quiet_round : {n : ℕ} {old new : State} {b : Bool} → Team old → IsQuietAt old → RoundFrom n old new b
    → Unmoved old new b
quiet_round team quiet (over n old new l e) =
    record { unmoved = refl; history = ap (λ (s : State). s.history) e.same; stands = ap (λ (s : State). s.stands) e.same }
quiet_round team quiet (next n old here mid new a b (now l y t) x rest) = absurd (quiet_adopts_none team quiet y)
quiet_round team quiet (next n old here mid new a b (there l y) x rest) =
    let at_here : IsQuietAt here = subst IsQuietAt (sym y) quiet in
    let t : Team here = subst Team (sym y) team in
    let none : a ≡ false = quiet_turns t at_here x in
    let stood : Stood n here mid = stood_turns x none in
    let g : Goes here mid = goes_turns t (subst (λ (s : State). n < length s.stands) (sym y) l) x in
    let r : Unmoved mid new b
    = quiet_round (team_turns t x) (quiet-same here mid g.setting g.budget stood.history stood.stands at_here) rest in
    record {
      unmoved = ap (λ p. p || b) none ∙ r.unmoved;
      history = r.history ∙ stood.history ∙ ap (λ (s : State). s.history) y;
      stands = r.stands ∙ stood.stands ∙ ap (λ (s : State). s.stands) y;
    }

-- what a round of the sessions leaves
pub went_round : {old new : State} {moved : Bool} → Team old → RoundFrom 0 old new moved → Went old new moved
went_round {old} {new} {moved} team x =
    let g : Goes old new = goes_round team x in
    record {
      round = x;
      setting = g.setting;
      budget = g.budget;
      more = g.came;
      history = g.history;
      sessions = g.sessions;
      less = less_round team x;
      no_more = g.no_more;
      idle = λ e. (rested_round team x e).only;
      rest = λ e. let r : Rested 0 old new = rested_round team x e in
          record { each = λ n st h. r.each n st (omega arith) h; born = r.born };
      still = g.still;
      quiet = λ q. let r : Unmoved old new moved = quiet_round team q x in (r.unmoved, r.history, r.stands);
    }
