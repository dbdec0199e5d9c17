-- The loops of turns, rounds, adoptions and looks: what was done so far, by what is still to come.
use Rattle.std.proofs.Common.{◌≡◌, ◌≤◌, ◌<◌, ◌↔◌, ℕ, zero, suc, ◌+◌, ◌-◌, Bool, true, false, ◌||◌, List, [], ◌∷◌, ◌++◌, length, refl, sym, ap, subst, ◌∙◌, None, Some, true≢false, arith}
use Rattle.std.specs.Prelude.{Err, IfOk, Ok, OnOk, Result, map, nat_eq, slice_get}
use Rattle.std.specs.Cmp.{unsigned_Decides}
use Rattle.std.proofs.lemmas.Bool.{false≢true}
use Rattle.std.proofs.lemmas.Bool.Decides.{nat_tests}
use Rattle.std.proofs.lemmas.List.{length-append, length-map}
use Rattle.std.proofs.lemmas.Option.{slice_get_within}
use Rattle.behaviour_tree.specs.declared.words.Event.{Event}
use Rattle.office_core.specs.Limits.{first_worker}
use Rattle.office_core.specs.Sessions.{births}
use Rattle.session_turn.specs.declared.turn.Turn.{Turn}
use Rattle.run_cells.specs.RunStates.{AtWork, RunState, Stand, State, Team, events_of, past_in, state_of}
use Rattle.run_cells.specs.Turns.{Adoptions, Adopts, CameTo, Comes, IsAdoption, IsNoBirth, IsTurn, RoundFrom, TurnsOf, and_next, fresh as first_stand, here, is_did, last, more, next, nobody, nobody_yet, none, now, one, over, there}
use Rattle.run_cells.specs.Awake.{PutsOn}
use Rattle.run_cells.specs.Visits.{Skips}
use Rattle.run_cells.specs.Rounds.{Adopted, CouldAct, HasSpent, IsStillAt, OnlyAdoptions, Went}
use Rattle.run_cells.proofs.Sleeping.{skipped_round}
use Rattle.run_cells.proofs.Going.{only_none, only_on, none_short, went_round}
use Rattle.run_cells.proofs.Stilling.{adoption_still}

or-true : (b : Bool) → (b || true) ≡ true
or-true true = refl
or-true false = refl

or-false : (b : Bool) → (b || false) ≡ b
or-false true = refl
or-false false = refl

or-or : (a b c : Bool) → (a || (b || c)) ≡ ((a || b) || c)
or-or true b c = refl
or-or false b c = refl

-- ---- turns of one session

-- what was done so far, whatever comes
abbrev pub Turning : ℕ → State → State → Bool → Type 0
Turning n start at moved = (new : State) (b : Bool) → TurnsOf n at new b → TurnsOf n start new (moved || b)

pub turning_start : (n : ℕ) (s : State) → Turning n s s false
turning_start n s = λ new b x. x

pub turning_more : {n : ℕ} {start at mid : State} (moved : Bool) {t : Turn} → Turning n start at moved → is_did t ≡ true
    → IsTurn n at mid t → Team mid → Turning n start mid true
turning_more {n} {start} {at} {mid} moved {t} f d x tm = λ new b rest.
    subst (TurnsOf n start new) (or-true moved) (f new true (more at mid new t b d x tm rest))

pub turning_last : {n : ℕ} {start at new : State} {moved : Bool} {t : Turn} → Turning n start at moved → is_did t ≡ false
    → IsTurn n at new t → TurnsOf n start new moved
turning_last {n} {start} {at} {new} {moved} {t} f d x =
    subst (TurnsOf n start new) (or-false moved) (f new false (last at new t d x))

-- ---- rounds

abbrev pub Rounding : ℕ → State → State → Bool → Type 0
Rounding n start at moved = (new : State) (b : Bool) → RoundFrom n at new b → RoundFrom 0 start new (moved || b)

pub rounding_start : (s : State) → Rounding 0 s s false
rounding_start s = λ new b x. x

pub rounding_next : {n : ℕ} {start at mid new : State} (moved : Bool) {a : Bool} (either : Bool) → either ≡ (moved || a)
    → Rounding n start at moved → Comes n at mid → TurnsOf n mid new a → Rounding (n + 1) start new either
rounding_next {n} {start} {at} {mid} {new} moved {a} either e f c x = λ fin b rest.
    subst (RoundFrom 0 start fin) (or-or moved a b ∙ ap (λ (q : Bool). q || b) (sym e))
    (f fin (a || b) (next n at mid new fin a b c x (subst (λ (k : ℕ). RoundFrom k new fin b) (plus n) rest)))
  where
    plus : (k : ℕ) → k + 1 ≡ suc k
    plus k = omega arith

-- behind those that sleep
pub rounding_skips : {n m : ℕ} {start at mid : State} (moved : Bool) → Rounding n start at moved → Skips n m at mid
    → Rounding m start mid moved
rounding_skips moved f x = λ new b rest. f new b (skipped_round x rest)

-- at an equal state
pub rounding_at : {n : ℕ} {start at mid : State} (moved : Bool) → mid ≡ at → Rounding n start at moved
    → Rounding n start mid moved
rounding_at {n} {start} {at} {mid} moved e f = subst (λ (s : State). Rounding n start s moved) (sym e) f

pub rounding_over : {n : ℕ} {start at new : State} {moved : Bool} → Team start → Rounding n start at moved
    → n ≡ length at.stands → IsNoBirth at new → Went start new moved
rounding_over {n} {start} {at} {new} {moved} team f e x =
    went_round team (subst (RoundFrom 0 start new) (or-false moved) (f new false (over n at new e x)))

-- by what a look for session n came to
pub came_here : {n : ℕ} {old new : State} {b : Bool} → CameTo n old new b → b ≡ true → Comes n old new
came_here (here c) e = c
came_here (nobody l x) e = absurd (false≢true e)

pub came_nobody : {n : ℕ} {old new : State} {b : Bool} → CameTo n old new b → b ≡ false
    → (n ≡ length old.stands) × IsNoBirth old new
came_nobody (here c) e = absurd (true≢false e)
came_nobody (nobody l x) e = (l, x)

pub came_there : (n : ℕ) (s : State) → n < length s.stands → CameTo n s s true
came_there n s l = here (there l refl)

pub came_by : {n : ℕ} {old new : State} {b : Bool} → n ≡ length old.stands → Adopts old new b → Team new → CameTo n old new b
came_by e (one a) t = here (now e a t)
came_by e (none x) t = nobody e x

-- ---- adoptions

pub adopts_one : {old new : State} {b : Bool} → Adopts old new b → b ≡ true → IsAdoption old new
adopts_one (one a) e = a
adopts_one (none x) e = absurd (false≢true e)

pub adopts_none : {old new : State} {b : Bool} → Adopts old new b → b ≡ false → IsNoBirth old new
adopts_none (one a) e = absurd (true≢false e)
adopts_none (none x) e = x

-- Some sessions were adopted.
pub record Adopting (start at : State) : Type 0 where
  pub one_by_one : Adoptions start at
  pub setting : at.setting ≡ start.setting
  pub budget : at.budget ≡ start.budget
  pub adoptions : OnlyAdoptions start.history at.history
  pub more : List Stand
  pub stands : at.stands ≡ start.stands ++ more
  pub unmoved : (n : ℕ) (st : Stand) → slice_get more n ≡ Some st → st.events ≡ []
  pub still : IsStillAt start → IsStillAt at
  pub quiet : length (births start.setting (past_in start)) ≤ length start.stands → at ≡ start

not-some : {A : Type 0} (x : A) → None ≡ Some x → ⊥
not-some x e = true≢false (ap (λ o. elim o [ None ↦ true | Some y ↦ false ]) e)

append_nil : {A : Type 0} (xs : List A) → xs ++ [] ≡ xs
append_nil [] = refl
append_nil (x ∷ xs) = ap (λ l. x ∷ l) (append_nil xs)

append_all : {A : Type 0} (xs ys zs : List A) → (xs ++ ys) ++ zs ≡ xs ++ (ys ++ zs)
append_all [] ys zs = refl
append_all (x ∷ xs) ys zs = ap (λ l. x ∷ l) (append_all xs ys zs)

pub adopting_start : (s : State) → Adopting s s
adopting_start s = record {
  one_by_one = nobody_yet;
  setting = refl;
  budget = refl;
  adoptions = only_none s.history;
  more = [];
  stands = sym (append_nil s.stands);
  unmoved = λ n st h. absurd (not-some st h);
  still = λ h. h;
  quiet = λ h. refl;
}

unmoved-more : (xs : List Stand) (x : Stand) → x.events ≡ []
    → ((n : ℕ) (st : Stand) → slice_get xs n ≡ Some st → st.events ≡ [])
    → (n : ℕ) (st : Stand) → slice_get (xs ++ x ∷ []) n ≡ Some st → st.events ≡ []
unmoved-more [] x e f zero st h = subst (λ (y : Stand). y.events ≡ []) (ap (λ o. elim o as (λ _. Stand) [ None ↦ x | Some y ↦ y ]) h) e
unmoved-more [] x e f (suc n) st h = absurd (not-some st h)
unmoved-more (y ∷ xs) x e f zero st h = f zero st h
unmoved-more (y ∷ xs) x e f (suc n) st h = unmoved-more xs x e (λ m v g. f (suc m) v g) n st h

pub adopting_more : {start at new : State} → Adopting start at → Team at → IsAdoption at new → Adopting start new
adopting_more {start} {at} {new} x t a = record {
  one_by_one = and_next at new x.one_by_one a;
  setting = a.setting ∙ x.setting;
  budget = a.budget ∙ x.budget;
  adoptions = only_on x.adoptions (record { adoptions = _; is = a.history; only = refl });
  more = x.more ++ first_stand at.setting a.service ∷ [];
  stands = a.stands ∙ ap (λ (sts : List Stand). sts ++ first_stand at.setting a.service ∷ []) x.stands
      ∙ append_all start.stands x.more (first_stand at.setting a.service ∷ []);
  unmoved = unmoved-more x.more (first_stand at.setting a.service) refl x.unmoved;
  still = λ h. adoption_still t a (x.still h);
  quiet = λ h.
      let few : length (births at.setting (past_in at)) ≤ length at.stands
      = subst (λ (s : State). length (births s.setting (past_in s)) ≤ length s.stands) (sym (x.quiet h)) h in
      let within : length at.stands < length (births at.setting (past_in at))
      = slice_get_within (births at.setting (past_in at)) (length at.stands) a.service a.born in
      absurd (omega arith);
}

pub adopting_over : {start at new : State} → Adopting start at → IsNoBirth at new → Adopted start new
adopting_over {start} {at} {new} x e =
    subst (Adopted start) (sym e.same) (record {
      one_by_one = x.one_by_one;
      setting = x.setting;
      budget = x.budget;
      adoptions = x.adoptions;
      more = x.more;
      stands = x.stands;
      unmoved = x.unmoved;
      born = none_short (births at.setting (past_in at)) (length at.stands) e.unborn;
      still = x.still;
      none = λ h. ap (λ (s : State). s.history) (x.quiet h);
    })

-- ---- looks

-- none of the sessions below n used its whole budget and could act
abbrev pub NoneBelow : ℕ → State → Type 0
NoneBelow n s = (k : ℕ) → k < n → CouldAct s k → ⊥

pub none_start : (s : State) → NoneBelow 0 s
none_start s = λ k l c. absurd (omega arith)

pub none_more : {n : ℕ} {s : State} {b : Bool} → NoneBelow n s → (b ≡ true) ↔ CouldAct s n → b ≡ false → NoneBelow (n + 1) s
none_more {n} {s} {b} f x e = λ k l c. by k l c (nat_eq k n) refl
  where
    by : (k : ℕ) → k < n + 1 → CouldAct s k → (q : Bool) → nat_eq k n ≡ q → ⊥
    by k l c true g = absurd (true≢false (sym (x.1 (subst (CouldAct s) ((unsigned_Decides k n).0 g) c)) ∙ e))
    by k l c false g = f k (grind (arith, nat_tests)) c

pub has_spent : {n : ℕ} {s : State} {b : Bool} → (b ≡ true) ↔ CouldAct s n → b ≡ true → (true ≡ true) ↔ HasSpent s
has_spent {n} {s} x e = (λ _. record { session = n; could = x.0 e }, λ _. refl)

pub none_spent : {n : ℕ} {s : State} → NoneBelow n s → length s.stands ≤ n → (false ≡ true) ↔ HasSpent s
none_spent {n} {s} f l = (
  λ e. absurd (false≢true e),
  λ h.
      let within : h.session < length s.stands = slice_get_within s.stands h.session h.could.stand h.could.there in
      absurd (f h.session (omega arith) h.could),
)

-- ---- cells

-- a place among cells is one among as many
pub cells_there : {X : Type 0} (f : X → Stand) (xs ys : List X) (n : ℕ) → length (map f ys) ≡ length (map f xs) → n < length xs
    → n < length ys
cells_there f xs ys n e l =
    let same : length ys ≡ length xs = sym (length-map ys f) ∙ e ∙ length-map xs f in
    omega arith

pub came_below : {X : Type 0} (f : X → Stand) (xs : List X) (n : ℕ) → n < length (map f xs) → n < length xs
came_below f xs n l =
    let same : length (map f xs) ≡ length xs = length-map xs f in
    omega arith

-- also behind its turns
pub turned_below : {X : Type 0} (f : X → Stand) (xs : List X) (n k : ℕ) → n < k → length (map f xs) ≡ k → n < length xs
turned_below f xs n k l e = came_below f xs n (subst (λ (m : ℕ). n < m) (sym e) l)

pub came_within : {X : Type 0} (f : X → Stand) (xs : List X) (n : ℕ) → n ≤ length (map f xs) → n ≤ length xs
came_within f xs n l =
    let same : length (map f xs) ≡ length xs = length-map xs f in
    omega arith

-- a session more leaves less to come
pub came_less : (n m k : ℕ) → n ≤ m → m < k → k ≤ first_worker → first_worker - (m + 1) < first_worker - n
came_less n m k rising l few =
    let most : k ≤ 4096 = few in
    let less : 4096 - (m + 1) < 4096 - n = omega arith in
    less

pub adopted_less : {X : Type 0} (f : X → Stand) (xs ys : List X) (x : Stand) → map f ys ≡ map f xs ++ x ∷ []
    → length (map f ys) ≤ first_worker
    → first_worker - length ys < first_worker - length xs
adopted_less f xs ys x e few =
    let m : length (map f ys) ≤ 4096 = few in
    let a : length (map f ys) ≡ length (map f xs) + 1 = ap length e ∙ length-append (map f xs) (x ∷ []) in
    let b : length (map f ys) ≡ length ys = length-map ys f in
    let c : length (map f xs) ≡ length xs = length-map xs f in
    let less : 4096 - length ys < 4096 - length xs = omega arith in
    less

-- a look for session n that adopted it, or did not
pub came_ok : (n : ℕ) (old : State) (new : RunState) {E : Type 0} (r : Result Bool E) → n ≡ length old.stands
    → IfOk r (Adopts old (state_of new)) → OnOk r (AtWork new)
    → IfOk r (CameTo n old (state_of new))
came_ok n old new (Ok b) e a work = came_by e a work.team
came_ok n old new (Err x) e a work = tt

-- a place below a count of the cells, and one that is not
pub came_among : {X : Type 0} (f : X → Stand) (xs : List X) (n count : ℕ) → count ≡ length xs → n < count
    → n < length (map f xs)
came_among f xs n count e l =
    let same : length (map f xs) ≡ length xs = length-map xs f in
    omega arith

pub came_behind : {X : Type 0} (f : X → Stand) (xs : List X) (n count : ℕ) → count ≡ length xs → n ≤ length xs → count ≤ n
    → n ≡ length (map f xs)
came_behind f xs n count e l m =
    let same : length (map f xs) ≡ length xs = length-map xs f in
    omega arith

-- ---- the next cell

pub seat_more : {X : Type 0} (f : X → Stand) (items items' : List X) (x : X) (st : Stand) → items' ≡ items ++ x ∷ []
    → f x ≡ st → map f items' ≡ map f items ++ st ∷ []
seat_more {X} f items items' x st longer is =
    ap (map f) longer ∙ go items ∙ ap (λ (y : Stand). map f items ++ y ∷ []) is
  where
    go : (xs : List X) → map f (xs ++ x ∷ []) ≡ map f xs ++ f x ∷ []
    go [] = refl
    go (y ∷ xs) = ap (λ (ys : List Stand). f y ∷ ys) (go xs)

-- how many cells there are
pub count_is : {X : Type 0} (f : X → Stand) (items : List X) (count : ℕ) → count ≡ length items → count ≡ length (map f items)
count_is f items count e = e ∙ sym (length-map items f)

-- where a call went well, what holds whatever it gave
pub on_ok : {X E P : Type 0} (r : Result X E) → P → OnOk r P
on_ok (Ok x) p = p
on_ok (Err e) p = tt

-- the number of the next session is its place
pub seated_awake : {X : Type 0} (f : X → Stand) (items : List X) {old new : List ℕ} {n : ℕ} → PutsOn n old new
    → n ≡ length items → PutsOn (length (map f items)) old new
seated_awake f items {old} {new} x is = subst (λ (k : ℕ). PutsOn k old new) (is ∙ sym (length-map items f)) x

pub cells_same : {X : Type 0} (f : X → Stand) (xs ys : List X) → length (map f ys) ≡ length (map f xs) → length ys ≡ length xs
cells_same f xs ys e = sym (length-map ys f) ∙ e ∙ length-map xs f

-- what a look tells, at an equal state
pub exact_at : {at start : State} {n : ℕ} {b : Bool} → at ≡ start → (b ≡ true) ↔ CouldAct at n → (b ≡ true) ↔ CouldAct start n
exact_at {at} {start} {n} {b} e x = subst (λ (s : State). (b ≡ true) ↔ CouldAct s n) e x

pub count_above : {X : Type 0} (f : X → Stand) (items : List X) (count k : ℕ) → count ≡ length items → count ≤ k
    → length (map f items) ≤ k
count_above f items count k e l =
    let same : length (map f items) ≡ length items = length-map items f in
    omega arith

-- ---- what is left

-- where no session is left, the events are those of all
pub events_end : {X : Type 0} (f : X → List Event) (sessions : List (List Event)) (xs rest : List X)
    → sessions ++ map f rest ≡ map f xs → rest ≡ [] → sessions ≡ map f xs
events_end {X} f sessions xs rest e none_left =
    sym (append_nil sessions) ∙ ap (λ (r : List X). sessions ++ map f r) (sym none_left) ∙ e

-- so they are those of where the sessions stand
pub parts_all : {X : Type 0} (f : X → Stand) (sessions : List (List Event)) (xs : List X)
    → sessions ≡ map (λ x. (f x).events) xs → sessions ≡ events_of (map f xs)
parts_all {X} f sessions xs e = e ∙ go xs
  where
    go : (ys : List X) → map (λ x. (f x).events) ys ≡ events_of (map f ys)
    go [] = refl
    go (y ∷ ys) = ap (λ (es : List (List Event)). (f y).events ∷ es) (go ys)
