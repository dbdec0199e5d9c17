-- A team stays one: by an adoption, by a turn, and by entries of others.
use Rattle.std.proofs.Common.{◌≡◌, ◌≤◌, ◌<◌, ℕ, zero, suc, ◌+◌, Bool, true, false, ◌&&◌, ◌||◌, List, [], ◌∷◌, ◌++◌, length, refl, sym, ap, subst, ◌∙◌, Option, None, Some, true≢false, arith}
use Rattle.std.specs.Prelude.{nat_eq, nat_le, nat_lt, slice_get, slice_set, option_map}
use Rattle.std.specs.List.{list_all, list_any}
use Rattle.std.specs.Cmp.{unsigned_Decides}
use Rattle.std.proofs.lemmas.Bool.Decides.{nat_tests}
use Rattle.std.proofs.lemmas.List.{length-append}
use Rattle.std.proofs.lemmas.List.Folds.{list_any-append}
use Rattle.std.proofs.lemmas.Option.{slice_get_within}
use Rattle.behaviour_tree.specs.Data.{ServicePart, behaviour_of}
use Rattle.behaviour_tree.specs.declared.words.Event.{Event}
use Rattle.session_calculus.specs.After.{Config, first_config}
use Rattle.session_calculus.specs.Runs.{start_of}
use Rattle.office_core.specs.declared.history.Act.{Act}
use Rattle.office_core.specs.declared.history.Act.TheVariants as act
use Rattle.office_core.specs.declared.history.Entry.{Entry}
use Rattle.office_core.specs.Limits.{Limits, Setting, first_worker, run_limits}
use Rattle.office_core.specs.Past.{Past, nothing_yet, is_running}
use Rattle.office_core.specs.Sessions.{adopts, births, service_of, was_adopted}
use Rattle.office_core.specs.Accepted.{past_of, then_one}
use Rattle.office_core.specs.Legal.{IsLegal}
use Rattle.run_record.specs.Steps.{Called, calls_after, is_call_of}
use Rattle.session_turn.specs.Seen.{AreForeign}
use Rattle.session_turn.specs.Lives.{Kept, fresh}
use Rattle.session_turn.specs.declared.turn.Turn.{Turn}
use Rattle.session_turn.proofs.Growing.{grew_alone}
use Rattle.session_turn.proofs.Histories.{service_stays, some_of}
use Rattle.session_turn.proofs.Living.{kept_did, lives_on}
use Rattle.session_turn.proofs.Walking.{born_here}
use Rattle.run_cells.specs.RunStates.{Stand, State, Stays, Team, moment_at, past_in, seat_at}
use Rattle.run_cells.specs.Turns.{IsAdoption, IsTurn, Position, Turned, adoption, did, ended, idle, play, spent, position, fresh as first_stand}
use Rattle.run_cells.proofs.Births.{born_known, few_births}
use Rattle.run_cells.proofs.Foreign.{AreOwn, gives_own, own_adopts, own_foreign, some_with}
use Rattle.run_cells.proofs.Unadopted.{unadopted_quiet}

-- ---- lists

not_some : {A : Type 0} (x : A) → None ≡ Some x → ⊥
not_some x e = true≢false (ap (λ o. elim o [ None ↦ true | Some y ↦ false ]) e)

pub same_of : {A : Type 0} (x y : A) → Some x ≡ Some y → x ≡ y
same_of x y e = ap (λ o. elim o [ None ↦ x | Some z ↦ z ]) e

-- what stands in a list with one more: it stood there, or is the last
pub one_more : {A : Type 0} (xs : List A) (x : A) (P : ℕ → A → Type 0)
    → ((n : ℕ) (y : A) → slice_get xs n ≡ Some y → P n y) → P (length xs) x
    → (n : ℕ) (y : A) → slice_get (xs ++ x ∷ []) n ≡ Some y → P n y
one_more [] x P each last zero y h = subst (P 0) (same_of x y h) last
one_more [] x P each last (suc n) y h = absurd (not_some y h)
one_more (z ∷ xs) x P each last zero y h = each zero y h
one_more (z ∷ xs) x P each last (suc n) y h = one_more xs x (λ m. P (suc m)) (λ m v g. each (suc m) v g) last n y h

not_suc : (n : ℕ) → suc n ≡ 0 → ⊥
not_suc n e = absurd (omega arith)

-- what stands in a list in which one was set: it is that one, or stood there
pub one_set : {A : Type 0} (xs : List A) (k : ℕ) (x : A) (P : ℕ → A → Type 0)
    → ((n : ℕ) (y : A) → (n ≡ k → ⊥) → slice_get xs n ≡ Some y → P n y) → P k x
    → (n : ℕ) (y : A) → slice_get (slice_set xs k x) n ≡ Some y → P n y
one_set [] k x P each here n y h = absurd (not_some y h)
one_set (z ∷ xs) zero x P each here zero y h = subst (P 0) (same_of x y h) here
one_set (z ∷ xs) zero x P each here (suc n) y h = each (suc n) y (not_suc n) h
one_set (z ∷ xs) (suc k) x P each here zero y h = each zero y (λ e. not_suc k (sym e)) h
one_set (z ∷ xs) (suc k) x P each here (suc n) y h =
    one_set xs k x (λ m. P (suc m)) (λ m v u g. each (suc m) v (λ e. u (omega arith)) g) here n y h

pub set_length : {A : Type 0} (xs : List A) (k : ℕ) (x : A) → length (slice_set xs k x) ≡ length xs
set_length [] k x = refl
set_length (z ∷ xs) zero x = refl
set_length (z ∷ xs) (suc k) x = ap suc (set_length xs k x)

pub set_same : (xs : List Stand) (k : ℕ) (x : Stand) → slice_get xs k ≡ Some x → slice_set xs k x ≡ xs
set_same [] k x h = refl
set_same (z ∷ xs) zero x h = ap (λ (y : Stand). y ∷ xs) (sym (same_of z x h))
set_same (z ∷ xs) (suc k) x h = ap (λ (ys : List Stand). z ∷ ys) (set_same xs k x h)

-- the last of a list that is not empty
last_of : {A : Type 0} (x : A) (xs : List A) → (y : A) × (slice_get (x ∷ xs) (length xs) ≡ Some y)
last_of x [] = (x, refl)
last_of x (z ∷ xs) = let l = last_of z xs in (l.0, l.1)

-- ---- truths

or-true : (b : Bool) → (b || true) ≡ true
or-true true = refl
or-true false = refl

eq-self : (n : ℕ) → nat_eq n n ≡ true
eq-self n = (unsigned_Decides n n).1 refl

-- a number below one more is below, or the same
lt-more : (n k : ℕ) → (nat_lt n k || nat_eq n k) ≡ nat_lt n (suc k)
lt-more n k = by (nat_lt n k) (nat_eq n k) (nat_lt n (suc k)) refl refl refl
  where
    by : (a b c : Bool) → nat_lt n k ≡ a → nat_eq n k ≡ b → nat_lt n (suc k) ≡ c → (a || b) ≡ c
    by true b true e f g = refl
    by true b false e f g = absurd (grind (arith, nat_tests))
    by false true true e f g = refl
    by false true false e f g = absurd (grind (arith, nat_tests))
    by false false true e f g = absurd (grind (arith, nat_tests))
    by false false false e f g = refl

pub unlike : (n k : ℕ) → n < k → nat_eq n k ≡ false
unlike n k h = by (nat_eq n k) refl
  where
    by : (b : Bool) → nat_eq n k ≡ b → b ≡ false
    by true e = absurd (grind (arith, nat_tests))
    by false e = refl

low : (n : ℕ) → n < first_worker → nat_le first_worker n ≡ false
low n h = by (nat_le first_worker n) refl
  where
    by : (b : Bool) → nat_le first_worker n ≡ b → b ≡ false
    by true e = absurd (grind (arith, nat_tests))
    by false e = refl

-- ---- a session among others

-- a session is kept while others make entries
pub kept_with : (w : Setting) (n : ℕ) (st : Stand) (h more : List Entry) → AreForeign n more
    → Kept (seat_at w n) st.events (moment_at st h) → Kept (seat_at w n) st.events (moment_at st (h ++ more))
kept_with w n st h more f k = record {
  from = k.from;
  start = k.start;
  here = k.here;
  at = k.at;
  lives = lives_on h st.events k.here more k.lives f;
}

-- a session at hand was born
pub stand_born : (s : State) → Team s → (n : ℕ) (st : Stand) → slice_get s.stands n ≡ Some st
    → service_of s.setting (past_in s) n ≡ Some st.service
stand_born s t n st h = born_here (t.each n st h).lives

-- no more sessions are at hand than a run has
pub few_stands : (s : State) → Team s → length s.stands ≤ first_worker
few_stands s t = by s.stands refl
  where
    most : length (births s.setting (past_in s)) ≤ first_worker
    most = subst (λ (n : ℕ). length (births s.setting (past_in s)) ≤ n) (ap (λ (l : Limits). l.sessions) t.limits) (few_births s.setting s.history)

    by : (sts : List Stand) → s.stands ≡ sts → length sts ≤ first_worker
    by [] e = omega arith
    by (x ∷ xs) e =
        let l = last_of x xs in
        let there : slice_get s.stands (length xs) ≡ Some l.0 = ap (λ sts. slice_get sts (length xs)) e ∙ l.1 in
        let within : length xs < length (births s.setting (past_in s))
        = slice_get_within (births s.setting (past_in s)) (length xs) (l.0).service (stand_born s t (length xs) l.0 there) in
        let m : length (births s.setting (past_in s)) ≤ first_worker = most in
        omega arith

-- ---- before the first call

none-below : (n : ℕ) → false ≡ nat_lt n 0
none-below n = by (nat_lt n 0) refl
  where
    by : (b : Bool) → nat_lt n 0 ≡ b → false ≡ b
    by true e = absurd (grind (arith, nat_tests))
    by false e = refl

-- before the first call there is a team of nobody
pub team_begun : (w : Setting) (budget : ℕ) (picks : List ℕ) → w.limits ≡ run_limits
    → Team (record { setting = w; budget = budget; history = []; stands = []; picks = picks })
team_begun w budget picks e = record {
  limits = e;
  legal = tt;
  running = refl;
  adopted = none-below;
  each = λ n st h. absurd (not_some st h);
  within = λ n st h. absurd (not_some st h);
}

-- ---- an adoption

-- an entry that is no call of the session
calls-with : (w : Setting) (s : ℕ) (past : Past) (h : List Entry) (e : Entry) → is_call_of s e ≡ false
    → calls_after w s past (h ++ e ∷ []) ≡ calls_after w s past h
calls-with w s past [] e k =
    ap (λ b. elim b as (λ _. List Called) [ true ↦ record { before = past; act = e.act } ∷ [] | false ↦ [] ]) k
calls-with w s past (x ∷ h) e k =
    ap (λ cs. elim (is_call_of s x) as (λ _. List Called) [ true ↦ record { before = past; act = x.act } ∷ cs | false ↦ cs ])
    (calls-with w s (then_one w past x) h e k)

-- a service of the program has a start
begins : (w : Setting) (d : ℕ) → d < length w.parts.services → (c : Config) × (start_of w.parts d ≡ Some c)
begins w d h = by (slice_get w.parts.services d) refl
  where
    past : (ds : List ServicePart) (n : ℕ) → n < length ds → slice_get ds n ≡ None → ⊥
    past [] n l e = absurd (omega arith)
    past (x ∷ ds) zero l e = not_some x (sym e)
    past (x ∷ ds) (suc n) l e = past ds n (omega arith) e

    by : (o : Option ServicePart) → slice_get w.parts.services d ≡ o → (c : Config) × (start_of w.parts d ≡ Some c)
    by None e = absurd (past w.parts.services d h e)
    by (Some s) e =
        (first_config (behaviour_of s), ap (option_map (λ (x : ServicePart). first_config (behaviour_of x))) e)

-- a state after the adoption of the next session, which is of a service
abbrev pub with_adopted : State → ℕ → State
with_adopted s d = record {
  setting = s.setting;
  budget = s.budget;
  history = s.history ++ adoption (length s.stands) d ∷ [];
  stands = s.stands ++ first_stand s.setting d ∷ [];
  picks = s.picks;
}

pub adoption_is : {old new : State} (a : IsAdoption old new) → new ≡ with_adopted old a.service
adoption_is a = λ i. record {
  setting = a.setting i;
  budget = a.budget i;
  history = a.history i;
  stands = a.stands i;
  picks = a.picks i;
}

module _ (s : State) (t : Team s) (d : ℕ) (born : service_of s.setting (past_in s) (length s.stands) ≡ Some d) where
  abbrev number : ℕ
  number = length s.stands

  abbrev after : List Entry
  after = s.history ++ adoption number d ∷ []

  below : number < first_worker
  below =
      let most : length (births s.setting (past_in s)) ≤ first_worker
      = subst (λ (n : ℕ). length (births s.setting (past_in s)) ≤ n) (ap (λ (l : Limits). l.sessions) t.limits) (few_births s.setting s.history) in
      let within : number < length (births s.setting (past_in s))
      = slice_get_within (births s.setting (past_in s)) number d born in
      omega arith

  adopted-by : (n : ℕ) → was_adopted (past_of s.setting after) n ≡ (nat_lt n number || nat_eq n number)
  adopted-by n =
      some_of s.setting after (adopts n)
      ∙ list_any-append (adopts n) s.history (adoption number d ∷ [])
      ∙ (λ i. (sym (some_of s.setting s.history (adopts n)) ∙ t.adopted n) i || or-none (nat_eq n number) i)
    where
      or-none : (b : Bool) → (b || false) ≡ b
      or-none true = refl
      or-none false = refl

  unadopted : was_adopted (past_in s) number ≡ false
  unadopted = t.adopted number ∙ by (nat_lt number number) refl
    where
      by : (b : Bool) → nat_lt number number ≡ b → b ≡ false
      by true e = absurd (grind (arith, nat_tests))
      by false e = refl

  seated : Kept (seat_at s.setting number) [] (moment_at (first_stand s.setting d) after)
  seated =
      let c = begins s.setting d (born_known s.setting s.history number d born) in
      record {
        from = c.0;
        start = c.1;
        here = c.0;
        at = c.1;
        lives = fresh after (record {
          born = service_stays s.setting s.history (adoption number d) number d born;
          adopted = adopted-by number ∙ ap (λ b. nat_lt number number || b) (eq-self number) ∙ or-true (nat_lt number number);
          quiet = calls-with s.setting number nothing_yet s.history (adoption number d) refl
              ∙ unadopted_quiet s.setting s.history number (low number below) t.legal unadopted;
        });
      }

  others : (n : ℕ) (st : Stand) → slice_get s.stands n ≡ Some st → Kept (seat_at s.setting n) st.events (moment_at st after)
  others n st h =
      kept_with s.setting n st s.history (adoption number d ∷ [])
      (unlike n number (slice_get_within s.stands n st h), tt) (t.each n st h)

  pub team_with : IsLegal s.setting after → is_running (past_of s.setting after) ≡ true → Team (with_adopted s d)
  team_with legal running = record {
    limits = t.limits;
    legal = legal;
    running = running;
    adopted = λ n. adopted-by n ∙ lt-more n number ∙ ap (nat_lt n) (sym (one-longer s.stands (first_stand s.setting d)));
    each = one_more s.stands (first_stand s.setting d) (λ n st. Kept (seat_at s.setting n) st.events (moment_at st after)) others seated;
    within = one_more s.stands (first_stand s.setting d) (λ n st. length st.events ≤ s.budget) t.within (omega arith);
  }
    where
      one-longer : (sts : List Stand) (st : Stand) → length (sts ++ st ∷ []) ≡ suc (length sts)
      one-longer [] st = refl
      one-longer (x ∷ sts) st = ap suc (one-longer sts st)

-- a team stays one by an adoption
pub team_adopted : {old new : State} → Team old → IsAdoption old new → IsLegal new.setting new.history
    → is_running (past_in new) ≡ true → Team new
team_adopted {old} {new} t a legal running =
    let e : new ≡ with_adopted old a.service = adoption_is a in
    subst Team (sym e)
    (team_with old t a.service a.born (subst (λ (s : State). IsLegal s.setting s.history) e legal)
    (subst (λ (s : State). is_running (past_in s) ≡ true) e running))

-- ---- a turn

-- Entries of session n came.
pub record OwnCame (n : ℕ) (old new : List Entry) : Type 0 where
  pub own : List Entry
  pub is : new ≡ old ++ own
  pub are : AreOwn n own

none_came : (n : ℕ) (old new : List Entry) → new ≡ old → OwnCame n old new
none_came n old new e = record { own = []; is = e ∙ sym (append_nil old); are = refl }
  where
    append_nil : (xs : List Entry) → xs ++ [] ≡ xs
    append_nil [] = refl
    append_nil (x ∷ xs) = ap (λ l. x ∷ l) (append_nil xs)

-- what a turn adds are entries of its session
pub turn_came : {n : ℕ} {old new : State} {t : Turn} → IsTurn n old new t → OwnCame n old.history new.history
turn_came {n} {old} {new} x = go x.turned
  where
    same : ◌≡◌ {A = Position} (position x.now new.history) (position x.was old.history) → OwnCame n old.history new.history
    same e = none_came n old.history new.history (ap (λ (p : Position). p.history) e)

    go : {t : Turn} → Turned (play old n) (position x.was old.history) (position x.now new.history) t → OwnCame n old.history new.history
    go (did event strands enabled first events within) =
        let p = first.happened in
        record {
          own = p.own;
          is = p.seen ∙ ap (λ (h : List Entry). h ++ p.own) (grew_alone refl p.grew);
          are = gives_own p.given;
        }
    go (idle yet fewer strands enabled stood is) = same is
    go (ended c at over is) = same is
    go (spent yet all is) = same is

-- the session of a turn is kept
pub turn_kept : {n : ℕ} {old new : State} {t : Turn} → (x : IsTurn n old new t)
    → Kept (seat_at old.setting n) (x.was).events (moment_at x.was old.history)
    → Kept (seat_at old.setting n) (x.now).events (moment_at x.now new.history)
turn_kept {n} {old} {new} x k = go x.turned
  where
    same : ◌≡◌ {A = Position} (position x.now new.history) (position x.was old.history)
        → Kept (seat_at old.setting n) (x.now).events (moment_at x.now new.history)
    same e = subst (λ (p : Position). Kept (seat_at old.setting n) (p.stand).events (moment_at p.stand p.history)) (sym e) k

    go : {t : Turn} → Turned (play old n) (position x.was old.history) (position x.now new.history) t
        → Kept (seat_at old.setting n) (x.now).events (moment_at x.now new.history)
    go (did event strands enabled first events within) = kept_did first events k
    go (idle yet fewer strands enabled stood is) = same is
    go (ended c at over is) = same is
    go (spent yet all is) = same is

-- and keeps to the budget
turn_within : {n : ℕ} {old new : State} {t : Turn} → (x : IsTurn n old new t) → length (x.was).events ≤ old.budget
    → length (x.now).events ≤ old.budget
turn_within {n} {old} {new} x k = go x.turned
  where
    same : ◌≡◌ {A = Position} (position x.now new.history) (position x.was old.history) → length (x.now).events ≤ old.budget
    same e = subst (λ (p : Position). length (p.stand).events ≤ old.budget) (sym e) k

    go : {t : Turn} → Turned (play old n) (position x.was old.history) (position x.now new.history) t → length (x.now).events ≤ old.budget
    go (did event strands enabled first events within) =
        let l : length (x.was).events < old.budget = within in
        let m : length (x.was).events + 1 ≤ old.budget = omega arith in
        subst (λ (es : List Event). length es ≤ old.budget) (sym events)
        (subst (λ (k : ℕ). k ≤ old.budget) (sym (length-append (x.was).events (event ∷ []))) m)
    go (idle yet fewer strands enabled stood is) = same is
    go (ended c at over is) = same is
    go (spent yet all is) = same is

-- a team stays one by a turn
pub team_turn : {n : ℕ} {old new : State} {t : Turn} → Team old → IsTurn n old new t → IsLegal new.setting new.history
    → is_running (past_in new) ≡ true → Team new
team_turn {n} {old} {new} team x legal running =
    subst Team (sym e) (record {
      limits = team.limits;
      legal = subst (λ (s : State). IsLegal s.setting s.history) e legal;
      running = subst (λ (s : State). is_running (past_in s) ≡ true) e running;
      adopted = λ m. adopted m ∙ team.adopted m ∙ ap (nat_lt m) (sym (set_length old.stands n x.now));
      each = one_set old.stands n x.now (λ m st. Kept (seat_at old.setting m) st.events (moment_at st new.history)) others
          (turn_kept x (team.each n x.was x.there));
      within = one_set old.stands n x.now (λ m st. length st.events ≤ old.budget) (λ m st u h. team.within m st h)
          (turn_within x (team.within n x.was x.there));
    })
  where
    came : OwnCame n old.history new.history
    came = turn_came x

    after : State
    after = record {
      setting = old.setting;
      budget = old.budget;
      history = new.history;
      stands = slice_set old.stands n x.now;
      picks = new.picks;
    }

    e : new ≡ after
    e = λ i. record {
      setting = x.setting i;
      budget = x.budget i;
      history = new.history;
      stands = x.stands i;
      picks = new.picks;
    }

    adopted : (m : ℕ) → was_adopted (past_of old.setting new.history) m ≡ was_adopted (past_in old) m
    adopted m =
        ap (λ h. was_adopted (past_of old.setting h) m) came.is
        ∙ some_with old.setting old.history came.own (adopts m) (own_adopts n m came.own came.are)

    others : (m : ℕ) (st : Stand) → (m ≡ n → ⊥) → slice_get old.stands m ≡ Some st
        → Kept (seat_at old.setting m) st.events (moment_at st new.history)
    others m st u h =
        subst (λ (l : List Entry). Kept (seat_at old.setting m) st.events (moment_at st l)) (sym came.is)
        (kept_with old.setting m st old.history came.own (own_foreign n m came.own u came.are) (team.each m st h))

-- ---- entries of workers

-- an entry of a worker
abbrev pub is_of_worker : Entry → Bool
is_of_worker e = elim e.act [ act.Adopt service ↦ false | _ ↦ nat_le first_worker e.actor ]

worker-adopts : (n : ℕ) (e : Entry) → is_of_worker e ≡ true → adopts n e ≡ false
worker-adopts n e h = go e.actor e.act h
  where
    go : (t : ℕ) (c : Act) → is_of_worker (record { actor = t; act = c }) ≡ true → adopts n (record { actor = t; act = c }) ≡ false
    go t (act.Adopt d) k = absurd (true≢false (sym k))
    go t c k = refl

worker-actor : (e : Entry) → is_of_worker e ≡ true → nat_le first_worker e.actor ≡ true
worker-actor e h = go e.actor e.act h
  where
    go : (t : ℕ) (c : Act) → is_of_worker (record { actor = t; act = c }) ≡ true → nat_le first_worker t ≡ true
    go t (act.Adopt d) k = absurd (true≢false (sym k))
    go t c k = k

left : (a b : Bool) → (a && b) ≡ true → a ≡ true
left true b h = refl
left false b h = h

right : (a b : Bool) → (a && b) ≡ true → b ≡ true
right true b h = h
right false b h = absurd (true≢false (sym h))

workers-adopt : (n : ℕ) (es : List Entry) → list_all is_of_worker es ≡ true → list_any (adopts n) es ≡ false
workers-adopt n [] h = refl
workers-adopt n (e ∷ es) h =
    ap (λ b. b || list_any (adopts n) es) (worker-adopts n e (left (is_of_worker e) (list_all is_of_worker es) h))
    ∙ workers-adopt n es (right (is_of_worker e) (list_all is_of_worker es) h)

pub workers-foreign : (n : ℕ) (es : List Entry) → n < first_worker → list_all is_of_worker es ≡ true → AreForeign n es
workers-foreign n [] l h = tt
workers-foreign n (e ∷ es) l h = (
  by (nat_eq n e.actor) refl (worker-actor e (left (is_of_worker e) (list_all is_of_worker es) h)),
  workers-foreign n es l (right (is_of_worker e) (list_all is_of_worker es) h),
)
  where
    by : (b : Bool) → nat_eq n e.actor ≡ b → nat_le first_worker e.actor ≡ true → b ≡ false
    by true f g = absurd (grind (arith, nat_tests))
    by false f g = refl

-- a team stays one by entries of workers
pub team_stays : {old new : State} {more : List Entry} → Team old → Stays old new more → list_all is_of_worker more ≡ true
    → IsLegal new.setting new.history
    → is_running (past_in new) ≡ true → Team new
team_stays {old} {new} {more} team x works legal running =
    subst Team (sym e) (record {
      limits = team.limits;
      legal = subst (λ (s : State). IsLegal s.setting s.history) e legal;
      running = subst (λ (s : State). is_running (past_in s) ≡ true) e running;
      adopted = λ m. some_with old.setting old.history more (adopts m) (workers-adopt m more works) ∙ team.adopted m;
      each = λ m st h. kept_with old.setting m st old.history more (workers-foreign m more (below m st h) works) (team.each m st h);
      within = team.within;
    })
  where
    after : State
    after = record {
      setting = old.setting;
      budget = old.budget;
      history = old.history ++ more;
      stands = old.stands;
      picks = old.picks;
    }

    e : new ≡ after
    e = λ i. record {
      setting = x.setting i;
      budget = x.budget i;
      history = x.history i;
      stands = x.stands i;
      picks = x.picks i;
    }

    below : (m : ℕ) (st : Stand) → slice_get old.stands m ≡ Some st → m < first_worker
    below m st h =
        let within : m < length old.stands = slice_get_within old.stands m st h in
        let few : length old.stands ≤ first_worker = few_stands old team in
        omega arith
