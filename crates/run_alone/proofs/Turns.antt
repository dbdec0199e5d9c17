-- The turns of a run so far: what is sent of them stays so when the run goes on.
use Rattle.std.proofs.Common.{◌≡◌, ◌⊎◌, ◌≤◌, ◌<◌, ℕ, suc, ◌+◌, ◌-◌, Bool, true, false, ◌&&◌, ◌||◌, cond, List, [], ◌∷◌, ◌++◌, length, take, drop, None, Some, nat_eq, get_or, refl, sym, ap, subst, ◌∙◌, arith, le_refl, count_by}
use Rattle.std.specs.Prelude.{slice_get, unwrap_or}
use Rattle.std.specs.Cmp.{unsigned_Decides}
use Rattle.std.specs.List.{list_all}
use Rattle.std.proofs.lemmas.Bool.{and_from, or_right}
use Rattle.std.proofs.lemmas.List.{drop-append-le, drop_at, take-append-le, take_all, take_at}
use Rattle.std.proofs.lemmas.List.Folds.{list_all-append}
use Rattle.std.proofs.lemmas.List.Sums.{sum_by_push}
use Rattle.std.proofs.lemmas.Option.{none-some, slice_get_within}
use Rattle.behaviour_tree.specs.declared.words.Event.{Event}
use Rattle.office_core.specs.declared.history.Entry.{Entry}
use Rattle.office_core.specs.Limits.{Setting}
use Rattle.office_core.specs.Sessions.{service_of, was_adopted}
use Rattle.office_core.specs.Accepted.{past_of}
use Rattle.run_record.specs.Agrees.{IsSession}
use Rattle.run_record.specs.Quiet.{CanAct, outstanding}
use Rattle.run_quiet_laws.proofs.Aside.{is_aside, leaves, outstanding_aside}
use Rattle.session_turn.proofs.Histories.{stays_there}
use Rattle.run_cells.proofs.Teams.{one_more}
use Rattle.run_theorem.specs.Picks.{AreTheirs, Chose, EndsRound, Follows, TakenTurn, WasHad, again, anew, events_by, next}
use Rattle.run_alone.specs.Ran.{Rules}
use Rattle.run_alone.proofs.Choosing.{CameOf, turn_at}
use Rattle.run_alone.proofs.Places.{Grows, first_more, get_last, le_more, pairs_more}

-- ---- one turn

-- A turn of a session that had had so many events, all behind what the history has.
pub record Had (r : Rules) (h : List Entry) (ss : List (List Event)) (t : TakenTurn) (had : ℕ) : Type 0 where
  pub was : WasHad r h ss t had
  pub few : had ≤ length was.events
  pub within : t.entries ≤ length h

-- a new turn
pub had_now : {r : Rules} {h : List Entry} {ss : List (List Event)} {t : TakenTurn} {was now : List Event}
    (own : List Entry) → CameOf r h t was now → t.entries ≡ length h → slice_get ss t.session ≡ Some now
    → Had r (h ++ own) ss t (length was)
had_now {r} {h} {ss} {t} {was} {now} own c at there = record {
  was = record {
    events = now;
    there = there;
    adopted = coe 1 0 (i. was_adopted (past_of r.setting (before i)) t.session ≡ true) c.adopted;
    agrees = coe 1 0 (i. IsSession r.setting (before i) t.session (events i)) c.agreed;
    chose = λ e.
        let d = c.chose e in
        (d.0, found d.0 d.1, coe 1 0 (i. Chose r.setting (before i) t (events i) d.0) d.2);
    rested = λ e.
        coe 1 0 (i. (r.budget ≤ length was) ⊎ (CanAct r.setting (before i) t.session (events i) → ⊥)) (c.rested e);
  };
  few = few;
  within = within;
}
  where
    before : take t.entries (h ++ own) ≡ h
    before = take_at h own t.entries (sym at)

    events : take (length was) now ≡ was
    events = ap (take (length was)) c.events ∙ take_at was c.more (length was) refl

    found : (event : Event) → c.more ≡ event ∷ [] → slice_get now (length was) ≡ Some event
    found event e =
        ap (λ (es : List Event). slice_get es (length was)) (c.events ∙ ap (λ (es : List Event). was ++ es) e)
        ∙ get_last was event

    few : length was ≤ length now
    few =
        subst (λ (es : List Event). length was ≤ length es) (sym c.events)
        (le_more (length was) was c.more (le_refl (length was)))

    within : t.entries ≤ length (h ++ own)
    within = le_more t.entries h own (subst (λ (n : ℕ). n ≤ length h) (sym at) (le_refl (length h)))

-- one that was, when the history and the events go on
pub had_later : {r : Rules} {h : List Entry} {ss ss' : List (List Event)} {t : TakenTurn} {had : ℕ}
    (more : List Entry) → Grows ss ss' → Had r h ss t had → Had r (h ++ more) ss' t had
had_later {r} {h} {ss} {ss'} {t} {had} more grows x = record {
  was = record {
    events = x.was.events ++ on.0;
    there = on.1;
    adopted = coe 1 0 (i. was_adopted (past_of r.setting (before i)) t.session ≡ true) x.was.adopted;
    agrees = coe 1 0 (i. IsSession r.setting (before i) t.session (events i)) x.was.agrees;
    chose = λ e.
        let c = x.was.chose e in (
          c.0,
          stays_there x.was.events on.0 had c.0 c.1,
          coe 1 0 (i. Chose r.setting (before i) t (events i) c.0) c.2,
        );
    rested = λ e.
        coe 1 0 (i. (r.budget ≤ had) ⊎ (CanAct r.setting (before i) t.session (events i) → ⊥)) (x.was.rested e);
  };
  few = le_more had x.was.events on.0 x.few;
  within = le_more t.entries h more x.within;
}
  where
    on : (more : List Event) × (slice_get ss' t.session ≡ Some (x.was.events ++ more))
    on = grows t.session x.was.events x.was.there

    before : take t.entries (h ++ more) ≡ take t.entries h
    before = take-append-le t.entries h more x.within

    events : take had (x.was.events ++ on.0) ≡ take had x.was.events
    events = take-append-le had x.was.events on.0 x.few

-- ---- one turn behind the other

-- what stands behind a turn, up to the next
abbrev pub behind : List Entry → ℕ → ℕ → List Entry
behind h from to = drop from (take to h)

-- whose the entries between two turns are
abbrev pub is_theirs : ℕ → ℕ → Entry → Bool
is_theirs a b e = nat_eq a e.actor || nat_eq b e.actor

pub ends_later : {w : Setting} {a : TakenTurn} (h more : List Entry) → a.entries ≤ length h
    → EndsRound w (take a.entries h) a → EndsRound w (take a.entries (h ++ more)) a
ends_later {w} {a} h more l e =
    subst (λ (before : List Entry). EndsRound w before a) (sym (take-append-le a.entries h more l)) e

theirs_later : (h : List Entry) (a b : TakenTurn) (more : List Entry) → b.entries ≤ length h → AreTheirs h a b
    → AreTheirs (h ++ more) a b
theirs_later h a b more l theirs =
    ap (λ (es : List Entry). list_all (is_theirs a.session b.session) (drop a.entries es))
    (take-append-le b.entries h more l)
    ∙ theirs

-- what was not received after all entries of a history
outstanding_whole : (w : Setting) (h : List Entry) → outstanding (past_of w (take (length h) h)) ≡ outstanding (past_of w h)
outstanding_whole w h =
    ap (λ (es : List Entry). outstanding (past_of w es)) (take_all (length h) h (le_refl (length h)))

pub follows_later : {w : Setting} {h : List Entry} {a b : TakenTurn} (more : List Entry) → a.entries ≤ length h
    → b.entries ≤ length h → Follows w h a b → Follows w (h ++ more) a b
follows_later {w} {h} {a} {b} more l m (again e is theirs) = again e is (theirs_later h a b more m theirs)
follows_later {w} {h} {a} {b} more l m (next e is theirs) = next e is (theirs_later h a b more m theirs)
follows_later {w} {h} {a} {b} more l m (anew ends is received) =
    anew (ends_later h more l ends) is
    (ap (λ (es : List Entry). outstanding (past_of w es)) (take-append-le b.entries h more m) ∙ received)

-- the turn that session n would take behind one more entry of its own
theirs_more : (h : List Entry) (a : TakenTurn) (n : ℕ) (e : Entry) → e.actor ≡ n → a.entries ≤ length h
    → list_all (is_theirs a.session n) (behind h a.entries (length h)) ≡ true
    → list_all (is_theirs a.session n) (behind (h ++ e ∷ []) a.entries (length (h ++ e ∷ []))) ≡ true
theirs_more h a n e actor l theirs =
    ap (λ (es : List Entry). list_all (is_theirs a.session n) (drop a.entries es))
    (take_all (length (h ++ e ∷ [])) (h ++ e ∷ []) (le_refl (length (h ++ e ∷ []))))
    ∙ ap (list_all (is_theirs a.session n)) (drop-append-le a.entries h (e ∷ []) l)
    ∙ list_all-append (is_theirs a.session n) (drop a.entries h) (e ∷ [])
    ∙ and_from (list_all (is_theirs a.session n) (drop a.entries h)) (list_all (is_theirs a.session n) (e ∷ [])) before here
  where
    before : list_all (is_theirs a.session n) (drop a.entries h) ≡ true
    before =
        ap (λ (es : List Entry). list_all (is_theirs a.session n) (drop a.entries es))
        (sym (take_all (length h) h (le_refl (length h))))
        ∙ theirs

    here : list_all (is_theirs a.session n) (e ∷ []) ≡ true
    here =
        and_from (is_theirs a.session n e) true
        (or_right (nat_eq a.session e.actor) (nat_eq n e.actor) ((unsigned_Decides n e.actor).1 (sym actor)))
        refl

follows_more : {w : Setting} {h : List Entry} {a : TakenTurn} (n pick : ℕ) (did : Bool) (e : Entry) → e.actor ≡ n
    → is_aside e ≡ true → a.entries ≤ length h → Follows w h a (turn_at h n pick did)
    → Follows w (h ++ e ∷ []) a (turn_at (h ++ e ∷ []) n pick did)
follows_more {w} {h} {a} n pick did e actor aside l (again d is theirs) =
    again d is (theirs_more h a n e actor l theirs)
follows_more {w} {h} {a} n pick did e actor aside l (next d is theirs) = next d is (theirs_more h a n e actor l theirs)
follows_more {w} {h} {a} n pick did e actor aside l (anew ends is received) =
    anew (ends_later h (e ∷ []) l ends) is
    (outstanding_whole w (h ++ e ∷ []) ∙ outstanding_aside w h (leaves e aside) ∙ sym (outstanding_whole w h) ∙ received)

-- between a turn and the end of the history stand such entries
pub theirs_since : (is_it : Entry → Bool) (old own new : List Entry) → new ≡ old ++ own → list_all is_it own ≡ true
    → list_all is_it (behind new (length old) (length new)) ≡ true
theirs_since is_it old own new is all =
    ap (λ (es : List Entry). list_all is_it (drop (length old) es))
    (take_all (length new) new (le_refl (length new)) ∙ is)
    ∙ ap (list_all is_it) (drop_at old own (length old) refl)
    ∙ all

-- ---- where the run stands behind its turns

-- a turn is the last
abbrev pub IsLast : TakenTurn → List TakenTurn → Type 0
IsLast a turns = slice_get turns (length turns - 1) ≡ Some a

-- the last turn ended its round
abbrev pub AtEnd : Setting → List Entry → List TakenTurn → Type 0
AtEnd w h turns = (a : TakenTurn) → IsLast a turns → EndsRound w (take a.entries h) a

-- Session n may have the next turn.
pub record MayCome (w : Setting) (h : List Entry) (n : ℕ) (turns : List TakenTurn) : Type 0 where
  pub first : turns ≡ [] → n ≡ 0
  pub follows : (a : TakenTurn) (pick : ℕ) (did : Bool) → IsLast a turns → Follows w h a (turn_at h n pick did)

-- It is the turn of session n, and if it was not born the round is at its end.
pub record IsBefore (w : Setting) (h : List Entry) (n : ℕ) (turns : List TakenTurn) : Type 0 where
  pub may : MayCome w h n turns
  pub ends : service_of w (past_of w h) n ≡ None → AtEnd w h turns

pub before_round : {w : Setting} {h : List Entry} {turns : List TakenTurn} → AtEnd w h turns
    → outstanding (past_of w h) ≡ [] → IsBefore w h 0 turns
before_round {w} {h} ends received = record {
  may = record {
    first = λ e. refl;
    follows = λ a pick did at. anew (ends a at) refl (outstanding_whole w h ∙ received);
  };
  ends = λ unborn. ends;
}

-- ---- all turns

-- What is sent of the turns so far.
pub record Taken (r : Rules) (picks : List ℕ) (h : List Entry) (ss : List (List Event))
    (turns : List TakenTurn) : Type 0 where
  pub had : (i : ℕ) (t : TakenTurn) → slice_get turns i ≡ Some t → Had r h ss t (events_by t.session (take i turns))
  pub picked : (i : ℕ) (t : TakenTurn) → slice_get turns i ≡ Some t → t.pick ≡ unwrap_or (slice_get picks i) 0
  pub rising : (i : ℕ) (a b : TakenTurn) → slice_get turns i ≡ Some a → slice_get turns (suc i) ≡ Some b
      → a.entries ≤ b.entries
  pub follows : (i : ℕ) (a b : TakenTurn) → slice_get turns i ≡ Some a → slice_get turns (suc i) ≡ Some b
      → Follows r.setting h a b
  pub first : (t : TakenTurn) → slice_get turns 0 ≡ Some t → t.session ≡ 0
  pub all : (n : ℕ) → events_by n turns ≡ length (get_or ss n [])

-- before the first turn
pub taken_none : (r : Rules) (picks : List ℕ) → Taken r picks [] [] []
taken_none r picks = record {
  had = λ i t at. absurd (none-some t at);
  picked = λ i t at. absurd (none-some t at);
  rising = λ i a b p q. absurd (none-some a p);
  follows = λ i a b p q. absurd (none-some a p);
  first = λ t at. absurd (none-some t at);
  all = λ n. refl;
}

module _ {r : Rules} {picks : List ℕ} {h : List Entry} {ss : List (List Event)} {turns : List TakenTurn}
    (x : Taken r picks h ss turns) where
  pub last_within : (a : TakenTurn) → IsLast a turns → a.entries ≤ length h
  last_within a at = (x.had (length turns - 1) a at).within

  follows_on : (more : List Entry) (i : ℕ) (a b : TakenTurn) → slice_get turns i ≡ Some a
      → slice_get turns (suc i) ≡ Some b → Follows r.setting (h ++ more) a b
  follows_on more i a b p q =
      follows_later more (x.had i a p).within (x.had (suc i) b q).within (x.follows i a b p q)

  -- without a turn more
  pub taken_later : {ss' : List (List Event)} (more : List Entry) → Grows ss ss'
      → ((n : ℕ) → get_or ss' n [] ≡ get_or ss n []) → Taken r picks (h ++ more) ss' turns
  taken_later more grows same = record {
    had = λ i t at. had_later more grows (x.had i t at);
    picked = x.picked;
    rising = x.rising;
    follows = follows_on more;
    first = x.first;
    all = λ n. x.all n ∙ ap (λ (es : List Event). length es) (sym (same n));
  }

  pub at_end_later : (more : List Entry) → AtEnd r.setting h turns → AtEnd r.setting (h ++ more) turns
  at_end_later more ends = λ a at. ends_later h more (last_within a at) (ends a at)

  -- where session n is adopted
  pub may_come_later : {n : ℕ} (e : Entry) → e.actor ≡ n → is_aside e ≡ true → MayCome r.setting h n turns
      → MayCome r.setting (h ++ e ∷ []) n turns
  may_come_later {n} e actor aside may = record {
    first = may.first;
    follows = λ a pick did at. follows_more n pick did e actor aside (last_within a at) (may.follows a pick did at);
  }

  -- with a turn more
  module _ {ss' : List (List Event)} (t : TakenTurn) (own : List Entry) (grows : Grows ss ss')
      (had : Had r (h ++ own) ss' t (events_by t.session turns)) where
    had_more : (i : ℕ) (v : TakenTurn) → slice_get (turns ++ t ∷ []) i ≡ Some v
        → Had r (h ++ own) ss' v (events_by v.session (take i (turns ++ t ∷ [])))
    had_more =
        one_more turns t (λ i v. Had r (h ++ own) ss' v (events_by v.session (take i (turns ++ t ∷ []))))
        (λ i v at.
        let less : i < length turns = slice_get_within turns i v at in
        let few : i ≤ length turns = omega arith in
        subst (λ (xs : List TakenTurn). Had r (h ++ own) ss' v (events_by v.session xs))
        (sym (take-append-le i turns (t ∷ []) few)) (had_later own grows (x.had i v at)))
        (subst (λ (xs : List TakenTurn). Had r (h ++ own) ss' t (events_by t.session xs))
        (sym (take_at turns (t ∷ []) (length turns) refl)) had)

    pub taken_more : t.pick ≡ unwrap_or (slice_get picks (length turns)) 0 → t.entries ≡ length h
        → (turns ≡ [] → t.session ≡ 0) → ((a : TakenTurn) → IsLast a turns → Follows r.setting h a t)
        → ((n : ℕ) → length (get_or ss' n []) ≡ length (get_or ss n []) + cond (nat_eq n t.session && t.did) 1 0)
        → Taken r picks (h ++ own) ss' (turns ++ t ∷ [])
    taken_more pick entries start follow count = record {
      had = had_more;
      picked = one_more turns t (λ i v. v.pick ≡ unwrap_or (slice_get picks i) 0) x.picked pick;
      rising = pairs_more turns t (λ a b. a.entries ≤ b.entries) x.rising
          (λ a at. subst (λ (n : ℕ). a.entries ≤ n) (sym entries) (last_within a at));
      follows = pairs_more turns t (λ a b. Follows r.setting (h ++ own) a b) (follows_on own)
          (λ a at. follows_later own (last_within a at) here (follow a at));
      first = first_more turns t (λ v. v.session ≡ 0) x.first start;
      all = λ n.
          sum_by_push (λ (v : TakenTurn). cond (nat_eq n v.session && v.did) 1 0) turns t
          ∙ ap (λ (k : ℕ). k + cond (nat_eq n t.session && t.did) 1 0) (x.all n)
          ∙ sym (count n);
    }
      where
        here : t.entries ≤ length h
        here = subst (λ (n : ℕ). n ≤ length h) (sym entries) (le_refl (length h))
