-- The turns of a course, one after the other: what is sent of them holds from its beginning to its end.
use Rattle.std.proofs.Common.{◌≡◌, ◌≤◌, ℕ, suc, ◌+◌, ◌-◌, Bool, true, false, ◌||◌, List, [], ◌∷◌, ◌++◌, length, map, take, drop, Option, None, Some, nat_eq, get_or, refl, sym, ap, subst, ◌∙◌, le_refl}
use Rattle.std.specs.Prelude.{slice_get, slice_set, unwrap_or}
use Rattle.std.specs.List.{list_all}
use Rattle.std.proofs.lemmas.Bool.{false≢true, or_left}
use Rattle.std.proofs.lemmas.List.{append-nil, drop-drop, length_push, map-append, map-set, take_all}
use Rattle.std.proofs.lemmas.Option.{get_or_from_slice_get, none-some, same_Some}
use Rattle.behaviour_tree.specs.declared.words.Event.{Event}
use Rattle.office_core.specs.declared.history.Act.{Act}
use Rattle.office_core.specs.declared.history.Act.TheVariants as act
use Rattle.office_core.specs.declared.history.Entry.{Entry}
use Rattle.office_core.specs.Sessions.{service_of}
use Rattle.office_core.specs.Accepted.{past_of}
use Rattle.run_record.specs.Quiet.{outstanding}
use Rattle.run_record.specs.Steps.{is_call_of}
use Rattle.session_turn.specs.declared.turn.Turn.{Turn}
use Rattle.run_cells.specs.RunStates.{Stand, State, Stays, Team, events_of}
use Rattle.run_cells.specs.Turns.{Comes, IsAdoption, IsNoBirth, IsTurn, RoundFrom, TurnsOf, adoption, fresh, is_did}
use Rattle.run_cells.specs.Turns.{last as last_turn, more as more_turns, next as next_session, now as comes_now}
use Rattle.run_cells.specs.Turns.{over as round_over, there as is_there}
use Rattle.run_cells.proofs.Foreign.{AreOwn}
use Rattle.run_cells.proofs.Going.{team_comes, team_turns}
use Rattle.run_cells.proofs.Stilling.{event_at, idle_turn_same}
use Rattle.run_cells.proofs.Teams.{OwnCame, turn_came}
use Rattle.run_sweep.specs.Courses.{Goes, adopts, round, stays, works}
use Rattle.run_theorem.specs.Picks.{EndsRound, Follows, TakenTurn, TookTurns, again, events_by, next}
use Rattle.run_alone.specs.Ran.{Rules}
use Rattle.run_alone.proofs.Choosing.{CameOf, came_of, rules_at, turn_at, turn_now}
use Rattle.run_alone.proofs.Places.{Grows, count_set, drop_get, get_born, get_set, grows_born, grows_not, grows_set}
use Rattle.run_alone.proofs.Places.{last_more}
use Rattle.run_alone.proofs.Stepping.{all_weaker}
use Rattle.run_alone.proofs.Turns.{AtEnd, Had, IsBefore, IsLast, MayCome, Taken, at_end_later, before_round, had_now}
use Rattle.run_alone.proofs.Turns.{may_come_later, taken_later, taken_more, taken_none, theirs_since}

-- The turns of a run up to a state, and how it stands behind them.
pub record UpTo (r : Rules) (picks : List ℕ) (s : State) (Stands : List TakenTurn → Type 0) : Type 0 where
  pub rules : rules_at s ≡ r
  pub turns : List TakenTurn
  pub taken : Taken r picks s.history (events_of s.stands) turns
  pub left : s.picks ≡ drop (length turns) picks
  pub stands : Stands turns

-- behind a round
abbrev pub BehindRound : Rules → List ℕ → State → Type 0
BehindRound r picks s = UpTo r picks s (AtEnd r.setting s.history)

-- before the turns of session n
abbrev pub Before : Rules → List ℕ → ℕ → State → Type 0
Before r picks n s = UpTo r picks s (IsBefore r.setting s.history n)

-- before a turn of session n
abbrev pub AtTurn : Rules → List ℕ → ℕ → State → Type 0
AtTurn r picks n s = UpTo r picks s (MayCome r.setting s.history n)

-- the same turns, behind which it stands so too
stands_so : {r : Rules} {picks : List ℕ} {s : State} {P : List TakenTurn → Type 0} (Q : List TakenTurn → Type 0)
    (u : UpTo r picks s P) → Q u.turns → UpTo r picks s Q
stands_so Q u q = record { rules = u.rules; turns = u.turns; taken = u.taken; left = u.left; stands = q }

-- ---- without a turn

-- A run went on without a turn: entries came, and sessions without an event.
record WentOn (old new : State) (more : List Entry) : Type 0 where
  pub rules : rules_at new ≡ rules_at old
  pub history : new.history ≡ old.history ++ more
  pub picks : new.picks ≡ old.picks
  pub grows : Grows (events_of old.stands) (events_of new.stands)
  pub same : (n : ℕ) → get_or (events_of new.stands) n [] ≡ get_or (events_of old.stands) n []

by_stays : {old new : State} {more : List Entry} → Stays old new more → WentOn old new more
by_stays {old} {new} x = record {
  rules = λ i. record { setting = x.setting i; budget = x.budget i };
  history = x.history;
  picks = x.picks;
  grows = coe 1 0 (i. Grows (events_of old.stands) (events_of (x.stands i))) (grows_not (events_of old.stands));
  same = λ n. ap (λ (stands : List Stand). get_or (events_of stands) n []) x.stands;
}

by_adoption : {old new : State} (x : IsAdoption old new)
    → WentOn old new (adoption (length old.stands) x.service ∷ [])
by_adoption {old} {new} x = record {
  rules = λ i. record { setting = x.setting i; budget = x.budget i };
  history = x.history;
  picks = x.picks;
  grows = coe 1 0 (i. Grows (events_of old.stands) (events i)) (grows_born (events_of old.stands));
  same = λ n.
      ap (λ (ss : List (List Event)). get_or ss n []) events ∙ get_born (events_of old.stands) n;
}
  where
    events : events_of new.stands ≡ events_of old.stands ++ [] ∷ []
    events =
        ap events_of x.stands
        ∙ map-append (λ (st : Stand). st.events) old.stands (fresh old.setting x.service ∷ [])

up_to_later : {r : Rules} {picks : List ℕ} {old new : State} {more : List Entry} {P : List TakenTurn → Type 0}
    (Q : List TakenTurn → Type 0) (u : UpTo r picks old P) → WentOn old new more → Q u.turns → UpTo r picks new Q
up_to_later {r} {picks} {new = new} {more = more} Q u x q = record {
  rules = x.rules ∙ u.rules;
  turns = u.turns;
  taken = coe 1 0 (i. Taken r picks (x.history i) (events_of new.stands) u.turns)
      (taken_later u.taken more x.grows x.same);
  left = x.picks ∙ u.left;
  stands = q;
}

behind_later : {r : Rules} {picks : List ℕ} {old new : State} {more : List Entry} → BehindRound r picks old
    → WentOn old new more → BehindRound r picks new
behind_later {r} {new = new} {more = more} u x =
    up_to_later (AtEnd r.setting new.history) u x
    (coe 1 0 (i. AtEnd r.setting (x.history i) u.turns) (at_end_later u.taken more u.stands))

-- ---- a turn

-- a session has a turn
turn_on : {r : Rules} {picks : List ℕ} {n : ℕ} {old new : State} {o : Turn} → Team old → AtTurn r picks n old
    → IsTurn n old new o → UpTo r picks new (IsLast (turn_now old n (is_did o)))
turn_on {r} {picks} {n} {old} {new} {o} team u x = record {
  rules = rules ∙ u.rules;
  turns = u.turns ++ turn ∷ [];
  taken = coe 1 0 (i. Taken r picks (own.is i) (events i) (u.turns ++ turn ∷ [])) taken;
  left = x.picks
      ∙ ap (drop 1) u.left
      ∙ drop-drop 1 (length u.turns) picks
      ∙ ap (λ (k : ℕ). drop k picks) (sym (length_push u.turns turn));
  stands = last_more u.turns turn;
}
  where
    turn : TakenTurn
    turn = turn_now old n (is_did o)

    before : List (List Event)
    before = events_of old.stands

    rules : rules_at new ≡ rules_at old
    rules = λ i. record { setting = x.setting i; budget = x.budget i }

    came : CameOf (rules_at old) old.history (turn_now old n (is_did o)) x.was.events x.now.events
    came = came_of team x

    own : OwnCame n old.history new.history
    own = turn_came x

    there : slice_get (events_of old.stands) n ≡ Some x.was.events
    there = event_at old.stands n x.was x.there

    events : events_of new.stands ≡ slice_set (events_of old.stands) n x.now.events
    events = ap events_of x.stands ∙ map-set (λ (st : Stand). st.events) old.stands n x.now

    many : length x.was.events ≡ events_by n u.turns
    many = sym (u.taken.all n ∙ ap (λ (es : List Event). length es) (get_or_from_slice_get before n x.was.events [] there))

    had : Had r (old.history ++ own.own) (slice_set before n x.now.events) turn (events_by n u.turns)
    had =
        coe 0 1 (i. Had (u.rules i) (old.history ++ own.own) (slice_set before n x.now.events) turn (many i))
        (had_now own.own came refl (get_set before n x.was.events x.now.events there))

    pick : turn.pick ≡ unwrap_or (slice_get picks (length u.turns)) 0
    pick =
        ap (λ (ps : List ℕ). unwrap_or (slice_get ps 0) 0) u.left
        ∙ ap (λ (o : Option ℕ). unwrap_or o 0) (drop_get (length u.turns) picks)

    taken : Taken r picks (old.history ++ own.own) (slice_set before n x.now.events) (u.turns ++ turn ∷ [])
    taken =
        taken_more u.taken turn own.own
        (grows_set before n x.was.events came.more x.now.events there came.events)
        had pick refl u.stands.first (λ a at. u.stands.follows a turn.pick turn.did at)
        (count_set before n x.was.events came.more x.now.events (is_did o) there came.events came.count)

-- where there is a last turn, there are turns
not_first : {t : TakenTurn} {turns : List TakenTurn} → IsLast t turns → turns ≡ [] → ⊥
not_first {t} at e =
    none-some t (sym (ap (λ (ts : List TakenTurn). slice_get ts (length ts - 1)) e) ∙ at)

-- an entry of a session is by it
own_actor : (n actor : ℕ) (a : Act) → is_call_of n (record { actor = actor; act = a }) ≡ true → nat_eq n actor ≡ true
own_actor n actor (act.Adopt d) h = absurd (false≢true h)
own_actor n actor a h = h

own_theirs : (n : ℕ) (es : List Entry) → AreOwn n es
    → list_all (λ (e : Entry). nat_eq n e.actor || nat_eq n e.actor) es ≡ true
own_theirs n es own =
    all_weaker (is_call_of n) (λ (e : Entry). nat_eq n e.actor || nat_eq n e.actor)
    (λ e h. or_left (nat_eq n e.actor) (nat_eq n e.actor) (own_actor n e.actor e.act h))
    es own

-- behind a turn of which an event came the session has another
turn_again : {r : Rules} {picks : List ℕ} {n : ℕ} {old new : State} {o : Turn} → is_did o ≡ true → IsTurn n old new o
    → UpTo r picks new (IsLast (turn_now old n (is_did o))) → AtTurn r picks n new
turn_again {r} {n = n} {old = old} {new = new} {o = o} d x u =
    stands_so (MayCome r.setting new.history n) u (record {
      first = λ e. absurd (not_first u.stands e);
      follows = λ a pick did at.
          subst (λ (v : TakenTurn). Follows r.setting new.history v (turn_at new.history n pick did))
          (same_Some (turn_now old n (is_did o)) a (sym u.stands ∙ at))
          (again d refl theirs);
    })
  where
    own : OwnCame n old.history new.history
    own = turn_came x

    theirs : list_all (λ (e : Entry). nat_eq n e.actor || nat_eq n e.actor)
        (drop (length old.history) (take (length new.history) new.history)) ≡ true
    theirs =
        theirs_since (λ (e : Entry). nat_eq n e.actor || nat_eq n e.actor) old.history own.own new.history own.is
        (own_theirs n own.own own.are)

-- behind one of which none came it is the next session's
turn_over : {r : Rules} {picks : List ℕ} {n : ℕ} {old new : State} {o : Turn} → is_did o ≡ false → IsTurn n old new o
    → UpTo r picks new (IsLast (turn_now old n (is_did o))) → Before r picks (suc n) new
turn_over {r} {n = n} {old = old} {new = new} {o = o} d x u =
    stands_so (IsBefore r.setting new.history (suc n)) u (record {
      may = record {
        first = λ e. absurd (not_first u.stands e);
        follows = λ a pick did at.
            subst (λ (v : TakenTurn). Follows r.setting new.history v (turn_at new.history (suc n) pick did))
            (is_that a at) (next d refl theirs);
      };
      ends = λ unborn a at.
          subst (λ (v : TakenTurn). EndsRound r.setting (take v.entries new.history) v) (is_that a at) (record {
            rested = d;
            last = ap (λ (h : List Entry). service_of r.setting (past_of r.setting h) (suc n)) whole ∙ unborn;
          });
    })
  where
    is_that : (a : TakenTurn) → IsLast a u.turns → turn_now old n (is_did o) ≡ a
    is_that a at = same_Some (turn_now old n (is_did o)) a (sym u.stands ∙ at)

    same : new.history ≡ old.history
    same = (idle_turn_same x d).0

    whole : take (length old.history) new.history ≡ new.history
    whole =
        take_all (length old.history) new.history
        (subst (λ (h : List Entry). length h ≤ length old.history) (sym same) (le_refl (length old.history)))

    theirs : list_all (λ (e : Entry). nat_eq n e.actor || nat_eq (suc n) e.actor)
        (drop (length old.history) (take (length new.history) new.history)) ≡ true
    theirs =
        theirs_since (λ (e : Entry). nat_eq n e.actor || nat_eq (suc n) e.actor) old.history [] new.history
        (same ∙ sym (append-nil old.history)) refl

-- all turns of session n, up to one that does nothing
turns_on : {r : Rules} {picks : List ℕ} {n : ℕ} {old new : State} {b : Bool} → Team old → AtTurn r picks n old
    → TurnsOf n old new b → Before r picks (suc n) new
turns_on team u (last_turn old new o d x) = turn_over d x (turn_on team u x)
turns_on team u (more_turns old mid new o b d x t rest) = turns_on t (turn_again d x (turn_on team u x)) rest

-- ---- a round

-- session n comes
comes_on : {r : Rules} {picks : List ℕ} {n : ℕ} {old new : State} → AtTurn r picks n old → Comes n old new
    → AtTurn r picks n new
comes_on {r} {picks} {n} u (is_there l e) = subst (AtTurn r picks n) (sym e) u
comes_on {r} {n = n} {old = old} {new = new} u (comes_now l a t) =
    let x : WentOn old new (adoption (length old.stands) a.service ∷ []) = by_adoption a in
    up_to_later (MayCome r.setting new.history n) u x
    (coe 1 0 (i. MayCome r.setting (x.history i) n u.turns)
    (may_come_later u.taken (adoption (length old.stands) a.service) (sym l) refl u.stands))

-- where session n was not born the round is over
round_ends : {r : Rules} {picks : List ℕ} {n : ℕ} {old : State} → Before r picks n old → n ≡ length old.stands
    → service_of old.setting (past_of old.setting old.history) (length old.stands) ≡ None → BehindRound r picks old
round_ends {r} {old = old} u l unborn =
    stands_so (AtEnd r.setting old.history) u
    (u.stands.ends
    (coe 0 1 (i. service_of (u.rules i).setting (past_of (u.rules i).setting old.history) (sym l i) ≡ None) unborn))

-- the sessions from n on have their turns
round_on : {r : Rules} {picks : List ℕ} {n : ℕ} {old new : State} {b : Bool} → Team old → Before r picks n old
    → RoundFrom n old new b → BehindRound r picks new
round_on {r} {picks} team u (round_over n old new l e) =
    subst (BehindRound r picks) (sym e.same) (round_ends u l e.unborn)
round_on {r} team u (next_session n old here mid new a b c turns rest) =
    let t : Team here = team_comes team c in
    round_on (team_turns t turns)
    (turns_on t (comes_on (stands_so (MayCome r.setting old.history n) u u.stands.may) c) turns) rest

-- ---- a course

pub course_on : {r : Rules} {picks : List ℕ} {old new : State} → BehindRound r picks old → Goes old new
    → BehindRound r picks new
course_on u stays = u
course_on {r} {picks} u (round mid new moved goes team received turns) =
    let v : BehindRound r picks mid = course_on u goes in
    round_on team
    (stands_so (IsBefore r.setting mid.history 0) v
    (before_round v.stands (coe 0 1 (i. outstanding (past_of (v.rules i).setting mid.history) ≡ []) received))) turns
course_on u (adopts mid new goes a) = behind_later (course_on u goes) (by_adoption a)
course_on u (works mid new more goes x each) = behind_later (course_on u goes) (by_stays x)

-- where a run begins: nothing happened, nobody was adopted, and these picks are left
abbrev pub begins : Rules → List ℕ → State
begins r picks = record { setting = r.setting; budget = r.budget; history = []; stands = []; picks = picks }

pub course_begins : (r : Rules) (picks : List ℕ) → BehindRound r picks (begins r picks)
course_begins r picks = record {
  rules = refl;
  turns = [];
  taken = taken_none r picks;
  left = refl;
  stands = λ a at. absurd (none-some a at);
}

-- what is sent of the turns of a whole course
pub course_took : {r : Rules} {picks : List ℕ} {s : State} → BehindRound r picks s
    → TookTurns r picks s.history (events_of s.stands)
course_took {s = s} u = record {
  turns = u.turns;
  had = λ i t at. (u.taken.had i t at).was;
  picked = u.taken.picked;
  rising = u.taken.rising;
  follows = u.taken.follows;
  first = u.taken.first;
  ends = u.stands;
  all = λ n events at.
      u.taken.all n
      ∙ ap (λ (es : List Event). length es) (get_or_from_slice_get (events_of s.stands) n events [] at);
}
