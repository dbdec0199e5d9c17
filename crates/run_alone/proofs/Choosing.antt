-- What came of a turn of a session that is kept: the event that it chose, or why it rested.
use Rattle.std.proofs.Common.{◌≡◌, ◌⊎◌, ◌≤◌, ◌<◌, ℕ, ◌+◌, Bool, true, false, ◌↔◌, cond, List, [], ◌∷◌, ◌++◌, length, Some, inl, inr, refl, sym, ap, subst, ◌∙◌, true≢false}
use Rattle.std.specs.Prelude.{Contains, slice_get, unwrap_or}
use Rattle.std.proofs.lemmas.Bool.{false≢true, lt-ltb}
use Rattle.std.proofs.lemmas.List.{append-nil}
use Rattle.std.proofs.lemmas.Option.{slice_get_within}
use Rattle.behaviour_tree.specs.declared.words.Event.{Event}
use Rattle.session_calculus.specs.After.{HasEvent, after}
use Rattle.office_core.specs.declared.history.Entry.{Entry}
use Rattle.office_core.specs.Sessions.{was_adopted}
use Rattle.office_core.specs.Accepted.{past_of}
use Rattle.run_record.specs.Agrees.{IsSession}
use Rattle.run_record.specs.Quiet.{CanAct}
use Rattle.run_quiet_laws.proofs.Acting.{acted, ended_cannot_act, idle_cannot_act, passed_not}
use Rattle.run_quiet_laws.proofs.Once.{of_service, same_of}
use Rattle.session_turn.specs.declared.turn.Turn.{Turn}
use Rattle.session_turn.specs.Lives.{Kept, Moment}
use Rattle.session_turn.specs.Seen.{Seat}
use Rattle.session_turn.specs.Turns.{AreEnabled, FirstDone, from_pick}
use Rattle.session_turn.proofs.Agreeing.{agrees}
use Rattle.session_turn.proofs.Telling.{is_told}
use Rattle.run_cells.specs.RunStates.{State, Team, moment_at, seat_at}
use Rattle.run_cells.specs.Turns.{IsTurn, Position, Turned, is_did, play, position}
use Rattle.run_cells.specs.Turns.{did as was_did, ended as was_ended, idle as was_idle, spent as was_spent}
use Rattle.run_theorem.specs.Picks.{CanActBy, Chose, HasStrands, TakenTurn, strand_at}
use Rattle.run_alone.specs.Ran.{Rules}

-- ---- an event that was chosen

module _ {a : Seat} {es : List Event} {old new : Moment} {strands : List ℕ} {pick : ℕ} {event : Event}
    (alone : a.alone ≡ true) (k : Kept a es old) (enabled : AreEnabled a old strands)
    (first : FirstDone a (from_pick strands pick) old new event) where
  -- the strands that are enabled are those that have an event by what the record says
  has_strands : HasStrands a.setting old.seen a.session es strands
  has_strands =
      let x = agrees k in
      let service : x.2.service ≡ old.service = of_service k x.2 in
      let here : enabled.config ≡ x.0 = same_of (sym enabled.at ∙ x.1) in
      record {
        last = x.0;
        agrees = x.2;
        exact = λ n.
            coe 0 1 (i. Contains strands n ↔ HasEvent a.setting.parts (sym service i) (here i) n) (enabled.exact n);
        rising = enabled.rising;
      }

  -- by a strand that was passed the session can not act
  passed_cannot : (n : ℕ) → n < first.skipped
      → CanActBy a.setting old.seen a.session es (strand_at strands (pick + n)) → ⊥
  passed_cannot n less by =
      let y = by.0.acts in
      passed_not alone (first.passed n less) k.here k.at y.gift y.done
      (subst (λ (m : ℕ). after a.setting.parts old.service k.here m y.gift ≡ Some y.done) by.1 (acted k by.0))
      y.given

  -- the event is of the strand at which the turn stopped
  strand_is : event.strand ≡ strand_at strands (pick + first.skipped)
  strand_is =
      let p = first.happened in
      ap (λ (e : Event). e.strand) p.event_is
      ∙ (is_told a.setting.parts old.service p.config (strand_at strands (pick + first.skipped)) p.gift p.done p.after_is).strand

  pub chose_first : (entries : ℕ) (did : Bool)
      → Chose a.setting old.seen (record { session = a.session; pick = pick; entries = entries; did = did }) es event
  chose_first entries did = record {
    strands = strands;
    enabled = has_strands;
    passed = first.skipped;
    within = first.within;
    each = passed_cannot;
    is = strand_is;
  }

-- ---- a turn

-- what a run is under in a state
abbrev pub rules_at : State → Rules
rules_at s = record { setting = s.setting; budget = s.budget }

-- a turn of session n behind a history
abbrev pub turn_at : List Entry → ℕ → ℕ → Bool → TakenTurn
turn_at h n pick did = record { session = n; pick = pick; entries = length h; did = did }

-- a turn of session n in a state, with the next pick
abbrev pub turn_now : State → ℕ → Bool → TakenTurn
turn_now s n did = turn_at s.history n (unwrap_or (slice_get s.picks 0) 0) did

-- What came of a turn behind a history: one event more, which its session chose; or none, and why.
pub record CameOf (r : Rules) (h : List Entry) (t : TakenTurn) (was now : List Event) : Type 0 where
  pub more : List Event
  pub events : now ≡ was ++ more
  pub count : length more ≡ cond t.did 1 0
  pub adopted : was_adopted (past_of r.setting h) t.session ≡ true
  pub agreed : IsSession r.setting h t.session was
  pub chose : t.did ≡ true → (event : Event) × (more ≡ event ∷ []) × Chose r.setting h t was event
  pub rested : t.did ≡ false → (r.budget ≤ length was) ⊎ (CanAct r.setting h t.session was → ⊥)

pub came_of : {n : ℕ} {old new : State} {o : Turn} → Team old → (x : IsTurn n old new o)
    → CameOf (rules_at old) old.history (turn_now old n (is_did o)) x.was.events x.now.events
came_of {n} {old} {new} team x = go x.turned
  where
    kept : Kept (seat_at old.setting n) x.was.events (moment_at x.was old.history)
    kept = team.each n x.was x.there

    adopted : was_adopted (past_of old.setting old.history) n ≡ true
    adopted = team.adopted n ∙ lt-ltb n (length old.stands) (slice_get_within old.stands n x.was x.there)

    agreed : IsSession old.setting old.history n x.was.events
    agreed =
        let y = agrees kept in
        (y.0, y.2)

    none : ◌≡◌ {A = Position} (position x.now new.history) (position x.was old.history)
        → (old.budget ≤ length x.was.events) ⊎ (CanAct old.setting old.history n x.was.events → ⊥)
        → CameOf (rules_at old) old.history (turn_now old n false) x.was.events x.now.events
    none same why = record {
      more = [];
      events = ap (λ (p : Position). p.stand.events) same ∙ sym (append-nil x.was.events);
      count = refl;
      adopted = adopted;
      agreed = agreed;
      chose = λ e. absurd (false≢true e);
      rested = λ e. why;
    }

    go : {o : Turn} → Turned (play old n) (position x.was old.history) (position x.now new.history) o
        → CameOf (rules_at old) old.history (turn_now old n (is_did o)) x.was.events x.now.events
    go (was_did event strands enabled first events within) = record {
      more = event ∷ [];
      events = events;
      count = refl;
      adopted = adopted;
      agreed = agreed;
      chose = λ e. (event, refl, chose_first refl kept enabled first (length old.history) true);
      rested = λ e. absurd (true≢false e);
    }
    go (was_idle yet fewer strands enabled stood same) = none same (inr (idle_cannot_act refl kept enabled stood))
    go (was_ended c at over same) = none same (inr (ended_cannot_act kept at over))
    go (was_spent yet all same) = none same (inl all)
