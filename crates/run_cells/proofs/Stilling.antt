-- What turns and adoptions make of stillness, and that none is left where nothing is left to do.
use Rattle.std.proofs.Common.{◌≡◌, ◌≢◌, ℕ, zero, suc, false, List, [], ◌∷◌, ◌++◌, length, Option, Some, option_map, refl, sym, ap, subst, ◌∙◌, le_refl}
use Rattle.std.specs.Prelude.{slice_get, slice_set}
use Rattle.std.proofs.lemmas.Bool.{false≢true, le-ltb}
use Rattle.std.proofs.lemmas.List.{length-map}
use Rattle.std.proofs.lemmas.Option.{none-some, slice_get-map}
use Rattle.behaviour_tree.specs.declared.words.Event.{Event}
use Rattle.office_core.specs.declared.history.Entry.{Entry}
use Rattle.office_core.specs.Limits.{Setting}
use Rattle.office_core.specs.Sessions.{was_adopted}
use Rattle.run_record.specs.Quiet.{IsStill}
use Rattle.session_turn.specs.declared.turn.Turn.{Turn}
use Rattle.run_quiet_laws.proofs.Quiet.{no_more}
use Rattle.run_quiet_laws.proofs.Still.{IsChanged, still_by_adoption, still_by_turn}
use Rattle.run_cells.specs.RunStates.{Stand, State, Team, events_of, moment_at, past_in}
use Rattle.run_cells.specs.Rounds.{IsQuietAt, IsStillAt}
use Rattle.run_cells.specs.Turns.{IsAdoption, IsTurn, Position, Turned, adoption, did, ended, idle, is_did, play, seat_of, spent, position}

-- ---- lists

set_here : {A : Type 0} (xs : List A) (n : ℕ) (x y : A) → slice_get xs n ≡ Some x
    → slice_get (slice_set xs n y) n ≡ Some y
set_here [] n x y h = absurd (none-some x h)
set_here (z ∷ xs) zero x y h = refl
set_here (z ∷ xs) (suc n) x y h = set_here xs n x y h

set_other : {A : Type 0} (xs : List A) (n t : ℕ) (y : A) → t ≢ n → slice_get (slice_set xs n y) t ≡ slice_get xs t
set_other [] n t y h = refl
set_other (z ∷ xs) zero zero y h = absurd (h refl)
set_other (z ∷ xs) zero (suc t) y h = refl
set_other (z ∷ xs) (suc n) zero y h = refl
set_other (z ∷ xs) (suc n) (suc t) y h = set_other xs n t y (λ e. h (ap suc e))

set_same : (xs : List Stand) (n : ℕ) (x : Stand) → slice_get xs n ≡ Some x → slice_set xs n x ≡ xs
set_same [] n x h = refl
set_same (z ∷ xs) zero x h = head_same h
  where
    head_same : ◌≡◌ {A = Option Stand} (Some z) (Some x) → ◌≡◌ {A = List Stand} (x ∷ xs) (z ∷ xs)
    head_same e = cc
set_same (z ∷ xs) (suc n) x h = ap (λ (ys : List Stand). z ∷ ys) (set_same xs n x h)

more_events : (xs : List Stand) (st : Stand) → events_of (xs ++ st ∷ []) ≡ events_of xs ++ st.events ∷ []
more_events [] st = refl
more_events (x ∷ xs) st = ap (λ (ys : List (List Event)). x.events ∷ ys) (more_events xs st)

pub event_at : (xs : List Stand) (n : ℕ) (st : Stand) → slice_get xs n ≡ Some st
    → slice_get (events_of xs) n ≡ Some st.events
event_at xs n st e = slice_get-map (λ (x : Stand). x.events) xs n ∙ ap (option_map (λ (x : Stand). x.events)) e

-- a session with one event more, among the others
changed_events : (xs : List Stand) (n : ℕ) (was now : Stand) (es : List Event) → slice_get xs n ≡ Some was
    → now.events ≡ es → IsChanged n es (events_of xs) (events_of (slice_set xs n now))
changed_events xs n was now es there e = record {
  here = event_at (slice_set xs n now) n now (set_here xs n was now there) ∙ ap (λ (ys : List Event). Some ys) e;
  others = λ t apart.
      slice_get-map (λ (x : Stand). x.events) (slice_set xs n now) t
      ∙ ap (option_map (λ (x : Stand). x.events)) (set_other xs n t now apart)
      ∙ sym (slice_get-map (λ (x : Stand). x.events) xs t);
}

-- the same of a state with the same things
still_same : (w w' : Setting) (b b' : ℕ) (h h' : List Entry) (ss ss' : List (List Event)) → w' ≡ w → b' ≡ b → h' ≡ h
    → ss' ≡ ss
    → IsStill w b h ss → IsStill w' b' h' ss'
still_same w w' b b' h h' ss ss' p q r t x =
    subst (λ (v : Setting). IsStill v b' h' ss') (sym p)
    (subst (λ (n : ℕ). IsStill w n h' ss') (sym q)
    (subst (λ (l : List Entry). IsStill w b l ss') (sym r)
    (subst (λ (l : List (List Event)). IsStill w b h l) (sym t) x)))

-- ---- adoptions

-- the next session was not adopted yet
pub next_unadopted : (s : State) → Team s → was_adopted (past_in s) (length s.stands) ≡ false
next_unadopted s team =
    team.adopted (length s.stands) ∙ le-ltb (length s.stands) (length s.stands) (le_refl (length s.stands))

pub adoption_still : {old new : State} → Team old → IsAdoption old new → IsStillAt old → IsStillAt new
adoption_still {old} {new} team a still =
    still_same old.setting new.setting old.budget new.budget
    (old.history ++ adoption (length old.stands) a.service ∷ []) new.history
    (events_of old.stands ++ [] ∷ []) (events_of new.stands) a.setting a.budget a.history
    (ap events_of a.stands ∙ more_events old.stands _)
    (still_by_adoption old.setting old.budget old.history (adoption (length old.stands) a.service)
    (events_of old.stands) (λ j. refl)
    (ap (was_adopted (past_in old)) (length-map old.stands (λ (st : Stand). st.events)) ∙ next_unadopted old team)
    still)

-- where nothing is left to do, no session is adopted
pub quiet_adopts_none : {old new : State} → Team old → IsQuietAt old → IsAdoption old new → ⊥
quiet_adopts_none {old} team quiet a =
    false≢true (sym (next_unadopted old team) ∙ quiet.adopted (length old.stands) a.service a.born)

-- ---- turns

-- a turn that does nothing leaves the history and the sessions
pub idle_turn_same : {n : ℕ} {old new : State} {t : Turn} → IsTurn n old new t → is_did t ≡ false
    → (new.history ≡ old.history) × (new.stands ≡ old.stands)
idle_turn_same {n} {old} {new} x none = go x.turned none
  where
    same : ◌≡◌ {A = Position} (position x.now new.history) (position x.was old.history)
        → (new.history ≡ old.history) × (new.stands ≡ old.stands)
    same e = (
      ap (λ (p : Position). p.history) e,
      x.stands ∙ ap (slice_set old.stands n) (ap (λ (p : Position). p.stand) e) ∙ set_same old.stands n x.was x.there,
    )

    go : {t : Turn} → Turned (play old n) (position x.was old.history) (position x.now new.history) t → is_did t ≡ false
        → (new.history ≡ old.history) × (new.stands ≡ old.stands)
    go (did event strands enabled first events within) e = absurd (false≢true (sym e))
    go (idle yet fewer strands enabled stood is) e = same is
    go (ended c at over is) e = same is
    go (spent yet all is) e = same is

pub turn_still : {n : ℕ} {old new : State} {t : Turn} → Team old → IsTurn n old new t → IsStillAt old → IsStillAt new
turn_still {n} {old} {new} team x still = go x.turned
  where
    as_before : ◌≡◌ {A = Position} (position x.now new.history) (position x.was old.history) → IsStillAt new
    as_before e =
        still_same old.setting new.setting old.budget new.budget old.history new.history (events_of old.stands)
        (events_of new.stands) x.setting x.budget (ap (λ (p : Position). p.history) e)
        (ap events_of
        (x.stands ∙ ap (slice_set old.stands n) (ap (λ (p : Position). p.stand) e) ∙ set_same old.stands n x.was x.there))
        still

    go : {t : Turn} → Turned (play old n) (position x.was old.history) (position x.now new.history) t → IsStillAt new
    go (did event strands enabled first events within) =
        still_same old.setting new.setting old.budget new.budget new.history new.history
        (events_of (slice_set old.stands n x.now)) (events_of new.stands) x.setting x.budget refl
        (ap events_of x.stands)
        (still_by_turn {a = seat_of (play old n)} {was = moment_at x.was old.history}
        {now = moment_at x.now new.history} refl (team.each n x.was x.there) first.happened
        (event_at old.stands n x.was x.there) within
        (changed_events old.stands n x.was x.now (x.was.events ++ event ∷ []) x.there events)
        still)
    go (idle yet fewer strands enabled stood is) = as_before is
    go (ended c at over is) = as_before is
    go (spent yet all is) = as_before is

-- where nothing is left to do, a turn does nothing
pub quiet_turn_idle : {n : ℕ} {old new : State} {t : Turn} → Team old → IsQuietAt old → IsTurn n old new t
    → is_did t ≡ false
quiet_turn_idle {n} {old} {new} team quiet x = go x.turned
  where
    go : {t : Turn} → Turned (play old n) (position x.was old.history) (position x.now new.history) t → is_did t ≡ false
    go (did event strands enabled first events within) =
        absurd
        (no_more {a = seat_of (play old n)} {old = moment_at x.was old.history}
        {new = moment_at x.now new.history} refl quiet
        (event_at old.stands n x.was x.there) within (team.each n x.was x.there) first.happened)
    go (idle yet fewer strands enabled stood is) = refl
    go (ended c at over is) = refl
    go (spent yet all is) = refl
