-- A team at rest has nothing left to do, once each call has its outcome.
use Rattle.std.proofs.Common.{◌≡◌, ◌≤◌, ℕ, true, List, [], length, map, Option, None, Some, option_map, inl, inr, refl, sym, ap, subst, ◌∙◌, lt_of_lt_of_le, le_antisymm}
use Rattle.std.specs.Prelude.{slice_get}
use Rattle.std.proofs.lemmas.Bool.{lt-ltb}
use Rattle.std.proofs.lemmas.Option.{none-some, slice_get-map, slice_get_within}
use Rattle.behaviour_tree.specs.declared.words.Event.{Event}
use Rattle.behaviour_tree.specs.declared.words.Need.{Need}
use Rattle.office_core.specs.declared.history.Entry.{Entry}
use Rattle.office_core.specs.Sessions.{births, service_of, was_adopted}
use Rattle.office_core.specs.Accepted.{past_of}
use Rattle.run_record.specs.Quiet.{IsQuiet, is_given, outstanding}
use Rattle.run_quiet_laws.proofs.Acting.{ended_cannot_act}
use Rattle.run_quiet_laws.proofs.Once.{same_of}
use Rattle.run_quiet_laws.proofs.Quiet.{IsIdle, quiet_at_end}
use Rattle.run_quiet_laws.proofs.Since.{given_before, idle_since}
use Rattle.run_cells.specs.RunStates.{Rests, Stand, State, Team, ended, events_of, idle, moment_at, past_in, spent}
use Rattle.run_cells.specs.Rounds.{IsAtRest, IsResting, OnlyAdoptions}

-- Session n stands so, and these are its events.
pub record StandsAt (stands : List Stand) (n : ℕ) (es : List Event) : Type 0 where
  pub stand : Stand
  pub there : slice_get stands n ≡ Some stand
  pub events : stand.events ≡ es

pub stands_at : (stands : List Stand) (n : ℕ) (es : List Event) → slice_get (events_of stands) n ≡ Some es
    → StandsAt stands n es
stands_at stands n es e =
    go (slice_get stands n) refl (sym (slice_get-map (λ (st : Stand). st.events) stands n) ∙ e)
  where
    go : (o : Option Stand) → slice_get stands n ≡ o → option_map (λ (st : Stand). st.events) o ≡ Some es
        → StandsAt stands n es
    go None there f = absurd (none-some es f)
    go (Some st) there f = record { stand = st; there = there; events = same_of f }

module _ (s : State) (team : Team s) where
  -- where all that were born stand, they were adopted
  pub all_adopted : length (births s.setting (past_in s)) ≤ length s.stands → (n d : ℕ)
      → service_of s.setting (past_in s) n ≡ Some d → was_adopted (past_in s) n ≡ true
  all_adopted all n d born =
      team.adopted n
      ∙ lt-ltb n (length s.stands)
      (lt_of_lt_of_le (slice_get_within (births s.setting (past_in s)) n d born) all)

  -- a session that rests did what it could
  pub rested : (n : ℕ) (st : Stand) → slice_get s.stands n ≡ Some st → IsResting s n st
      → IsIdle s.setting s.budget s.history n st.events
  rested n st there r = go r.rests
    where
      same : (need : Need)
          → is_given s.setting (past_in s) n need ≡ is_given s.setting (past_of s.setting r.seen) n need
      same need =
          ap (λ (h : List Entry). is_given s.setting (past_of s.setting h) n need) r.since.is
          ∙ given_before s.setting r.seen n need r.since.adoptions r.since.only

      go : Rests s n st r.seen → IsIdle s.setting s.budget s.history n st.events
      go (ended over) = inl (ended_cannot_act (team.each n st there) over.at over.ended)
      go (spent yet all) = inr (le_antisymm (team.within n st there) all)
      go (idle yet fewer strands pick enabled none) =
          inl
          (idle_since {old = moment_at st r.seen} {new = moment_at st r.seen} refl (team.each n st there) refl refl
          enabled none same)

  -- where each rests and each call has its outcome, nothing is left to do
  pub rests_quiet : IsAtRest s → outstanding (past_in s) ≡ [] → IsQuiet s.setting s.budget s.history (events_of s.stands)
  rests_quiet rest received =
      quiet_at_end s.setting s.budget s.history (events_of s.stands) (all_adopted rest.born) received
      (λ n es e.
      let x = stands_at s.stands n es e in
      subst (λ (events : List Event). IsIdle s.setting s.budget s.history n events) x.events
      (rested n x.stand x.there (rest.each n x.stand x.there)))
