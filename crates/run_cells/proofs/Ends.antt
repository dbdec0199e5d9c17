-- What a team is: few sessions, that agree with the history and keep to the budget.
use Rattle.std.proofs.Common.{◌≡◌, ◌↔◌, ◌≤◌, ◌<◌, ℕ, zero, suc, Bool, true, false, List, [], length, None, Some, refl, sym, ap, subst, ◌∙◌, zero-le, le_refl, le_trans}
use Rattle.std.specs.Prelude.{nat_lt, slice_get}
use Rattle.std.proofs.lemmas.Bool.{false≢true}
use Rattle.std.proofs.lemmas.List.{length-map}
use Rattle.std.proofs.lemmas.Option.{slice_get-get_or, slice_get_within}
use Rattle.behaviour_tree.specs.declared.words.Event.{Event}
use Rattle.office_core.specs.Limits.{first_worker}
use Rattle.office_core.specs.Sessions.{births}
use Rattle.run_record.specs.Agrees.{HasSessions, IsSession}
use Rattle.run_record.specs.Quiet.{CanAct}
use Rattle.session_turn.proofs.Walking.{born_here}
use Rattle.run_quiet_laws.proofs.Cutting.{MadeAll, made_all}
use Rattle.run_quiet_laws.proofs.Ending.{Looked, found, found_none}
use Rattle.run_quiet_laws.proofs.Finished.{CameThrough}
use Rattle.run_quiet_laws.proofs.Sessions.{has_sessions, is_session}
use Rattle.run_quiet_laws.proofs.Still.{HaveMadeAll}
use Rattle.run_quiet_laws.proofs.Within.{births_within}
use Rattle.run_cells.specs.RunStates.{Stand, State, Team, events_of, past_in}
use Rattle.run_cells.specs.Rounds.{CouldAct, HasSpent, IsQuietAt, IsStillAt}
use Rattle.run_cells.proofs.Resting.{all_adopted, stands_at}
use Rattle.run_cells.proofs.Stilling.{event_at}

least_by : (m n : ℕ) → ((s : ℕ) → s < m → s < n) → m ≤ n
least_by zero n f = zero-le
least_by (suc k) n f = f k (le_refl (suc k))

-- no stand is where none is
nobody : Stand
nobody = record { service = 0; config = None; events = [] }

module _ (s : State) (team : Team s) where
  -- all that stand were born
  pub stand_born : length s.stands ≤ length (births s.setting (past_in s))
  stand_born =
      least_by (length s.stands) (length (births s.setting (past_in s)))
      (λ n within.
      slice_get_within (births s.setting (past_in s)) n _
      (born_here (team.each n _ (slice_get-get_or s.stands n nobody within)).lives))

  -- so they are few
  pub few : s.setting.limits.sessions ≤ first_worker → length (events_of s.stands) ≤ first_worker
  few limit =
      subst (λ n. n ≤ first_worker) (sym (length-map s.stands (λ (st : Stand). st.events)))
      (le_trans stand_born (le_trans (births_within s.setting s.history) limit))

  -- each agrees with the history
  pub sessions_agree : (n : ℕ) (es : List Event) → slice_get (events_of s.stands) n ≡ Some es
      → IsSession s.setting s.history n es
  sessions_agree n es e =
      let x = stands_at s.stands n es e in
      subst (λ (events : List Event). IsSession s.setting s.history n events) x.events
      (is_session (team.each n x.stand x.there))

  -- and made all calls that the history has of it
  pub made_calls : HaveMadeAll s.setting s.history (events_of s.stands)
  made_calls n es e =
      let x = stands_at s.stands n es e in
      subst (λ (events : List Event). MadeAll s.setting s.history n events) x.events
      (made_all (team.each n x.stand x.there))

  pub keep_within : (n : ℕ) (es : List Event) → slice_get (events_of s.stands) n ≡ Some es → length es ≤ s.budget
  keep_within n es e =
      let x = stands_at s.stands n es e in
      subst (λ (events : List Event). length events ≤ s.budget) x.events (team.within n x.stand x.there)

  -- where all that were born stand, the history has its sessions
  pub sessions_all : length (births s.setting (past_in s)) ≤ length s.stands
      → HasSessions s.setting s.history (events_of s.stands)
  sessions_all all =
      has_sessions s.setting s.history (events_of s.stands) (all_adopted s team all)
      (λ n. team.adopted n ∙ ap (nat_lt n) (sym (length-map s.stands (λ (st : Stand). st.events))))
      sessions_agree

  -- it came through
  pub came_through : {notes_failed : Bool} → s.setting.limits.sessions ≤ first_worker
      → length (births s.setting (past_in s)) ≤ length s.stands
      → (notes_failed ≡ false → IsQuietAt s) → IsStillAt s
      → CameThrough s.setting s.budget notes_failed s.history (events_of s.stands)
  came_through limit all quiet still = record {
    few = few limit;
    sessions = sessions_all all;
    within = keep_within;
    quiet = quiet;
    still = still;
  }

-- what a look at those that used their whole budgets found
pub looked_by : (s : State) (spent : Bool) → ((spent ≡ true) ↔ HasSpent s)
    → Looked s.setting s.budget s.history (events_of s.stands) spent
looked_by s true h =
    let x = h.0 refl in
    found x.session x.could.stand.events
    (event_at s.stands x.session x.could.stand x.could.there) x.could.used x.could.more
looked_by s false h =
    found_none
    (λ n es e used can.
    let y = stands_at s.stands n es e in
    false≢true (h.1 (record {
      session = n;
      could = record {
        stand = y.stand;
        there = y.there;
        used = ap (λ (xs : List Event). length xs) y.events ∙ used;
        more = subst (λ (xs : List Event). CanAct s.setting s.history n xs) (sym y.events) can;
      };
    })))
