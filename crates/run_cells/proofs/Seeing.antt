-- What a look at a session tells of it.
use Rattle.std.proofs.Common.{◌≡◌, ◌↔◌, ◌≤◌, ◌<◌, ℕ, Bool, true, false, List, length, refl, sym, ap, subst, ◌∙◌, Some, arith, le_antisymm}
use Rattle.std.specs.Prelude.{Err, Ok, OnOk, Result, slice_get}
use Rattle.std.proofs.lemmas.Bool.{false≢true}
use Rattle.behaviour_tree.specs.declared.words.Event.{Event}
use Rattle.run_record.specs.Quiet.{CanAct}
use Rattle.session_turn.specs.Seen.{Seat}
use Rattle.session_turn.specs.Lives.{Kept, Moment}
use Rattle.session_turn.specs.Looks.{MayAct}
use Rattle.run_quiet_laws.proofs.Acting.{CannotAct, look_says}
use Rattle.run_cells.specs.RunStates.{Stand, State, Team}
use Rattle.run_cells.specs.Rounds.{CouldAct}
use Rattle.run_cells.proofs.Teams.{same_of}

-- it tells exactly whether the session can act
pub may_exact : {a : Seat} {es : List Event} {old new : Moment} {b : Bool} → a.alone ≡ true → Kept a es old
    → new.seen ≡ old.seen → new.config ≡ old.config → new.service ≡ old.service → MayAct a old new b
    → (b ≡ true) ↔ CanAct a.setting old.seen a.session es
may_exact {a} {es} {old} {new} {b} alone k seen config service m =
    let says = look_says {new = new} alone k seen config service m in
    (says.0, λ can. by b refl can says.1)
  where
    by : (q : Bool) → b ≡ q → CanAct a.setting old.seen a.session es
        → (b ≡ false → CannotAct a.setting old.seen a.session es) → b ≡ true
    by true e can cannot = e
    by false e can cannot = absurd (cannot e can)

-- a session that did not use its whole budget
pub unused : (s : State) (n : ℕ) (st : Stand) → slice_get s.stands n ≡ Some st → length st.events < s.budget
    → (false ≡ true) ↔ CouldAct s n
unused s n st there less = (
  λ e. absurd (false≢true e),
  λ x.
      let same : st ≡ x.stand = same_of st x.stand (sym there ∙ x.there) in
      let used : length st.events ≡ s.budget = ap (λ (y : Stand). length y.events) same ∙ x.used in
      absurd (omega arith),
)

-- one that did, by a look at it
pub used_all : (s : State) → Team s → (n : ℕ) (st : Stand) → slice_get s.stands n ≡ Some st → s.budget ≤ length st.events
    → {b : Bool} → (b ≡ true) ↔ CanAct s.setting s.history n st.events → (b ≡ true) ↔ CouldAct s n
used_all s team n st there all x = (
  λ e. record { stand = st; there = there; used = le_antisymm (team.within n st there) all; more = x.0 e },
  λ y. x.1 (subst (λ (z : Stand). CanAct s.setting s.history n z.events) (sym (same_of st y.stand (sym there ∙ y.there))) y.more),
)

-- what holds anyhow
pub on_any : {T E P : Type 0} (r : Result T E) → P → OnOk r P
on_any (Ok x) p = p
on_any (Err e) p = tt
