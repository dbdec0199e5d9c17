-- What a turn at the desk came to, by what it says of itself.
use Rattle.std.proofs.Common.{◌≡◌, ◌↔◌, ◌≤◌, ◌<◌, ℕ, Bool, true, false, List, [], ◌∷◌, ◌++◌, length, refl, sym, ap, subst, ◌∙◌, Option, Some, arith}
use Rattle.std.specs.Prelude.{IfOk, IfSome, Result, Ok, Err, nat_lt}
use Rattle.std.specs.declared.alloc.AllocError.{AllocError}
use Rattle.std.proofs.lemmas.Bool.{false≢true}
use Rattle.std.proofs.lemmas.Bool.Decides.{nat_tests}
use Rattle.behaviour_tree.specs.declared.words.Event.{Event}
use Rattle.session_calculus.specs.After.{Config}
use Rattle.session_turn.specs.Lives.{Moment}
use Rattle.session_turn.specs.Turns.{AreEnabled, FirstDone, NoneAllowed, from_pick}
use Rattle.session_turn.specs.declared.turn.Turn.{Turn}
use Rattle.session_turn.specs.declared.turn.Turn.TheVariants as turn
use Rattle.session_turn.proofs.Growing.{grew_alone}
use Rattle.run_cells.specs.RunStates.{moment_at}
use Rattle.run_cells.specs.Turns.{Play, Position, Turned, did, ended, idle, seat_of, spent}

-- a session that has ended, or used its budget
abbrev is_over : Result Turn AllocError → Bool
is_over r = elim r [
  | Ok t ↦ elim t [ turn.Did event ↦ false | turn.Idle ↦ false | turn.Ended ↦ true | turn.Spent ↦ true ]
  | Err e ↦ false
]

-- a turn is another
abbrev Same : Turn → Turn → Type 0
Same t u = ◌≡◌ {A = Result Turn AllocError} (Ok t) (Ok u)

module _ (p : Play) (old new : Position) where
  -- the same position
  same_position : moment_at new.stand new.history ≡ moment_at old.stand old.history
      → new.stand.events ≡ old.stand.events → new ≡ old
  same_position m e = λ i. record {
    stand = record { service = (m i).service; config = (m i).config; events = e i };
    history = (m i).seen;
  }

  same_idle : {strands : List ℕ}
      → NoneAllowed (seat_of p) (from_pick strands p.pick) (moment_at old.stand old.history) (moment_at new.stand new.history)
      → moment_at new.stand new.history ≡ moment_at old.stand old.history
  same_idle n = λ i. record { service = n.service i; config = n.config i; seen = grew_alone refl n.grew i }

  -- a session whose turn did not say that it has ended or used its budget has not, and may have one event more
  not_over : (t : Turn) (c : Config) → old.stand.config ≡ Some c → is_over (Ok t) ≡ false
      → IfSome old.stand.config (λ c. (Same t turn.Ended) ↔ (c.ended ≡ true))
      → IfSome old.stand.config (λ c. (Same t turn.Spent) ↔ ((p.budget ≤ length old.stand.events) × (c.ended ≡ false)))
      → (c.ended ≡ false) × (length old.stand.events < p.budget)
  not_over t c at neither ends spends = by c.ended (nat_lt (length old.stand.events) p.budget) refl refl
    where
      end_is : (Same t turn.Ended) ↔ (c.ended ≡ true)
      end_is = subst (λ (o : Option Config). IfSome o (λ c. (Same t turn.Ended) ↔ (c.ended ≡ true))) at ends

      spent_is : (Same t turn.Spent) ↔ ((p.budget ≤ length old.stand.events) × (c.ended ≡ false))
      spent_is = subst (λ (o : Option Config). IfSome o (λ c. (Same t turn.Spent) ↔ ((p.budget ≤ length old.stand.events) × (c.ended ≡ false)))) at spends

      by : (b l : Bool) → c.ended ≡ b → nat_lt (length old.stand.events) p.budget ≡ l
          → (c.ended ≡ false) × (length old.stand.events < p.budget)
      by true l e f = absurd (false≢true (sym neither ∙ ap is_over (end_is.1 e)))
      by false true e f = let fewer : length old.stand.events < p.budget = grind (arith, nat_tests) in (e, fewer)
      by false false e f =
          let most : p.budget ≤ length old.stand.events = grind (arith, nat_tests) in
          absurd (false≢true (sym neither ∙ ap is_over (spent_is.1 (most, e))))

  pub turned_by : (r : Result Turn AllocError) (c : Config) → old.stand.config ≡ Some c
      → ((event : Event) → r ≡ Ok (turn.Did event) → (strands : List ℕ)
      × AreEnabled (seat_of p) (moment_at old.stand old.history) strands
      × FirstDone (seat_of p) (from_pick strands p.pick) (moment_at old.stand old.history) (moment_at new.stand new.history) event
      × (new.stand.events ≡ old.stand.events ++ event ∷ []))
      → (r ≡ Ok turn.Idle → (strands : List ℕ)
      × AreEnabled (seat_of p) (moment_at old.stand old.history) strands
      × NoneAllowed (seat_of p) (from_pick strands p.pick) (moment_at old.stand old.history) (moment_at new.stand new.history)
      × (new.stand.events ≡ old.stand.events))
      → IfSome old.stand.config (λ c. (r ≡ Ok turn.Ended) ↔ (c.ended ≡ true))
      → IfSome old.stand.config (λ c. (r ≡ Ok turn.Spent) ↔ ((p.budget ≤ length old.stand.events) × (c.ended ≡ false)))
      → (r ≡ Ok turn.Ended → (moment_at new.stand new.history ≡ moment_at old.stand old.history) × (new.stand.events ≡ old.stand.events))
      → (r ≡ Ok turn.Spent → (moment_at new.stand new.history ≡ moment_at old.stand old.history) × (new.stand.events ≡ old.stand.events))
      → IfOk r (Turned p old new)
  turned_by (Err e) c at dids idles ends spends end rest = tt
  turned_by (Ok (turn.Did event)) c at dids idles ends spends end rest =
      let d = dids event refl in
      did event d.0 d.1 d.2 d.3 (not_over (turn.Did event) c at refl ends spends).1
  turned_by (Ok turn.Idle) c at dids idles ends spends end rest =
      let d = idles refl in
      let m : moment_at new.stand new.history ≡ moment_at old.stand old.history = same_idle d.2 in
      let yet : (c.ended ≡ false) × (length old.stand.events < p.budget)
      = not_over turn.Idle c at refl ends spends in
      idle (record { config = c; at = at; going = yet.0 }) yet.1 d.0 d.1
      (subst (λ (x : Moment). NoneAllowed (seat_of p) (from_pick d.0 p.pick) (moment_at old.stand old.history) x) m d.2)
      (same_position m d.3)
  turned_by (Ok turn.Ended) c at dids idles ends spends end rest =
      let d = end refl in
      let end_is : (Same turn.Ended turn.Ended) ↔ (c.ended ≡ true)
      = subst (λ (o : Option Config). IfSome o (λ c. (Same turn.Ended turn.Ended) ↔ (c.ended ≡ true))) at ends in
      ended c at (end_is.0 refl) (same_position d.0 d.1)
  turned_by (Ok turn.Spent) c at dids idles ends spends end rest =
      let d = rest refl in
      let spent_is : (Same turn.Spent turn.Spent) ↔ ((p.budget ≤ length old.stand.events) × (c.ended ≡ false))
      = subst (λ (o : Option Config). IfSome o (λ c. (Same turn.Spent turn.Spent) ↔ ((p.budget ≤ length old.stand.events) × (c.ended ≡ false)))) at spends in
      spent (record { config = c; at = at; going = (spent_is.0 refl).1 }) (spent_is.0 refl).0 (same_position d.0 d.1)
