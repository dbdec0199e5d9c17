-- What a turn promises, of what the search for an allowed event gave.
use Rattle.std.proofs.Common.{◌≡◌, ℕ, true, false, List, [], ◌∷◌, ◌++◌, Option, Some, None, refl, sym, subst}
use Rattle.std.specs.Prelude.{IfSome, Contains, ◌↔◌}
use Rattle.std.specs.List.Sorted.{IsStrictlyIncreasing}
use Rattle.std.proofs.lemmas.Bool.{false≢true}
use Rattle.behaviour_tree.specs.declared.words.Event.{Event}
use Rattle.behaviour_tree.specs.Data.{ProgramParts}
use Rattle.session_calculus.specs.After.{Config, HasEvent}
use Rattle.office_core.specs.declared.history.Entry.{Entry}
use Rattle.office_core.specs.Limits.{run_of}
use Rattle.session_turn.specs.Seen.{Office, Seat, seat}
use Rattle.session_turn.specs.Lives.{Moment, moment}
use Rattle.session_turn.specs.Turns.{AreEnabled, FirstDone, from_pick}
use Rattle.session_turn.proofs.Giving.{parts_same}

enabled_of_some : (o : Office) (parts : ProgramParts) (number service : ℕ) (config : Option Config) (seen : List Entry)
    (xs ys : List ℕ)
    → o.setting ≡ run_of parts → ys ≡ xs → (config ≡ None → false ≡ true)
    → IfSome config (λ c. (n : ℕ) → Contains xs n ↔ HasEvent parts service c n)
    → IsStrictlyIncreasing xs
    → AreEnabled (seat o number) (moment service config seen) ys
enabled_of_some o parts number service None seen xs ys w q f e r = absurd (false≢true (f refl))
enabled_of_some o parts number service (Some c) seen xs ys w q f e r =
    subst (AreEnabled (seat o number) (moment service (Some c) seen)) (sym q)
    (record {
      config = c;
      at = refl;
      exact = subst (λ (p : ProgramParts). (n : ℕ) → Contains xs n ↔ HasEvent p service c n) (sym (parts_same o.setting parts w)) e;
      rising = r;
    })

-- the strands that a session says to be enabled
pub enabled_of : {o : Office} {parts : ProgramParts} {number service : ℕ} {config : Option Config} {seen : List Entry}
    {xs ys : List ℕ}
    → o.setting ≡ run_of parts → ys ≡ xs → (config ≡ None → false ≡ true)
    → IfSome config (λ c. (n : ℕ) → Contains xs n ↔ HasEvent parts service c n)
    → IsStrictlyIncreasing xs
    → AreEnabled (seat o number) (moment service config seen) ys
enabled_of {o} {parts} {number} {service} {config} {seen} {xs} {ys} =
    enabled_of_some o parts number service config seen xs ys

-- what was done is told with the event
pub did_event : {a : Seat} {old new : Moment} {strands : List ℕ} {pick : ℕ} (es es' : List Event) {event : Event}
    → AreEnabled a old strands → FirstDone a (from_pick strands pick) old new event
    → es' ≡ es ++ event ∷ []
    → (event' : Event) → event ≡ event'
    → (x : List ℕ) × AreEnabled a old x × FirstDone a (from_pick x pick) old new event' × (es' ≡ es ++ event' ∷ [])
did_event {a} {old} {new} {strands} {pick} es es' e f g event' q =
    subst
    (λ (v : Event). (x : List ℕ) × AreEnabled a old x × FirstDone a (from_pick x pick) old new v × (es' ≡ es ++ v ∷ [])) q
    (strands, e, f, g)
