-- A connection stands as ended only behind a read that told the end of what comes in.
use Rattle.std.proofs.Common.{◌≡◌, ℕ, ◌==◌, inl, inr, Bool, true, false, not, ◌&&◌, ◌||◌, List, Result, Ok, Err, MatchResult, sym, refl, ap, ◌∙◌, subst}
use Rattle.std.specs.Prelude.{Option}
use Rattle.http_connection.specs.declared.stage.Stage.{Stage}
use Rattle.http_connection.specs.declared.stage.Stage.TheVariants as Stages
use Rattle.http_connection.specs.declared.stage.Ending.TheVariants as Ends
use Rattle.http_connection.specs.declared.stage.Standing.{Standing}
use Rattle.http_connection.specs.declared.stage.Standing.TheVariants as Stands
use Rattle.http_connection.specs.Stages.{stage_of, MayBeAsked, IsBehindTelling}
use Rattle.outside_traits.specs.Told.{WireTold}
use Rattle.http_connection.specs.Seen.{Seen}
use Rattle.http_connection.specs.Talking.{WireTells, IsTalking}
use Rattle.http_connection.specs.Steps.{HandsOut}

-- ---- what has not ended

pub spent_unended : (next : Standing) → next ≡ Stands.Spent → stage_of next ≡ Stages.Ended → ⊥
spent_unended next e ended = let clash : Stages.Spent ≡ Stages.Ended = sym (ap stage_of e) ∙ ended in cc

pub waiting_unended : (next : Standing) → next ≡ Stands.Waits → stage_of next ≡ Stages.Ended → ⊥
waiting_unended next e ended = let clash : Stages.Reads ≡ Stages.Ended = sym (ap stage_of e) ∙ ended in cc

pub failed_unended : (next : Standing) → next ≡ Stands.Over Ends.ReadFailed → stage_of next ≡ Stages.Ended → ⊥
failed_unended next e ended = let clash : Stages.ReadFailed ≡ Stages.Ended = sym (ap stage_of e) ∙ ended in cc

pub asked_unended : (stage : Stage) → MayBeAsked stage → stage ≡ Stages.Ended → ⊥
asked_unended stage may ended = elim may [
  | inl reads ↦ (let clash : Stages.Reads ≡ Stages.Ended = sym reads ∙ ended in cc)
  | inr spent ↦ (let clash : Stages.Spent ≡ Stages.Ended = sym spent ∙ ended in cc)
]

pub behind_unended : (stage : Stage) → IsBehindTelling stage → stage ≡ Stages.Ended → ⊥
behind_unended stage behind ended = elim behind [
  | inl reads ↦ (let clash : Stages.Reads ≡ Stages.Ended = sym reads ∙ ended in cc)
  | inr over ↦ elim over [
    | inl closed ↦ (let clash : Stages.Closed ≡ Stages.Ended = sym closed ∙ ended in cc)
    | inr cut ↦ (let clash : Stages.WriteFailed ≡ Stages.Ended = sym cut ∙ ended in cc)
  ]
]

pub going_unended : {T E : Type 0} (r : Result T E) (next : Standing)
    → MatchResult r (λ _. IsBehindTelling (stage_of next)) (λ _. next ≡ Stands.Spent) → stage_of next ≡ Stages.Ended → ⊥
going_unended (Ok x) next behind ended = behind_unended (stage_of next) behind ended
going_unended (Err e) next spent ended = spent_unended next spent ended

-- ---- what had ended before

-- a connection that has ended behind what is handed out had ended
pub ended_before : {E : Type 0} (was now : Standing) (result : Result (Option (List ℕ)) E) → HandsOut was result now → stage_of now ≡ Stages.Ended
    → stage_of was ≡ Stages.Ended
ended_before Stands.Waits now result h ended = absurd h
ended_before (Stands.Holds body close) now result h ended =
    let clash : Stages.Owes ≡ Stages.Ended = sym (ap stage_of h.1) ∙ ended in cc
ended_before (Stands.Owes close) now result h ended = absurd h
ended_before (Stands.Over ending) now result h ended = sym (ap stage_of h.1) ∙ ended
ended_before Stands.Spent now result h ended = absurd (spent_unended now h.1 ended)

-- ---- a read

-- the wire of a connection that waits is open where it was open at first
waiting_open : (first : WireTold) (now : Seen) (bodies : List (List ℕ)) (texts : List (Option (List ℕ))) → IsTalking first now bodies texts
    → now.kept.next ≡ Stands.Waits → first.closed ≡ false → now.line.closed ≡ false
waiting_open first now bodies texts t e is_open =
    (subst (λ n. WireTells (stage_of n) first now.kept.read.items now.line) e t.wire).closed ∙ is_open

or_true : (b : Bool) → b || true ≡ true
or_true true = refl
or_true false = refl

-- it gave none, though there was room
pub read_tells : (first : WireTold) (now : Seen) (bodies : List (List ℕ)) (texts : List (Option (List ℕ))) → IsTalking first now bodies texts
    → now.kept.next ≡ Stands.Waits → first.closed ≡ false → (before after : Bool) (room count : ℕ)
    → after ≡ (before || (not now.line.closed && (not (room == 0) && (count == 0)))) → room == 0 ≡ false → count ≡ 0 → after ≡ true
read_tells first now bodies texts t e is_open before after room count told some none =
    told
    ∙ ap (λ closed. before || (not closed && (not (room == 0) && (count == 0)))) (waiting_open first now bodies texts t e is_open)
    ∙ ap (λ is_empty. before || (not is_empty && (count == 0))) some
    ∙ ap (λ n. before || (n == 0)) none
    ∙ or_true before
