-- Nothing is left to do: when that is so, and which entries leave it so.
use Rattle.std.proofs.Common.{◌≡◌, ◌⊎◌, ◌<◌, ℕ, true, false, List, [], ◌∷◌, ◌++◌, length, Some, inl, inr, sym, ◌∙◌, arith}
use Rattle.std.specs.Prelude.{slice_get}
use Rattle.behaviour_tree.specs.declared.words.Event.{Event}
use Rattle.office_core.specs.declared.history.Entry.{Entry}
use Rattle.office_core.specs.Limits.{Setting}
use Rattle.office_core.specs.Sessions.{service_of, was_adopted}
use Rattle.office_core.specs.Accepted.{past_of}
use Rattle.run_record.specs.Steps.{is_call_of}
use Rattle.run_record.specs.Quiet.{CanAct, IsQuiet, outstanding}
use Rattle.session_turn.specs.Seen.{Seat}
use Rattle.session_turn.specs.Lives.{Kept, Moment}
use Rattle.session_turn.specs.Turns.{Happened}
use Rattle.run_quiet_laws.proofs.Acting.{CannotAct, can_act, could_act}
use Rattle.run_quiet_laws.proofs.Aside.{Leaves, adopted_aside, births_aside, outstanding_aside}

-- Of so many sessions each that can act used its whole budget.
abbrev pub HaveDone : Setting → ℕ → List Entry → List (List Event) → Type 0
HaveDone w budget h ss = (s : ℕ) (es : List Event) → slice_get ss s ≡ Some es → CanAct w h s es → length es ≡ budget

-- that is what is asked of them where nothing is left to do
pub done_all : {w : Setting} {budget : ℕ} {h : List Entry} {ss : List (List Event)} → IsQuiet w budget h ss
    → HaveDone w budget h ss
done_all q s es there can = q.idle s es can.last there can.agrees can.acts

-- and all that is
pub quiet_by : {w : Setting} {budget : ℕ} {h : List Entry} {ss : List (List Event)}
    → ((s d : ℕ) → service_of w (past_of w h) s ≡ Some d → was_adopted (past_of w h) s ≡ true)
    → outstanding (past_of w h) ≡ [] → HaveDone w budget h ss
    → IsQuiet w budget h ss
quiet_by adopted received have = record {
  adopted = adopted;
  received = received;
  idle = λ s es last there agrees acts. have s es there (record { last = last; agrees = agrees; acts = acts });
}

-- Session s did what it could: it can not act, or used its whole budget.
abbrev pub IsIdle : Setting → ℕ → List Entry → ℕ → List Event → Type 0
IsIdle w budget h s es = CannotAct w h s es ⊎ (length es ≡ budget)

-- nothing is left to do where each session that was born was adopted, each call has its outcome, and each session did
-- what it could
pub quiet_at_end : (w : Setting) (budget : ℕ) (h : List Entry) (ss : List (List Event))
    → ((s d : ℕ) → service_of w (past_of w h) s ≡ Some d → was_adopted (past_of w h) s ≡ true)
    → outstanding (past_of w h) ≡ []
    → ((s : ℕ) (es : List Event) → slice_get ss s ≡ Some es → IsIdle w budget h s es)
    → IsQuiet w budget h ss
quiet_at_end w budget h ss adopted received idle =
    quiet_by adopted received (λ s es there can. used (idle s es there) can)
  where
    used : {s : ℕ} {es : List Event} → IsIdle w budget h s es → CanAct w h s es → length es ≡ budget
    used (inl not) can = absurd (not can)
    used (inr e) can = e

-- the entry is no call of these sessions
abbrev pub IsBeside : Entry → List (List Event) → Type 0
IsBeside e ss = (s : ℕ) (es : List Event) → slice_get ss s ≡ Some es → is_call_of s e ≡ false

-- an adoption, a collect, a fetch or a close leaves it so
pub quiet_by_answer : (w : Setting) (budget : ℕ) (h : List Entry) (e : Entry) (ss : List (List Event)) → Leaves e
    → IsBeside e ss → IsQuiet w budget h ss → IsQuiet w budget (h ++ e ∷ []) ss
quiet_by_answer w budget h e ss l beside q =
    quiet_by
    (λ s d born. adopted_aside w h l s (q.adopted s d (sym (births_aside w h l s) ∙ born)))
    (outstanding_aside w h l ∙ q.received)
    (λ s es there can. done_all q s es there (could_act l (beside s es there) can))

same_not : (m n : ℕ) → m ≡ n → m < n → ⊥
same_not m n e h = omega (arith, e, h)

-- where nothing is left to do, no event happens of a session that has budget left
pub no_more : {a : Seat} {es : List Event} {n budget : ℕ} {old new : Moment} {event : Event} {ss : List (List Event)}
    → a.alone ≡ true → IsQuiet a.setting budget old.seen ss → slice_get ss a.session ≡ Some es → length es < budget
    → Kept a es old → Happened a n old new event
    → ⊥
no_more {a} {es} {n} {budget} {old} {new} alone q there within k p =
    same_not (length es) budget (done_all q a.session es there (can_act {new = new} alone k p)) within
