-- These definitions serve the proofs of runs: no promise of the program speaks of them.
-- What passes with a front when postings are told.
use Rattle.std.specs.Prelude.{◌≡◌, true, false, List, [], ◌∷◌, ◌++◌, nat_eq, Some, slice_get}
use Rattle.std.specs.List.{list_any}
use Rattle.office_core.specs.declared.front.Posting.{Posting}
use Rattle.run_theorem.specs.Exchange.{Told, Exchange}
use Rattle.run_theorem.specs.Calls.{After, Fit, Halts, IsDue, Tells}
use Rattle.run_posts.specs.CallStates.{Wait, is_finished, outcomes_in}

-- A posting was given and not told, and the outcomes, once all are known, are those of its calls.
pub record IsExpected (x : Wait) (d : Exchange) : Type 0 where
  pub posting : Posting
  pub given : slice_get d.received.given x.place ≡ Some posting
  pub fit : is_finished x ≡ true → Fit posting.calls (outcomes_in x.call_states)
  pub untold : list_any (λ (t : Told). nat_eq x.place t.place) d.sent.told ≡ false

-- each of these postings is expected, and stands there once
abbrev pub AreExpected : List Wait → Exchange → Type 0
AreExpected [] d = Unit {0}
AreExpected (x ∷ xs) d =
    IsExpected x d × (list_any (λ (y : Wait). nat_eq x.place y.place) xs ≡ false) × AreExpected xs d

-- These postings are told, in order, and nothing else passes, but for notes that have no text.
pub record TellsAll (ts : List Told) (before now : Exchange) : Type 0 where
  pub told : now.sent.told ≡ before.sent.told ++ ts
  pub noted : now.sent.noted ≡ before.sent.noted
  pub notes_failed : now.sent.notes_failed ≡ before.sent.notes_failed
  pub halts : Halts before.sent now.sent
  pub received : now.received ≡ before.received

-- the first of these postings are told, in order, and nothing else passes, but for notes that have no text
abbrev pub TellsSome : List Told → Exchange → Exchange → Type 0
TellsSome ts before now = (sent rest : List Told) × (sent ++ rest ≡ ts) × TellsAll sent before now

-- whatever may have passed between a front and its run before these postings were told, this passed since
abbrev pub TellsOn : {F : Type 0} → (F → F → Exchange → Type 0) → F → F → List Wait → (Exchange → Exchange → Type 0)
    → Type 0
TellsOn {F} exchanged old now xs Passes =
    (first : F) (before : Exchange) → exchanged first old before → AreExpected xs before
    → After (exchanged first now) (Passes before)

-- a posting that is due is told
abbrev pub Answers : {F : Type 0} → (F → F → Exchange → Type 0) → F → F → Wait → Type 0
Answers {F} exchanged old now x =
    (first : F) (before : Exchange) → exchanged first old before → IsDue x.place (outcomes_in x.call_states) before
    → After (exchanged first now) (Tells x.place (outcomes_in x.call_states) before)

-- or it is not, and nothing passes
abbrev pub AnswersNone : {F : Type 0} → (F → F → Exchange → Type 0) → F → F → Wait → Type 0
AnswersNone {F} exchanged old now x =
    (first : F) (before : Exchange) → exchanged first old before → IsDue x.place (outcomes_in x.call_states) before
    → exchanged first now before
