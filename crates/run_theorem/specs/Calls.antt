-- What passes in each call of a front.
use Rattle.std.specs.Prelude.{◌≡◌, ◌⊎◌, ℕ, suc, ◌<◌, ◌≤◌, Bool, true, false, List, [], ◌∷◌, ◌++◌, length, count_by}
use Rattle.std.specs.Prelude.{nat_eq, nat_lt, Option, None, Some, slice_get}
use Rattle.std.specs.List.{list_all, list_any}
use Rattle.outside_traits.specs.Causes.{Rose}
use Rattle.behaviour_tree.specs.Data.{ProgramParts}
use Rattle.behaviour_tree.specs.declared.words.Outcome.{Outcome}
use Rattle.office_core.specs.declared.front.CallIn.{CallIn}
use Rattle.office_core.specs.declared.front.CallIn.TheVariants as call
use Rattle.office_core.specs.declared.front.Posting.{Posting}
use Rattle.run_theorem.specs.declared.front.Next.{Next}
use Rattle.run_theorem.specs.declared.front.Next.TheVariants as next
use Rattle.run_theorem.specs.Exchange.{Asked, Received, Told, Sent, Exchange}

-- the most postings of a front
abbrev pub most_postings : ℕ
most_postings = 4294967295

-- something passed then, and it is what was to pass
abbrev pub After : (Exchange → Type 0) → (Exchange → Type 0) → Type 0
After IsSo Passes = (now : Exchange) × IsSo now × Passes now

-- ---- a posting is asked for

-- a call that is to be posted names a service of the program
abbrev pub names_service : ProgramParts → CallIn → Bool
names_service parts (call.Post q) = nat_lt q.service (length parts.services)
names_service parts (call.Answered o) = true

-- a request is of that traffic
abbrev pub is_of : ℕ → Asked → Bool
is_of traffic a = nat_eq traffic a.traffic

-- what is left may be told no more only where what is read failed
abbrev pub NoLongerTold : Received → Received → Type 0
NoLongerTold before now = (now.left ≡ None) × Rose before.faults now.faults

-- of what is told to be left the posting is the first, and the others stay
abbrev pub Leaves : Posting → Option (List Posting) → Received → Received → Type 0
Leaves p None before now = now.left ≡ None
Leaves p (Some ps) before now =
    ((rest : List Posting) × (ps ≡ p ∷ rest) × (now.left ≡ Some rest)) ⊎ NoLongerTold before now

-- It gives a posting, which is the next request of someone, and calls services of the program alone.
pub record Gives (parts : ProgramParts) (p : Posting) (before now : Received) : Type 0 where
  pub given : now.given ≡ before.given ++ p ∷ []
  pub within : length now.given ≤ most_postings
  pub whose : Asked
  pub asked : now.asked ≡ before.asked ++ whose ∷ []
  pub request : whose.request ≡ count_by (is_of whose.traffic) before.asked
  pub services : list_all (names_service parts) p.calls ≡ true
  pub left : Leaves p before.left before now
  pub waits : now.waits ≡ 0
  pub moves : now.moves ≡ before.moves
  pub ended : now.ended ≡ false
  pub faults : before.faults ≤ now.faults
  pub seens : now.seens ≡ before.seens ++ now.seen ∷ []

-- It gives none.
pub record GivesNone (before now : Received) : Type 0 where
  pub given : now.given ≡ before.given
  pub asked : now.asked ≡ before.asked
  pub left : (now.left ≡ before.left) ⊎ NoLongerTold before now
  pub faults : before.faults ≤ now.faults
  pub seens : now.seens ≡ before.seens

-- It has none yet, and something moved.
pub record Moves (before now : Received) : Type 0 where
  pub none : GivesNone before now
  pub waits : now.waits ≡ 0
  pub moves : now.moves ≡ suc before.moves
  pub ended : now.ended ≡ false

-- It has none yet, and nothing moved, once more in a row.
pub record Waits (before now : Received) : Type 0 where
  pub none : GivesNone before now
  pub waits : now.waits ≡ suc before.waits
  pub moves : now.moves ≡ before.moves
  pub ended : now.ended ≡ false

-- why there is no posting any more: of those that are told none is left, what is read failed, or there were the most
pub data IsOver (before now : Received) : Type 0 where
  none_left : ((ps : List Posting) → before.left ≡ Some ps → ps ≡ []) → IsOver before now
  failed : Rose before.faults now.faults → IsOver before now
  most : most_postings ≤ length before.given → IsOver before now

-- It has none any more.
pub record Ends (before now : Received) : Type 0 where
  pub none : GivesNone before now
  pub over : IsOver before now
  pub waits : now.waits ≡ 0
  pub moves : now.moves ≡ before.moves
  pub ended : now.ended ≡ true

-- what came: a posting, none yet while something moved or nothing did, or none any more
abbrev pub Came : ProgramParts → Next → Received → Received → Type 0
Came parts (next.Posting p) before now = Gives parts p before now
Came parts next.Moved before now = Moves before now
Came parts next.NotYet before now = Waits before now
Came parts next.End before now = Ends before now

-- Where it found nothing when it was asked last, nothing was told since.
abbrev pub IsQuiet : Exchange → Type 0
IsQuiet d = 0 < d.received.waits → d.received.seen ≡ length d.sent.told

-- A posting is asked for, and nothing is sent.
pub record Asks (parts : ProgramParts) (which : Next) (before now : Exchange) : Type 0 where
  pub came : Came parts which before.received now.received
  pub silent : now.sent ≡ before.sent
  pub seen : now.received.seen ≡ length before.sent.told
  pub noted : now.received.noted ≡ before.sent.noted

-- ---- something is sent

-- the outcome of a call that was answered before it could be posted is that answer
abbrev pub IsOutcome : CallIn → Outcome → Type 0
IsOutcome (call.Post q) o = Unit {0}
IsOutcome (call.Answered answer) o = o ≡ answer

-- each call has its outcome, in order
abbrev pub Fit : List CallIn → List Outcome → Type 0
Fit [] [] = Unit {0}
Fit [] (o ∷ os) = ⊥
Fit (c ∷ cs) [] = ⊥
Fit (c ∷ cs) (o ∷ os) = IsOutcome c o × Fit cs os

-- The posting of a place was given, nothing was told of it, and the outcomes are those of its calls.
pub record IsDue (place : ℕ) (outcomes : List Outcome) (d : Exchange) : Type 0 where
  pub posting : Posting
  pub given : slice_get d.received.given place ≡ Some posting
  pub fit : Fit posting.calls outcomes
  pub untold : list_any (λ t. nat_eq place t.place) d.sent.told ≡ false

-- It halted exactly where it had halted before or what it writes failed.
pub record Halts (before now : Sent) : Type 0 where
  pub cause : now.halted ≡ true → (before.halted ≡ true) ⊎ Rose before.faults now.faults
  pub unfailed : now.halted ≡ false → (before.halted ≡ false) × (now.faults ≡ before.faults)
  pub faults : before.faults ≤ now.faults

-- It is told what the posting of a place came to, and nothing else passes.
pub record Tells (place : ℕ) (outcomes : List Outcome) (before now : Exchange) : Type 0 where
  pub told : now.sent.told ≡ before.sent.told ++ record { place = place; outcomes = outcomes } ∷ []
  pub noted : now.sent.noted ≡ before.sent.noted
  pub notes_failed : now.sent.notes_failed ≡ before.sent.notes_failed
  pub halts : Halts before.sent now.sent
  pub received : now.received ≡ before.received

-- A text is noted to it, and nothing else passes.
pub record Notes (text : List ℕ) (before now : Exchange) : Type 0 where
  pub told : now.sent.told ≡ before.sent.told
  pub noted : now.sent.noted ≡ before.sent.noted ++ text
  pub notes_failed : now.sent.notes_failed ≡ now.sent.halted
  pub halts : Halts before.sent now.sent
  pub received : now.received ≡ before.received
