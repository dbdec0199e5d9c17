-- How the connection of a place is told a text, and what want of memory leaves.
use Rattle.std.proofs.Common.{◌≡◌, ℕ, Bool, true, false, Some, Result, Ok, Err, MatchResult}
use Rattle.std.specs.Prelude.{slice_get, slice_set}
use Rattle.behaviour_tree.specs.Data.{ProgramParts}
use Rattle.run_theorem.specs.Exchange.{Told}
use Rattle.run_door_front.specs.Keeping.{ClientTold, Keeping}
use Rattle.run_door_front.specs.AnswerSteps.{HasTold, HasAnswered}

-- the connection of a place was told, by what stands there before and after
pub answered_so : (parts : ProgramParts) (t : Told) (before now : Keeping) (number : ℕ) (link after : ClientTold)
    → slice_get before.traffics t.place ≡ Some number → slice_get before.connections number ≡ Some link → now.connections ≡ slice_set before.connections number after
    → HasTold parts t link after → now.doors ≡ before.doors → now.opened ≡ before.opened → now.queue ≡ before.queue → now.traffics ≡ before.traffics
    → now.most ≡ before.most → now.halted ≡ before.halted → now.spent ≡ before.spent → HasAnswered parts t before now
answered_so parts t before now number link after place there links tells ports opened queue traffics most halted spent = record {
  number = number;
  place = place;
  link = link;
  after = after;
  there = there;
  connections = links;
  tells = tells;
  doors = ports;
  opened = opened;
  queue = queue;
  traffics = traffics;
  most = most;
  halted = halted;
  spent = spent;
}

-- ---- want of memory

-- where a call that goes well says more than that memory did not run out
pub memory-asked : {T E : Type 0} (r : Result T E) (before now : Bool) (P : T → Type 0)
    → MatchResult r (λ v. (before ≡ false) × (now ≡ false) × P v) (λ _. now ≡ true)
    → MatchResult r (λ _. (before ≡ false) × (now ≡ false)) (λ _. now ≡ true)
memory-asked (Ok v) before now P h = (h.0, h.1)
memory-asked (Err e) before now P h = h

-- where a connection was told, or memory ran out
pub memory-told : {T E : Type 0} (r : Result T E) (before now : Bool) → before ≡ false → MatchResult r (λ _. before ≡ false → now ≡ false) (λ _. now ≡ true)
    → MatchResult r (λ _. (before ≡ false) × (now ≡ false)) (λ _. now ≡ true)
memory-told (Ok v) before now ready lasts = (ready, lasts ready)
memory-told (Err e) before now ready wanting = wanting
