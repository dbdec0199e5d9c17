-- How a front over doors goes by whole rounds until its next posting.
use Rattle.std.specs.Prelude.{◌≡◌, ◌⊎◌, ℕ, suc, ◌<◌, ◌≤◌, Bool, true, false, ◌&&◌, ◌||◌}
use Rattle.std.specs.Prelude.{[], ◌∷◌, length, map, nat_lt}
use Rattle.office_core.specs.declared.front.Posting.{Posting}
use Rattle.run_theorem.specs.declared.front.Next.{Next}
use Rattle.run_theorem.specs.declared.front.Next.TheVariants as next
use Rattle.run_theorem.specs.Calls.{most_postings}
use Rattle.outside_traits.specs.Told.{WireTold}
use Rattle.run_door_front.specs.Keeping.{ListenerTold, closed_off}
use Rattle.run_door_front.specs.Moving.{any_moved, HaveWaited}
use Rattle.run_door_front.specs.NextSteps.{after_rest, all_owing, Doorway, doorway, Accepts, queued, PollsAll}
use Rattle.run_door_front.specs.NextSteps.{listing, Hands, Going}

-- ---- rounds

-- somebody came, or fewer connections are open than before
abbrev pub has_changed : Going → Going → Bool
has_changed before now =
    nat_lt (length before.connections) (length now.connections) || nat_lt (length now.opened) (length before.opened)

-- how often was rested at a door
abbrev pub rests_of : ListenerTold → ℕ
rests_of port = port.door.rests

-- A round: whoever comes at a door is let in, and after that all open connections are polled. There is no rest in it.
pub record Round (IsMade : WireTold → Type 0) (most : ℕ) (before now : Going) : Type 0 where
  pub way : Doorway
  pub accepts : Accepts IsMade most (doorway before.doors before.connections before.opened) way
  pub polls : PollsAll (queued way.connections way.opened before.queue) (queued now.connections now.opened now.queue)
  pub doors : now.doors ≡ way.doors
  pub waited : HaveWaited way.connections now.connections
  pub rests : map rests_of now.doors ≡ map rests_of before.doors
  pub traffics : now.traffics ≡ before.traffics

-- No request is whole, and one may still come.
pub record IsUndone (most : ℕ) (now : Going) : Type 0 where
  pub none : now.queue ≡ []
  pub some : (closed_off most now.doors now.connections && all_owing now.connections) ≡ false

-- after a rest: at the first door that has not ended, or, where all have, at the first of all
abbrev pub rested_going : Going → Going
rested_going x = record x { doors = after_rest x.doors }

-- Rounds one after the other, so many, each until no request is whole and one may still come. In each somebody came or
-- went, and the next follows at once.
pub data Rounds (IsMade : WireTold → Type 0) (most : ℕ) (before : Going) : ℕ → Going → Type 0 where
  -- no round
  no_round : Rounds IsMade most before 0 before
  -- one more
  one_changed : (turns : ℕ) (mid now : Going) → Rounds IsMade most before turns mid → Round IsMade most mid now
      → IsUndone most now → has_changed mid now ≡ true → Rounds IsMade most before (suc turns) now

-- There were fewer postings than may be. Rounds were made, so many, and one more, after which there is no rest.
pub record RoundsAndOne (IsMade : WireTold → Type 0) (most : ℕ) (before now : Going) : Type 0 where
  pub fewer : length before.traffics < most_postings
  pub turns : ℕ
  pub start : Going
  pub rounds : Rounds IsMade most before turns start
  pub last : Round IsMade most start now

-- ---- what they come to

-- The request that stands first in the queue is posted, and nothing else is done.
pub record HandsFirst (p : Posting) (before now : Going) : Type 0 where
  pub number : ℕ
  pub first : before.queue ≡ number ∷ now.queue
  pub hands : Hands number p
      (listing before.connections before.traffics) (listing now.connections now.traffics)
  pub doors : now.doors ≡ before.doors
  pub opened : now.opened ≡ before.opened

-- Rounds were made until one in which nobody came or went; no request is whole then, one may still come, and there is
-- a rest.
pub record RoundsToRest (IsMade : WireTold → Type 0) (most : ℕ) (before now : Going) : Type 0 where
  pub mid : Going
  pub rounds : RoundsAndOne IsMade most before mid
  pub undone : IsUndone most mid
  pub unchanged : has_changed rounds.start mid ≡ false
  pub rested : now ≡ rested_going mid

-- Rounds were made until one after which no request is whole and none can come any more.
pub record RoundsToEnd (IsMade : WireTold → Type 0) (most : ℕ) (before now : Going) : Type 0 where
  pub rounds : RoundsAndOne IsMade most before now
  pub none : now.queue ≡ []
  pub over : closed_off most now.doors now.connections ≡ true
  pub owing : all_owing now.connections ≡ true

-- What the call came to, by rounds: a posting after the first round after which a request is whole; no posting yet after
-- a rest, where somebody came or went before the last round or bytes moved in it, or where there was one round alone and
-- no bytes moved in it; or nothing any more.
abbrev pub ByRounds : (WireTold → Type 0) → ℕ → Next → Going → Going → Type 0
ByRounds IsMade most (next.Posting p) before now =
    (mid : Going) × RoundsAndOne IsMade most before mid × HandsFirst p mid now
ByRounds IsMade most next.Moved before now = (r : RoundsToRest IsMade most before now)
    × ((0 < r.rounds.turns) ⊎ (any_moved r.rounds.start.connections r.mid.connections ≡ true))
ByRounds IsMade most next.NotYet before now = (r : RoundsToRest IsMade most before now)
    × (r.rounds.turns ≡ 0) × (any_moved r.rounds.start.connections r.mid.connections ≡ false)
ByRounds IsMade most next.End before now =
    ((most_postings ≤ length before.traffics) × (now ≡ before)) ⊎ RoundsToEnd IsMade most before now
