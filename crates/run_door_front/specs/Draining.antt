-- How what is due is written before the connections come back.
use Rattle.std.specs.Prelude.{◌≡◌, ◌≢◌, ◌⊎◌, ℕ, ◌-◌, ◌^◌, ◌≤◌, ◌<◌, Bool, true, false, List, [], ◌∷◌, length}
use Rattle.std.specs.List.{list_any}
use Rattle.outside_doors.specs.Counts.{added}
use Rattle.conn_future.specs.declared.stage.Stage.{Stage}
use Rattle.conn_future.specs.declared.stage.Stage.TheVariants as Stages
use Rattle.run_theorem.specs.Lines.{most_waits}
use Rattle.run_door_front.specs.Keeping.{ListenerTold, ClientTold, stage_at, rests_at}
use Rattle.run_door_front.specs.NextSteps.{HasNotFallen, ClientGoesOn, ClientsGoOn}
use Rattle.run_door_front.specs.Moving.{has_moved}

-- a text goes out at this stage
abbrev pub writes_at : Stage → Bool
writes_at Stages.Writes = true
writes_at stage = false

-- a text goes out on a connection
abbrev pub is_writing : ClientTold → Bool
is_writing link = writes_at (stage_at link)

-- a text goes out on one of them
abbrev pub any_writing : List ClientTold → Bool
any_writing links = list_any is_writing links

-- A connection went on with the text that goes out, if one does, else it stays as it was; where one still does, its wire
-- could move nothing yet once more, and where no bytes moved, once more in a row.
pub record WritesOn (before now : ClientTold) : Type 0 where
  pub goes : ClientGoesOn before now
  pub idle : is_writing before ≡ false → now ≡ before
  pub wrote : is_writing now ≡ true → is_writing before ≡ true
  pub waits : is_writing now ≡ true → added before.waits 1 ≤ now.waits
  pub row : is_writing now ≡ true → has_moved before now ≡ false → added before.in_a_row 1 ≤ now.in_a_row

-- each of them did
abbrev pub AreWritten : List ClientTold → List ClientTold → Type 0
AreWritten [] [] = Unit {0}
AreWritten [] (m ∷ ms) = ⊥
AreWritten (l ∷ ls) [] = ⊥
AreWritten (l ∷ ls) (m ∷ ms) = WritesOn l m × AreWritten ls ms

-- No text goes out on a connection any more. Or its wire has answered since, as often as a run looks, that it can move
-- nothing yet, and this was the last that it answered, as often in a row.
abbrev pub HasDrained : ClientTold → ClientTold → Type 0
HasDrained before now =
    (stage_at now ≢ Stages.Writes) ⊎ ((added before.waits most_waits ≤ now.waits) × (most_waits ≤ now.in_a_row))

-- the same of each
abbrev pub HaveDrained : List ClientTold → List ClientTold → Type 0
HaveDrained [] [] = Unit {0}
HaveDrained [] (m ∷ ms) = ⊥
HaveDrained (l ∷ ls) [] = ⊥
HaveDrained (l ∷ ls) (m ∷ ms) = HasDrained l m × HaveDrained ls ms

-- each connection on which no text went out stays as it was
abbrev pub HaveStayed : List ClientTold → List ClientTold → Type 0
HaveStayed [] [] = Unit {0}
HaveStayed [] (m ∷ ms) = ⊥
HaveStayed (l ∷ ls) [] = ⊥
HaveStayed (l ∷ ls) (m ∷ ms) = (is_writing l ≡ false → m ≡ l) × HaveStayed ls ms

-- doors were rested at, and nothing else was done at them
abbrev pub AreRested : List ListenerTold → List ListenerTold → Type 0
AreRested [] [] = Unit {0}
AreRested [] (q ∷ qs) = ⊥
AreRested (p ∷ ps) [] = ⊥
AreRested (p ∷ ps) (q ∷ qs) =
    (q ≡ record p { door = record p.door { rests = q.door.rests; rests_in_a_row = q.door.rests_in_a_row } })
    × HasNotFallen p.door.rests q.door.rests × HasNotFallen p.door.rests_in_a_row q.door.rests_in_a_row
    × AreRested ps qs

-- the most rests that are counted
abbrev pub most_rests : ℕ
most_rests = 2 ^ 64 - 1

-- Connections on which a text goes out went on until it was written, or until as often in a row as a run looks nothing
-- moved on any of them; or, if there is a door, until as many rests had been as are counted, over all of a run. The others
-- stay as they were. Where a text still goes out there was a rest as often as a run looks, if there is a door; and none
-- where no text went out at first. Where the front halted nothing was done.
pub record Drains (halted : Bool) (first later : List ListenerTold) (before now : List ClientTold) : Type 0 where
  pub doors : AreRested first later
  pub connections : ClientsGoOn before now
  pub stayed : HaveStayed before now
  pub drained : halted ≡ false → HaveDrained before now ⊎ (0 < length first → most_rests ≤ rests_at later)
  pub rests : halted ≡ false → any_writing now ≡ true → 0 < length first
      → added (rests_at first) most_waits ≤ rests_at later
  pub idle : halted ≡ false → any_writing before ≡ false → later ≡ first
  pub undone : halted ≡ true → (later ≡ first) × (now ≡ before)
