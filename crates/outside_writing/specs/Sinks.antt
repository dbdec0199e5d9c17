-- What a sink takes of a text.
use Rattle.std.specs.Prelude.{◌≡◌, ℕ, ◌<◌, ◌≤◌, List, length, take}
use Rattle.std.specs.Io.KnownBytes.{Appends}
use Rattle.outside_traits.specs.Causes.{Rose}
use Rattle.outside_traits.specs.Told.{SinkTold}

-- A sink took so many bytes of a text: fewer than all only where it failed.
pub record Takes (text : List ℕ) (count : ℕ) (before now : SinkTold) : Type 0 where
  pub within : count ≤ length text
  pub taken : Appends before.written now.written (take count text)
  pub unfailed : count ≡ length text → now.faults ≡ before.faults
  pub cause : count < length text → Rose before.faults now.faults
  pub later : before.faults ≤ now.faults
