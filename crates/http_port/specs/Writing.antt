-- What is told of the bytes that are written on a wire.
use Rattle.std.specs.Prelude.{◌≡◌, ◌<◌, ℕ, Bool, true, false, Option, List, [], ◌∷◌, length}
use Rattle.outside_traits.specs.Told.{Lists}
use Rattle.outside_traits.specs.declared.calls.WireCall.{WireCall}
use Rattle.outside_traits.specs.declared.calls.WireCall.TheVariants.{Read, Wrote}
use Rattle.http_port.specs.Prompt.{bytes_of, written_in, StopsAtNothing}

-- none of these calls is a read
abbrev pub AreWrites : List WireCall → Type 0
AreWrites [] = Unit {0}
AreWrites (Read count ∷ more) = ⊥
AreWrites (Wrote count ∷ more) = AreWrites more

-- each of these calls moved something
abbrev pub AllMove : List WireCall → Type 0
AllMove [] = Unit {0}
AllMove (call ∷ more) = (0 < bytes_of call) × AllMove more

-- the same, or where the wire may have failed, of all but the last
abbrev pub Moves : Bool → List WireCall → Type 0
Moves true calls = AllMove calls
Moves false calls = StopsAtNothing calls

-- a wire that tells its calls so was called to write these bytes, and for nothing else; where whole, it did not fail
pub record IsWritten (before now : Option (List WireCall)) (went : List ℕ) (whole : Bool) : Type 0 where
  pub calls : List WireCall
  pub noted : Lists before now calls
  pub writes : AreWrites calls
  pub count : written_in calls ≡ length went
  pub moves : Moves whole calls
