-- When a connection does what its bytes call for: before it reads on.
use Rattle.std.specs.Prelude.{◌≡◌, ◌+◌, ℕ, Option, List, ◌∷◌, ◌++◌, length, take}
use Rattle.outside_traits.specs.Told.{Lists}
use Rattle.outside_traits.specs.declared.calls.WireCall.{WireCall}
use Rattle.outside_traits.specs.declared.calls.WireCall.TheVariants.{Read}
use Rattle.http_port.specs.Connections.{Reading}
use Rattle.http_port.specs.Prompt.{read_in, written_in}
use Rattle.http_port.specs.Writing.{AreWrites}
use Rattle.http_connection.specs.Talking.{Log, log}
use Rattle.http_connection.specs.Law.{holding, IsComplete, IsAllWritten}

-- All is done that is due for what was read: its requests were handed out, a text was told to each, and what was
-- written is all that is to be written.
abbrev pub IsDone : Log → Type 0
IsDone l =
    (reading : Reading l.read) → ∥ IsComplete (holding l.read reading) l × IsAllWritten (holding l.read reading) l ∥₁

-- what had passed with these first calls of the wire, where no body was handed out and no text told in them
abbrev pub log_by : Log → Log → List WireCall → Log
log_by was now early =
    log (take (length was.read + read_in early) now.read) (take (length was.written + written_in early) now.written)
    was.bodies was.texts

-- Nothing that is due waits for more bytes: a wire that tells its calls was called so, and before each read all was
-- done that is due for the bytes so far.
pub record IsPrompt (before now : Option (List WireCall)) (was is : Log) : Type 0 where
  pub calls : List WireCall
  pub noted : Lists before now calls
  pub prompt : (early late : List WireCall) (count : ℕ) → calls ≡ early ++ Read count ∷ late
      → IsDone (log_by was is early)

-- A wire that tells its calls was called to write the bytes by which this grew, and for nothing else.
pub record OnlyWrites (before now : Option (List WireCall)) (was is : List ℕ) : Type 0 where
  pub went : List ℕ
  pub grows : is ≡ was ++ went
  pub calls : List WireCall
  pub noted : Lists before now calls
  pub writes : AreWrites calls
  pub count : written_in calls ≡ length went
