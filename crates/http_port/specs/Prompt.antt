-- When serving does what the bytes call for: before it reads on. When it stops: behind a call that moves nothing.
use Rattle.std.specs.Prelude.{◌≡◌, ◌<◌, ℕ, ◌+◌, List, [], ◌∷◌, ◌++◌, take}
use Rattle.outside_traits.specs.declared.calls.WireCall.{WireCall}
use Rattle.outside_traits.specs.declared.calls.WireCall.TheVariants.{Read, Wrote}
use Rattle.http_port.specs.Feeding.{Place}
use Rattle.http_port.specs.Serving.{Service, Serves}
use Rattle.http_port.specs.declared.serving.WireEnd.TheVariants as Ends

-- how many bytes these calls of a wire read
abbrev pub read_in : List WireCall → ℕ
read_in [] = 0
read_in (Read count ∷ more) = count + read_in more
read_in (Wrote count ∷ more) = read_in more

-- how many they wrote
abbrev pub written_in : List WireCall → ℕ
written_in [] = 0
written_in (Read count ∷ more) = written_in more
written_in (Wrote count ∷ more) = count + written_in more

-- what was done of it with these first calls of the wire, where so many bodies were handed on by then
abbrev pub done_by : Service → List WireCall → ℕ → Service
done_by did calls handed = record {
  came = take (read_in calls) did.came;
  bodies = take handed did.bodies;
  said = take handed did.said;
  went = take (written_in calls) did.went;
}

-- Nothing that is due waits for more bytes: before each read of the wire all is done that the bytes so far call for, as
-- if they were the last.
abbrev pub IsPrompt : Place → Service → List WireCall → Type 0
IsPrompt was did calls = (before after : List WireCall) (count : ℕ) → calls ≡ before ++ Read count ∷ after
    → (handed : ℕ) × Serves was (done_by did before handed) Ends.Ended

-- how many bytes a call of a wire moved: none where it failed, or where it found no more to read
abbrev pub bytes_of : WireCall → ℕ
bytes_of (Read count) = count
bytes_of (Wrote count) = count

-- Each of these calls of a wire but the last moved something: behind one that failed, or found no more, there is none.
abbrev pub StopsAtNothing : List WireCall → Type 0
StopsAtNothing [] = Unit {0}
StopsAtNothing (last ∷ []) = Unit {0}
StopsAtNothing (call ∷ next ∷ more) = (0 < bytes_of call) × StopsAtNothing (next ∷ more)
