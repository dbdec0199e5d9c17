-- What a trip over HTTP does, and how it may end.
use Rattle.std.specs.Prelude.{◌≡◌, ◌<◌, ◌≤◌, ℕ, Bool, true, false, List, [], ◌∷◌, ◌++◌, length, Option, Some, IfSome}
use Rattle.std.specs.Io.{StartsWith}
use Rattle.std.specs.Io.KnownBytes.{Appends}
use Rattle.outside_traits.specs.Told.{Lists}
use Rattle.outside_traits.specs.Causes.{Rose}
use Rattle.outside_traits.specs.declared.calls.WireCall.{WireCall}
use Rattle.outside_traits.specs.declared.calls.WireCall.TheVariants.{Read}
use Rattle.outside_traits.specs.declared.errors.CallError.{CallError}
use Rattle.outside_traits.specs.declared.errors.CallError.TheVariants.{Failed, Memory}
use Rattle.outside_dials.specs.Dials.{DialTold, Dials, WireTraffic}
use Rattle.http_port.specs.Writing.{IsWritten}
use Rattle.http_link.specs.Requests.{request}
use Rattle.http_link.specs.Responses.{IsResponse, IsNoResponse, IsUnfinished}

-- ---- on the wire

-- Reads in order, from where these bytes were read to where those were: each while what had come was no whole response
-- yet. Each gave some bytes, but for a last one that found that no more come; ended says that there is one.
pub data Reads : List ℕ → List WireCall → List ℕ → Bool → Type 0 where
  -- no read
  no_more : (was : List ℕ) → Reads was [] was false
  -- one more, which gave these bytes
  gives : (was came piece : List ℕ) (calls : List WireCall) → Reads was calls came false → IsUnfinished came
      → 0 < length piece → Reads was (calls ++ Read (length piece) ∷ []) (came ++ piece) false
  -- one more, which found that no more come
  ends : (was came : List ℕ) (calls : List WireCall) → Reads was calls came false → IsUnfinished came
      → Reads was (calls ++ Read 0 ∷ []) came true

-- What is told of a wire is that it was a new one, that so much was written and so much was read, in these calls. Where
-- nothing of it is told, this says nothing.
abbrev pub Shows : WireTraffic → Option WireTraffic → List ℕ → List ℕ → List WireCall → Type 0
Shows blank told went came calls = IfSome told (λ t.
    Appends blank.written t.written went × Appends blank.read t.read came × Lists blank.calls t.calls calls)

-- the most bytes that a trip reads: those of the longest head part and the longest body, and one more
abbrev pub most_read : ℕ
most_read = 73729

-- ---- by the dialler

-- What is told of a dialler: what a new wire of it tells, the locations that it dialled, the last wire that came back,
-- and its count of faults.
pub record Telling : Type 0 where
  pub blank : WireTraffic
  pub dialled : Option (List (List ℕ))
  pub last : Option WireTraffic
  pub faults : ℕ

-- the same by what a new wire of the dialler tells, and by what the dialler does
abbrev pub telling : WireTraffic → DialTold → Telling
telling blank told = record { blank = blank; dialled = told.dialled; last = told.last; faults = told.faults }

-- a wire tells so whether a read of it failed, whether a write did, and whether a read told that no more comes
pub record TellsEnd (by_read by_write ended : Bool) (t : WireTraffic) : Type 0 where
  pub lost : t.read_failed ≡ by_read
  pub cut : t.write_failed ≡ by_write
  pub end : t.ended ≡ ended

-- On the last wire that came back a request was written whole, and then this was read, and no call of it failed; ended
-- says whether a read of it told that no more comes.
pub record Exchange (now : Telling) (sent came : List ℕ) (ended : Bool) : Type 0 where
  pub writes : List WireCall
  pub reads : List WireCall
  pub shown : Shows now.blank now.last sent came (writes ++ reads)
  pub written : IsWritten (Some []) (Some writes) sent true
  pub read : Reads [] reads came ended
  pub bounded : length came ≤ most_read
  pub end : IfSome now.last (TellsEnd false false ended)

-- A trip that brings this back: the location was dialled, its request was written on the wire that came back, and what
-- was read there is a response of this body. The dialler's count of faults stands.
pub record Answered (location text : List ℕ) (before now : Telling) (body : List ℕ) : Type 0 where
  pub dialled : Dials before.dialled now.dialled location
  pub came : List ℕ
  pub ended : Bool
  pub exchange : Exchange now (request location text) came ended
  pub response : IsResponse came ended body
  pub faults : now.faults ≡ before.faults

-- why a trip with a request fails
pub data Failing (sent : List ℕ) (before now : Telling) : Type 0 where
  -- the dialler failed
  unreached : now.last ≡ before.last → Rose before.faults now.faults → Failing sent before now
  -- the open wire failed in a write, after a front of the request that is not all of it, and came back
  unsent : (went : List ℕ) (writes : List WireCall) → Shows now.blank now.last went [] writes → StartsWith sent went
      → length went < length sent → IsWritten (Some []) (Some writes) went false
      → IfSome now.last (TellsEnd false true false) → Rose before.faults now.faults → Failing sent before now
  -- the wire failed in a read, after the request, while what had come was no whole response yet, and came back
  unheard : (came : List ℕ) (writes reads : List WireCall)
      → Shows now.blank now.last sent came (writes ++ (reads ++ Read 0 ∷ []))
      → IsWritten (Some []) (Some writes) sent true → Reads [] reads came false → IsUnfinished came
      → length came ≤ most_read → IfSome now.last (TellsEnd true false false) → Rose before.faults now.faults
      → Failing sent before now
  -- what was read is no response, and the dialler's count stands
  unanswered : (came : List ℕ) (ended : Bool) → Exchange now sent came ended → IsNoResponse came ended
      → now.faults ≡ before.faults → Failing sent before now

-- A trip that brings nothing back: the location was dialled, and the trip failed for one of these reasons; or memory
-- was wanting before anything was done.
abbrev pub BringsNothing : List ℕ → List ℕ → Telling → Telling → CallError → Type 0
BringsNothing location text before now Failed =
    Dials before.dialled now.dialled location × Failing (request location text) before now
BringsNothing location text before now (Memory cause) = now ≡ before

-- ---- the link

-- what a contract sees of a link over HTTP: its dialler, and how often a trip failed
pub record Linked (D : Type 0) : Type 0 where
  pub dial : D
  pub faults : ℕ
