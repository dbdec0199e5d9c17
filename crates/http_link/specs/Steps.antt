-- These definitions serve the proofs alone: no promise of a public call speaks of them.
-- What is known while a response is read.
use Rattle.std.specs.Prelude.{◌≡◌, ◌<◌, ◌≤◌, ℕ, ◌⊎◌, Bool, true, false, ◌||◌, List, ◌∷◌, [], ◌++◌, length, take, Option}
use Rattle.std.specs.Prelude.{None, Some}
use Rattle.std.specs.Io.KnownBytes.{Appends}
use Rattle.httparse.specs.Grammar.{ResponseHead, print_response}
use Rattle.httparse.specs.Spans.{IsWithin, span_bytes}
use Rattle.httparse.specs.declared.spans.Span.{Span}
use Rattle.outside_traits.specs.Told.{Lists}
use Rattle.outside_traits.specs.declared.calls.WireCall.{WireCall}
use Rattle.outside_traits.specs.declared.calls.WireCall.TheVariants.{Read}
use Rattle.outside_dials.specs.Dials.{WireTraffic}
use Rattle.http_port.specs.HeadPart.{head_part, longest_head}
use Rattle.http_link.specs.Responses.{BeginsWith, extent_of, IsResponse, IsNoResponse, IsUnfinished}
use Rattle.http_port.specs.Writing.{IsWritten}
use Rattle.http_link.specs.Trips.{Reads, most_read}
use Rattle.http_link.specs.declared.announced.Announced.{Announced}
use Rattle.http_link.specs.declared.announced.Extent.TheVariants.{Sized, ToEnd, Refused}
use Rattle.http_link.specs.declared.announced.Extent.{Extent}

-- a whole head part begins with a head, of this length and this extent of its body, or with none
abbrev pub Announces : List ℕ → Announced → Type 0
Announces part a =
    ((h : ResponseHead) × BeginsWith part h × (a.head ≡ length (print_response h)) × (a.extent ≡ extent_of h))
    ⊎ (((h : ResponseHead) → ¬ (BeginsWith part h)) × (a.extent ≡ Refused))

-- the head part of these bytes is whole, and begins so
pub record HasHead (bytes : List ℕ) (a : Announced) : Type 0 where
  pub length_of_part : ℕ
  pub part : head_part bytes ≡ Some length_of_part
  pub announces : Announces (take length_of_part bytes) a

-- what is announced is within the limits
abbrev pub FitsExtent : Extent → Type 0
FitsExtent (Sized n) = n ≤ 65536
FitsExtent ToEnd = Unit {0}
FitsExtent Refused = Unit {0}

-- a head is no longer than the longest one, and what follows it is within the limits
abbrev pub Fits : Announced → Type 0
Fits a = (a.head ≤ longest_head) × FitsExtent a.extent

-- what is known of the bytes once their head was read
abbrev pub Knows : List ℕ → Bool → Announced → Type 0
Knows bytes ended a =
    ((ended ≡ false) × HasHead bytes a) ⊎ ((a.extent ≡ Refused) × IsNoResponse bytes ended)

-- what was found of a response: where its body is, or that there is none
abbrev pub Finds : List ℕ → Bool → Option Span → Type 0
Finds bytes ended None = IsNoResponse bytes ended
Finds bytes ended (Some span) = IsWithin (length bytes) span × IsResponse bytes ended (span_bytes bytes span)

-- no call of a wire failed meanwhile; ended says whether a read told the end
pub record IsUnfailed (before now : WireTraffic) (ended : Bool) : Type 0 where
  pub lost : now.read_failed ≡ before.read_failed
  pub cut : now.write_failed ≡ before.write_failed
  pub end : now.ended ≡ (before.ended || ended)

-- a read of a wire failed meanwhile; no write did, and no read told the end
pub record IsLost (before now : WireTraffic) : Type 0 where
  pub lost : now.read_failed ≡ true
  pub cut : now.write_failed ≡ before.write_failed
  pub end : now.ended ≡ before.ended

-- a write of a wire failed meanwhile; no read did, and none told the end
pub record IsCut (before now : WireTraffic) : Type 0 where
  pub lost : now.read_failed ≡ before.read_failed
  pub cut : now.write_failed ≡ true
  pub end : now.ended ≡ before.ended

-- reads of a wire took what was read from these bytes to those, and nothing else was done with it
pub record Heard (before now : WireTraffic) (was came : List ℕ) (ended : Bool) : Type 0 where
  pub piece : List ℕ
  pub grown : came ≡ was ++ piece
  pub given : Appends before.read now.read piece
  pub taken : now.written ≡ before.written
  pub calls : List WireCall
  pub noted : Lists before.calls now.calls calls
  pub reads : Reads was calls came ended
  pub bounded : length came ≤ most_read
  pub unfailed : IsUnfailed before now ended

-- the same, and then a read failed
pub record HeardInPart (before now : WireTraffic) (was came : List ℕ) : Type 0 where
  pub piece : List ℕ
  pub grown : came ≡ was ++ piece
  pub given : Appends before.read now.read piece
  pub taken : now.written ≡ before.written
  pub calls : List WireCall
  pub noted : Lists before.calls now.calls (calls ++ Read 0 ∷ [])
  pub reads : Reads was calls came false
  pub unfinished : IsUnfinished came
  pub bounded : length came ≤ most_read
  pub failed : IsLost before now

-- ---- on one wire

-- a request was written on a wire, and then this was read
pub record Exchanged (before now : WireTraffic) (sent came : List ℕ) (ended : Bool) : Type 0 where
  pub taken : Appends before.written now.written sent
  pub given : Appends before.read now.read came
  pub writes : List WireCall
  pub reads : List WireCall
  pub noted : Lists before.calls now.calls (writes ++ reads)
  pub written : IsWritten (Some []) (Some writes) sent true
  pub read : Reads [] reads came ended
  pub bounded : length came ≤ most_read
  pub unfailed : IsUnfailed before now ended

-- the wire failed, after a front of the request that is not all of it, or in a read after all of it
pub data CutOff (before now : WireTraffic) (sent : List ℕ) : Type 0 where
  in_writing : (count : ℕ) (writes : List WireCall) → count < length sent
      → Appends before.written now.written (take count sent) → Appends before.read now.read []
      → Lists before.calls now.calls writes → IsWritten (Some []) (Some writes) (take count sent) false
      → IsCut before now → CutOff before now sent
  in_reading : (came : List ℕ) (writes reads : List WireCall) → Appends before.written now.written sent
      → Appends before.read now.read came → Lists before.calls now.calls (writes ++ (reads ++ Read 0 ∷ []))
      → IsWritten (Some []) (Some writes) sent true → Reads [] reads came false → IsUnfinished came
      → length came ≤ most_read → IsLost before now → CutOff before now sent
