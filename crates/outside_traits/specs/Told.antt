-- What is told of objects of the outside, and how it grows.
use Rattle.std.specs.Prelude.{◌≡◌, ℕ, Bool, true, Option, None, Some, List, [], ◌++◌}
use Rattle.outside_traits.specs.declared.calls.WireCall.{WireCall}

-- What is told grows by these, in their order, as long as it is told. An object that tells it no more never begins
-- again.
abbrev pub Lists : {A : Type 0} → Option (List A) → Option (List A) → List A → Type 0
Lists None (Some now) more = ⊥
Lists (Some before) (Some now) more = now ≡ before ++ more
Lists before now more = Unit {0}

-- what is told of files: the names that were asked for in order, where they are told, and how often a read failed
pub record FilesTold : Type 0 where
  pub asked : Option (List (List ℕ))
  pub faults : ℕ

-- what is told of a source: the bytes that are left to read, where they are told, and how often a read failed
pub record SourceTold : Type 0 where
  pub unread : Option (List ℕ)
  pub faults : ℕ

-- what is told of a sink: the bytes that were written, where they are told, and how often a write failed
pub record SinkTold : Type 0 where
  pub written : Option (List ℕ)
  pub faults : ℕ

-- what is told of a wire
pub record WireTold : Type 0 where
  -- the bytes that were read, where they are told
  pub read : Option (List ℕ)
  -- the bytes that are left to read, where they are told: none of a closed wire
  pub unread : Option (List ℕ)
  -- the bytes that were written, where they are told
  pub written : Option (List ℕ)
  -- its reads and writes in order, where they are told
  pub calls : Option (List WireCall)
  -- whether a read has failed
  pub read_failed : Bool
  -- whether a write has failed before the wire was closed
  pub write_failed : Bool
  -- whether a read has told, before the wire was closed, that no more bytes come in
  pub ended : Bool
  -- whether the wire is closed
  pub closed : Bool
  -- at which door it came: how many doors had been opened before that; none of a wire that came at no door
  pub door : Option ℕ

-- no bytes, where some are told
abbrev pub emptied : Option (List ℕ) → Option (List ℕ)
emptied None = None
emptied (Some bytes) = Some []

-- a wire that was closed, which drops what is left to read
abbrev pub shut : WireTold → WireTold
shut wire = record wire { unread = emptied wire.unread; closed = true }
