-- What contracts see of a connection.
use Rattle.std.specs.Prelude.{Bool}
use Rattle.outside_traits.specs.Told.{WireTold}
use Rattle.http_connection.specs.declared.kept.Kept.{Kept}

-- whether a read of a wire has failed, and whether a write has before it was closed
pub record Failures : Type 0 where
  pub read_failed : Bool
  pub write_failed : Bool

-- those of a wire that tells this
abbrev pub failures_of : WireTold → Failures
failures_of wire = record { read_failed = wire.read_failed; write_failed = wire.write_failed }

-- a connection: what it keeps, and what its wire tells
pub record Seen : Type 0 where
  pub kept : Kept
  pub line : WireTold

-- the same by its parts
abbrev pub seen : Kept → WireTold → Seen
seen kept line = record { kept = kept; line = line }
