-- How many messages wait for a session at most.
use Rattle.std.specs.Prelude.{ℕ}

-- the messages that a box holds at most
abbrev pub box_limit : ℕ
box_limit = 256
