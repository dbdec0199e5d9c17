-- What the store of a session may hold, and what a change that passes a limit answers.
use Rattle.std.specs.Prelude.{ℕ, ◌-◌, ◌^◌, min, Bool, ◌&&◌, nat_le}
use Rattle.jolie_trees.specs.Data.{Tree}
use Rattle.jolie_trees.specs.Trees.{size, levels}

-- the most nodes of a store
abbrev pub most_nodes : ℕ
most_nodes = 65536

-- the most levels of a store
abbrev pub most_levels : ℕ
most_levels = 64

-- a tree within both limits
abbrev pub is_store : Tree → Bool
is_store t = nat_le (size t) most_nodes && nat_le (levels t) most_levels

-- a number as far as 64 bits hold it
abbrev pub in_u64 : ℕ → ℕ
in_u64 n = min n (2 ^ 64 - 1)

-- a number as far as 32 bits hold it
abbrev pub in_u32 : ℕ → ℕ
in_u32 n = min n (2 ^ 32 - 1)
