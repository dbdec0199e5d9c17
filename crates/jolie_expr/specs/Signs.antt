-- These definitions serve the proofs alone: no promise speaks of them.
-- The sign that no number has.
use Rattle.std.specs.Prelude.{ℕ, Bool, false, ◌==◌, List, [], ◌∷◌}

-- a plus in front
abbrev pub begins_with_plus : List ℕ → Bool
begins_with_plus [] = false
begins_with_plus (b ∷ bs) = b == 43
